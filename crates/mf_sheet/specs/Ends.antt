-- What a sheet leaves of the writer that its results are written to.
use Rattle.std.specs.Prelude.{◌≡◌, ◌≢◌, ◌⊎◌, ℕ, ◌<◌, List, [], ◌∷◌, ◌++◌, length, take, Result, Ok, Err}
use Rattle.std.specs.Io.KnownBytes.{Appends}
use Rattle.mf_base.specs.declared.fault.Cause.{Cause}
use Rattle.mf_base.specs.declared.fault.Cause.TheVariants.{Read, Write, Memory}
use Rattle.mf_base.specs.declared.fault.Fault.TheVariants.{F20}
use Rattle.mf_base.specs.declared.fault.StreamFault.{StreamFault}
use Rattle.mf_wire_lines.specs.Streams.{Stream}
use Rattle.mf_sheet_lines.specs.Results.{heading, record_text, records_text}
use Rattle.mf_sheet_lines.specs.declared.results.SheetResult.{SheetResult}
use Rattle.mf_sheet_lines.specs.declared.results.SheetResult.TheVariants.{Refused}
use Rattle.mf_sheet.specs.Runs.{NoResultIsF20}

-- the fields of a sheet's lines, and the sink that its results are written to
pub record SheetStreams : Type 0 where
  pub rows : List (List (List ℕ))
  pub sink : Stream

-- the last of the results is the first F20
abbrev pub EndInF20 : List SheetResult → Type 0
EndInF20 results = (front : List SheetResult) × (results ≡ front ++ Refused F20 ∷ []) × NoResultIsF20 front

-- the results of all lines, none of them F20, or those up to the first F20
abbrev pub AreAllResults : List (List (List ℕ)) → List SheetResult → Type 0
AreAllResults rest results = ((rest ≡ []) × NoResultIsF20 results) ⊎ EndInF20 results

-- the sheet of these results: the heading, and a record for each
abbrev pub sheet_text : List (List (List ℕ)) → List SheetResult → List ℕ
sheet_text rows results = heading ++ records_text rows results

module _ {S : Type 0} (runs : S → List (List (List ℕ)) → List SheetResult → S → Type 0) (old new : S)
    (streams : SheetStreams) where
  -- the lines were answered up to the end of the sheet or the first F20, and the result of each was written
  pub record EndsWhole : Type 0 where
    pub done : List (List (List ℕ))
    pub rest : List (List (List ℕ))
    pub among : streams.rows ≡ done ++ rest
    pub results : List SheetResult
    pub each : length results ≡ length done
    pub ran : runs old done results new
    pub all : AreAllResults rest results
    pub written : Appends streams.sink.before streams.sink.after (sheet_text streams.rows results)
    pub sink : streams.sink.faults_after ≡ streams.sink.faults_before

  -- there was no memory to read the sheet or to begin the records of its results: nothing was answered or written
  pub record NeverBegins (count : ℕ) : Type 0 where
    pub none : count ≡ 0
    pub same : new ≡ old
    pub unwritten : streams.sink.after ≡ streams.sink.before

  -- of the heading only a part was written: nothing was answered
  pub record CutsHeading (count : ℕ) : Type 0 where
    pub part : ℕ
    pub short : part < length heading
    pub written : Appends streams.sink.before streams.sink.after (take part heading)
    pub none : count ≡ 0
    pub same : new ≡ old

  -- Of the last line that was run only a part of its record was written. The result of each line before it was written.
  pub record CutsRecord (count : ℕ) : Type 0 where
    pub done : List (List (List ℕ))
    pub fields : List (List ℕ)
    pub rest : List (List (List ℕ))
    pub among : streams.rows ≡ done ++ fields ∷ rest
    pub results : List SheetResult
    pub result : SheetResult
    pub each : length results ≡ length done
    pub ran : runs old (done ++ fields ∷ []) (results ++ result ∷ []) new
    pub without_F20 : NoResultIsF20 results
    pub part : ℕ
    pub short : part < length (record_text fields result)
    pub written : Appends streams.sink.before streams.sink.after (sheet_text streams.rows results
        ++ take part (record_text fields result))
    pub counted : count ≡ length results

  -- by the cause of a fault, and how many results were written whole; nothing is read that could fail
  abbrev pub EndsBy : Cause → ℕ → Type 0
  EndsBy Read count = ⊥
  EndsBy Write count = (streams.sink.faults_after ≢ streams.sink.faults_before) × (CutsHeading count ⊎ CutsRecord count)
  EndsBy Memory count = (streams.sink.faults_after ≡ streams.sink.faults_before) × NeverBegins count

  -- what a sheet leaves, by what it answers
  abbrev pub Ends : Result (Unit {0}) StreamFault → Type 0
  Ends (Ok done) = EndsWhole
  Ends (Err fault) = EndsBy fault.cause fault.answered
