-- A collection sheet that is read from a source to its end, and what collecting it leaves.
use Rattle.std.specs.Prelude.{◌≡◌, ◌≢◌, ◌⊎◌, ℕ, ◌<◌, ◌≤◌, List, length, Option, Result, Ok, Err}
use Rattle.std.specs.Io.KnownBytes.{Consumes, IsAtEnd}
use Rattle.mf_base.specs.declared.fault.Cause.{Cause}
use Rattle.mf_base.specs.declared.fault.Cause.TheVariants.{Read, Write, Memory}
use Rattle.mf_base.specs.declared.fault.StreamFault.{StreamFault}
use Rattle.mf_sheet_lines.specs.Sheets.{longest, sheet_rows_of}
use Rattle.mf_sheet_lines.specs.declared.results.SheetResult.{SheetResult}
use Rattle.mf_sheet.specs.Ends as sheet
use Rattle.mf_wire_lines.specs.Streams.{Streams}
use Rattle.microloan_commands.specs.declared.sheets.SheetFault.{SheetFault}
use Rattle.microloan_commands.specs.declared.sheets.SheetFault.TheVariants.{TooLong, Stream}

-- what a source had to give was read to its end, and is no longer than a sheet may be
pub record IsWholeSheet (unread left : Option (List ℕ)) (bytes : List ℕ) : Type 0 where
  pub consumed : Consumes unread left bytes
  pub ended : IsAtEnd left
  pub short : length bytes ≤ longest

-- more bytes came from a source than a sheet may have
pub record IsTooLong (unread left : Option (List ℕ)) : Type 0 where
  pub bytes : List ℕ
  pub consumed : Consumes unread left bytes
  pub long : longest < length bytes

-- a source fails by its own fault, and without memory nothing is read
abbrev pub IsCauseOf : {R : Type 0} → (R → ℕ) → R → R → Cause → Type 0
IsCauseOf faults old new Read = faults new ≢ faults old
IsCauseOf faults old new Memory = new ≡ old
IsCauseOf faults old new Write = ⊥

-- why a source was not read whole: too many bytes came, it failed, or there was no memory to read it
abbrev pub IsReadFault : {R : Type 0} → (R → Option (List ℕ)) → (R → ℕ) → R → R → SheetFault → Type 0
IsReadFault unread faults old new TooLong = IsTooLong (unread old) (unread new) × (faults new ≡ faults old)
IsReadFault unread faults old new (Stream fault) = (fault.answered ≡ 0) × IsCauseOf faults old new fault.cause

module _ {S : Type 0} (runs : S → List (List (List ℕ)) → List SheetResult → S → Type 0) (old new : S)
    (streams : Streams) where
  -- nothing was answered or written, and the sink did not fail
  pub record Untouched : Type 0 where
    pub same : new ≡ old
    pub unwritten : streams.sink.after ≡ streams.sink.before
    pub sink : streams.sink.faults_after ≡ streams.sink.faults_before

  -- the sheet was read whole, and what collecting it left is as this result says; the source did not fail
  pub record Collected (result : Result (Unit {0}) StreamFault) : Type 0 where
    pub bytes : List ℕ
    pub read : IsWholeSheet streams.source.before streams.source.after bytes
    pub source : streams.source.faults_after ≡ streams.source.faults_before
    pub ended : sheet.Ends runs old new (record { rows = sheet_rows_of bytes; sink = streams.sink }) result

  -- the sheet is too long; the source did not fail
  pub record Refused : Type 0 where
    pub long : IsTooLong streams.source.before streams.source.after
    pub source : streams.source.faults_after ≡ streams.source.faults_before
    pub untouched : Untouched

  -- the source failed in this call
  pub record FailedReading (count : ℕ) : Type 0 where
    pub none : count ≡ 0
    pub source : streams.source.faults_after ≢ streams.source.faults_before
    pub untouched : Untouched

  -- there was no memory to read the sheet, of which nothing was read
  pub record NeverRead (count : ℕ) : Type 0 where
    pub none : count ≡ 0
    pub unread : streams.source.after ≡ streams.source.before
    pub source : streams.source.faults_after ≡ streams.source.faults_before
    pub untouched : Untouched

  -- by the cause of a fault, and how many results were written whole
  abbrev pub EndsBy : Cause → ℕ → Type 0
  EndsBy Read count = FailedReading count
  EndsBy Write count = Collected (Err (record { answered = count; cause = Write }))
  EndsBy Memory count = NeverRead count ⊎ Collected (Err (record { answered = count; cause = Memory }))

  -- what collecting a source leaves, by what it answers
  abbrev pub Ends : Result (Unit {0}) SheetFault → Type 0
  Ends (Ok done) = Collected (Ok done)
  Ends (Err TooLong) = Refused
  Ends (Err (Stream fault)) = EndsBy fault.cause fault.answered
