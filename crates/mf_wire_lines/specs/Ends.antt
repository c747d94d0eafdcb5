-- How a run over a stream of request lines ends.
use Rattle.std.specs.Prelude.{◌≡◌, ◌≢◌, ◌⊎◌, ◌≤◌, ◌^◌, ℕ, List, length, Result, Ok, Err}
use Rattle.std.specs.Io.KnownBytes.{Consumes, IsAtEnd}
use Rattle.mf_base.specs.declared.fault.Cause.{Cause}
use Rattle.mf_base.specs.declared.fault.Cause.TheVariants.{Read, Write, Memory}
use Rattle.mf_base.specs.declared.fault.StreamFault.{StreamFault}
use Rattle.mf_wire_lines.specs.Cut.{ended_lines, request_lines}
use Rattle.mf_wire_lines.specs.Run.{Answered, Broken}
use Rattle.mf_wire_lines.specs.Streams.{Streams}

module _ {S : Type 0} (runs : S → List (List ℕ) → List (List ℕ) → S → Type 0) (old new : S) (streams : Streams) where
  -- the source was read to its end, and each of its lines was answered; neither stream failed
  pub record EndsWhole (count : ℕ) : Type 0 where
    pub bytes : List ℕ
    pub consumed : Consumes streams.source.before streams.source.after bytes
    pub ended : IsAtEnd streams.source.after
    pub answered : Answered runs old new (request_lines bytes) streams.sink.before streams.sink.after count
    pub source : streams.source.faults_after ≡ streams.source.faults_before
    pub sink : streams.sink.faults_after ≡ streams.sink.faults_before

  -- The source failed in this run, or 2^60 bytes came without an end. The lines that had ended were answered, and the
  -- unfinished one was not run; the sink did not fail.
  pub record EndsReading (count : ℕ) : Type 0 where
    pub bytes : List ℕ
    pub consumed : Consumes streams.source.before streams.source.after bytes
    pub answered : Answered runs old new (ended_lines bytes) streams.sink.before streams.sink.after count
    pub failed : (streams.source.faults_after ≢ streams.source.faults_before) ⊎ (2 ^ 60 ≤ length bytes)
    pub sink : streams.sink.faults_after ≡ streams.sink.faults_before

  -- The sink failed in this run: a beginning of the lines was run, and of the last one's reply only a part was written.
  -- The line that the source's end would end is among them only at the end. The source did not fail.
  pub record EndsWriting (count : ℕ) : Type 0 where
    pub bytes : List ℕ
    pub consumed : Consumes streams.source.before streams.source.after bytes
    pub broken : Broken runs old new (ended_lines bytes) streams.sink.before streams.sink.after count
        ⊎ (IsAtEnd streams.source.after × Broken runs old new (request_lines bytes) streams.sink.before
        streams.sink.after count)
    pub source : streams.source.faults_after ≡ streams.source.faults_before
    pub sink : streams.sink.faults_after ≢ streams.sink.faults_before

  -- there was no memory to begin: nothing was answered
  pub record NeverBegins (count : ℕ) : Type 0 where
    pub none : count ≡ 0
    pub same : new ≡ old

  -- by the cause of a fault, and how many replies were written whole
  abbrev pub EndsBy : Cause → ℕ → Type 0
  EndsBy Read count = EndsReading count
  EndsBy Write count = EndsWriting count
  EndsBy Memory count = NeverBegins count

  -- what a run leaves, by what it answers
  abbrev pub Ends : Result ℕ StreamFault → Type 0
  Ends (Ok count) = EndsWhole count
  Ends (Err fault) = EndsBy fault.cause fault.answered
