-- The streams of a call, before it and after it.
use Rattle.std.specs.Prelude.{ℕ, List, Option}

-- the bytes that a source has still to give, or that a sink holds, where they are known, and the faults that it has
-- counted
pub record Stream : Type 0 where
  pub before : Option (List ℕ)
  pub after : Option (List ℕ)
  pub faults_before : ℕ
  pub faults_after : ℕ

-- the source that a call reads, and the sink that it writes to
pub record Streams : Type 0 where
  pub source : Stream
  pub sink : Stream

-- a reader or a writer before and after a call, by the bytes and the faults that it reports
abbrev pub stream_of : {R : Type 0} → (R → Option (List ℕ)) → (R → ℕ) → R → R → Stream
stream_of bytes faults old new = record {
  before = bytes old;
  after = bytes new;
  faults_before = faults old;
  faults_after = faults new;
}

-- a source and a sink
abbrev pub streams_of : Stream → Stream → Streams
streams_of source sink = record { source = source; sink = sink }
