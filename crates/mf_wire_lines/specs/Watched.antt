-- What a watched reader and a watched writer hold.
use Rattle.std.specs.Prelude.{ℕ}
use Rattle.mf_wire_lines.specs.declared.sources.WatchedReader.{WatchedReader}
use Rattle.mf_wire_lines.specs.declared.sinks.WatchedWriter.{WatchedWriter}

-- the reader inside
abbrev pub reads_from : {R : Type 0} → WatchedReader R → R
reads_from source = source.reader

-- its count of failed reads
abbrev pub read_faults : {R : Type 0} → WatchedReader R → ℕ
read_faults source = source.faults

-- the writer inside
abbrev pub writes_to : {W : Type 0} → WatchedWriter W → W
writes_to sink = sink.writer

-- its count of writes that failed or took no byte
abbrev pub write_faults : {W : Type 0} → WatchedWriter W → ℕ
write_faults sink = sink.faults
