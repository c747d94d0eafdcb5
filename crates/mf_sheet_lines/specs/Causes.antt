-- Why `csv` gives no records, or no text of a record.
use Rattle.std.specs.Prelude.{⊤}
use Rattle.csv.specs.declared.error.ErrorKind.{ErrorKind}
use Rattle.csv.specs.declared.error.ErrorKind.TheVariants.{Io, Utf8, UnequalLengths, Serialize, Deserialize}
use Rattle.csv.specs.declared.error.ErrorKind.TheVariants.{OutOfMemory}

-- Nothing in the records is the cause, neither how many fields one has nor its bytes: memory ran out, or the reader
-- underneath failed, which one over bytes in memory has no cause to do.
abbrev pub IsOfNoRecord : ErrorKind → Type 0
IsOfNoRecord OutOfMemory = ⊤
IsOfNoRecord (Io e) = ⊤
IsOfNoRecord (Utf8 pos err) = ⊥
IsOfNoRecord (UnequalLengths pos expected len) = ⊥
IsOfNoRecord (Serialize text) = ⊥
IsOfNoRecord (Deserialize pos err) = ⊥
