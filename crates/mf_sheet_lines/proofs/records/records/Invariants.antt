use Rattle.std.proofs.Common.{◌≡◌, ◌<◌, ℕ, List, Some, map, true}
use Rattle.csv.specs.Reading.{Reached, Ready, default_config, is_flexible, source_of, strip_bom}
use Rattle.csv.specs.Records.{fields_of}
use Rattle.csv.specs.declared.parser.State.TheVariants as st
use Rattle.csv.specs.declared.reader.Trim.TheVariants as trim
use Rattle.mf_sheet_lines.proofs.records.records.Given as goal

abbrev pub invariant-loop-read : goal.invariant-loop-read
invariant-loop-read l = (l.read-iterator.rdr.trim ≡ trim.None) × Ready l.read-iterator.rdr × (0 < l.read-iterator.left)
    × (l.read-iterator.rdr.config ≡ default_config)
    × (y : List ℕ) × (source_of (λ s. Some s.now) l.read-iterator.rdr ≡ Some y)
    × Reached default_config st.StartRecord (strip_bom l.fn.text) (map fields_of l.records.items)
    l.read-iterator.rdr.state y
    × (is_flexible l.read-iterator.rdr ≡ true)
