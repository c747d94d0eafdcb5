-- From the bytes of a sheet to its lines.
use Rattle.std.specs.Prelude.{ℕ, cond, List, [], ◌∷◌, map}
use Rattle.csv.specs.Reading.{default_config, records, strip_bom}
use Rattle.mf_sheet_lines.specs.declared.line.SheetLine.{SheetLine}
use Rattle.mf_sheet_lines.specs.Lines.{sheet_line_of, names_columns}

-- the longest sheet that is read, in bytes
abbrev pub longest : ℕ
longest = 1_048_576

-- the records, without a first one that names the columns
abbrev pub below_names : List (List (List ℕ)) → List (List (List ℕ))
below_names [] = []
below_names (first ∷ rest) = cond (names_columns first) rest (first ∷ rest)

-- the fields of each line of a sheet; a byte order mark at its start is no part of the first
abbrev pub sheet_rows_of : List ℕ → List (List (List ℕ))
sheet_rows_of bytes = below_names (records default_config (strip_bom bytes))

-- what each line of a sheet asks for
abbrev pub lines_of : List ℕ → List SheetLine
lines_of bytes = map sheet_line_of (sheet_rows_of bytes)
