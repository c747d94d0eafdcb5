-- The sheet of results.
use Rattle.std.specs.Prelude.{ℕ, codes, get_or, List, [], ◌∷◌, ◌++◌}
use Rattle.csv.specs.Writing.{default_writer, row_body, row_text}
use Rattle.mf_wire_lines.specs.Replies.{fault_name}
use Rattle.mf_sheet_lines.specs.declared.results.SheetResult.{SheetResult}
use Rattle.mf_sheet_lines.specs.declared.results.SheetResult.TheVariants.{Entered, Repeated, Refused}
use Rattle.mf_sheet_lines.specs.Sheets.{sheet_rows_of}

-- what became of a line
abbrev pub result_name : SheetResult → List ℕ
result_name Entered = codes "entered"
result_name Repeated = codes "repeated"
result_name (Refused fault) = fault_name fault

-- the first four fields as they stand, missing ones empty
abbrev pub first_four : List (List ℕ) → List (List ℕ)
first_four fields = get_or fields 0 [] ∷ get_or fields 1 [] ∷ get_or fields 2 [] ∷ get_or fields 3 [] ∷ []

-- the record of a line's result: its first four fields and the result, ended by a line feed
unfoldable pub record_text : List (List ℕ) → SheetResult → List ℕ
record_text fields result = row_text default_writer (first_four fields ++ result_name result ∷ [])

-- the same up to the result
unfoldable pub begun_text : List (List ℕ) → List ℕ
begun_text fields = row_body default_writer (first_four fields ++ [] ∷ [])

-- the first record names the columns
unfoldable pub heading : List ℕ
heading = row_text default_writer (codes "receipt" ∷ codes "loan" ∷ codes "date" ∷ codes "amount" ∷ codes "result" ∷ [])

-- a record for each result, beside the line that it answers
abbrev pub records_text : List (List (List ℕ)) → List SheetResult → List ℕ
records_text rows [] = []
records_text [] (result ∷ results) = []
records_text (fields ∷ rows) (result ∷ results) = record_text fields result ++ records_text rows results

-- the sheet of the results of a sheet's lines, of which some may be left out at the end
abbrev pub result_text : List ℕ → List SheetResult → List ℕ
result_text bytes results = heading ++ records_text (sheet_rows_of bytes) results
