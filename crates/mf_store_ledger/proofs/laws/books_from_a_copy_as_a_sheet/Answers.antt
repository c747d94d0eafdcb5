use Rattle.std.proofs.Common.{◌≡◌, ◌++◌, ℕ, Bool, true, false, cond, List, [], ◌∷◌, refl, ap, ap₂, ◌∙◌, sym}
use Rattle.std.specs.Prelude.{◌&&◌, nat_le}
use Rattle.std.specs.List.{flat_map}
use Rattle.std.proofs.lemmas.Grind.{flat_map-append}
use Rattle.csv.specs.Writing.{row_text}
use Rattle.mf_ledger.specs.Adjusting.{openings}
use Rattle.mf_ledger.specs.Runs.{between}
use Rattle.mf_ledger.specs.Sheet.{columns, opening_rows, sheet_text, sheet_writer, transaction_rows}
use Rattle.mf_ledger.specs.Text.{opening_of}
use Rattle.mf_ledger_play.specs.Told.{form_booked, form_head, form_text}
use Rattle.mf_store_ledger.specs.Copied.{copied_transactions, rows_opened}
use Rattle.mf_store_ledger.proofs.laws.books_from_a_copy_as_a_sheet.Goals as goal

-- the lines of rows, one list behind the other
lines_of_all : {X : Type 0} (part : X → List (List (List ℕ))) (xs : List X)
    → flat_map (λ x. sheet_text (part x)) xs ≡ sheet_text (flat_map part xs)
lines_of_all part [] = refl
lines_of_all part (x ∷ xs) =
    ap (λ text. sheet_text (part x) ++ text) (lines_of_all part xs)
    ∙ sym (flat_map-append (row_text sheet_writer) (part x) (flat_map part xs))

lines_where : {X : Type 0} (b : Bool) (part : X → List (List (List ℕ))) (xs : List X)
    → cond b (flat_map (λ x. sheet_text (part x)) xs) [] ≡ sheet_text (cond b (flat_map part xs) [])
lines_where true part xs = lines_of_all part xs
lines_where false part xs = refl

pub returns : goal.returns
returns c asked copied lines is =
    let day = copied.catalogue.day in
    let within : Bool = nat_le asked.first day && nat_le day asked.last in
    let ts = between asked.first asked.last (copied_transactions asked.basis copied lines) in
    ap (λ form. form_head form ++ (cond within (flat_map (form_booked form asked.names (opening_of day))
    (openings asked.basis copied)) [] ++ flat_map (form_text form asked.names) ts)) is
    ∙ ap (λ text. row_text sheet_writer columns ++ text)
    (ap₂ ◌++◌ (lines_where within (opening_rows asked.names day) (openings asked.basis copied))
    (lines_of_all (transaction_rows asked.names) ts)
    ∙ sym (flat_map-append (row_text sheet_writer) (rows_opened asked copied)
    (flat_map (transaction_rows asked.names) ts)))
