use Rattle.std.proofs.Common.{◌≡◌, ◌++◌, List, [], ◌∷◌, refl, ap, ◌∙◌, sym}
use Rattle.std.specs.List.{flat_map}
use Rattle.std.proofs.lemmas.Grind.{flat_map-append}
use Rattle.csv.specs.Writing.{row_text}
use Rattle.mf_ledger.specs.Runs.{between}
use Rattle.mf_ledger.specs.Sheet.{columns, sheet_text, sheet_writer, transaction_rows}
use Rattle.mf_ledger.specs.declared.books.Transaction.{Transaction}
use Rattle.mf_ledger.specs.declared.names.GivenName.{GivenName}
use Rattle.mf_ledger_play.specs.Told.{form_head, form_text}
use Rattle.mf_store_ledger.specs.Journal.{journal_transactions}
use Rattle.mf_store_ledger.proofs.laws.books_as_a_sheet.Goals as goal

-- the rows of transactions, one behind the other
rows_of_all : (gs : List GivenName) (ts : List Transaction)
    → flat_map (λ t. sheet_text (transaction_rows gs t)) ts ≡ sheet_text (flat_map (transaction_rows gs) ts)
rows_of_all gs [] = refl
rows_of_all gs (t ∷ ts) =
    ap (λ text. sheet_text (transaction_rows gs t) ++ text) (rows_of_all gs ts)
    ∙ sym (flat_map-append (row_text sheet_writer) (transaction_rows gs t) (flat_map (transaction_rows gs) ts))

pub returns : goal.returns
returns c asked day lines is =
    let ts = between asked.first asked.last (journal_transactions asked.basis day lines) in
    ap (λ form. form_head form ++ flat_map (form_text form asked.names) ts) is
    ∙ ap (λ text. row_text sheet_writer columns ++ text) (rows_of_all asked.names ts)
