-- The loans of a client.
use Rattle.std.proofs.Common.{◌≡◌, ℕ, true, true≢false, List, Option, None, Some, sym, ap, ◌∙◌}
use Rattle.std.specs.Prelude.{is_some, option_map}
use Rattle.std.specs.List.{enumerate_from, flat_map}
use Rattle.mf_lists.specs.declared.lines.ClientLoan.{ClientLoan}
use Rattle.mf_lists.specs.Lists.{client_loan, is_of_client, loans_of_client}
use Rattle.mf_lists_desk.specs.Readings.{client_loans_at}
use Rattle.mf_office.specs.declared.account.Account.{Account}
use Rattle.mf_model.specs.Institution.{Catalogue, Institution, Ledger, Rows}
use Rattle.mf_model.specs.Store.{client_at, rows_at}
use Rattle.mf_store_lists.specs.Told.{client_told}
use Rattle.mf_store_lists.proofs.ToldLemmas.{told_chosen}

-- the lines that are told are those of the definition
pub loans_told : (client : ℕ) (k : Catalogue) (rows : Rows)
    → flat_map (client_told client k) (enumerate_from 1 rows.loans) ≡ loans_of_client client k rows
loans_told client k rows =
    told_chosen (λ (l : ℕ × Ledger). is_of_client client l.1) (client_loan k) (enumerate_from 1 rows.loans)

-- they are told of a client who is there
pub told_of_one : (client : Account) (i : Institution) (o : Option (List ℕ)) (lines : List ClientLoan)
    → o ≡ client_at client i → is_some o ≡ true
    → lines ≡ loans_of_client client.number i.catalogue (rows_at client.office i)
    → Some lines ≡ client_loans_at client i
told_of_one client i None lines is some same = absurd (true≢false (sym some))
told_of_one client i (Some name) lines is some same = ap Some same
    ∙ ap (option_map (λ n. loans_of_client client.number i.catalogue (rows_at client.office i))) is
