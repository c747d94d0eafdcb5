use Rattle.std.proofs.Common.{◌≡◌, ℕ, List, map, take}
use Rattle.std.specs.List.{AllByRecursion}
use Rattle.mf_model.specs.Institution.{Institution, Ledger}
use Rattle.mf_store_schema.specs.Rows.{loan_row}
use Rattle.mf_store_values.specs.Flat.{loan_in}
use Rattle.mf_store.specs.Stands.{Stays, StandsFor, IsClean, IsOpen}
use Rattle.mf_store.proofs.LoanLemmas.{IsLoanOf}
use Rattle.mf_store_lists.specs.Counted.{counted_by, uncounted}
use Rattle.mf_store_lists.proofs.clients.count_rows.Given as goal

abbrev pub invariant-loop-row : goal.invariant-loop-row
invariant-loop-row g l = record {
  kept : Stays g.S.Store l.initial.store l.store;
  live : IsClean g.S.Store l.store → IsOpen g.S.Store l.initial.store → IsOpen g.S.Store l.store;
  counted : IsClean g.S.Store l.store → (i : Institution) → StandsFor g.S.Store l.initial.store i
      → l.today ≡ i.catalogue.day
      → (office : ℕ) (ls : List (ℕ × Ledger)) → AllByRecursion (IsLoanOf office i) ls
      → l.rows ≡ map (λ (k : ℕ × Ledger). loan_row (loan_in office k.0 k.1.loan)) ls
      → (clients : List (ℕ × List ℕ)) → l.initial.lines ≡ map uncounted clients
      → l.lines ≡ map (counted_by i.catalogue (map (λ (k : ℕ × Ledger). k.1) (take l.row-index ls))) clients;
}
