use Rattle.std.proofs.Common.{◌≡◌, ℕ, List, map, take}
use Rattle.std.specs.List.{AllByRecursion, flat_map}
use Rattle.mf_model.specs.Institution.{Institution, Ledger}
use Rattle.mf_store_schema.specs.Rows.{loan_row}
use Rattle.mf_store_values.specs.Flat.{loan_in}
use Rattle.mf_store.specs.Stands.{Stays, StandsFor, IsClean, IsOpen}
use Rattle.mf_store.proofs.LoanLemmas.{IsLoanOf}
use Rattle.mf_store_lists.specs.Told.{client_told}
use Rattle.mf_store_lists.proofs.client_loans.lines_of.Given as goal

abbrev pub invariant-loop-row : goal.invariant-loop-row
invariant-loop-row g l = record {
  kept : Stays g.S.Store l.initial.store l.store;
  live : IsClean g.S.Store l.store → IsOpen g.S.Store l.initial.store → IsOpen g.S.Store l.store;
  read : IsClean g.S.Store l.store → (i : Institution) → StandsFor g.S.Store l.initial.store i
      → l.today ≡ i.catalogue.day → (office : ℕ) (ls : List (ℕ × Ledger)) → AllByRecursion (IsLoanOf office i) ls
      → l.rows ≡ map (λ (k : ℕ × Ledger). loan_row (loan_in office k.0 k.1.loan)) ls
      → l.lines.items
      ≡ flat_map (client_told l.client i.catalogue) (take l.row-index ls);
}
