use Rattle.std.proofs.Common.{◌≡◌, ℕ, List, map, take}
use Rattle.std.specs.List.{AllByRecursion}
use Rattle.mf_model.specs.Institution.{Institution, Ledger}
use Rattle.mf_store_schema.specs.Rows.{loan_row}
use Rattle.mf_store_values.specs.Flat.{loan_in}
use Rattle.mf_store.specs.Stands.{Stays, StandsFor, IsClean, IsOpen}
use Rattle.mf_store.proofs.LoanLemmas.{IsLoanOf}
use Rattle.mf_store.proofs.store.Store.ledgers_of.Given as goal

abbrev pub invariant-loop-row : goal.invariant-loop-row
invariant-loop-row g l = record {
  kept : Stays g.S.Store l.initial.self l.self;
  live : IsClean g.S.Store l.self → IsOpen g.S.Store l.initial.self → IsOpen g.S.Store l.self;
  read : IsClean g.S.Store l.self → (i : Institution) → StandsFor g.S.Store l.initial.self i
      → (office : ℕ) (ls : List (ℕ × Ledger)) → AllByRecursion (IsLoanOf office i) ls
      → l.rows ≡ map (λ (k : ℕ × Ledger). loan_row (loan_in office k.0 k.1.loan)) ls
      → l.ledgers.items ≡ map (λ (k : ℕ × Ledger). k.1) (take l.row-index ls);
}
