use Rattle.std.proofs.Common.{◌≡◌, ◌≤◌, ℕ, List, map, take, length}
use Rattle.std.specs.List.{AllByRecursion, flat_map}
use Rattle.mf_model.specs.Institution.{Institution, Ledger}
use Rattle.mf_model.specs.Store.{rows_at}
use Rattle.mf_store_schema.specs.Rows.{loan_row}
use Rattle.mf_store_values.specs.Flat.{loan_in}
use Rattle.mf_store.specs.Stands.{Stays, StandsFor, IsClean, IsOpen}
use Rattle.mf_store.proofs.LoanLemmas.{IsLoanOf}
use Rattle.mf_store_lists.specs.Due.{due_told}
use Rattle.mf_store_lists.proofs.due.put_rows.Given as goal

abbrev pub invariant-loop-place : goal.invariant-loop-place
invariant-loop-place g l = record {
  kept : Stays g.S.Store l.initial.store l.store;
  live : IsClean g.S.Store l.store → IsOpen g.S.Store l.initial.store → IsOpen g.S.Store l.store;
  few : length l.initial.lines.items ≤ 200 → length l.lines.items ≤ 200;
  read : IsClean g.S.Store l.store → (i : Institution) → StandsFor g.S.Store l.initial.store i
      → (office : ℕ) (ls : List (ℕ × Ledger)) → AllByRecursion (IsLoanOf office i) ls
      → l.rows ≡ map (λ (k : ℕ × Ledger). loan_row (loan_in office k.0 k.1.loan)) ls
      → l.initial.lines.items ≡ flat_map (due_told l.day l.after i.catalogue (rows_at office i)) (take l.from ls)
      → l.lines.items ≡ flat_map (due_told l.day l.after i.catalogue (rows_at office i)) (take l.place ls);
}
