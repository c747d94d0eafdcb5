-- What a query and the calls made of it come to.
use Rattle.std.proofs.Common.{◌≡◌, ℕ, inl, inr, Bool, List, Option, Some, Result}
use Rattle.std.proofs.Common.{Ok, Err, ◌≤◌, IfOk, IfErr, IsTrue, sym, ◌∙◌}
use Rattle.std.proofs.Common.{subst, arith, map, filter, find, slice_get}
use Rattle.sqlite.specs.Tree.{Trees}
use Rattle.sqlite.specs.Order.{Row}
use Rattle.sqlite.specs.State.{State, HasCleanDisk, Survives}
use Rattle.sqlite.specs.Listing.{understood}
use Rattle.sqlite.specs.declared.error.Error.{Error}
use Rattle.sqlite.proofs.Callers.{IsPlain}
use Rattle.sqlite.proofs.StateLemmas.{survives_then}
use Rattle.sqlite_keyed.proofs.ListLemmas.{slice_get-filter}
use Rattle.mf_store_schema.specs.Tables.{schema_keeping, IsPresent}
use Rattle.mf_store_sql.specs.Queries.{Answers}
use Rattle.mf_store_sql.specs.Writes.{Ran, Serves}
use Rattle.mf_store_schema.specs.Rows.{Lists}
use Rattle.mf_store_schema.specs.Writes.{schema_of, Holds, Failed}
use Rattle.mf_store_schema.specs.Calls.{IsAsBefore, IsKeeping, OnlyFaultsShut, Shows}

module _ (was is : State) where
  earlier : {P : Trees → Type 0} → Survives was is P → HasCleanDisk is → HasCleanDisk was
  earlier survives clean = omega (arith, survives.clean, clean)

  -- the kit's own clause, for each count of faults
  pub only_faults_shut : {P : Trees → Type 0} → Survives was is P → OnlyFaultsShut was is
  only_faults_shut survives faults few before = record {
    counted = omega (arith, before.counted, survives.counts);
    is_open = λ clean none.
        let up : was.faults ≤ is.faults = survives.counts in
        let least : faults ≤ was.faults = before.counted in
        elim (survives.closes clean (before.is_open (earlier survives clean) (omega arith))) [
          | inl still ↦ still
          | inr more ↦ absurd (omega (arith, more))
        ];
  }

  plain_then : (sql : List ℕ) → ((journaled : Bool) → IsPlain (understood (schema_keeping journaled) sql))
      → IsPresent was.now.schema → IsPlain (understood was.now.schema sql)
  plain_then sql plain ours = subst (λ k. IsPlain (understood k sql)) (sym ours.1) (plain ours.0)

  -- a plain text changes nothing
  pub unchanged : (sql : List ℕ) → ((journaled : Bool) → IsPlain (understood (schema_keeping journaled) sql))
      → (HasCleanDisk is → IsTrue is.is_open
      → IsPlain (understood was.now.schema sql) → is.now ≡ was.now) → (HasCleanDisk is → IsTrue is.is_open
      → IsTrue was.is_open)
      → Survives was is (λ _. IsTrue was.is_open × ¬ IsPlain (understood was.now.schema sql)) → IsAsBefore was is
  unchanged sql plain same was_open survives = record {
    premise = earlier survives;
    was_open = was_open;
    shuts = only_faults_shut survives;
    same = λ clean live ours. same clean live (plain_then sql plain ours);
    stop = λ clean ours trees may. elim (survives.crash clean trees may) [
      | inl before ↦ before
      | inr wrote ↦ absurd (wrote.1 (plain_then sql plain (ours wrote.0)))
    ];
  }

-- the first of the rows that pass the test
pub first_is : {R : Type 0} (row : R → Row) (p : R → Bool) (items : List R) (rows : List Row) (found : Option R) → rows
    ≡ map row (filter p items) → ((rs : List R) → rows ≡ map row rs → found ≡ slice_get rs 0) → found ≡ find p items
first_is row p items rows found are reads = reads (filter p items) are ∙ slice_get-filter p items

-- what a query shows of the lists that the tables keep
pub shown : {V E : Type 0} (r : Result V E) (rows_of : V → List Row) (s : State) (sql : List ℕ) (params : Row)
    (lists : Lists) (P : V → Type 0) → ((v : V) → Serves schema_of Holds s.now (Some lists)
    → Answers sql params s.now (rows_of v) → P v)
    → IsKeeping s lists → IfOk r (λ v. Shows s sql params (rows_of v)) → IfOk r P
shown (Ok v) rows_of s sql params lists P law kept h = law v (kept h.is_open) h.answers
shown (Err e) rows_of s sql params lists P law kept h = tt

-- two statements of one transaction, one after the other: a stop leaves nothing more
pub goes_on : (was mid is : State) → Survives was mid (λ _. ⊥) → Survives mid is (λ _. ⊥) → Survives was is (λ _. ⊥)
goes_on was mid is = survives_then was mid is (λ _. ⊥) (λ _. ⊥) (λ _. ⊥) (λ _ db none. none) (λ _ db none. none)

-- a statement ran with these values, told otherwise
pub ran_with : (sql : List ℕ) (was is : State) (given row : Row) → given ≡ row → Ran sql given was is
    → Ran sql row was is
ran_with sql was is given row same ran = subst (λ r. Ran sql r was is) same ran

-- and failed with them
pub failed_with : (sql : List ℕ) (was is : State) (given row : Row) (e : Error) → given ≡ row
    → Failed sql given was is e → Failed sql row was is e
failed_with sql was is given row e same failed = subst (λ r. Failed sql r was is e) same failed

-- the same of an outcome
pub failed_row : {V : Type 0} (r : Result V Error) (sql : List ℕ) (was is : State) (given row : Row) → given ≡ row
    → IfErr r (Failed sql given was is) → IfErr r (Failed sql row was is)
failed_row r sql was is given row same h = subst (λ x. IfErr r (Failed sql x was is)) same h
