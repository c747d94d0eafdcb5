-- Calls that read the journal one after another, and what they find.
use Rattle.std.proofs.Common.{◌≡◌, ℕ, arith, List, [], ◌∷◌, map, pos, Option, Some, None, slice_get, IsTrue}
use Rattle.std.proofs.Common.{refl, sym, ap, ◌∙◌, subst}
use Rattle.std.specs.Prelude.{◌<◌, ◌^◌, option_map, IfNone}
use Rattle.sqlite.specs.declared.types.Value.TheVariants.{Int, Blob}
use Rattle.mf_store_sql.specs.Columns.{Bytes}
use Rattle.mf_store_schema.specs.Fields.{IsNumber, CanHold}
use Rattle.sqlite.specs.Effect.{Database}
use Rattle.sqlite.specs.Order.{Row}
use Rattle.sqlite.specs.State.{State, HasCleanDisk}
use Rattle.mf_store_sql.specs.Numbered.{Filed, shown_filed}
use Rattle.mf_store_schema.specs.Schemas.{IsUnchangedUnder}
use Rattle.mf_store_schema.proofs.ReadLemmas.{unchanged_then}
use Rattle.mf_journal.specs.declared.following.Head.{Head}
use Rattle.mf_store_journal.specs.Adding.{KeepsJournal}
use Rattle.mf_store_journal.specs.Rows.{filed_beginning, IsLineRow}
use Rattle.mf_store_journal.specs.Reading.{IsThird, IsKeeping, page_above}
use Rattle.mf_store_journal.specs.Checking.{AreFollowing, StopsAt, CanBegin, IsFound}
use Rattle.mf_store_journal.specs.declared.checking.Flaw.{Flaw}
use Rattle.mf_store_journal.specs.declared.checking.Found.TheVariants.{Nothing, NoBeginning, Whole, Flawed}
use Rattle.mf_store_journal.proofs.CheckLemmas.{Passed, passed_none, passed_more, passed_all, passed_stops}

-- two readings, one after the other
pub still_unchanged : (a b c : State) → IsUnchangedUnder IsThird a b → IsUnchangedUnder IsThird b c
    → IsUnchangedUnder IsThird a c
still_unchanged a b c first second =
    let both = unchanged_then IsThird IsThird a b c first second in
    record {
      premise = both.premise;
      was_open = both.was_open;
      same = λ clean live its. both.same clean live (its, its);
      shuts = both.shuts;
      stop = λ clean its. both.stop clean (λ live. (its live, its live));
    }

-- what a table kept it keeps after a reading
pub kept_after : (a b : State) (lines : List Filed) → IsUnchangedUnder IsThird a b → HasCleanDisk b
    → KeepsJournal a.now lines → IsKeeping b lines
kept_after a b lines h clean k live =
    subst (λ (db : Database). KeepsJournal db lines) (sym (h.same clean live k.schema_is)) k

pub keeping_after : (a b : State) (lines : List Filed) → IsUnchangedUnder IsThird a b → HasCleanDisk b
    → IsKeeping a lines → IsKeeping b lines
keeping_after a b lines h clean keeps live = kept_after a b lines h clean (keeps (h.was_open clean live)) live

-- nothing was read
pub unchanged_itself : (s : State) → IsUnchangedUnder IsThird s s
unchanged_itself s = record {
  premise = λ clean. clean;
  was_open = λ clean live. live;
  same = λ clean live its. refl;
  shuts = λ faults few up. up;
  stop = λ clean its trees may. may;
}

-- the rows up to where the journal stands follow on where it begins
pub record Going (beginning : Head) (old now : State) (head : Head) : Type 0 where
  pub kept : IsUnchangedUnder IsThird old now
  pub passed : HasCleanDisk now → (lines : List Filed) → KeepsJournal old.now lines → (rest : List Filed)
      → lines ≡ filed_beginning beginning ∷ rest → Passed beginning lines head

pub going_first : (beginning : Head) (s : State) → Going beginning s s beginning
going_first beginning s = record {
  kept = unchanged_itself s;
  passed = λ clean lines k rest are. passed_none beginning lines rest ((k.keeps).kept).rising are;
}

-- what a page is of the lines that the table keeps
module _ (beginning head : Head) (old now new : State) (rows : List Row) (going : Going beginning old now head)
    (kept : IsUnchangedUnder IsThird now new) (page : HasCleanDisk new → (lines : List Filed) → IsKeeping now lines
    → rows ≡ page_above head.number lines) where
  shown : HasCleanDisk new → (lines : List Filed) → KeepsJournal old.now lines → rows ≡ page_above head.number lines
  shown clean lines k = page clean lines (kept_after old now lines going.kept (kept.premise clean) k)

  pub going_on : (next : Head) → ((lines : List Filed) → rows ≡ map shown_filed lines → AreFollowing head lines next)
      → Going beginning old new next
  going_on next follow = record {
    kept = still_unchanged old now new going.kept kept;
    passed = λ clean lines k rest are. passed_more beginning lines head next ((k.keeps).kept).rising
        (going.passed (kept.premise clean) lines k rest are) (follow _ (shown clean lines k));
  }

  -- none is left
  pub going_whole : rows ≡ [] → (HasCleanDisk new → IsTrue old.is_open) → HasCleanDisk new → (lines : List Filed)
      → IsKeeping old lines → CanBegin beginning → (rest : List Filed) → lines ≡ filed_beginning beginning ∷ rest
      → IsFound lines (Whole (record { begins = beginning; head = head }))
  going_whole none live clean lines keeps can rest are =
      let k = keeps (live clean) in
      let all = passed_all beginning lines head (going.passed (kept.premise clean) lines k rest are)
      (sym (shown clean lines k) ∙ none) in
      (all.0, all.1, can, all.2)

  -- one doesn't follow on
  pub going_stops : (flaw : Flaw) → ((lines : List Filed) → rows ≡ map shown_filed lines → StopsAt head lines flaw)
      → (HasCleanDisk new → IsTrue old.is_open) → HasCleanDisk new → (lines : List Filed) → IsKeeping old lines
      → (rest : List Filed) → lines ≡ filed_beginning beginning ∷ rest → IsFound lines (Flawed flaw)
  going_stops flaw stops live clean lines keeps rest are =
      let k = keeps (live clean) in
      let all = passed_stops beginning lines head flaw (going.passed (kept.premise clean) lines k rest are)
      (stops _ (shown clean lines k)) in
      (beginning, all.0, all.1, all.2)

-- ---- by the first row

pub found_nothing : (lines : List Filed) → None ≡ option_map shown_filed (slice_get lines 0) → IsFound lines Nothing
found_nothing [] is = refl
found_nothing (l ∷ ls) is = absurd (cc)

-- the first line, and those after it
pub first_line : (lines : List Filed) (row : Row) → Some row ≡ option_map shown_filed (slice_get lines 0)
    → (line : Filed) × (rest : List Filed) × (lines ≡ line ∷ rest) × (shown_filed line ≡ row)
first_line [] row is = absurd (cc)
first_line (l ∷ ls) row is = let same : shown_filed l ≡ row = cc in (l, ls, refl, same)

pub found_no_beginning : (lines : List Filed) (row : Row) → Some row ≡ option_map shown_filed (slice_get lines 0)
    → ((h : Head) → CanBegin h → ¬ (shown_filed (filed_beginning h) ≡ row)) → IsFound lines NoBeginning
found_no_beginning lines row is none =
    let first = first_line lines row is in
    (first.0, first.1, first.2, λ h can same. none h can (ap shown_filed (sym same) ∙ first.3))

-- the row of where a journal begins is that of a line
pub beginning_line : (h : Head) → CanBegin h → (row : Row) → shown_filed (filed_beginning h) ≡ row → IsLineRow row
beginning_line h can row is = subst IsLineRow is (record {
  fields = record {
    width = refl;
    values = (
      number h.number can.number,
      (
        number h.day can.day,
        (
          none,
          (
            none,
            (
              empty,
              (
                empty,
                (
                  empty,
                  (
                    empty,
                    (none, (none, ((h.chain, refl), tt))),
                  ),
                ),
              ),
            ),
          ),
        ),
      ),
    );
  };
  chain = (h.chain, refl, can.chain);
})
  where
    number : (n : ℕ) → n < 2 ^ 32 → IsNumber (Int (pos n))
    number n low = (n, refl, low)

    none : IsNumber (Int (pos 0))
    none = (0, refl, omega arith)

    empty : CanHold Bytes (Blob [])
    empty = ([], refl)

-- what holds where there is none
pub none_given : {V : Type 0} (o : Option V) (P : Type 0) → o ≡ None → P → IfNone o P
none_given None P is holds = holds
none_given (Some v) P is holds = tt
