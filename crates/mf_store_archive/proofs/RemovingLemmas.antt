-- What the text that takes out the rows up to a number does to the journal's table.
use Rattle.std.proofs.Common.{◌≡◌, ◌∙◌, ℕ, ℤ, pos, ◌<ℤ◌, Bool, true, false, not, ◌&&◌, ◌||◌, List, [], ◌∷◌, map, filter}
use Rattle.std.proofs.Common.{Ok, inl, inr, refl, sym, ap, subst, arith, Ordering, Less, is_lt, is_eq, int_cmp}
use Rattle.std.proofs.Common.{IsPermutation}
use Rattle.std.specs.Ordering.{is_le}
use Rattle.std.specs.List.{list_all, list_any}
use Rattle.std.proofs.lemmas.Int.{ints}
use Rattle.std.proofs.lemmas.List.Sorted.{IsPermutation-map, list_any-IsPermutation}
use Rattle.sqlite.specs.declared.types.Value.TheVariants.{Null, Int}
use Rattle.sqlite.specs.Collation.TheVariants.{Binary}
use Rattle.sqlite.specs.Edit.{edit_of, id_in, without_all}
use Rattle.sqlite.specs.Ops.{binary, is_true}
use Rattle.sqlite.specs.Order.{Row, value_cmp}
use Rattle.sqlite.specs.Query.{IsAnswerAs, Output, Query, output}
use Rattle.sqlite.specs.Rowids.TheVariants.{Given}
use Rattle.sqlite.specs.State.{State, Executes}
use Rattle.sqlite.specs.Table.{Table}
use Rattle.sqlite.specs.Term.{Term, col, holds}
use Rattle.sqlite.specs.Tree.{Trees}
use Rattle.sqlite_trees.specs.Tree.{IsAscending, has_rowid, rowid, without_rowid}
use Rattle.sqlite_rules.specs.Calls.{ids_of}
use Rattle.sqlite_rules.specs.Lists.{Has}
use Rattle.sqlite_sql.specs.declared.ops.BinaryOp.TheVariants.{Compare}
use Rattle.sqlite_sql.specs.declared.ops.CompareOp.TheVariants.{Le}
use Rattle.sqlite_value.proofs.OrderLemmas.{value_cmp-Int}
use Rattle.sqlite_keyed.proofs.KeyedLemmas.{Less-from_lt}
use Rattle.sqlite_keyed.proofs.ListLemmas.{map-map, map_same, filter-map, filter_same, filter_all, all-filter, all_of}
use Rattle.sqlite_keyed.proofs.ListLemmas.{ascending-filter, ascending-map, ascending_weaker, IsPermutation-same}
use Rattle.mf_store_sql.specs.Keep.{AreAlike, KeepsWhole, row_with_id, same_id}
use Rattle.mf_store_sql.specs.Numbered.{Filed, id_of, is_above, numbered_row, numbered_table, values_in}
use Rattle.mf_store_sql.specs.Scan.{scan}
use Rattle.mf_store_sql.specs.Writes.{Ran}
use Rattle.mf_store_sql.proofs.AlikeLemmas.{answer_full, left_alike}
use Rattle.mf_store_sql.proofs.CompareLemmas.{and_true, truth_back}
use Rattle.mf_store_sql.proofs.NumberedLemmas.{below_int}
use Rattle.mf_store_sql.proofs.ReadLemmas.{shows_in_any_order}
use Rattle.mf_store_sql.proofs.WriteLemmas.{opened, task, went, wrote}
use Rattle.mf_store_schema.specs.Tables.{journal, third_schema}
use Rattle.mf_store_journal.specs.Adding.{KeepsJournal}
use Rattle.mf_store_journal.proofs.TextsLemmas.{is_journal}
use Rattle.mf_store_archive.specs.Removing.{KeepsInstead, RemovesUpTo, rows_above}
use Rattle.mf_store_archive.specs.Texts.{number_up_to, remove_text}
use Rattle.mf_store_archive.proofs.TextsLemmas.{removes}

-- ---- lists

filter_neither : {A : Type 0} (p q : A → Bool) (xs : List A)
    → filter (λ x. not (q x)) (filter (λ x. not (p x)) xs) ≡ filter (λ x. not (p x || q x)) xs
filter_neither p q [] = refl
filter_neither p q (x ∷ xs) = go (p x) (q x) refl refl (filter_neither p q xs)
  where
    go : (a b : Bool) → p x ≡ a → q x ≡ b
        → filter (λ y. not (q y)) (filter (λ y. not (p y)) xs) ≡ filter (λ y. not (p y || q y)) xs
        → filter (λ y. not (q y)) (filter (λ y. not (p y)) (x ∷ xs)) ≡ filter (λ y. not (p y || q y)) (x ∷ xs)
    go true b h k more = simp h more
    go false true h k more = simp (h, k) more
    go false false h k more = simp (h, k) (ap (λ l. x ∷ l) more)

-- the rows that a list of rowids leaves
left_rows : (rows : List Row) (ids : List ℤ) → without_all rows ids
    ≡ filter (λ r. not (list_any (λ id. has_rowid id r) ids)) rows
left_rows rows [] = sym (filter_all (λ r. true) rows (all_of _ (λ r. refl) rows))
left_rows rows (id ∷ ids) = left_rows (without_rowid id rows) ids
    ∙ filter_neither (has_rowid id) (λ r. list_any (λ i. has_rowid i r) ids) rows

filter_on : {A : Type 0} (p q : A → Bool) (xs : List A) → ((x : A) → Has xs x → p x ≡ q x)
    → filter p xs ≡ filter q xs
filter_on p q [] same = refl
filter_on p q (x ∷ xs) same = rw (same x (inl refl), filter_on p q xs (λ y h. same y (inr h))) refl

any_here : {A : Type 0} (p : A → Bool) (xs : List A) (x : A) → Has xs x → p x ≡ true → list_any p xs ≡ true
any_here p [] x h is = absurd h
any_here p (y ∷ xs) x (inl same) is = let here : p y ≡ true = ap p (sym same) ∙ is in rw here refl
any_here p (y ∷ xs) x (inr later) is = or_true (p y) (list_any p xs) (any_here p xs x later is)
  where
    or_true : (a b : Bool) → b ≡ true → (a || b) ≡ true
    or_true true b h = refl
    or_true false b h = h

-- ---- numbers

le_values : (a b : ℤ) → is_true (binary (Compare Le Binary) (Int a) (Int b)) ≡ is_le (value_cmp (Int a) (Int b))
unfolding binary
le_values a b = truth_back _

above_or_not : (a b : ℤ) → not (is_le (int_cmp a b)) ≡ is_lt (int_cmp b a)
above_or_not a b = grind (arith, ints)

one_id : (a b : ℤ) → same_id a b ≡ true → a ≡ b
one_id a b same = let cmp : is_eq (int_cmp a b) ≡ true = ap is_eq (sym (value_cmp-Int a b)) ∙ same in
    grind (arith, ints, cmp)

same_itself : (a : ℤ) → same_id a a ≡ true
same_itself a = ap is_eq (value_cmp-Int a a) ∙ grind (arith, ints)

-- ---- the rowids that are taken

module _ (up_to : ℤ → Bool) where
  abbrev taken : List Filed → List ℤ
  taken lines = map id_of (filter (λ l. up_to (id_of l)) lines)

  -- a number is among those that are taken where it passes and is there
  among : (a : ℤ) (lines : List Filed) → list_any (λ i. same_id a i) (taken lines)
      ≡ (up_to a && list_any (λ l. same_id a (id_of l)) lines)
  among a [] = none (up_to a)
    where
      none : (b : Bool) → false ≡ (b && false)
      none true = refl
      none false = refl
  among a (l ∷ lines) = go (up_to (id_of l)) (same_id a (id_of l)) refl refl (among a lines)
    where
      rest : Bool
      rest = list_any (λ k. same_id a (id_of k)) lines

      go : (b s : Bool) → up_to (id_of l) ≡ b → same_id a (id_of l) ≡ s
          → list_any (λ i. same_id a i) (taken lines) ≡ (up_to a && list_any (λ k. same_id a (id_of k)) lines)
          → list_any (λ i. same_id a i) (taken (l ∷ lines))
          ≡ (up_to a && list_any (λ k. same_id a (id_of k)) (l ∷ lines))
      go true true passes is more =
          let here : up_to a ≡ true = ap up_to (one_id a (id_of l) is) ∙ passes in simp (passes, is, here) refl
      go true false passes is more = simp (passes, is) more
      go false true passes is more =
          let here : up_to a ≡ false = ap up_to (one_id a (id_of l) is) ∙ passes in
          simp (passes, is, here) (more ∙ ap (λ b. b && list_any (λ k. same_id a (id_of k)) lines) here)
      go false false passes is more = simp (passes, is) more

  taken_or_not : (lines : List Filed) (ids : List ℤ) → IsPermutation (taken lines) ids → (l : Filed) → Has lines l
      → list_any (λ id. has_rowid id (numbered_row id_of values_in l)) ids ≡ up_to (id_of l)
  taken_or_not lines ids same l here =
      sym (list_any-IsPermutation (λ id. same_id (id_of l) id) (taken lines) ids same) ∙ among (id_of l) lines
      ∙ ap (λ b. up_to (id_of l) && b) (any_here (λ k. same_id (id_of l) (id_of k)) lines l here
      (same_itself (id_of l)))
      ∙ and_true (up_to (id_of l))

-- ---- the lines as entries

module _ (lines : List Filed) (rising : IsAscending (λ (a b : Filed). id_of a <ℤ id_of b) lines) where
  abbrev stored : Filed → Row
  stored l = Null ∷ values_in l

  abbrev by_number : Filed → Filed → Ordering
  by_number a b = int_cmp (id_of a) (id_of b)

  abbrev entry : Filed → ℤ × Filed
  entry l = (id_of l, l)

  abbrev full : List Row
  full = map (numbered_row id_of values_in) lines

  seconds : (ls : List Filed) → map (λ (e : ℤ × Filed). e.1) (map entry ls) ≡ ls
  seconds [] = refl
  seconds (l ∷ ls) = ap (λ rest. l ∷ rest) (seconds ls)

  whole : KeepsWhole stored by_number full lines
  whole = record {
    entries = map entry lines;
    rows = sym (map-map (row_with_id stored) entry lines);
    apart = ascending-map (λ (a b : ℤ × Filed). same_id a.0 b.0 ≡ false) entry lines
        (ascending_weaker (λ (a b : Filed). id_of a <ℤ id_of b) (λ a b. same_id (id_of a) (id_of b) ≡ false)
        (λ a b h. ap is_eq (below_int (id_of a) (id_of b) h)) lines rising);
    same = IsPermutation-same _ _ (seconds lines);
    rising = ascending_weaker (λ (a b : Filed). id_of a <ℤ id_of b) (λ a b. by_number a b ≡ Less)
        (λ a b h. Less-from_lt (id_of a) (id_of b) h) lines rising;
  }

  module _ (number : ℕ) (rows : List Row) (tree : ℕ) where
    abbrev params : Row
    params = Int (pos number) ∷ []

    abbrev up_to : ℤ → Bool
    up_to i = is_le (int_cmp i (pos number))

    abbrev q : Query
    q = scan tree (number_up_to ∷ []) (col 1 0 ∷ []) []

    abbrev out : ℤ × Filed → Output
    out e = output q (params ∷ row_with_id stored e ∷ [])

    abbrev id_shown : Output → ℤ
    id_shown o = id_in (rowid o.1)

    tested : (e : ℤ × Filed) → list_all (holds (params ∷ row_with_id stored e ∷ [])) (number_up_to ∷ [])
        ≡ up_to e.0
    tested e = and_true _ ∙ le_values e.0 (pos number) ∙ ap is_le (value_cmp-Int e.0 (pos number))

    -- the rowids that are found
    found : IsAnswerAs Null q (λ _. full) params rows
        → IsPermutation (taken up_to lines) (ids_of rows)
    unfolding whole
    found a =
        let shown = shows_in_any_order stored by_number tree (number_up_to ∷ []) (col 1 0 ∷ []) [] params
        (λ (e : ℤ × Filed). up_to e.0) tested (λ _. full) lines whole Null rows a in
        let passed = filter (λ (e : ℤ × Filed). up_to e.0) (map entry lines) in
        let ids : ids_of rows ≡ map id_shown a.ordered =
        ap ids_of shown.1 ∙ map-map (λ (r : Row). id_in (rowid r)) (λ (o : Output). o.1) a.ordered in
        let given : map id_shown (map out passed) ≡ taken up_to lines =
        map-map id_shown out passed ∙ map_same (λ (e : ℤ × Filed). id_shown (out e)) (λ (e : ℤ × Filed). e.0)
        (λ e. refl) passed
        ∙ ap (map (λ (e : ℤ × Filed). e.0)) (filter-map (λ (e : ℤ × Filed). up_to e.0) entry lines)
        ∙ map-map (λ (e : ℤ × Filed). e.0) entry (filter (λ l. up_to (id_of l)) lines) in
        subst (IsPermutation (taken up_to lines)) (sym ids)
        (subst (λ l. IsPermutation l (map id_shown a.ordered)) given (IsPermutation-map id_shown _ _ shown.0))

    -- and the rows that they leave
    left_are : IsPermutation (taken up_to lines) (ids_of rows)
        → without_all full (ids_of rows) ≡ map (numbered_row id_of values_in) (rows_above number lines)
    left_are same =
        left_rows full (ids_of rows)
        ∙ filter-map (λ r. not (list_any (λ id. has_rowid id r) (ids_of rows))) (numbered_row id_of values_in) lines
        ∙ ap (map (numbered_row id_of values_in)) (filter_on _ (λ l. not (up_to (id_of l))) lines
        (λ l h. ap not (taken_or_not up_to lines (ids_of rows) same l h))
        ∙ filter_same _ (is_above id_of (pos number)) (λ l. above_or_not (id_of l) (pos number)) lines)

-- ---- what the statement does

abbrev table : Table
table = numbered_table 23 journal

removed : (number : ℕ) (old new : State) (count : ℕ) (lines : List Filed)
    → Executes remove_text (Int (pos number) ∷ []) old new (Ok count) → KeepsJournal old.now lines
    → KeepsInstead (rows_above number lines) old.now new.now
removed number old new count lines h k =
    let db = old.now.trees in
    let given_params : Row = Int (pos number) ∷ [] in
    let known = is_journal.numbered in
    let t = task third_schema 11 table known.there remove_text given_params old new k.schema_is removes.plain count in
    let it = opened third_schema 11 table known.there remove_text given_params old new k.schema_is removes.plain count _
    removes.is h (λ w. w) (λ out d. d) in
    let given = went it.2 in
    let ids = ids_of given.0 in
    let did = wrote t known.quiet db (edit_of db table ids Given 0 []) refl _ _ _ given.2 in
    let rising = (k.keeps).kept.rising in
    let all = full lines rising in
    let alike : AreAlike (db 23) all = (k.keeps).kept.rows in
    let seen = answer_full 23 (number_up_to ∷ []) (col 1 0 ∷ []) [] given_params known.under db all alike given.0
    (given.1.answer Null) in
    let same = found lines rising number given.0 23 seen in
    record {
      schema_is = it.3;
      sound = it.4;
      keeps = record {
        kept = record {
          rows = subst (λ rs. AreAlike rs (map (numbered_row id_of values_in) (rows_above number lines)))
              (sym did.rows) (subst (AreAlike (without_all (db 23) ids)) (left_are lines rising number given.0 23 same)
              (left_alike ids (db 23) all alike));
          rising = ascending-filter (λ (a b : Filed). id_of a <ℤ id_of b) (is_above id_of (pos number)) lines rising;
        };
        fitting = all-filter _ (is_above id_of (pos number)) lines (k.keeps).fitting;
      };
      others = did.tables;
    }

pub removes_up_to : (sql : List ℕ) (values : Row) (number : ℕ) (old new : State) → sql ≡ remove_text
    → values ≡ Int (pos number) ∷ [] → Ran sql values old new → RemovesUpTo number old new
removes_up_to sql values number old new text given ran = record {
  mode = ran.mode;
  was_open = ran.was_open;
  removed = λ lines k. removed number old new ran.count lines
      (subst (λ s. Executes s (Int (pos number) ∷ []) old new (Ok ran.count)) text
      (subst (λ ps. Executes sql ps old new (Ok ran.count)) given ran.ran)) k;
}
