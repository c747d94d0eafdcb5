-- What INSERT .. ON CONFLICT .. DO UPDATE of one row makes of a table that keeps items.
use Rattle.std.proofs.Common.{◌≡◌, ◌⊎◌, inl, inr, ◌≤◌, ◌/◌, ℕ, ℤ, Bool, true, false, not, List, [], ◌∷◌, ◌++◌, map}
use Rattle.std.proofs.Common.{filter, length, Option, Some, None, Ok, Err, Result, refl, sym, ap, ap₂, ◌∙◌, subst}
use Rattle.std.proofs.Common.{Ordering, Less, is_eq, true≢false, IsPermutation, arith}
use Rattle.std.specs.List.{AllByRecursion}
use Rattle.sqlite.specs.Ops.{binary, is_true}
use Rattle.sqlite.specs.Collation.TheVariants.{Binary}
use Rattle.sqlite_sql.specs.declared.ops.BinaryOp.TheVariants.{Compare}
use Rattle.sqlite_sql.specs.declared.ops.CompareOp.TheVariants.{Eq}
use Rattle.std.specs.Cmp.{IsTotalOrder}
use Rattle.std.proofs.lemmas.Cmp.{tied_itself}
use Rattle.std.proofs.lemmas.List.{length-map}
use Rattle.std.proofs.lemmas.List.Sorted.{length_permutation}
use Rattle.sqlite.specs.declared.types.Value.{Value}
use Rattle.sqlite.specs.declared.types.Value.TheVariants.{Null, Int}
use Rattle.sqlite.specs.Order.{Row}
use Rattle.sqlite.specs.Tree.{Trees}
use Rattle.sqlite.specs.Term.{Term, col, eval_all}
use Rattle.sqlite.specs.Query.{Query, Output, output, IsAnswerAs}
use Rattle.sqlite.specs.Program.{overlay}
use Rattle.sqlite.specs.Source.TheVariants.{Values}
use Rattle.sqlite.specs.Command.TheVariants.{InsertOr}
use Rattle.sqlite.specs.Cast.{cast, cast_row}
use Rattle.sqlite.specs.Kind.TheVariants.{Integer}
use Rattle.sqlite.specs.Edit.{Edit, edit_of, left_by, next_rowid, with_rowid}
use Rattle.sqlite.specs.Rowids.TheVariants.{Given}
use Rattle.sqlite.specs.Effect.{value_rows, edit_error}
use Rattle.sqlite.specs.Rows.{Written, Task, Puts, Clears, Meets, Upserts, Judged, Tries, TriesEach, nothing, stamped}
use Rattle.sqlite.specs.Rows.{rowids_for, count_of, shown}
use Rattle.sqlite.specs.declared.error.Error.TheVariants.{SqliteFailure}
use Rattle.sqlite.specs.declared.error.ErrorCode.TheVariants.{NoRowid}
use Rattle.sqlite.specs.Does.{WritesRows}
use Rattle.sqlite.specs.declared.error.Error.{Error}
use Rattle.sqlite.proofs.Callers.{one_permutation}
use Rattle.sqlite_schema.specs.declared.command.Conflict.TheVariants.{Abort}
use Rattle.sqlite_schema.specs.declared.command.Upsert.{Upsert}
use Rattle.sqlite_rules.specs.declared.error.Refusal.{Refusal}
use Rattle.sqlite_rules.specs.Keys.{AreConflicts, conflicts}
use Rattle.sqlite_rules.specs.Edit.{Applies}
use Rattle.sqlite_rules.specs.Calls.{ids_of}
use Rattle.sqlite_rules.specs.Lists.{Has}
use Rattle.sqlite_rules.proofs.ListLemmas.{all_from, has_kept, has_filtered}
use Rattle.sqlite_rules.proofs.ProbeLemmas.{has_mapped}
use Rattle.sqlite_trees.specs.Tree.{IsAscending, rowid}
use Rattle.sqlite_value.specs.Order.{column}
use Rattle.sqlite_value.proofs.OrderLemmas.{value_cmp_total}
use Rattle.sqlite_keyed.proofs.ListLemmas.{filter-map, filter_all, ascending-filter, IsPermutation-filter}
use Rattle.sqlite_keyed.proofs.ListLemmas.{IsPermutation-same}
use Rattle.mf_store_sql.specs.Keep.{Keeps, row_with_id, same_id, put_item, KeepsWhole, AreSameValues, AreAlike}
use Rattle.mf_store_sql.proofs.AlikeLemmas.{answer_full, left_alike, has_full, has_tree, conflicts_alike}
use Rattle.mf_store_sql.specs.Scan.{eq, scan}
use Rattle.mf_store_sql.proofs.CompareLemmas.{and_true, equals_id, cast_null, cast_int, equal_is, tied_back}
use Rattle.mf_store_sql.proofs.KeepLemmas.{only, Apart, taken_rows, keeps-deleted}
use Rattle.mf_store_sql.proofs.ReadLemmas.{shows_in_any_order}
use Rattle.mf_store_sql.specs.Meanings.{IsQuiet}
use Rattle.mf_store_sql.proofs.WriteLemmas.{went, same_value, wrote, chosen, not_counted}
use Rattle.mf_store_sql.proofs.KeptLemmas.{Spares, put_kept}

-- ---- the one entry that has a key

single : {A : Type 0} (xs : List A) (x : A) → length xs ≤ 1 → Has xs x → xs ≡ x ∷ []
single [] x few h = absurd h
single (y ∷ []) x few (inl e) = ap (λ z. z ∷ []) (sym e)
single (y ∷ []) x few (inr h) = absurd h
single (y ∷ z ∷ xs) x few h = absurd (omega arith)

module _ {X : Type 0} (stored : X → Row) (cmp : X → X → Ordering) (total : IsTotalOrder cmp) (x : X)
    (full : List Row) (items : List X) (k : KeepsWhole stored cmp full items) (e : ℤ × X) (has : Has k.entries e) where
  at_most_one : (ys : List X) → IsAscending (λ a b. cmp a b ≡ Less) ys → AllByRecursion (λ y. is_eq (cmp x y) ≡ true) ys
      → length ys ≤ 1
  at_most_one [] up same = omega arith
  at_most_one (y ∷ []) up same = omega arith
  at_most_one (y ∷ z ∷ ys) up same = absurd (true≢false (sym same.1.0 ∙ ap is_eq (total.congr x y z (equal_is _ same.0)
      ∙ up.0.0)))

  only_key : is_eq (cmp x e.1) ≡ true → filter (λ (f : ℤ × X). is_eq (cmp x f.1)) k.entries ≡ e ∷ []
  only_key same =
      let q = λ (y : X). is_eq (cmp x y) in
      let all = filter (λ (f : ℤ × X). q f.1) k.entries in
      let many = length_permutation _ _ (IsPermutation-filter q _ items k.same) in
      let mapped = ap length (filter-map q (λ (f : ℤ × X). f.1) k.entries) ∙ length-map all (λ (f : ℤ × X). f.1) in
      let one = at_most_one (filter q items) (ascending-filter _ q items k.rising) (all_from _ (filter q items)
      (λ y h. (has_filtered q items y h).1)) in
      let few : length all ≤ 1 = omega (arith, many, mapped, one) in
      single all e few (has_kept (λ (f : ℤ × X). q f.1) k.entries e has same)

  -- a look-up by the rowid of an entry shows it alone
  finds_one : (at n : ℕ) (project : List Term) (given : Row) → column given n ≡ Int e.0 → (lost : Value)
      (rows : List Row) → IsAnswerAs lost (scan at (eq (col 1 0) (col 0 n) ∷ []) project []) (λ _. full) given rows
      → rows ≡ eval_all project (given ∷ row_with_id stored e ∷ []) ∷ []
  finds_one at n project given is lost rows a =
      let q = scan at (eq (col 1 0) (col 0 n) ∷ []) project [] in
      let its = λ (f : ℤ × X). same_id f.0 e.0 in
      let shown = shows_in_any_order stored cmp at (eq (col 1 0) (col 0 n) ∷ []) project [] given its (λ f. and_true _
      ∙ ap (λ v. is_true (binary (Compare Eq Binary) (Int f.0) v)) is ∙ equals_id f.0 e.0) (λ _. full) items k lost rows
      a in
      let alone = only Apart its e (ap is_eq (tied_itself value_cmp_total (Int e.0)))
      (λ f h. tied_back (Int f.0) (Int e.0) ∙ h) (λ f h. h) k.entries k.apart has in
      let ordered = one_permutation (output q (given ∷ row_with_id stored e ∷ [])) a.ordered
      (subst (λ l. IsPermutation (map (λ f. output q (given ∷ row_with_id stored f ∷ [])) l) a.ordered) alone
      shown.0) in
      shown.1 ∙ ap (map (λ (o : Output). o.1)) ordered

-- ---- what the statement does

-- ON CONFLICT (key) DO UPDATE, of the rows that the query shows
abbrev pub clause : List ℕ → Query → Upsert
clause key query = record { target = Some key; update = Some (record { lets = []; body = query }) }

module _ (t : Task) (db next : Trees) where
  -- the row is put under its rowid
  abbrev pub WasPut : Row → Type 0
  WasPut new = Applies t.schema t.keys db (edit_of db t.table [] Given 0 (new ∷ [])) next

  -- the rows that the query shows are put in place of those that have their rowids
  abbrev pub WasUpdated : Query → Row → Type 0
  WasUpdated query given = (rows : List Row) × ((lost : Value) → IsAnswerAs lost query (overlay db []) given rows)
      × Applies t.schema t.keys db (edit_of db t.table (ids_of rows) Given 1 rows) next

  abbrev pub HasMet : Query → Row → List Row → Type 0
  HasMet query new found = ((found ≡ []) × WasPut new) ⊎ ((there : Row) × Has found there
      × WasUpdated query (t.params ++ rowid there ∷ shown t.table new))

  abbrev pub Upserted : List ℕ → Query → Row → Type 0
  Upserted key query values =
      (id : ℤ) × (found : List Row) × AreConflicts (Some key) t.schema.indexes t.table (db t.table.tree)
      (Int id ∷ values) found × HasMet query (Int id ∷ values) found

module _ (t : Task) (at : ℕ) (quiet : IsQuiet t.schema t.table.tree) (uncounted : t.table.is_counted ≡ false)
    (db : Trees) where
  cleared : (new : Row) (found : List Row) (one : Written) → Clears t Abort new db found (Ok one)
      → Puts t new db (Ok one)
  cleared new [] one h = h
  cleared new (x ∷ more) one h = h

  met : (key : List ℕ) (query : Query) (new : Row) (found : List Row) (one : Written)
      → Meets t (Upserts t Abort new db []) new db (clause key query) found (Ok one)
      → HasMet t db one.trees query new found
  met key query new [] one h = inl (
    refl,
    wrote t quiet db (edit_of db t.table [] Given 0 (new ∷ [])) refl _ _ one
        (cleared new h.0 one h.2),
  )
  met key query new (there ∷ more) one h = let given = went h in
      inr (
        there,
        inl refl,
        (
          given.0,
          given.1.answer,
          wrote t quiet db (edit_of db t.table (ids_of given.0) Given 1
              given.0) refl _ _ one given.2,
        ),
      )

  judged : (clauses : List Upsert) (new : Row) (verdict : Option Refusal) (one : Written)
      → Judged t Abort clauses new db verdict (Ok one) → Upserts t Abort new db clauses (Ok one)
  judged clauses new None one h = h
  judged clauses new (Some why) one h =
      absurd (let e : ◌≡◌ {A = Result Written (Option Error)} (Ok one) (Err (Some (edit_error why))) = h in cc)

  -- INSERT .. VALUES (..) ON CONFLICT (key) DO UPDATE, of one row
  pub upserted : (terms : List Term) (width : ℕ) (values : Row) (key : List ℕ) (query : Query) (written : Written)
      → value_rows (stamped t.table t.params) width (length terms / width) terms ≡ (Null ∷ values) ∷ []
      → ((v : Value) → cast_row t.table (v ∷ values) ≡ cast Integer v ∷ values)
      → WritesRows t db (InsertOr at Abort (Values terms width) (clause key query ∷ [])) (Ok written)
      → Upserted t db written.trees key query values
  upserted terms width values key query written one same h =
      let given = went h in
      let after = went given.2 in
      let top = count_of after.0 in
      let tried = went after.2 in
      let done = tried.0 in
      let counted = went tried.2 in
      let each = subst (λ rows. TriesEach t Abort (clause key query ∷ []) rows top (nothing db) (Ok done))
      (given.1.1 ∙ one) tried.1 in
      let first = went each in
      let it = first.0 in
      let last : written.trees ≡ it.trees = ap (λ (it : Written). it.trees) (same_value counted.2)
      ∙ not_counted t uncounted done.0.trees counted.0 after.0 done.1 counted.1
      ∙ ap (λ (d : Written × ℤ). d.0.trees) (same_value first.2) in
      let id = next_rowid (db t.table.tree) in
      let new : with_rowid (rowids_for t.table top) (db t.table.tree) (cast_row t.table (Null ∷ values)) ≡ Int id
      ∷ values =
      ap₂ (λ ids r. with_rowid ids (db t.table.tree) r) (chosen t uncounted top) (same Null ∙ ap (λ v. v ∷ values)
      cast_null) in
      let went_on : Upserts t Abort (Int id ∷ values) db (clause key query ∷ []) (Ok it) =
      elim (subst (λ r. Tries t Abort (clause key query ∷ []) r db (Ok it)) new first.1) [
        | inl refused ↦ absurd (let e : ◌≡◌ {A = Result Written (Option Error)} (Ok it)
            (Err (Some (SqliteFailure NoRowid))) = refused.1 in cc)
        | inr passed ↦ judged (clause key query ∷ []) (Int id ∷ values) passed.0 it passed.2
      ] in (
        id,
        went_on.0,
        went_on.1,
        subst (λ (n : Trees). HasMet t db n query (Int id ∷ values) went_on.0) (sym last)
            (met key query (Int id ∷ values) went_on.0 it went_on.2),
      )

-- ---- the same over items

module _ {X : Type 0} (stored : X → Row) (cmp : X → X → Ordering) (total : IsTotalOrder cmp) (t : Task)
    (db next : Trees) (x : X) (items : List X) (k : Keeps stored cmp (db t.table.tree) items)
    (same : (v : Value) → cast_row t.table (v ∷ stored x) ≡ cast Integer v ∷ stored x) (key : List ℕ) (id : ℤ)
    (clash : (i : ℤ) (y : X) → conflicts (Some key) t.schema.indexes t.table (Int id ∷ stored x) (Int i ∷ stored y)
    ≡ is_eq (cmp x y)) (found : List Row)
    (are : AreConflicts (Some key) t.schema.indexes t.table (db t.table.tree) (Int id ∷ stored x) found) where
  abbrev meets : Row → Bool
  meets = conflicts (Some key) t.schema.indexes t.table (Int id ∷ stored x)

  -- the rows but the one that has the key
  abbrev others : List Row
  others = filter (λ r. not (meets r)) k.full

  meet_alike : (a b : Row) → AreSameValues a b → meets a ≡ meets b
  meet_alike = conflicts_alike (Some key) t.schema.indexes t.table (Int id ∷ stored x)

  full_are : AreConflicts (Some key) t.schema.indexes t.table k.full (Int id ∷ stored x) found
  full_are = record {
    sound = λ y h. let from = are.sound y h in let s = has_full (db t.table.tree) k.full k.alike from.0 from.1 in
        (s.0, s.1, sym (meet_alike from.0 s.0 s.2) ∙ from.2, from.3 ∙ ap (λ v. v ∷ []) (s.2 0));
    complete = λ s h clashes. let r = has_tree (db t.table.tree) k.full k.alike s h in subst (λ v. Has found (v ∷ []))
        (r.2 0) (are.complete r.0 r.1 (meet_alike r.0 s r.2 ∙ clashes));
  }

  -- an edit whose one new row is that of the item, and that leaves the others
  added : (edit : Edit) → Applies t.schema t.keys db edit next → (i : ℤ)
      → edit.news ≡ cast_row t.table (Int i ∷ stored x) ∷ [] → AreAlike (left_by db edit) others
      → Keeps stored cmp (next edit.table.tree) (put_item cmp x items)
  added edit did i news near =
      put_kept stored cmp total t.schema t.keys db next edit did x items i (news ∙ ap (λ r. r ∷ []) (same (Int i)
      ∙ ap (λ v. v ∷ stored x) (cast_int i))) others near
      (keeps-deleted cmp total stored meets (λ y. is_eq (cmp x y)) clash k.full items k.whole)

  none_met : found ≡ [] → others ≡ k.full
  none_met none = filter_all (λ r. not (meets r)) k.full (all_from (λ r. not (meets r) ≡ true) k.full
      (λ r h. go r h (meets r) refl))
    where
      go : (r : Row) → Has k.full r → (b : Bool) → meets r ≡ b → not b ≡ true
      go r h false e = refl
      go r h true e = absurd (subst (λ l. Has l (rowid r ∷ [])) none (full_are.complete r h e))

  -- with no such row, the item is put
  pub puts_kept : found ≡ [] → WasPut t db next (Int id ∷ stored x)
      → Keeps stored cmp (next t.table.tree) (put_item cmp x items) × Spares t.schema t.table.tree db next
  puts_kept none did = (
    added (edit_of db t.table [] Given 0 ((Int id ∷ stored x) ∷ [])) did id refl
        (subst (AreAlike (db t.table.tree)) (sym (none_met none)) k.alike),
    did.tables,
  )

  -- Otherwise it is put in place of the one with its key: the column n of what the update is given is the rowid of the
  -- row that is there.
  module _ (n : ℕ) (project : List Term) (nth : (v : Value) (vs : Row) → column (t.params ++ v ∷ vs) n ≡ v)
      (updates : (i : ℤ) (y : X) → is_eq (cmp x y) ≡ true
      → eval_all project ((t.params ++ Int i ∷ shown t.table (Int id ∷ stored x)) ∷ (Int i ∷ stored y) ∷ []) ≡ Int i
      ∷ Int i ∷ stored x)
      (under : (trees : Trees) → overlay trees [] t.table.tree ≡ trees t.table.tree) where
    pub updates_kept : (there : Row) → Has found there → WasUpdated t db next (scan t.table.tree (eq (col 1 0) (col 0 n)
        ∷ []) project []) (t.params ++ rowid there ∷ shown t.table (Int id ∷ stored x))
        → Keeps stored cmp (next t.table.tree) (put_item cmp x items) × Spares t.schema t.table.tree db next
    updates_kept there has (rows, read, did) =
        let from = full_are.sound there has in
        let source = has_mapped (row_with_id stored) k.whole.entries from.0 (subst (λ l. Has l from.0) k.whole.rows
        from.1) in
        let e = source.0 in
        let i = e.0 in
        let tied : is_eq (cmp x e.1) ≡ true = sym (clash i e.1) ∙ ap meets (sym source.2) ∙ from.2 in
        let its : rowid there ≡ Int i = ap rowid from.3 ∙ ap rowid source.2 in
        let given = t.params ++ Int i ∷ shown t.table (Int id ∷ stored x) in
        let q = scan t.table.tree (eq (col 1 0) (col 0 n) ∷ []) project [] in
        let seen = subst (λ v. IsAnswerAs Null q (overlay db []) (t.params ++ v ∷ shown t.table (Int id ∷ stored x))
        rows) its (read Null) in
        let whole_seen = answer_full t.table.tree (eq (col 1 0) (col 0 n) ∷ []) project [] given under db k.full
        k.alike rows seen in
        let one : rows ≡ (Int i ∷ Int i ∷ stored x) ∷ [] =
        finds_one stored cmp total x k.full items k.whole e source.1 t.table.tree n project given (nth _ _) Null rows
        whole_seen ∙ ap (λ r. r ∷ []) (updates i e.1 tied) in
        let left = taken_rows cmp total stored meets (λ y. is_eq (cmp x y)) clash k.full items k.whole (i ∷ [])
        (IsPermutation-same _ _ (ap (map (λ (f : ℤ × X). f.0)) (only_key stored cmp total x k.full items k.whole e
        source.1 tied))) in
        let edit = edit_of db t.table (i ∷ []) Given 1 ((Int i ∷ Int i ∷ stored x) ∷ []) in
        let step : Applies t.schema t.keys db edit next =
        subst (λ rs. Applies t.schema t.keys db (edit_of db t.table (ids_of rs) Given 1 rs) next) one did in (
          added edit step i refl (subst (AreAlike (left_by db edit)) left (left_alike (i ∷ []) (db t.table.tree) k.full
              k.alike)),
          step.tables,
        )
