-- What the text that puts a line at the end of a numbered table does.
use Rattle.std.proofs.Common.{◌≡◌, ◌≢◌, ◌⊎◌, inl, inr, ℕ, ℤ, suc, pos, ◌<ℤ◌, Bool, true, false, ◌&&◌, ◌==◌, cond}
use Rattle.std.proofs.Common.{List, [], ◌∷◌, ◌++◌, map, filter, length, min, fold, Ok, Err}
use Rattle.std.proofs.Common.{IsTrue, refl, sym, ap, ap₂, ◌∙◌, subst, arith, int_cmp, is_ge, IsPermutation}
use Rattle.std.specs.List.{AllByRecursion, list_all}
use Rattle.std.proofs.lemmas.Bool.Decides.{nat_tests}
use Rattle.std.proofs.lemmas.Int.{ints}
use Rattle.std.proofs.lemmas.List.{append-nil, length-map, nil_from_length}
use Rattle.std.proofs.lemmas.List.Sorted.{length_permutation}
use Rattle.sqlite.specs.declared.types.Value.TheVariants.{Null, Int}
use Rattle.sqlite.specs.Cast.{cast_row}
use Rattle.sqlite.specs.Collation.TheVariants.{Binary}
use Rattle.sqlite.specs.Does.{WritesRows}
use Rattle.sqlite.specs.Edit.{edit_of, put_all}
use Rattle.sqlite.specs.Ops.{unary, binary, is_true}
use Rattle.sqlite.specs.Order.{Row, value_cmp}
use Rattle.sqlite.specs.Program.{overlay}
use Rattle.sqlite.specs.Query.{Query, Output, output, inner, end, IsAnswerAs}
use Rattle.sqlite.specs.Rowids.TheVariants.{Chosen}
use Rattle.sqlite.specs.Rows.{Written, Task, Sourced, higher, stamped, rowids_for, count_of}
use Rattle.sqlite.specs.Schema.{Schema}
use Rattle.sqlite.specs.Source.{Source}
use Rattle.sqlite.specs.Source.TheVariants.{Query as Asked}
use Rattle.sqlite.specs.Effect.{Database}
use Rattle.sqlite.specs.State.{State, Executes, ExecutesInside}
use Rattle.sqlite.specs.declared.error.Error.{Error}
use Rattle.sqlite.specs.Table.{Table}
use Rattle.sqlite.specs.Term.{Term, Env, col, op1, holds, eval_all}
use Rattle.sqlite.specs.Tree.{Trees}
use Rattle.sqlite.proofs.Callers.{one_permutation}
use Rattle.sqlite_schema.specs.declared.command.Command.TheVariants.{Insert}
use Rattle.sqlite_sql.specs.Query.{matches_as}
use Rattle.sqlite_sql.specs.declared.ops.BinaryOp.TheVariants.{Compare}
use Rattle.sqlite_sql.specs.declared.ops.CompareOp.TheVariants.{Ge}
use Rattle.sqlite_sql.specs.declared.ops.UnaryOp.TheVariants.{Not}
use Rattle.sqlite_rules.specs.declared.error.Rowids.{Rowids}
use Rattle.sqlite_rules.specs.Edit.{Applies}
use Rattle.sqlite_trees.specs.Tree.{put_row}
use Rattle.sqlite_value.proofs.OrderLemmas.{value_cmp-Int}
use Rattle.sqlite_keyed.proofs.ListLemmas.{all_of, all_weaker}
use Rattle.mf_store_sql.specs.Keep.{AreAlike}
use Rattle.mf_store_sql.specs.Meanings.{IsQuiet}
use Rattle.mf_store_sql.specs.Numbered.{Numbered, numbered_table, append_text, numbered_row, AreBelow, Filed, id_of}
use Rattle.mf_store_sql.specs.Numbered.{values_in, KeepsLines}
use Rattle.mf_store_sql.specs.NumberedMeanings.{number_from, put_terms, once_if_last, IsNumbered, IsAppended}
use Rattle.mf_store_sql.specs.NumberedMeanings.{AreOfFiled}
use Rattle.mf_store_sql.specs.NumberedMeanings.{IsLeft, AppendsLine, LeavesLines}
use Rattle.mf_store_sql.specs.Rows.{AreKeepable}
use Rattle.mf_store_sql.proofs.AlikeLemmas.{hold_alike, filter_alike_rows}
use Rattle.mf_store_sql.proofs.ColumnLemmas.{columns_at, columns_later, all_columns, reads_parameters, as_many}
use Rattle.mf_store_sql.proofs.ColumnLemmas.{all_kept}
use Rattle.mf_store_sql.proofs.CompareLemmas.{truth_back, and_true, cast_int, cast_null}
use Rattle.mf_store_sql.proofs.NumberedLemmas.{keeps_last}
use Rattle.mf_store_sql.proofs.ReadLemmas.{flat_map_if}
use Rattle.mf_store_sql.proofs.WriteLemmas.{went, same_value, edited_by, chosen, not_counted, opened, task}

-- ---- the row that is to be put: none where a number is not below

min_one : (n : ℕ) → min 1 (suc n) ≡ 1
min_one n = omega arith

-- one row and no other is asked for, by how many there are
abbrev counted_env : Row → ℕ → Env
counted_env params n = params ∷ (Int (pos (min 1 n)) ∷ []) ∷ []

abbrev goes : Row → ℕ → Bool
goes params n = list_all (holds (counted_env params n)) (op1 Not (col 1 0) ∷ [])

goes_first : (params : Row) → goes params 0 ≡ true
unfolding unary
goes_first params = refl

goes_never : (params : Row) (n : ℕ) → goes params (suc n) ≡ false
unfolding unary
goes_never params n = ap (λ k. is_true (unary Not (Int (pos k))) && true) (min_one n)

module _ (tree : ℕ) (terms : List Term) (params : Row) (db : Trees) where
  -- the row has the number of the first parameter, or one above it
  abbrev is_from : Row → Bool
  is_from r = list_all (holds (params ∷ r ∷ [])) (number_from ∷ [])

  abbrev q : Query
  q = once_if_last tree terms

  abbrev Given : List Row → Type 0
  Given rows = (rows ≡ []) ⊎ ((n : ℕ) × (rows ≡ eval_all terms (counted_env params n) ∷ [])
      × (filter is_from (db tree) ≡ []))

  gives : (rows : List Row) → IsAnswerAs Null q db params rows → Given rows
  gives rows a = go (filter is_from (db tree)) refl
    where
      many : length (matches_as Null db (number_from ∷ []) (inner tree end) (params ∷ []))
          ≡ length (filter is_from (db tree))
      many = ap length (flat_map_if is_from (λ r. params ∷ r ∷ []) (db tree)) ∙ length-map _ _

      staged : a.staged ≡ cond (goes params (length (filter is_from (db tree))))
          (counted_env params (length (filter is_from (db tree))) ∷ []) []
      staged = a.grouped ∙ ap (λ n. cond (goes params n) (counted_env params n ∷ []) []) many

      go : (found : List Row) → filter is_from (db tree) ≡ found → Given rows
      go [] e =
          let one : a.staged ≡ counted_env params 0 ∷ [] =
          staged ∙ ap (λ n. cond (goes params n) (counted_env params n ∷ []) []) (ap length e)
          ∙ ap (λ b. cond b (counted_env params 0 ∷ []) []) (goes_first params) in
          let ordered = one_permutation (output q (counted_env params 0)) a.ordered
          (subst (λ l. IsPermutation l a.ordered) (a.distinct ∙ ap (map (output q)) one) a.same) in
          inr (0, a.shown ∙ ap (map (λ (o : Output). o.1)) ordered, e)
      go (r ∷ found) e =
          let none : a.staged ≡ [] =
          staged ∙ ap (λ n. cond (goes params n) (counted_env params n ∷ []) []) (ap length e)
          ∙ ap (λ b. cond b (counted_env params (suc (length found)) ∷ []) []) (goes_never params (length found)) in
          let kept : a.kept ≡ [] = a.distinct ∙ ap (map (output q)) none in
          let ordered : a.ordered ≡ [] = nil_from_length a.ordered (length_permutation _ _ a.same
          ∙ ap length kept) in
          inl (a.shown ∙ ap (map (λ (o : Output). o.1)) ordered)

-- ---- then all numbers are below

ge_values : (a b : ℤ) → is_true (binary (Compare Ge Binary) (Int a) (Int b)) ≡ is_ge (value_cmp (Int a) (Int b))
unfolding binary
ge_values a b = truth_back _

below_is : (a b : ℤ) → is_ge (int_cmp a b) ≡ false → a <ℤ b
below_is a b h = grind (arith, ints)

nothing_alike : (full : List Row) → AreAlike [] full → full ≡ []
nothing_alike [] h = refl
nothing_alike (r ∷ full) h = absurd h

module _ (n : ℤ) (values : Row) where
  abbrev its : Row → Bool
  its r = list_all (holds ((Int n ∷ values) ∷ r ∷ [])) (number_from ∷ [])

  its_is : (l : Filed) → its (numbered_row id_of values_in l) ≡ is_ge (int_cmp (id_of l) n)
  its_is l = and_true _ ∙ ge_values (id_of l) n ∙ ap is_ge (value_cmp-Int (id_of l) n)

  all_below : (lines : List Filed) → filter its (map (numbered_row id_of values_in) lines) ≡ []
      → AreBelow id_of n lines
  all_below [] none = tt
  all_below (l ∷ lines) none = go (its (numbered_row id_of values_in l)) refl none (all_below lines)
    where
      rows : List Row
      rows = filter its (map (numbered_row id_of values_in) lines)

      go : (b : Bool) → its (numbered_row id_of values_in l) ≡ b
          → cond b (numbered_row id_of values_in l ∷ rows) rows ≡ []
          → (rows ≡ [] → AreBelow id_of n lines) → AreBelow id_of n (l ∷ lines)
      go true e found more = absurd (cc)
      go false e found more = (below_is (id_of l) n (sym (its_is l) ∙ e), more found)

  all_below_in : (tree : List Row) (lines : List Filed) → AreAlike tree (map (numbered_row id_of values_in) lines)
      → filter its tree ≡ [] → AreBelow id_of n lines
  all_below_in tree lines alike none =
      all_below lines (nothing_alike _ (subst (λ l. AreAlike l (filter its (map (numbered_row id_of values_in)
      lines))) none (filter_alike_rows its (hold_alike (number_from ∷ []) (Int n ∷ values)) tree _ alike)))

-- ---- what the statement does

module _ (t : Task) (at : ℕ) (quiet : IsQuiet t.schema t.table.tree) (uncounted : t.table.is_counted ≡ false)
    (db : Trees) where
  -- INSERT of what a source gives
  pub inserted_from : (from : Source) (written : Written) → WritesRows t db (Insert at from) (Ok written)
      → (rows : List Row) × Sourced t.limit (record { schema = t.schema; trees = db }) (stamped t.table t.params) from
      (Ok rows) × (written.rows ≡ (edit_of db t.table [] Chosen 0 rows).news)
      × Applies t.schema t.keys db (edit_of db t.table [] Chosen 0 rows) written.trees
  inserted_from from written h =
      let given = went h in
      let after = went given.2 in
      let top = count_of after.0 in
      let edit = edit_of db t.table [] (rowids_for t.table top) 0 given.0 in
      let put = went after.2 in
      let counted = went put.2 in
      let ends = same_value counted.2 in
      let trees : written.trees ≡ put.0 = ap (λ (it : Written). it.trees) ends
      ∙ not_counted t uncounted put.0 counted.0 after.0 (fold higher top edit.news) counted.1 in
      let news = λ (ids : Rowids). (edit_of db t.table [] ids 0 given.0).news in (
        given.0,
        given.1,
        ap (λ (it : Written). it.rows) ends ∙ ap news (chosen t uncounted top),
        subst (λ (p : Rowids × Trees). Applies t.schema t.keys db (edit_of db t.table [] p.0 0 given.0) p.1)
            {x = (rowids_for t.table top, put.0)} {y = (Chosen, written.trees)}
            (λ i. (chosen t uncounted top i, sym trees i)) (edited_by t quiet db edit put.0 refl put.1),
      )

same_tree : (a b : ℕ) → (a == b) ≡ true → a ≡ b
same_tree a b h = grind (arith, nat_tests)

other_tree : (a b : ℕ) → (a == b) ≡ false → a ≢ b
other_tree a b h = grind (arith, nat_tests)

-- a table is as it was, and so are the others
all_left : (tree : ℕ) (old new : Trees) (ts : List Table) → new tree ≡ old tree
    → AllByRecursion (λ (t : Table). t.tree ≢ tree → new t.tree ≡ old t.tree) ts
    → AllByRecursion (λ (t : Table). new t.tree ≡ old t.tree) ts
all_left tree old new ts same = all_weaker (λ (t : Table). t.tree ≢ tree → new t.tree ≡ old t.tree)
    (λ (t : Table). new t.tree ≡ old t.tree) (λ t others. go t others (t.tree == tree) refl) ts
  where
    go : (t : Table) → (t.tree ≢ tree → new t.tree ≡ old t.tree) → (b : Bool) → (t.tree == tree) ≡ b
        → new t.tree ≡ old t.tree
    go t others true e = let is = same_tree t.tree tree e in ap new is ∙ same ∙ sym (ap old is)
    go t others false e = others (other_tree t.tree tree e)

module _ (schema : Schema) (place tree : ℕ) (t : Numbered) (k : IsNumbered schema place tree t) (params : Row)
    (old new : State) (count : ℕ) (has : old.now.schema ≡ schema)
    (ran : Executes (append_text t) params old new (Ok count)) where
  abbrev table : Table
  table = numbered_table tree t

  abbrev terms : List Term
  terms = put_terms (length t.columns)

  abbrev source : Source
  source = Asked (record { lets = []; body = once_if_last tree terms })

  abbrev edit_with : List Row → Rattle.sqlite.specs.Edit.Edit
  edit_with rows = edit_of old.now.trees table [] Chosen 0 rows

  -- the rows that were put, if any, and what it made of the tables
  record WasRun : Type 0 where
    rows : List Row
    given : Given tree terms params old.now.trees rows
    count_is : count ≡ length (edit_with rows).news
    keys : Rattle.sqlite_schema.specs.declared.schema.Keys.Keys
    applies : Applies schema keys old.now.trees (edit_with rows) new.now.trees
    schema_is : new.now.schema ≡ schema
    sound : Rattle.sqlite_catalog.specs.Listing.IsSound schema new.now.trees

  was_run : WasRun
  was_run =
      let sql = append_text t in
      let db = old.now.trees in
      let its = task schema place table k.there sql params old new has k.appends.plain count in
      let it = opened schema place table k.there sql params old new has k.appends.plain count _ k.appends.is ran
      (λ w. w) (λ out d. d) in
      let did = inserted_from its place k.quiet refl db source _ it.2 in
      let q = once_if_last tree terms in
      let answer = subst (λ ps. IsAnswerAs Null q (overlay db []) ps did.0) (append-nil params) (did.1.answer Null) in
      record {
        rows = did.0;
        given = subst (λ rs. (did.0 ≡ []) ⊎ ((n : ℕ) × (did.0 ≡ eval_all terms (counted_env params n) ∷ [])
            × (filter (is_from tree terms params db) rs ≡ []))) (k.under db)
            (gives tree terms params (overlay db []) did.0 answer);
        count_is = it.5 ∙ ap length did.2;
        keys = its.keys;
        applies = did.3;
        schema_is = it.3;
        sound = it.4;
      }

  -- where no row was put, no table is changed
  pub leaves : count ≢ 1 → IsLeft schema old.now new.now
  leaves other = go was_run.given
    where
      w : WasRun
      w = was_run

      go : Given tree terms params old.now.trees w.rows → IsLeft schema old.now new.now
      go (inl none) =
          let step : Applies schema w.keys old.now.trees (edit_with []) new.now.trees =
          subst (λ rows. Applies schema w.keys old.now.trees (edit_with rows) new.now.trees) none w.applies in record {
            schema_is = w.schema_is;
            same = all_left tree old.now.trees new.now.trees schema.tables step.rows step.tables;
          }
      go (inr one) = absurd (other (w.count_is ∙ ap (λ rows. length (edit_with rows).news) one.1))

  module _ (line : Filed) (lines : List Filed) (is : AreOfFiled params line)
      (fit : AreKeepable t.columns (values_in line)) (keeps : KeepsLines t (old.now.trees tree) lines) where
    abbrev row : Row
    row = numbered_row id_of values_in line

    values_put : (n : ℕ) → eval_all terms (counted_env params n) ≡ row
    values_put n = subst (λ ps. eval_all terms (counted_env ps n) ≡ row) (sym is)
        (ap (λ vs. Int (id_of line) ∷ Null ∷ vs)
        (reads_parameters ((Int (pos (min 1 n)) ∷ []) ∷ []) 1 (length t.columns) (Int (id_of line)
        ∷ values_in line)
        ∙ columns_later 0 (length t.columns) (Int (id_of line)) (values_in line)
        ∙ ap (λ m. columns_at 0 m (values_in line)) (sym (as_many t.columns (values_in line) fit))
        ∙ all_columns (values_in line)))

    cast_is : cast_row table row ≡ row
    cast_is = ap₂ ◌∷◌ (cast_int (id_of line)) (ap₂ ◌∷◌ cast_null (all_kept t.columns (values_in line) fit))

    -- otherwise the line stands at the end
    pub appends : count ≡ 1 → IsAppended schema tree t line lines old.now new.now
    appends once = go was_run.given
      where
        w : WasRun
        w = was_run

        go : Given tree terms params old.now.trees w.rows → IsAppended schema tree t line lines old.now new.now
        go (inl none) = absurd (let e : 0 ≡ 1 = sym (w.count_is ∙ ap (λ rows. length (edit_with rows).news) none)
            ∙ once in omega arith)
        go (inr (n, one, none)) =
            let put : w.rows ≡ row ∷ [] = one ∙ ap (λ r. r ∷ []) (values_put n) in
            let step : Applies schema w.keys old.now.trees (edit_with (row ∷ [])) new.now.trees =
            subst (λ rows. Applies schema w.keys old.now.trees (edit_with rows) new.now.trees) put w.applies in
            let rows : new.now.trees tree ≡ put_row row (old.now.trees tree) = step.rows
            ∙ ap (λ r. put_all (old.now.trees tree) (Rattle.sqlite.specs.Edit.with_rowid Chosen (old.now.trees tree) r
            ∷ [])) cast_is in
            let below : AreBelow id_of (id_of line) lines =
            all_below_in (id_of line) (values_in line) (old.now.trees tree) lines (keeps.kept).rows
            (subst (λ ps. filter (is_from tree terms ps old.now.trees) (old.now.trees tree) ≡ []) is none) in record {
              below = below;
              schema_is = w.schema_is;
              sound = w.sound;
              keeps = subst (λ rs. KeepsLines t rs (lines ++ line ∷ [])) (sym rows)
                  (keeps_last t line (old.now.trees tree) lines below fit keeps);
              others = step.tables;
            }

-- ---- the same of whatever table

pub appends_line : (sql : List ℕ) (params : Row) (old new : State) (count : ℕ) → count ≡ 1 → new.in_transaction ≡ true
    → IsTrue old.is_open → Executes sql params old new (Ok count) → AppendsLine sql params old new
appends_line sql params old new count once mode was_open ran = record {
  mode = mode;
  was_open = was_open;
  appended = λ schema place tree t line lines is of k fit has keeps. appends schema place tree t k params old new count
      has (subst (λ s. Executes s params old new (Ok count)) is ran) line lines of fit keeps once;
}

-- a statement that put no row
pub leaves_lines : (sql : List ℕ) (params : Row) (old new : State) (count : ℕ) → count ≢ 1
    → Executes sql params old new (Ok count) → LeavesLines sql params old new
leaves_lines sql params old new count other ran = inr (λ schema place tree t is k has. leaves schema place tree t k
    params old new count has (subst (λ s. Executes s params old new (Ok count)) is ran) other)

same_left : (schema : Schema) (old new : Database) → new ≡ old → old.schema ≡ schema → IsLeft schema old new
same_left schema old new same has = record {
  schema_is = ap (λ (d : Database). d.schema) same ∙ has;
  same = all_of (λ (t : Table). new.trees t.tree ≡ old.trees t.tree) (λ t. ap (λ (d : Database). d.trees t.tree) same)
      schema.tables;
}

-- one that was refused, or failed
pub refused_leaves : (sql : List ℕ) (params : Row) (old new : State) (e : Error)
    → ExecutesInside 0 sql params old new (Err e) → LeavesLines sql params old new
refused_leaves sql params old new e (inl (ran, inl unchanged)) = inr (λ schema place tree t is k has. same_left schema
    old.now new.now unchanged.0.now_is has)
refused_leaves sql params old new e (inl (ran, inr undone)) = inl undone
refused_leaves sql params old new e (inr ended) = inr (λ schema place tree t is k has. same_left schema old.now new.now
    (ended.2.0).now_is has)
