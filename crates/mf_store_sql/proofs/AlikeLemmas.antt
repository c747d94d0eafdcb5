-- Rows that have the same value in each column cannot be told apart by SQL.
use Rattle.std.proofs.Common.{◌≡◌, inl, inr, ℕ, ℤ, zero, suc, Bool, true, false, not, ◌&&◌, ◌||◌, cond, if◌then◌else◌}
use Rattle.std.proofs.Common.{List, [], ◌∷◌, map, filter, flat_map, Option, refl, sym, ap, ap₂, ◌∙◌, subst, Less, Equal}
use Rattle.std.proofs.Common.{Greater, is_eq}
use Rattle.std.specs.List.{list_all, list_any}
use Rattle.std.specs.Ordering.{match_ordering}
use Rattle.sqlite.specs.declared.types.Value.TheVariants.{Null, Int}
use Rattle.sqlite.specs.Order.{Row, value_cmp, column}
use Rattle.sqlite.specs.Tree.{Trees}
use Rattle.sqlite.specs.Term.{Term, lit, col, op1, op2, case, eval, holds, eval_all}
use Rattle.sqlite.specs.Query.{Query, Output, output, IsAnswerAs}
use Rattle.sqlite.specs.Program.{overlay}
use Rattle.sqlite.specs.Edit.{is_taken, without_all}
use Rattle.sqlite.specs.Table.{Table}
use Rattle.sqlite_trees.specs.Tree.{rowid, has_rowid, put_row, without_rowid}
use Rattle.sqlite_sql.specs.Ops.{unary, binary, is_true}
use Rattle.sqlite_sql.specs.Query.{matches_as}
use Rattle.sqlite_value.specs.declared.keys.Key.{Key}
use Rattle.sqlite_value.specs.declared.keys.Order.{Order}
use Rattle.sqlite_value.specs.Keys.{plain, later}
use Rattle.sqlite_schema.specs.declared.schema.Index.{Index}
use Rattle.sqlite_schema.specs.Rules.{agree}
use Rattle.sqlite_rules.specs.Keys.{conflicts, shares}
use Rattle.sqlite_rules.specs.Lists.{Has}
use Rattle.mf_store_sql.specs.Keep.{AreSameValues, AreAlike}
use Rattle.mf_store_sql.specs.Scan.{scan}
use Rattle.sqlite_keyed.proofs.ListLemmas.{map-map}
use Rattle.mf_store_sql.proofs.ReadLemmas.{flat_map_if}

-- ---- what SQL computes of a row

eval_alike : (t : Term) (params a b : Row) → AreSameValues a b → eval t (params ∷ a ∷ []) ≡ eval t (params ∷ b ∷ [])
eval_alike (lit v) params a b h = refl
eval_alike (col zero at) params a b h = refl
eval_alike (col (suc zero) at) params a b h = h at
eval_alike (col (suc (suc slot)) at) params a b h = refl
eval_alike (op1 op t) params a b h = ap (unary op) (eval_alike t params a b h)
eval_alike (op2 op t u) params a b h = ap₂ (binary op) (eval_alike t params a b h) (eval_alike u params a b h)
eval_alike (case t u v) params a b h = λ i. if is_true (eval_alike t params a b h i) then eval_alike u params a b h i
    else eval_alike v params a b h i

evals_alike : (ts : List Term) (params a b : Row) → AreSameValues a b → eval_all ts (params ∷ a ∷ [])
    ≡ eval_all ts (params ∷ b
    ∷ [])
evals_alike ts params a b h = λ i. map (λ t. eval_alike t params a b h i) ts

pub hold_alike : (ts : List Term) (params a b : Row) → AreSameValues a b → list_all (holds (params ∷ a ∷ [])) ts
    ≡ list_all (holds (params ∷ b ∷ [])) ts
hold_alike ts params a b h = λ i. list_all (λ t. is_true (eval_alike t params a b h i)) ts

output_alike : (q : Query) (params a b : Row) → AreSameValues a b → output q (params ∷ a ∷ [])
    ≡ output q (params ∷ b ∷ [])
output_alike q params a b h = ap₂ (λ s t. (s, t)) (evals_alike (map (λ k. k.0) q.order) params a b h)
    (evals_alike q.project params a b h)

-- ---- lists of rows

-- what holds of no rows, and of a row more where the rows before it are alike, holds of rows that are alike
alike_by : (P : List Row → List Row → Type 0) → P [] [] → ((r s : Row) (tree full : List Row) → AreSameValues r s
    → AreAlike tree full → P tree full → P (r ∷ tree) (s ∷ full)) → (tree full : List Row) → AreAlike tree full
    → P tree full
alike_by P none more [] [] h = none
alike_by P none more [] (s ∷ full) h = absurd h
alike_by P none more (r ∷ tree) [] h = absurd h
alike_by P none more (r ∷ tree) (s ∷ full) h = more r s tree full h.0 h.1 (alike_by P none more tree full h.1)

map_alike : {Y : Type 0} (f : Row → Y) → ((a b : Row) → AreSameValues a b → f a ≡ f b) → (tree full : List Row)
    → AreAlike tree full → map f tree ≡ map f full
map_alike f same = alike_by (λ tree full. map f tree ≡ map f full) refl (λ r s tree full h all more.
    ap₂ ◌∷◌ (same r s h) more)

pub filter_alike_rows : (p : Row → Bool) → ((a b : Row) → AreSameValues a b → p a ≡ p b) → (tree full : List Row)
    → AreAlike tree full → AreAlike (filter p tree) (filter p full)
filter_alike_rows p same = alike_by (λ tree full. AreAlike (filter p tree) (filter p full)) tt (λ r s tree full h all
    more. rw (← same r s h) (elim (p r) as (λ b. AreAlike (cond b (r ∷ filter p tree) (filter p tree))
    (cond b (s ∷ filter p full) (filter p full))) [ true ↦ (h, more) | false ↦ more ]))

pub left_alike : (ids : List ℤ) (tree full : List Row) → AreAlike tree full → AreAlike (without_all tree ids)
    (without_all full ids)
left_alike [] tree full h = h
left_alike (id ∷ ids) tree full h =
    left_alike ids (without_rowid id tree) (without_rowid id full) (filter_alike_rows (λ r. not (has_rowid id r))
    (λ a b e. ap (λ v. not (is_eq (value_cmp v (Int id)))) (e 0)) tree full h)

pub put_alike : (n : Row) (tree full : List Row) → AreAlike tree full → AreAlike (put_row n tree) (put_row n full)
put_alike n = alike_by (λ tree full. AreAlike (put_row n tree) (put_row n full)) ((λ c. refl), tt)
    (λ r s tree full h all more. subst (λ v. AreAlike (put_row n (r ∷ tree))
    (match_ordering (value_cmp v (rowid n)) (s ∷ put_row n full) (n ∷ full) (n ∷ s ∷ full))) (h 0)
    (elim (value_cmp (rowid r) (rowid n)) as (λ o. AreAlike (match_ordering o (r ∷ put_row n tree) (n ∷ tree)
    (n ∷ r ∷ tree)) (match_ordering o (s ∷ put_row n full) (n ∷ full) (n ∷ s ∷ full))) [
      | Less ↦ (h, more)
      | Equal ↦ ((λ c. refl), all)
      | Greater ↦ ((λ c. refl), (h, all))
    ]))

pub taken_alike : (n : Row) (tree full : List Row) → AreAlike tree full → is_taken tree n ≡ is_taken full n
taken_alike n = alike_by (λ tree full. is_taken tree n ≡ is_taken full n) refl (λ r s tree full h all more.
    ap₂ ◌||◌ (ap (λ v. is_eq (value_cmp v (rowid n))) (h 0)) more)

pub has_tree : (tree full : List Row) → AreAlike tree full → (s : Row) → Has full s → (r : Row) × Has tree r
    × AreSameValues r s
has_tree [] [] h s here = absurd here
has_tree [] (x ∷ full) h s here = absurd h
has_tree (r ∷ tree) [] h s here = absurd h
has_tree (r ∷ tree) (x ∷ full) h s (inl is) = (r, inl refl, subst (λ y. AreSameValues r y) (sym is) h.0)
has_tree (r ∷ tree) (x ∷ full) h s (inr later) = let more =
    has_tree tree full h.1 s later in (more.0, inr more.1, more.2)

pub has_full : (tree full : List Row) → AreAlike tree full → (r : Row) → Has tree r → (s : Row) × Has full s
    × AreSameValues r s
has_full tree full h r here =
    let back = alike_by (λ tree full. AreAlike full tree) tt (λ r s tree full h all more. ((λ c. sym (h c)), more)) tree
    full h in
    let it = has_tree full tree back r here in
    (it.0, it.1, λ c. sym (it.2 c))

-- ---- what a query shows

module _ (at : ℕ) (tests project : List Term) (order : List (Term × Key)) (params : Row) where
  abbrev q : Query
  q = scan at tests project order

  abbrev p : Row → Bool
  p r = list_all (holds (params ∷ r ∷ [])) tests

  abbrev outs : List Row → List Output
  outs rows = map (λ r. output q (params ∷ r ∷ [])) (filter p rows)

  outs_are : (db : Trees) → map (output q) (flat_map (λ r. cond (p r) ((params ∷ r ∷ []) ∷ []) []) (db at))
      ≡ outs (db at)
  outs_are db = ap (map (output q)) (flat_map_if p (λ r. params ∷ r ∷ []) (db at)) ∙ map-map (output q) (λ r. params ∷ r
      ∷ []) (filter p (db at))

  -- an answer that a statement reads is one over the rows with all their columns
  pub answer_full : ((trees : Trees) → overlay trees [] at ≡ trees at) → (db : Trees) (full : List Row)
      → AreAlike (db at) full → (rows : List Row) → IsAnswerAs Null q (overlay db []) params rows
      → IsAnswerAs Null q (λ _. full) params rows
  answer_full under db full h rows a =
      let near = subst (λ t. AreAlike t full) (sym (under db)) h in
      record {
        staged = matches_as Null (λ _. full) tests (q.from) (params ∷ []);
        grouped = refl;
        kept = a.kept;
        distinct = a.distinct ∙ ap (map (output q)) a.grouped ∙ outs_are (overlay db [])
            ∙ map_alike (λ r. output q (params ∷ r ∷ [])) (output_alike q params) _ _
            (filter_alike_rows p (hold_alike tests params) _ full near) ∙ sym (outs_are (λ _. full));
        ordered = a.ordered;
        same = a.same;
        sorted = a.sorted;
        shown = a.shown;
      }

-- ---- rows that clash

pub agree_alike : (o : Order) (ps : List ℕ) (a b : Row) (qs : List ℕ) (c : Row) → AreSameValues a b → agree o ps a qs c
    ≡ agree o ps b qs c
agree_alike o [] a b [] c h = refl
agree_alike o [] a b (q ∷ qs) c h = refl
agree_alike o (p ∷ ps) a b [] c h = refl
agree_alike o (p ∷ ps) a b (q ∷ qs) c h = ap₂ ◌&&◌ (ap (λ v. Rattle.sqlite_schema.specs.Rules.equal
    (Rattle.sqlite_value.specs.Keys.first_key o).collation v (column c q)) (h p)) (agree_alike (later o) ps a b qs c h)

shares_alike : (target : Option (List ℕ)) (table : Table) (new a b : Row) (i : Index) → AreSameValues a b
    → shares target table new a i ≡ shares target table new b i
shares_alike target table new a b i h =
    ap (λ x. Rattle.sqlite_schema.specs.Rules.guards i table && Rattle.sqlite_rules.specs.Keys.aims target i.columns
    && x) (agree_alike i.order i.columns a b i.columns new h)

pub conflicts_alike : (target : Option (List ℕ)) (indexes : List Index) (table : Table) (new a b : Row)
    → AreSameValues a b
    → conflicts target indexes table new a ≡ conflicts target indexes table new b
conflicts_alike target indexes table new a b h =
    ap₂ (λ x y. (Rattle.sqlite_rules.specs.Keys.aims target (0 ∷ []) && x) || y)
    (agree_alike plain (0 ∷ []) a b (0 ∷ []) new h) (λ i. list_any (λ j. shares_alike target table
    new a b j h i) indexes)
