-- What a query over one table shows, where the table keeps items.
use Rattle.std.proofs.Common.{◌≡◌, ℕ, ℤ, Bool, true, false, cond, List, [], ◌∷◌, ◌++◌, map, filter, flat_map, refl, sym}
use Rattle.std.proofs.Common.{ap, ◌∙◌, subst, Ordering, Less, IsPermutation}
use Rattle.std.specs.List.{list_all}
use Rattle.std.proofs.lemmas.List.Sorted.{IsPermutation-map, IsPermutation-sym, IsPermutation-trans}
use Rattle.sqlite.specs.declared.types.Value.{Value}
use Rattle.sqlite.specs.declared.types.Value.TheVariants.{Int}
use Rattle.sqlite.specs.Order.{Row}
use Rattle.sqlite.specs.Tree.{Trees}
use Rattle.sqlite.specs.Term.{Term, Env, holds}
use Rattle.sqlite.specs.Query.{Query, Output, output, output_cmp, IsAnswerAs}
use Rattle.sqlite_value.specs.declared.keys.Key.{Key}
use Rattle.sqlite_sql.proofs.QueryLemmas.{output_cmp_total}
use Rattle.sqlite_trees.specs.Tree.{IsAscending}
use Rattle.sqlite_keyed.proofs.ListLemmas.{map-map, filter-map, IsPermutation-filter, map_same, ascending-map}
use Rattle.sqlite_keyed.proofs.ListLemmas.{filter_same}
use Rattle.sqlite_keyed.proofs.SortLemmas.{sorted_unique}
use Rattle.mf_store_sql.specs.Keep.{row_with_id, KeepsWhole}
use Rattle.mf_store_sql.specs.Scan.{scan}

pub flat_map_if : {A B : Type 0} (p : A → Bool) (f : A → B) (xs : List A) → flat_map (λ x. cond (p x) (f x ∷ []) []) xs
    ≡ map f (filter p xs)
flat_map_if p f [] = refl
flat_map_if p f (x ∷ xs) = elim (p x) as (λ b. cond b (f x ∷ []) [] ++ flat_map (λ y. cond (p y) (f y ∷ []) []) xs
    ≡ map f (cond b (x ∷ filter p xs) (filter p xs)))
    [ true ↦ ap (λ l. f x ∷ l) (flat_map_if p f xs) | false ↦ flat_map_if p f xs ]

module _ {X : Type 0} (stored : X → Row) (cmp : X → X → Ordering) (at : ℕ) (tests project : List Term)
    (order : List (Term × Key)) (params : Row) where
  abbrev q : Query
  q = scan at tests project order

  abbrev env : ℤ × X → Env
  env e = params ∷ row_with_id stored e ∷ []

  -- the outputs come from the entries that pass
  pub shows_in_any_order : (test : ℤ × X → Bool) → ((e : ℤ × X) → list_all (holds (env e)) tests ≡ test e)
      → (db : Trees) (items : List X) (k : KeepsWhole stored cmp (db at) items) (lost : Value)
      (rows : List Row) (a : IsAnswerAs lost q db params rows)
      → IsPermutation (map (λ e. output q (env e)) (filter test k.entries)) a.ordered
      × (rows ≡ map (λ (o : Output). o.1) a.ordered)
  shows_in_any_order test tested db items k lost rows a =
      let p = λ (r : Row). list_all (holds (params ∷ r ∷ [])) tests in
      let kept : a.kept ≡ map (λ e. output q (env e)) (filter test k.entries) =
      a.distinct ∙ ap (map (output q)) (a.grouped ∙ flat_map_if p (λ r. params ∷ r ∷ []) (db at))
      ∙ map-map (output q) (λ r. params ∷ r ∷ []) _
      ∙ ap (λ l. map (λ r. output q (params ∷ r ∷ [])) (filter p l)) k.rows
      ∙ ap (map (λ r. output q (params ∷ r ∷ []))) (filter-map _ (row_with_id stored) k.entries)
      ∙ map-map (λ r. output q (params ∷ r ∷ [])) (row_with_id stored) _
      ∙ ap (map (λ e. output q (env e))) (filter_same (λ e. p (row_with_id stored e)) test tested k.entries) in
      (subst (λ l. IsPermutation l a.ordered) kept a.same, a.shown)

module _ {X : Type 0} (stored : X → Row) (cmp : X → X → Ordering) (at : ℕ) (tests project : List Term)
    (order : List (Term × Key)) (params : Row) (test : X → Bool)
    (tested : (id : ℤ) (x : X) → list_all (holds (params ∷ (Int id ∷ stored x) ∷ [])) tests ≡ test x)
    (db : Trees) (items : List X) (k : KeepsWhole stored cmp (db at) items) (lost : Value) (rows : List Row)
    (a : IsAnswerAs lost (scan at tests project order) db params rows) where
  abbrev out : ℤ × X → Output
  out e = output (scan at tests project order) (params ∷ row_with_id stored e ∷ [])

  abbrev passed : List (ℤ × X)
  passed = filter (λ (e : ℤ × X). test e.1) k.entries

  found : IsPermutation (map out passed) a.ordered × (rows ≡ map (λ (o : Output). o.1) a.ordered)
  found = shows_in_any_order stored cmp at tests project order params (λ e. test e.1) (λ e. tested e.0 e.1) db items k
      lost rows a

  -- the rowids that a DELETE is given
  pub finds_ids : (id_of : Output → ℤ) → ((e : ℤ × X) → id_of (out e) ≡ e.0) → (ids : List ℤ)
      → ((ordered : List Output) → rows ≡ map (λ (o : Output). o.1) ordered → ids ≡ map id_of ordered)
      → IsPermutation (map (λ (e : ℤ × X). e.0) passed) ids
  finds_ids id_of is ids from =
      let left = map-map id_of out passed ∙ map_same _ _ is passed in
      subst (IsPermutation (map (λ (e : ℤ × X). e.0) passed)) (sym (from a.ordered found.1))
      (subst (λ l. IsPermutation l (map id_of a.ordered)) left (IsPermutation-map id_of _ _ found.0))

  -- in the order of the key, the rows are those of the items that pass
  pub shows : (sort show : X → Row) → ((id : ℤ) (x : X) → out (id, x) ≡ (sort x, show x))
      → IsAscending (λ a b. output_cmp (scan at tests project order) (sort a, show a) (sort b, show b) ≡ Less)
      (filter test items) → rows ≡ map show (filter test items)
  shows sort show is rising =
      let q = scan at tests project order in
      let f : X → Output = λ x. (sort x, show x) in
      let each : map out passed ≡ map f (filter test (map (λ (e : ℤ × X). e.1) k.entries)) =
      map_same _ (λ (e : ℤ × X). f e.1) (λ e. is e.0 e.1) _ ∙ sym (map-map f (λ (e : ℤ × X). e.1) _)
      ∙ sym (ap (map f) (filter-map test (λ (e : ℤ × X). e.1) k.entries)) in
      let same = IsPermutation-trans _ _ _ (IsPermutation-sym _ _ (IsPermutation-map f _ _
      (IsPermutation-filter test _ items k.same))) (subst (λ l. IsPermutation l a.ordered) each found.0) in
      let all = sorted_unique (output_cmp q) (output_cmp_total q) (map f (filter test items)) a.ordered
      (ascending-map _ f (filter test items) rising) same a.sorted in
      found.1 ∙ ap (map (λ (o : Output). o.1)) all ∙ map-map (λ (o : Output). o.1) f (filter test items)
