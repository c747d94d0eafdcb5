-- A table that keeps numbered items: what it keeps of a row more at the end, and what queries show of it.
use Rattle.std.proofs.Common.{◌≡◌, ℕ, ℤ, ◌<ℤ◌, Bool, List, [], ◌∷◌, ◌++◌, map, filter}
use Rattle.std.proofs.Common.{refl, sym, ap, ◌∙◌, subst, Less}
use Rattle.std.proofs.Common.{IsPermutation, reverse}
use Rattle.std.specs.List.{AllByRecursion, list_all}
use Rattle.std.proofs.lemmas.List.{reverse-append}
use Rattle.std.proofs.lemmas.List.Sorted.{IsPermutation-map, IsPermutation-sym, IsPermutation-trans}
use Rattle.sqlite.specs.declared.types.Value.{Value}
use Rattle.sqlite.specs.declared.types.Value.TheVariants.{Null, Int}
use Rattle.sqlite.specs.Order.{Row, value_cmp}
use Rattle.sqlite.specs.Query.{Query, Output, output, output_cmp, IsAnswerAs}
use Rattle.sqlite.specs.Term.{Term, holds}
use Rattle.sqlite_value.proofs.OrderLemmas.{value_cmp-Int}
use Rattle.sqlite_value.specs.declared.keys.Key.{Key}
use Rattle.sqlite_sql.proofs.QueryLemmas.{output_cmp_total}
use Rattle.sqlite_trees.specs.Tree.{IsAscending, put_row}
use Rattle.sqlite_keyed.proofs.KeyedLemmas.{Less-from_lt}
use Rattle.sqlite_keyed.proofs.ListLemmas.{map-map, filter-map, all_weaker, all-append, all_of, all_map, all_unmap}
use Rattle.sqlite_keyed.proofs.ListLemmas.{ascending-map, ascending_from_map, ascending-append}
use Rattle.sqlite_keyed.proofs.SortLemmas.{sorted_unique}
use Rattle.mf_store_sql.specs.Keep.{AreAlike}
use Rattle.mf_store_sql.specs.Numbered.{Numbered, numbered_row, KeepsById, AreBelow, Filed, id_of, values_in}
use Rattle.mf_store_sql.specs.Numbered.{filed_as, KeepsLines}
use Rattle.mf_store_sql.specs.Rows.{AreKeepable}
use Rattle.mf_store_sql.specs.Scan.{scan}
use Rattle.mf_store_sql.proofs.AlikeLemmas.{put_alike}
use Rattle.mf_store_sql.proofs.ReadLemmas.{flat_map_if}

-- ---- items, and their lines

module _ {X : Type 0} (number : X → ℤ) (stored : X → Row) where
  lines_kept : (items : List X) → map (numbered_row id_of values_in) (map (filed_as number stored) items)
      ≡ map (numbered_row number stored) items
  lines_kept items = map-map (numbered_row id_of values_in) (filed_as number stored) items

  -- what a table keeps of items, it keeps of their lines
  pub as_lines : (t : Numbered) (tree : List Row) (items : List X) → ((x : X) → AreKeepable t.columns (stored x))
      → KeepsById number stored tree items → KeepsLines t tree (map (filed_as number stored) items)
  as_lines t tree items fit k = record {
    kept = record {
      rows = subst (AreAlike tree) (sym (lines_kept items)) k.rows;
      rising = ascending-map (λ (a b : Filed). id_of a <ℤ id_of b) (filed_as number stored) items k.rising;
    };
    fitting = all_map (λ line. AreKeepable t.columns (values_in line)) (filed_as number stored) items
        (all_of (λ x. AreKeepable t.columns (stored x)) fit items);
  }

  -- and back
  pub of_lines : (t : Numbered) (tree : List Row) (items : List X)
      → KeepsLines t tree (map (filed_as number stored) items) → KeepsById number stored tree items
  of_lines t tree items k = record {
    rows = subst (AreAlike tree) (lines_kept items) (k.kept).rows;
    rising = ascending_from_map (λ (a b : Filed). id_of a <ℤ id_of b) (filed_as number stored) items
        (k.kept).rising;
  }

-- ---- a line at the end

pub below_int : (a b : ℤ) → a <ℤ b → value_cmp (Int a) (Int b) ≡ Less
below_int a b h = value_cmp-Int a b ∙ Less-from_lt a b h

-- a row whose number is above all is put behind them
put_last : (n : ℤ) (values : Row) (lines : List Filed) → AreBelow id_of n lines
    → put_row (Int n ∷ Null ∷ values) (map (numbered_row id_of values_in) lines)
    ≡ map (numbered_row id_of values_in) (lines ++ (n, values) ∷ [])
put_last n values [] below = refl
put_last n values (l ∷ lines) below = rw (below_int (id_of l) n below.0)
    (ap (λ rows. numbered_row id_of values_in l ∷ rows) (put_last n values lines below.1))

pub keeps_last : (t : Numbered) (line : Filed) (tree : List Row) (lines : List Filed)
    → AreBelow id_of (id_of line) lines → AreKeepable t.columns (values_in line) → KeepsLines t tree lines
    → KeepsLines t (put_row (numbered_row id_of values_in line) tree) (lines ++ line ∷ [])
keeps_last t line tree lines below fit k =
    let row = numbered_row id_of values_in line in record {
      kept = record {
        rows = subst (AreAlike (put_row row tree)) (put_last (id_of line) (values_in line) lines below)
            (put_alike row tree _ (k.kept).rows);
        rising = ascending-append (λ (a b : Filed). id_of a <ℤ id_of b) lines (line ∷ []) (k.kept).rising
            (tt, tt) (all_weaker (λ (l : Filed). id_of l <ℤ id_of line) (λ (l : Filed). AllByRecursion
            (λ (m : Filed). id_of l <ℤ id_of m) (line ∷ [])) (λ l h. (h, tt)) lines below);
      };
      fitting = all-append (λ (l : Filed). AreKeepable t.columns (values_in l)) lines (line ∷ []) k.fitting (fit, tt);
    }

-- ---- what a query shows

pub all-reverse : {X : Type 0} (P : X → Type 0) (xs : List X) → AllByRecursion P xs → AllByRecursion P (reverse xs)
all-reverse P [] all = tt
all-reverse P (x ∷ xs) all = subst (AllByRecursion P) (sym (reverse-append (x ∷ []) xs))
    (all-append P (reverse xs) (x ∷ []) (all-reverse P xs all.1) (all.0, tt))

-- what is above is before in the reverse
pub ascending-reverse : {X : Type 0} (R S : X → X → Type 0) → ((a b : X) → R a b → S b a) → (xs : List X)
    → IsAscending R xs → IsAscending S (reverse xs)
ascending-reverse R S turned [] up = tt
ascending-reverse R S turned (x ∷ xs) up = subst (IsAscending S) (sym (reverse-append (x ∷ []) xs))
    (ascending-append S (reverse xs) (x ∷ []) (ascending-reverse R S turned xs up.1) (tt, tt) (all_weaker (λ y. S y x)
    (λ y. AllByRecursion (S y) (x ∷ [])) (λ y h. (h, tt)) (reverse xs) (all-reverse (λ y. S y x) xs (all_weaker (R x)
    (λ y. S y x) (λ y h. turned x y h) xs up.0))))

module _ (at : ℕ) (tests project : List Term) (order : List (Term × Key)) (params : Row) (lines : List Filed)
    (test : Filed → Bool) (tested : (l : Filed) → list_all (holds (params ∷ numbered_row id_of values_in l ∷ []))
    tests ≡ test l) where
  abbrev q : Query
  q = scan at tests project order

  abbrev pub out : Filed → Output
  out l = output q (params ∷ numbered_row id_of values_in l ∷ [])

  -- the rows are those of the lines that pass, in the one order that the query allows
  pub shows_lines : (lost : Value) (rows : List Row) → IsAnswerAs lost q (λ _. map (numbered_row id_of values_in)
      lines) params rows → (sorted : List Filed) → IsPermutation (filter test lines) sorted
      → IsAscending (λ a b. output_cmp q (out a) (out b) ≡ Less) sorted
      → rows ≡ map (λ l. (out l).1) sorted
  shows_lines lost rows a sorted same rising =
      let row = numbered_row id_of values_in in
      let p = λ (r : Row). list_all (holds (params ∷ r ∷ [])) tests in
      let kept : a.kept ≡ map out (filter test lines) =
      a.distinct ∙ ap (map (output q)) (a.grouped ∙ flat_map_if p (λ r. params ∷ r ∷ []) (map row lines))
      ∙ map-map (output q) (λ r. params ∷ r ∷ []) _
      ∙ ap (map (λ r. output q (params ∷ r ∷ []))) (filter-map p row lines)
      ∙ map-map (λ r. output q (params ∷ r ∷ [])) row _
      ∙ ap (map out) (Rattle.sqlite_keyed.proofs.ListLemmas.filter_same (λ l. p (row l)) test tested lines) in
      let perm = IsPermutation-trans _ _ _ (IsPermutation-sym _ _ (IsPermutation-map out _ _ same))
      (subst (λ l. IsPermutation l a.ordered) kept a.same) in
      let all = sorted_unique (output_cmp q) (output_cmp_total q) (map out sorted) a.ordered
      (ascending-map (λ o r. output_cmp q o r ≡ Less) out sorted rising) perm a.sorted in
      a.shown ∙ ap (map (λ (o : Output). o.1)) all ∙ map-map (λ (o : Output). o.1) out sorted
