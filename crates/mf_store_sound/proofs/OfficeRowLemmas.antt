-- Rows of offices, one by one.
use Rattle.std.proofs.Common.{◌≡◌, ◌≢◌, ◌↔◌, ◌<◌, ◌≤◌, ◌∙◌, ℕ, Bool, true, List, [], ◌∷◌, length, get_or, IsTrue}
use Rattle.std.proofs.Common.{Option, Some, None, Ok, Err, refl, sym, ap, subst, arith, nat_cmp, ◌==◌}
use Rattle.std.specs.List.{AllByRecursion}
use Rattle.std.specs.List.Sorted.{IsBinarySearchResult}
use Rattle.std.proofs.lemmas.Bool.Decides.{nat_tests}
use Rattle.std.proofs.lemmas.Cmp.{ranked, nat_cmp_total}
use Rattle.std.proofs.lemmas.List.Recursion.{found_at, found_nowhere}
use Rattle.sqlite_keyed.proofs.ListLemmas.{all_weaker, ascending_weaker}
use Rattle.sqlite_trees.specs.Tree.{IsAscending}
use Rattle.sqlite_trees.proofs.ListLemmas.{ascending-get_or}
use Rattle.mf_office.specs.Keys.{child_key}
use Rattle.mf_store_schema.specs.declared.offices.OfficeRow.{OfficeRow}
use Rattle.mf_store_sound.specs.Offices.{AscendFrom, office_row_in, HasParentsText}
use Rattle.mf_store_sound.proofs.SearchLemmas.{absent}

-- each number is less than the later ones
abbrev pub NumbersRise : List OfficeRow → Type 0
NumbersRise = IsAscending (λ (a b : OfficeRow). a.number < b.number)

pub numbers_rise : (n : ℕ) (rows : List OfficeRow) → AscendFrom n rows
    → AllByRecursion (λ (r : OfficeRow). n < r.number) rows × NumbersRise rows
numbers_rise n [] up = (tt, tt)
numbers_rise n (r ∷ rs) up =
    let low : n < r.number = up.0 in
    let more = numbers_rise r.number rs up.1 in
    ((low, all_weaker _ _ (λ o lt. omega arith) rs more.0), more)

module _ (rows : List OfficeRow) (up : AscendFrom 0 rows) (x : ℕ) where
  pub found_office : (at : ℕ) (o : OfficeRow) → at < length rows → o ≡ get_or rows at o
      → IsBinarySearchResult (λ (r : OfficeRow). nat_cmp r.number x) rows (Ok at) → Some o ≡ office_row_in x rows
  found_office at o h is equal =
      let its : (get_or rows at o).number ≡ x = ranked _ x _ (sym (equal o)) in
      let passes : ((get_or rows at o).number == x) ≡ true = grind (arith, nat_tests) in
      ap Some is ∙ sym (found_at (office_row_in x) (λ r. r.number == x) Some None refl (λ r rs. refl) rows at o h
      (λ k below.
      let low : (get_or rows k o).number < (get_or rows at o).number = ascending-get_or
      (λ (a b : OfficeRow). a.number < b.number) rows k at o (numbers_rise 0 rows up).1 below h in
      grind (arith, nat_tests)) passes)

  pub absent_office : (at : ℕ) → at ≤ length rows → IsBinarySearchResult (λ (r : OfficeRow). nat_cmp r.number x) rows
      (Err at) → None ≡ office_row_in x rows
  absent_office at h parted =
      let none = absent nat_cmp nat_cmp_total (λ (r : OfficeRow). r.number) rows x
      (ascending_weaker _ _ (λ a b lt. grind (arith, nat_tests)) rows (numbers_rise 0 rows up).1) at h parted in
      let no_row : OfficeRow = record { number = 0; parent = None; hkey = []; name = [] } in
      sym (found_nowhere (office_row_in x) (λ r. r.number == x) Some None refl (λ r rs. refl) rows no_row (λ k inside.
      let other = none k no_row inside in grind (arith, nat_tests, other)))

-- ---- a row whose parent is there

pub child_text_is : (rows : List OfficeRow) (parent : Option ℕ) (p : ℕ) (above r : OfficeRow) (b : Bool)
    → parent ≡ Some p → Some above ≡ office_row_in p rows → (IsTrue b
    ↔ ((r.number ≢ 1) × (r.hkey ≡ child_key above.hkey r.number))) → IsTrue b ↔ HasParentsText rows parent r
child_text_is rows parent p above r b is there h = subst (λ q. IsTrue b ↔ HasParentsText rows q r) (sym is) (
  λ yes. ((h.0 yes).0, above, sym there, (h.0 yes).1),
  λ has.
      let same : above ≡ has.1 = (let f = has.2 in cc) in
      h.1 (has.0, has.3 ∙ ap (λ (o : OfficeRow). child_key o.hkey r.number) (sym same)),
)
