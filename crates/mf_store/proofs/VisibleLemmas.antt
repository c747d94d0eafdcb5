-- What an office sees, by the range of its hierarchy text and by parents.
use Rattle.std.proofs.Common.{◌≡◌, ◌↔◌, ◌≤◌, ℕ, zero, suc, Bool, true, false, not, ◌&&◌, ◌||◌, cond, List, [], ◌∷◌, map}
use Rattle.std.proofs.Common.{filter, Option, None, Some, refl, sym, ap, ap₂, ◌∙◌, arith, ◌==◌, nat_cmp}
use Rattle.std.proofs.Common.{true≢false, nat_le, Ordering, Less, Equal, Greater, is_ge, is_lt}
use Rattle.std.specs.Option.{is_some, option_map}
use Rattle.std.specs.Cmp.Lexicographic.{slice_cmp}
use Rattle.std.specs.Cmp.{both_ways}
use Rattle.std.proofs.lemmas.Bool.{false_from_ne_true}
use Rattle.std.proofs.lemmas.Bool.Decides.{nat_tests}
use Rattle.sqlite_keyed.proofs.ListLemmas.{filter-map, filter_none, map-map}
use Rattle.sqlite_keyed.proofs.SliceLemmas.{is_some-map}
use Rattle.sqlite_trees.proofs.ListLemmas.{filter_same}
use Rattle.mf_office.specs.Keys.{key_of, key_depth, with_last_raised}
use Rattle.mf_office.proofs.TextLemmas.{before_is}
use Rattle.mf_office.specs.Keys as office
use Rattle.mf_office.specs.Tree.{is_within, is_at_or_below, option_any, IsTreeOf}
use Rattle.mf_office.proofs.KeyLemmas.{range_below}
use Rattle.mf_model.specs.Institution.{Institution, Office, office_at}
use Rattle.mf_model.specs.Tree.{parent_of, is_there, seen_by, seen_office}
use Rattle.mf_model.specs.Sound.{IsSound}
use Rattle.mf_store_schema.specs.Rows.{office_row, is_between_keys}
use Rattle.mf_store_schema.specs.declared.offices.OfficeRow.{OfficeRow}
use Rattle.mf_store_values.specs.Flat.{office_under, tables_of, key_at, sees, has_room}
use Rattle.mf_store_commits.proofs.CommitLemmas.{number_at, all_there, office_known}

-- ---- ranges of texts

at_least : (o : Ordering) → not (is_lt o) ≡ is_ge o
at_least Less = refl
at_least Equal = refl
at_least Greater = refl

pub range_is : (low high : List ℕ) (r : OfficeRow) → is_between_keys low high r ≡ office.is_in_range low high r.hkey
range_is low high r = ap₂ ◌&&◌ (sym (at_least (slice_cmp nat_cmp r.hkey low)) ∙ ap not (before_is r.hkey low _ refl))
    (before_is r.hkey high _ refl)

-- ---- what is there

other : (there : ℕ → Bool) (o : ℕ) → there o ≡ false → (x : ℕ) → there x ≡ true → (x == o) ≡ false
other there o gone x here = false_from_ne_true (x == o) (λ e. let is : x ≡ o = grind (arith, nat_tests) in
    true≢false (sym here ∙ ap there is ∙ gone))

-- what is above an office that is there is there
absent_above : (n : ℕ) (ps : ℕ → Option ℕ) (there : ℕ → Bool) → ((x p : ℕ) → ps x ≡ Some p → there p ≡ true) → (o : ℕ)
    → there o ≡ false → (x : ℕ) → there x ≡ true → is_within n ps x o ≡ false
unfolding is_within
absent_above zero ps there closed o gone x here = other there o gone x here
absent_above (suc n) ps there closed o gone x here = ap (λ b. b || option_any (ps x) (λ p. is_within n ps p o))
    (other there o gone x here) ∙ up (ps x) refl (λ p h. absent_above n ps there closed o gone p h)
  where
    up : (q : Option ℕ) → ps x ≡ q → ((p : ℕ) → there p ≡ true → is_within n ps p o ≡ false)
        → option_any q (λ p. is_within n ps p o) ≡ false
    up None e more = refl
    up (Some p) e more = more p (closed x p e)

module _ (i : Institution) (sound : IsSound i) (tree : IsTreeOf (is_there i.offices) (parent_of i.offices)) where
  abbrev fs : List Office
  fs = i.offices

  abbrev ps : ℕ → Option ℕ
  ps = parent_of fs

  none_within : (o x : ℕ) → is_there fs o ≡ false → is_there fs x ≡ true → is_at_or_below ps x o ≡ false
  unfolding is_at_or_below
  none_within o x gone here = absent_above 5 ps (is_there fs) sound.tree.parents_there o gone x here

  orphan : (fs : List Office) (x : ℕ) → is_there fs x ≡ false → parent_of fs x ≡ None
  orphan [] x h = refl
  orphan (f ∷ fs) x h = grind (arith, nat_tests, orphan fs x)

  absent : (x : ℕ) → is_there fs x ≡ false → is_within 4 ps x 1 ≡ false
  unfolding is_within
  absent x gone = ap (λ q. (x == 1) || option_any q (λ p. is_within 3 ps p 1)) (orphan fs x gone) ∙ ap (λ b. b || false)
      (false_from_ne_true (x == 1) (λ e. let is : x ≡ 1 = grind (arith, nat_tests) in
      true≢false (sym sound.tree.head_there ∙ ap (is_there fs) (sym is) ∙ gone)))

  -- one text lies in the range of another where its office is at or below the other's
  pub range_tree : (o x : ℕ) → is_there fs o ≡ true → is_there fs x ≡ true → office.is_in_range (key_of ps o)
      (with_last_raised (key_of ps o)) (key_of ps x) ≡ is_at_or_below ps x o
  range_tree o x there here = range_below (is_there fs) ps tree x o here there

  pub visible_is : (o x : ℕ) → sees (key_at o i) (key_at x i) ≡ is_some (seen_office o x i)
  visible_is o x = go (office_at o fs) refl (office_at x fs) refl
    where
      go : (a : Option Office) → office_at o fs ≡ a → (b : Option Office) → office_at x fs ≡ b
          → sees (option_map (λ (f : Office). key_of ps f.number) a) (option_map (λ (f : Office). key_of ps f.number) b)
          ≡ is_some (cond (is_at_or_below ps x o) (office_at x fs) None)
      go None ea None eb = grind (arith, eb)
      go None ea (Some h) eb = let none = none_within o x (ap is_some ea) (ap is_some eb) in grind (arith, none)
      go (Some f) ea None eb = grind (arith, eb)
      go (Some f) ea (Some h) eb =
          ap₂ (λ m n. office.is_in_range (key_of ps m) (with_last_raised (key_of ps m)) (key_of ps n))
          (number_at o fs f ea) (number_at x fs h eb) ∙ range_tree o x (ap is_some ea) (ap is_some eb)
          ∙ (let seen : is_at_or_below ps x o ≡ is_some (cond (is_at_or_below ps x o) (office_at x fs) None) =
          grind (arith, eb) in seen)

  -- room below an office, by the dots of its key
  pub room_is : (x : ℕ) → ((x : ℕ) → is_there fs x ≡ true → (key_depth (key_of ps x) ≤ 5) ↔ (is_within 4 ps x 1 ≡ true))
      → has_room (key_at x i) ≡ is_within 4 ps x 1
  room_is x law = go (office_at x fs) refl
    where
      decided : (b : Bool) (n : ℕ) → (n ≤ 5) ↔ (b ≡ true) → nat_le n 5 ≡ b
      decided b n h = both_ways (nat_le n 5) b (λ e. h.0 (let low : n ≤ 5 = grind (arith, nat_tests) in low))
          (λ e. let low : n ≤ 5 = h.1 e in grind (arith, nat_tests))

      go : (a : Option Office) → office_at x fs ≡ a → has_room (option_map (λ (f : Office). key_of ps f.number) a)
          ≡ is_within 4 ps x 1
      go None e = sym (absent x (ap is_some e))
      go (Some f) e = ap (λ n. nat_le (key_depth (key_of ps n)) 5) (number_at x fs f e) ∙ decided (is_within 4 ps x 1)
          (key_depth (key_of ps x)) (law x (ap is_some e))

  -- the rows in the range of an office's text are those of the offices that it sees
  pub rows_seen : (o : ℕ) → is_there fs o ≡ true
      → map office_row (filter (is_between_keys (key_of ps o) (with_last_raised (key_of ps o))) (tables_of i).offices)
      ≡ map (λ f. office_row (office_under ps f)) (seen_by o fs)
  rows_seen o there =
      let low = key_of ps o in
      let p = is_between_keys low (with_last_raised low) in
      ap (map office_row) (filter-map p (office_under ps) fs)
      ∙ ap (λ l. map office_row (map (office_under ps) l)) (filter_same (λ f. p (office_under ps f))
      (λ f. is_at_or_below ps f.number o) fs
      (all_there fs fs (λ f. p (office_under ps f) ≡ is_at_or_below ps f.number o) sound.tree.ascending (λ f here.
      range_is low (with_last_raised low) (office_under ps f) ∙ range_tree o f.number there here)))
      ∙ map-map office_row (office_under ps) (seen_by o fs)

  -- an office that isn't there sees none
  pub none_seen : (o : ℕ) (found : Option (List ℕ)) → found ≡ None → found ≡ key_at o i → seen_by o fs ≡ []
  none_seen o found is are =
      let gone : is_there fs o ≡ false = sym (is_some-map (λ (f : Office). key_of ps f.number) (office_at o fs))
      ∙ ap is_some (sym are ∙ is) in
      filter_none (λ (f : Office). is_at_or_below ps f.number o) fs (all_there fs fs (λ f. is_at_or_below ps f.number o
      ≡ false) sound.tree.ascending (λ f here. none_within o f.number gone here))

  pub offices_are : (o : ℕ) (found : Option (List ℕ)) (above low high : List ℕ) → found ≡ Some above
      → found ≡ key_at o i → low ≡ above → high ≡ with_last_raised above
      → map office_row (filter (is_between_keys low high)
      (tables_of i).offices) ≡ map (λ f. office_row (office_under ps f)) (seen_by o fs)
  offices_are o found above low high is are l h =
      let known = office_known found above o i is are in
      ap₂ (λ a b. map office_row (filter (is_between_keys a b) (tables_of i).offices)) (l ∙ known.1)
      (h ∙ ap with_last_raised known.1) ∙ rows_seen o known.0
