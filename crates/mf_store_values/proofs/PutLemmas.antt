-- One row, or several, put into a list by key.
use Rattle.std.proofs.Common.{◌≡◌, Bool, true, false, cond, not, List, [], ◌∷◌, ◌++◌, refl, sym, ap, ◌∙◌}
use Rattle.std.proofs.Common.{Ordering, Less, Equal, Greater, is_eq, is_gt}
use Rattle.std.specs.List.{AllByRecursion}
use Rattle.std.proofs.lemmas.List.{append_assoc}
use Rattle.std.proofs.lemmas.List.Elements.{filter-append}
use Rattle.sqlite_keyed.proofs.ListLemmas.{all-append, all_both, all_weaker, filter_all}
use Rattle.sqlite_keyed.specs.Lists.{insert_sorted}
use Rattle.mf_store_sql.specs.Keep.{put_item, drop_item}
use Rattle.mf_store_values.proofs.BlockLemmas.{Around}

module _ {R : Type 0} (cmp : R → R → Ordering) (r : R) where
  -- each of these rows has a smaller key
  abbrev pub AreLower : List R → Type 0
  AreLower rows = AllByRecursion (λ y. cmp r y ≡ Greater) rows

  -- each of these rows has a greater key
  abbrev pub AreHigher : List R → Type 0
  AreHigher rows = AllByRecursion (λ y. cmp r y ≡ Less) rows

  pub put_past : (y : R) (ys : List R) → cmp r y ≡ Greater → put_item cmp r (y ∷ ys) ≡ y ∷ put_item cmp r ys
  put_past y ys h = rw (h, h)

  -- past rows of smaller keys
  pub put_past_all : (xs ys : List R) → AreLower xs → put_item cmp r (xs ++ ys) ≡ xs ++ put_item cmp r ys
  put_past_all [] ys low = refl
  put_past_all (x ∷ xs) ys low = put_past x (xs ++ ys) low.0 ∙ ap (λ l. x ∷ l) (put_past_all xs ys low.1)

  -- no row with its key is there
  pub none_dropped : (ys : List R) → AllByRecursion (λ y. is_eq (cmp r y) ≡ false) ys → drop_item cmp r ys ≡ ys
  none_dropped ys apart = filter_all (λ y. not (is_eq (cmp r y))) ys (all_weaker (λ y. is_eq (cmp r y) ≡ false)
      (λ y. not (is_eq (cmp r y)) ≡ true) (λ y h. ap not h) ys apart)

  insert_ahead : (xs ys : List R) → AreHigher ys → insert_sorted cmp r (xs ++ ys) ≡ insert_sorted cmp r xs ++ ys
  insert_ahead [] [] high = refl
  insert_ahead [] (y ∷ ys) high = rw high.0
  insert_ahead (x ∷ xs) ys high = go (is_gt (cmp r x)) (insert_ahead xs ys high)
    where
      go : (b : Bool) → insert_sorted cmp r (xs ++ ys) ≡ insert_sorted cmp r xs ++ ys
          → cond b (x ∷ insert_sorted cmp r (xs ++ ys)) (r ∷ x ∷ (xs ++ ys)) ≡ cond b (x ∷ insert_sorted cmp r xs)
          (r ∷ x ∷ xs) ++ ys
      go true more = ap (λ l. x ∷ l) more
      go false more = refl

  -- ahead of rows of greater keys
  pub put_ahead : (xs ys : List R) → AreHigher ys → put_item cmp r (xs ++ ys) ≡ put_item cmp r xs ++ ys
  put_ahead xs ys high =
      ap (insert_sorted cmp r) (filter-append (λ y. not (is_eq (cmp r y))) xs ys ∙ ap (λ l. drop_item cmp r xs ++ l)
      (none_dropped ys (all_weaker (λ y. cmp r y ≡ Less) (λ y. is_eq (cmp r y) ≡ false) (λ y h. ap is_eq h) ys high)))
      ∙ insert_ahead (drop_item cmp r xs) ys high

  -- before all
  pub put_first : (ys : List R) → AreHigher ys → put_item cmp r ys ≡ r ∷ ys
  put_first ys high = put_ahead [] ys high

  -- in place of the row with its key
  pub put_over : (y : R) (ys : List R) → cmp r y ≡ Equal → AreHigher ys → put_item cmp r (y ∷ ys) ≡ r ∷ ys
  put_over y ys h high = ap (insert_sorted cmp r) (let tied : drop_item cmp r (y ∷ ys) ≡ drop_item cmp r ys = rw h
      refl in tied) ∙ put_first ys high

  -- past the rows of smaller keys and ahead of those of greater ones
  pub put_between : (first mid last : List R) → AreLower first → AreHigher last
      → put_item cmp r (first ++ (mid ++ last)) ≡ first ++ (put_item cmp r mid ++ last)
  put_between first mid last low high =
      put_past_all first (mid ++ last) low ∙ ap (λ l. first ++ l) (put_ahead mid last high)

  -- a put that makes one block of the other makes one list of the other
  pub put_around : {P Q : R → Type 0} {old new block changed : List R} → ((s : R) → P s → cmp r s ≡ Greater)
      → ((s : R) → Q s → cmp r s ≡ Less) → Around P Q old new block changed → put_item cmp r block ≡ changed
      → put_item cmp r old ≡ new
  put_around {P} {Q} {block = block} low high w put =
      ap (put_item cmp r) w.old_is ∙ put_between w.first block w.last
      (all_weaker P (λ s. cmp r s ≡ Greater) low w.first w.before)
      (all_weaker Q (λ s. cmp r s ≡ Less) high w.last w.after)
      ∙ ap (λ b. w.first ++ (b ++ w.last)) put ∙ sym w.new_is

module _ {R : Type 0} (cmp : R → R → Ordering) where
  -- the list with all of these put, one after another
  abbrev pub put_all : List R → List R → List R
  put_all [] rows = rows
  put_all (r ∷ rs) rows = put_all rs (put_item cmp r rows)

  -- each comes after those before it
  abbrev pub AreRising : List R → Type 0
  AreRising [] = Unit {0}
  AreRising (r ∷ rs) = AllByRecursion (λ q. cmp q r ≡ Greater) rs × AreRising rs

  put_all_between : (rs first last : List R) → AllByRecursion (λ r. AreLower cmp r first) rs
      → AllByRecursion (λ r. AreHigher cmp r last) rs → AreRising rs
      → put_all rs (first ++ last) ≡ first ++ (rs ++ last)
  put_all_between [] first last low high up = refl
  put_all_between (r ∷ rs) first last low high up =
      ap (put_all rs) (put_past_all cmp r first last low.0 ∙ ap (λ l. first ++ l) (put_first cmp r last high.0)
      ∙ sym (append_assoc first (r ∷ []) last))
      ∙ put_all_between rs (first ++ r ∷ []) last (all_both (λ q. AreLower cmp q first) (λ q. cmp q r ≡ Greater)
      (λ q. AreLower cmp q (first ++ r ∷ [])) (λ q a b. all-append (λ y. cmp q y ≡ Greater) first (r ∷ []) a (b, tt)) rs
      low.1 up.0) high.1 up.1
      ∙ append_assoc first (r ∷ []) (rs ++ last)

  -- a block that is put where there was none
  pub put_all_around : {P Q : R → Type 0} {old new : List R} (rs : List R)
      → AllByRecursion (λ r. ((s : R) → P s → cmp r s ≡ Greater) × ((s : R) → Q s → cmp r s ≡ Less)) rs → AreRising rs
      → Around P Q old new [] rs → put_all rs old ≡ new
  put_all_around {P} {Q} rs ranks up w =
      ap (put_all rs) w.old_is ∙ put_all_between rs w.first w.last (all_weaker Ranks (λ r. AreLower cmp r w.first)
      (λ r is. all_weaker P (λ s. cmp r s ≡ Greater) is.0 w.first w.before) rs ranks) (all_weaker Ranks
      (λ r. AreHigher cmp r w.last) (λ r is. all_weaker Q (λ s. cmp r s ≡ Less) is.1 w.last w.after) rs ranks) up
      ∙ sym w.new_is
    where
      Ranks : R → Type 0
      Ranks r = ((s : R) → P s → cmp r s ≡ Greater) × ((s : R) → Q s → cmp r s ≡ Less)
