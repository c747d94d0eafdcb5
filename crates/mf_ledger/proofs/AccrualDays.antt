-- What accrual adds at the end of each business day of a run, and the books that go on from an opening.
use Rattle.std.proofs.Common.{◌≡◌, ◌≤◌, ◌<◌, ◌+◌, ◌-◌, ℕ, zero, suc, Bool, true, false, cond, List, [], ◌∷◌, ◌++◌}
use Rattle.std.proofs.Common.{Option, Some, None, refl, sym, ap, ap₂, ◌∙◌, subst, arith}
use Rattle.std.specs.Prelude.{nat_le, is_some, ℤ, pos, ◌+ℤ◌, ◌-ℤ◌}
use Rattle.std.specs.List.{AllByRecursion, flat_map, range_with_len}
use Rattle.std.proofs.lemmas.Bool.Decides.{nat_tests}
use Rattle.std.proofs.lemmas.Int.{ints}
use Rattle.mf_model.specs.Desk.{change_in, outcome}
use Rattle.mf_model.specs.Institution.{Institution, Catalogue, Change, Ledger, Office, after_line}
use Rattle.mf_model.specs.Run.{Line, change_of_line, last, next, noted_of}
use Rattle.mf_model.specs.Sound.{IsSound, AreInRange, IsInRange}
use Rattle.mf_model.specs.declared.request.Request.{Request}
use Rattle.mf_model.specs.declared.request.Request.TheVariants as request
use Rattle.mf_model.proofs.SoundLemmas.{next_sound}
use Rattle.mf_ledger.specs.declared.basis.Basis.{Basis}
use Rattle.mf_ledger.specs.declared.basis.Basis.TheVariants as basis
use Rattle.mf_ledger.specs.declared.books.Title.{Title}
use Rattle.mf_ledger.specs.declared.books.Transaction.{Transaction}
use Rattle.mf_ledger.specs.Accrual.{accrued, adjusting_of, adjustments, adjustments_of, due_between, due_of_loans}
use Rattle.mf_ledger.specs.Accrual.{due_on}
use Rattle.mf_ledger.specs.Adjusting.{opened, standing}
use Rattle.mf_ledger.specs.Basis.{booked}
use Rattle.mf_ledger.specs.Runs.{Selection, at_end_of, between, posted}
use Rattle.mf_ledger.proofs.AccrualBooks.{Adds, at_day, call_adds, days_from, due_days, each_dated, line_adds}
use Rattle.mf_ledger.proofs.AccrualBooks.{line_leaves, same_day}
use Rattle.mf_ledger.proofs.AdjustingLemmas.{opened_is}
use Rattle.mf_ledger.proofs.BasisBooks.{booked_adds, booked_cash}
use Rattle.mf_ledger.proofs.RunBooks.{all-both, day_end, filter-both, in_span, kept, none-later, posted_in}
use Rattle.mf_ledger.proofs.SignedSums.{sum-append}

-- ---- transactions up to a day

abbrev IsUpTo : ℕ → Transaction → Type 0
IsUpTo day t = t.day ≤ day

-- all of them are kept
all_within : (day : ℕ) (ts : List Transaction) → AllByRecursion (IsUpTo day) ts → between 0 day ts ≡ ts
all_within day [] all = refl
all_within day (t ∷ ts) all = go (in_span 0 day t) refl (all_within day ts all.1)
  where
    go : (b : Bool) → in_span 0 day t ≡ b → between 0 day ts ≡ ts
        → cond b (t ∷ between 0 day ts) (between 0 day ts) ≡ t ∷ ts
    go true e rest = ap (λ us. t ∷ us) rest
    go false e rest = absurd (let first = all.0 in grind (arith, nat_tests, e, first))

request_up_to : (day n : ℕ) (r : Request) (i j : Institution) → i.catalogue.day ≤ day
    → AllByRecursion (IsUpTo day) (adjusting_of n r i j)
request_up_to day n (request.Unreadable flaw) i j h = tt
request_up_to day n (request.Catalogue asked) i j h = tt
request_up_to day n (request.Office x asked) i j h = tt
request_up_to day n (request.Loan loan asked) i j h = (h, tt)
request_up_to day n request.SeenOffices i j h = tt
request_up_to day n request.SeenArrears i j h = tt
request_up_to day n (request.NewOffice number parent name) i j h = tt

loans_up_to : (last n day : ℕ) (k : Catalogue) (office m : ℕ) (ls : List Ledger) → day ≤ last
    → AllByRecursion (IsUpTo last) (due_of_loans n day k office m ls)
loans_up_to last n day k office m [] h = tt
loans_up_to last n day k office m (l ∷ ls) h = (h, loans_up_to last n day k office (m + 1) ls h)

offices_up_to : (last n day : ℕ) (k : Catalogue) (fs : List Office) → day ≤ last
    → AllByRecursion (IsUpTo last) (flat_map (λ (f : Office). due_of_loans n day k f.number 1 f.rows.loans) fs)
offices_up_to last n day k [] h = tt
offices_up_to last n day k (f ∷ fs) h =
    all-both (IsUpTo last) (due_of_loans n day k f.number 1 f.rows.loans)
    (flat_map (λ (g : Office). due_of_loans n day k g.number 1 g.rows.loans) fs)
    (loans_up_to last n day k f.number 1 f.rows.loans h) (offices_up_to last n day k fs h)

days_up_to : (last n first count : ℕ) (i : Institution) → first + count ≤ last + 1
    → AllByRecursion (IsUpTo last) (flat_map (due_on n i) (range_with_len first count))
days_up_to last n first zero i h = tt
days_up_to last n first (suc count) i h =
    all-both (IsUpTo last) (due_on n i first) (flat_map (due_on n i) (range_with_len (first + 1) count))
    (offices_up_to last n first i.catalogue i.offices (omega (arith, h)))
    (days_up_to last n (first + 1) count i (omega (arith, h)))

line_up_to : (day n : ℕ) (r : Request) (i j : Institution) → i.catalogue.day ≤ day → j.catalogue.day ≤ day
    → AllByRecursion (IsUpTo day) (adjustments_of n r i j)
line_up_to day n r i j low high =
    all-both (IsUpTo day) (adjusting_of n r i j) (due_between n i.catalogue.day j.catalogue.day j)
    (request_up_to day n r i j low)
    (days_up_to day n (i.catalogue.day + 1) (j.catalogue.day - i.catalogue.day) j (omega (arith, low, high)))

-- of the days that pass those up to a day are kept
days_cut : (day n first count : ℕ) (i : Institution) → day < first + count → first ≤ day + 1
    → between 0 day (flat_map (due_on n i) (range_with_len first count))
    ≡ flat_map (due_on n i) (range_with_len first (day + 1 - first))
days_cut day n first zero i low high =
    let none : 0 ≡ day + 1 - first = omega (arith, low, high) in
    ap (λ c. flat_map (due_on n i) (range_with_len first c)) none
days_cut day n first (suc count) i low high =
    go (nat_le first day) refl (λ h. days_cut day n (first + 1) count i (omega (arith, low)) h)
  where
    go : (b : Bool) → nat_le first day ≡ b
        → (first + 1 ≤ day + 1 → between 0 day (flat_map (due_on n i) (range_with_len (first + 1) count))
        ≡ flat_map (due_on n i) (range_with_len (first + 1) (day + 1 - (first + 1))))
        → between 0 day (due_on n i first ++ flat_map (due_on n i) (range_with_len (first + 1) count))
        ≡ flat_map (due_on n i) (range_with_len first (day + 1 - first))
    go true e rest =
        let within : first ≤ day = grind (arith, nat_tests, e) in
        let more : suc (day + 1 - (first + 1)) ≡ day + 1 - first = omega (arith, within) in
        filter-both (in_span 0 day) (due_on n i first) (flat_map (due_on n i) (range_with_len (first + 1) count))
        ∙ ap₂ ◌++◌ (all_within day (due_on n i first) (offices_up_to day n first i.catalogue i.offices within))
        (rest (omega (arith, within)))
        ∙ ap (λ c. flat_map (due_on n i) (range_with_len first c)) more
    go false e rest =
        let late : day < first = grind (arith, nat_tests, e) in
        let none : 0 ≡ day + 1 - first = omega (arith, late) in
        none-later day first late (flat_map (due_on n i) (range_with_len first (suc count)))
        (days_from first n first (suc count) i (omega arith))
        ∙ ap (λ c. flat_map (due_on n i) (range_with_len first c)) none

between_cut : (day n first last : ℕ) (i : Institution) → first ≤ day → day < last
    → between 0 day (due_between n first last i) ≡ due_between n first day i
between_cut day n first last i low high =
    let count : day + 1 - (first + 1) ≡ day - first = omega arith in
    days_cut day n (first + 1) (last - first) i (omega (arith, low, high)) (omega (arith, low))
    ∙ ap (λ c. flat_map (due_on n i) (range_with_len (first + 1) c)) count

-- the institution at the end of a day is the one that came on a later day first
at_end_late : (day : ℕ) (ls : List Line) (j : Institution) → day < j.catalogue.day → at_end_of day ls j ≡ j
at_end_late day [] j h = refl
at_end_late day (l ∷ ls) j h =
    let late : nat_le j.catalogue.day day ≡ false = grind (arith, nat_tests, h) in
    ap (λ b. cond b (at_end_of day ls (next l j)) j) late

module _ (title : Title) (meant : Selection) (day : ℕ) where
  -- what transactions move up to the day
  abbrev moved : List Transaction → ℤ
  moved ts = posted title meant (between 0 day ts)

  moved_both : (xs ys : List Transaction) → moved (xs ++ ys) ≡ moved xs +ℤ moved ys
  moved_both xs ys =
      ap (posted title meant) (filter-both (in_span 0 day) xs ys)
      ∙ sum-append (posted_in title meant) (between 0 day xs) (between 0 day ys)

  -- a line that comes to a later day: what it adds up to the day
  line_late : (l : Line) (n : ℕ) (i : Institution) (change : Change) → IsSound i → IsInRange l.call.request
      → change_of_line l i ≡ Some change → i.catalogue.day ≤ day → day < (next l i).catalogue.day
      → accrued title meant day (next l i)
      ≡ accrued title meant i.catalogue.day i +ℤ moved (adjustments_of n l.call.request i (next l i))
  line_late l n i change s r e low late =
      let d : ℕ = i.catalogue.day in
      let j : Institution = next l i in
      let moves : Adds title meant d l.call.request n i j =
      subst (λ (c : Option Change). Adds title meant d l.call.request n i (after_line (noted_of l.call i) c i)) (sym e)
      (call_adds title meant d l.call n i change (noted_of l.call i) s r
      (kept l.given_up (change_in (outcome l.call i)) change e)) in
      let here = same_day title meant n l.call.request i j in
      let own = ap (posted title meant) (all_within day (adjusting_of n l.call.request i j)
      (request_up_to day n l.call.request i j low)) in
      let days = ap (posted title meant) (between_cut day n d j.catalogue.day j low late)
      ∙ due_days title meant n d day j low in
      let both = moved_both (adjusting_of n l.call.request i j) (due_between n d j.catalogue.day j) in
      sums (accrued title meant day j) (accrued title meant d j) (accrued title meant d i)
      (posted title meant (at_day title meant d n l.call.request i j))
      (posted title meant (adjusting_of n l.call.request i j)) (moved (adjusting_of n l.call.request i j))
      (moved (due_between n d j.catalogue.day j)) (moved (adjustments_of n l.call.request i j)) moves here own days both
    where
      sums : (w x y p q m u z : ℤ) → x ≡ y +ℤ p → p ≡ q → m ≡ q → u ≡ w -ℤ x → z ≡ m +ℤ u → w ≡ y +ℤ z
      sums w x y p q m u z a b c d f = omega (arith, ints, a, b, c, d, f)

  -- and one that doesn't
  line_early : (l : Line) (n : ℕ) (i : Institution) (change : Change) → IsSound i → IsInRange l.call.request
      → change_of_line l i ≡ Some change → i.catalogue.day ≤ day → (next l i).catalogue.day ≤ day
      → accrued title meant (next l i).catalogue.day (next l i)
      ≡ accrued title meant i.catalogue.day i +ℤ moved (adjustments_of n l.call.request i (next l i))
  line_early l n i change s r e low high =
      line_adds title meant l n i change s r e
      ∙ ap (λ ts. accrued title meant i.catalogue.day i +ℤ posted title meant ts)
      (sym (all_within day (adjustments_of n l.call.request i (next l i))
      (line_up_to day n l.call.request i (next l i) low high)))

  abbrev Ends : List Line → ℕ → Institution → Type 0
  Ends ls n i = accrued title meant day (at_end_of day ls i)
      ≡ accrued title meant i.catalogue.day i +ℤ moved (adjustments n ls i)

  -- what is known of the lines behind one
  abbrev Rest : Line → List Line → Institution → Type 0
  Rest l ls i = (m : ℕ) → (next l i).catalogue.day ≤ day → Ends ls m (next l i)

  -- what follows of them together
  abbrev Whole : Line → List Line → ℕ → Institution → Type 0
  Whole l ls n i = accrued title meant day (at_end_of day ls (next l i)) ≡ accrued title meant i.catalogue.day i
      +ℤ moved (cond (is_some (change_of_line l i))
      (adjustments_of (n + 1) l.call.request i (next l i) ++ adjustments (n + 1) ls (next l i))
      (adjustments n ls (next l i)))

  pub accrued_day_end : (ls : List Line) (n : ℕ) (i : Institution) → IsSound i → AreInRange ls
      → i.catalogue.day ≤ day → day ≤ (last ls i).catalogue.day → Ends ls n i
  accrued_day_end [] n i s r low high =
      let same : day ≡ i.catalogue.day = omega (arith, low, high) in
      let value = ap (λ d. accrued title meant d i) same in
      omega (arith, ints, value)
  accrued_day_end (l ∷ ls) n i s r low high =
      let first : nat_le i.catalogue.day day ≡ true = grind (arith, nat_tests, low) in
      ap (λ b. accrued title meant day (cond b (at_end_of day ls (next l i)) i)) first
      ∙ changed (change_of_line l i) refl
      (λ m early. accrued_day_end ls m (next l i) (next_sound l i s r.0) r.1 early high)
    where
      some : (change : Change) → change_of_line l i ≡ Some change → (b : Bool)
          → nat_le (next l i).catalogue.day day ≡ b → Rest l ls i → Whole l ls n i
      some change e true d rest =
          let early : (next l i).catalogue.day ≤ day = grind (arith, nat_tests, d) in
          let which = ap (λ (c : Option Change). moved (cond (is_some c)
          (adjustments_of (n + 1) l.call.request i (next l i) ++ adjustments (n + 1) ls (next l i))
          (adjustments n ls (next l i)))) e in
          let both = moved_both (adjustments_of (n + 1) l.call.request i (next l i)) (adjustments (n + 1) ls (next l i))
          in
          let moves = line_early l (n + 1) i change s r.0 e low early in
          rest (n + 1) early ∙ sums (accrued title meant (next l i).catalogue.day (next l i))
          (accrued title meant i.catalogue.day i) (moved (adjustments_of (n + 1) l.call.request i (next l i)))
          (moved (adjustments (n + 1) ls (next l i))) (moved (adjustments n (l ∷ ls) i)) moves (which ∙ both)
        where
          sums : (x y p q z : ℤ) → x ≡ y +ℤ p → z ≡ p +ℤ q → x +ℤ q ≡ y +ℤ z
          sums x y p q z a b = omega (arith, ints, a, b)
      some change e false d rest =
          let late : day < (next l i).catalogue.day = grind (arith, nat_tests, d) in
          let which = ap (λ (c : Option Change). moved (cond (is_some c)
          (adjustments_of (n + 1) l.call.request i (next l i) ++ adjustments (n + 1) ls (next l i))
          (adjustments n ls (next l i)))) e in
          let both = moved_both (adjustments_of (n + 1) l.call.request i (next l i)) (adjustments (n + 1) ls (next l i))
          in
          let none = ap (posted title meant) (none-later day (next l i).catalogue.day late
          (adjustments (n + 1) ls (next l i))
          (each_dated ls (n + 1) (next l i) (next_sound l i s r.0).tree)) in
          let moves = line_late l (n + 1) i change s r.0 e low late in
          ap (accrued title meant day) (at_end_late day ls (next l i) late)
          ∙ sums (accrued title meant day (next l i)) (accrued title meant i.catalogue.day i)
          (moved (adjustments_of (n + 1) l.call.request i (next l i)))
          (moved (adjustments (n + 1) ls (next l i))) (moved (adjustments n (l ∷ ls) i)) moves (which ∙ both) none
        where
          sums : (x y p q z : ℤ) → x ≡ y +ℤ p → z ≡ p +ℤ q → q ≡ pos 0 → x ≡ y +ℤ z
          sums x y p q z a b c = omega (arith, ints, a, b, c)

      changed : (c : Option Change) → change_of_line l i ≡ c → Rest l ls i → Whole l ls n i
      changed None e rest =
          let today : (next l i).catalogue.day ≡ i.catalogue.day =
          ap (λ (c : Option Change). (after_line (noted_of l.call i) c i).catalogue.day) e in
          let which = ap (λ (c : Option Change). moved (cond (is_some c)
          (adjustments_of (n + 1) l.call.request i (next l i) ++ adjustments (n + 1) ls (next l i))
          (adjustments n ls (next l i)))) e in
          let leaves = line_leaves title meant l i e in
          rest n (omega (arith, today, low)) ∙ sums (accrued title meant (next l i).catalogue.day (next l i))
          (accrued title meant i.catalogue.day i) (moved (adjustments n ls (next l i)))
          (moved (adjustments n (l ∷ ls) i)) leaves which
        where
          sums : (x y p q : ℤ) → x ≡ y → q ≡ p → x +ℤ p ≡ y +ℤ q
          sums x y p q a b = omega (arith, ints, a, b)
      changed (Some change) e rest = some change e (nat_le (next l i).catalogue.day day) refl rest

-- books that begin with an opening go on with what stands on the accounts at the end of each business day
pub standing_day_end : (kept_on : Basis) (title : Title) (meant : Selection) (day : ℕ) (ls : List Line) (n : ℕ)
    (i : Institution) → IsSound i → AreInRange ls → i.catalogue.day ≤ day → day ≤ (last ls i).catalogue.day
    → standing kept_on title meant day (at_end_of day ls i)
    ≡ opened kept_on title meant i +ℤ posted title meant (between 0 day (booked kept_on n ls i))
standing_day_end basis.Cash title meant day ls n i s r low high =
    let cash = day_end title meant day ls n i s r in
    let first = opened_is basis.Cash title meant i s in
    let same = ap (λ ts. posted title meant (between 0 day ts)) (booked_cash ls n i) in
    omega (arith, ints, cash, first, same)
standing_day_end basis.Accrual title meant day ls n i s r low high =
    let cash = day_end title meant day ls n i s r in
    let added = accrued_day_end title meant day ls n i s r low high in
    let first = opened_is basis.Accrual title meant i s in
    let both = booked_adds title meant 0 day ls n i in
    omega (arith, ints, cash, added, first, both)
