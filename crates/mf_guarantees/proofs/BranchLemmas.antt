-- The line of all is that of an office and of those right below it.
use Rattle.std.proofs.Common.{◌≡◌, ◌⊎◌, ℕ, zero, suc, ◌+◌, Bool, true, false, cond, List, [], ◌∷◌, map, filter}
use Rattle.std.proofs.Common.{length, Option, Some, None, refl, sym, ap, ◌∙◌, subst, arith, inl, inr}
use Rattle.std.specs.Prelude.{◌==◌, ◌||◌, sum_by}
use Rattle.std.specs.List.{flat_map}
use Rattle.std.proofs.lemmas.Bool.Decides.{nat_tests}
use Rattle.std.proofs.lemmas.List.Concat.{length-flat_map}
use Rattle.std.proofs.lemmas.List.Sums.{sum_by-cons, sum_by-append}
use Rattle.mf_office.specs.Tree.{option_any, is_within, is_at_or_below}
use Rattle.mf_arrears.specs.Line.{AgedLoan, OfficeLine, line_of_loans, class_of, if_1_30, if_31_60, if_61_90}
use Rattle.mf_arrears.specs.Line.{if_over_90}
use Rattle.mf_arrears.specs.Report.{total_of}
use Rattle.mf_model.specs.Arrears.{active_in, arrears_line, arrears_seen}
use Rattle.mf_model.specs.Institution.{Institution, Catalogue, Office, office_at}
use Rattle.mf_model.specs.Tree.{IsTree, Above, Ascending, parent_of, is_there, seen_by}
use Rattle.mf_model.proofs.Within.{within_more}
use Rattle.mf_guarantees.specs.Branch.{is_child_of, children, line_of_all}

-- ---- who is above whom

true_of_or : (b c : Bool) → (b || c) ≡ true → (b ≡ true) ⊎ (c ≡ true)
true_of_or true c h = inl refl
true_of_or false c h = inr h

or_false : (b : Bool) → (b || false) ≡ b
or_false true = refl
or_false false = refl

from_step : (o : Option ℕ) (f : ℕ → Bool) → option_any o f ≡ true → (q : ℕ) × (o ≡ Some q) × (f q ≡ true)
from_step None f h = absurd (cc)
from_step (Some q) f h = (q, refl, h)

same_number : (a b : ℕ) → (a == b) ≡ true → a ≡ b
same_number a b h = grind (arith, nat_tests)

module _ (up : ℕ → Option ℕ) (head : up 1 ≡ None) where
  head_has_none : (y q : ℕ) → y ≡ 1 → up y ≡ Some q → ⊥
  head_has_none y q is e = let none : up y ≡ None = ap up is ∙ head in cc

  -- the parent of an office is nearer to the head
  step_up : (n y q : ℕ) → up y ≡ Some q → is_within (suc n) up y 1 ≡ true → is_within n up q 1 ≡ true
  unfolding is_within
  step_up n y q e h = elim (true_of_or (y == 1) (option_any (up y) (λ p. is_within n up p 1)) h) [
    | inl is ↦ absurd (head_has_none y q (same_number y 1 is) e)
    | inr later ↦ subst (λ (o : Option ℕ). option_any o (λ p. is_within n up p 1) ≡ true) e later
  ]

  at_head : (n a c : ℕ) → (a == c) ≡ true → is_within n up a 1 ≡ true → is_within n up c 1 ≡ true
  at_head n a c is near = subst (λ (z : ℕ). is_within n up z 1 ≡ true) (same_number a c is) near

  -- an office above another is no farther from the head
  above_near : (n m a c : ℕ) → is_within m up a c ≡ true → is_within n up a 1 ≡ true → is_within n up c 1 ≡ true
  unfolding is_within
  above_near n zero a c h near = at_head n a c h near
  above_near zero (suc m) a c h near = elim (true_of_or (a == c) (option_any (up a) (λ p. is_within m up p c)) h) [
    | inl is ↦ at_head zero a c is near
    | inr later ↦ let s = from_step (up a) (λ p. is_within m up p c) later in
        absurd (head_has_none a s.0 (same_number a 1 near) s.1)
  ]
  above_near (suc n) (suc m) a c h near =
      elim (true_of_or (a == c) (option_any (up a) (λ p. is_within m up p c)) h) [
        | inl is ↦ at_head (suc n) a c is near
        | inr later ↦ let s = from_step (up a) (λ p. is_within m up p c) later in
            within_more n up c 1 (above_near n m s.0 c s.2 (step_up n a s.0 s.1 near))
      ]

  -- no office is above its parent
  no_round : (n m y q : ℕ) → up y ≡ Some q → is_within n up q 1 ≡ true → is_within m up q y ≡ true → ⊥
  unfolding is_within
  no_round zero m y q e near round = head_has_none y q (same_number y 1 (above_near zero m q y round near)) e
  no_round (suc n) m y q e near round =
      no_round n m y q e (step_up n y q e (above_near (suc n) m q y round near)) round

-- ---- sums over offices

split_or : (b c : Bool) (a : ℕ) → (b ≡ true → c ≡ true → ⊥) → cond (b || c) a 0 ≡ cond b a 0 + cond c a 0
split_or true true a h = absurd (h refl refl)
split_or true false a h = omega arith
split_or false c a h = omega arith

split_sum : (f g h : Office → ℕ) (kids : List Office) → ((c : Office) → f c ≡ g c + h c)
    → sum_by f kids ≡ sum_by g kids + sum_by h kids
split_sum f g h [] e = omega arith
split_sum f g h (c ∷ cs) e =
    let rest = split_sum f g h cs e in
    let at = e c in
    omega (arith, sum_by-cons f c cs, sum_by-cons g c cs, sum_by-cons h c cs, rest, at)

sum_map : {X Y : Type 0} (g : Y → ℕ) (m : X → Y) (xs : List X) → sum_by g (map m xs) ≡ sum_by (λ x. g (m x)) xs
sum_map g m [] = refl
sum_map g m (x ∷ xs) =
    let rest = sum_map g m xs in
    omega (arith, rest, sum_by-cons g (m x) (map m xs), sum_by-cons (λ y. g (m y)) x xs)

sum_filter : (g : Office → ℕ) (p : Office → Bool) (f : Office) (fs : List Office)
    → sum_by g (filter p (f ∷ fs)) ≡ cond (p f) (g f) 0 + sum_by g (filter p fs)
sum_filter g p f fs = go (p f)
  where
    go : (b : Bool) → sum_by g (cond b (f ∷ filter p fs) (filter p fs)) ≡ cond b (g f) 0 + sum_by g (filter p fs)
    go true = sum_by-cons g f (filter p fs)
    go false = omega arith

numbered_none : (g : Office → ℕ) (n : ℕ) (fs : List Office) → Above n fs
    → sum_by g (filter (λ (f : Office). f.number == n) fs) ≡ 0
numbered_none g n [] above = refl
numbered_none g n (f ∷ fs) above =
    let rest = numbered_none g n fs above.1 in
    let apart : (f.number == n) ≡ false = grind (arith, nat_tests, above.0) in
    let here : cond (f.number == n) (g f) 0 ≡ 0 = ap (λ b. cond b (g f) 0) apart in
    omega (arith, rest, here, sum_filter g (λ (f : Office). f.number == n) f fs)

numbered_one : (g : Office → ℕ) (x : ℕ) (fs : List Office) (f : Office) → Ascending fs → office_at x fs ≡ Some f
    → sum_by g (filter (λ (f : Office). f.number == x) fs) ≡ g f
numbered_one g x [] f up h = absurd (cc)
numbered_one g x (e ∷ fs) f up h =
    let all = sum_filter g (λ (f : Office). f.number == x) e fs in
    let here = go (e.number == x) refl h (λ k. numbered_one g x fs f up.1 k) in
    omega (arith, all, here)
  where
    go : (b : Bool) → (e.number == x) ≡ b → cond b (Some e) (office_at x fs) ≡ Some f
        → (office_at x fs ≡ Some f → sum_by g (filter (λ (f : Office). f.number == x) fs) ≡ g f)
        → cond b (g e) 0 + sum_by g (filter (λ (f : Office). f.number == x) fs) ≡ g f
    go true is k rest =
        let same : e ≡ f = cc in
        let none = numbered_none g x fs
        (subst (λ (n : ℕ). Above n fs) (same_number e.number x is) up.0) in
        omega (arith, ap g same, none)
    go false is k rest = let later = rest k in omega (arith, later)

parent_above : (n : ℕ) (fs : List Office) → Above n fs → parent_of fs n ≡ None
parent_above n [] above = refl
parent_above n (f ∷ fs) above =
    let apart : (f.number == n) ≡ false = grind (arith, nat_tests, above.0) in
    ap (λ b. cond b f.parent (parent_of fs n)) apart ∙ parent_above n fs above.1

-- office y stands among the children of x where x is its parent
each_once : (x : ℕ) (fs : List Office) → Ascending fs → (y a : ℕ)
    → sum_by (λ (c : Office). cond (y == c.number) a 0) (children x fs)
    ≡ cond (option_any (parent_of fs y) (λ p. p == x)) a 0
each_once x [] up y a = refl
each_once x (f ∷ fs) up y a =
    let all = sum_filter (λ (c : Office). cond (y == c.number) a 0) (is_child_of x) f fs in
    let here = go (f.number == y) refl (each_once x fs up.1 y a) in
    omega (arith, all, here)
  where
    nothing_twice : (b : Bool) → cond {A = ℕ} b 0 0 ≡ 0
    nothing_twice true = refl
    nothing_twice false = refl

    go : (b : Bool) → (f.number == y) ≡ b
        → sum_by (λ (c : Office). cond (y == c.number) a 0) (children x fs)
        ≡ cond (option_any (parent_of fs y) (λ p. p == x)) a 0
        → cond (is_child_of x f) (cond (y == f.number) a 0) 0
        + sum_by (λ (c : Office). cond (y == c.number) a 0) (children x fs)
        ≡ cond (option_any (cond b f.parent (parent_of fs y)) (λ p. p == x)) a 0
    go true is rest =
        let same = same_number f.number y is in
        let turned : (y == f.number) ≡ true = grind (arith, nat_tests, same) in
        let none = parent_above y fs (subst (λ (n : ℕ). Above n fs) same up.0) in
        let here = ap (λ b. cond (is_child_of x f) (cond b a 0) 0) turned in
        let later = rest ∙ ap (λ o. cond (option_any o (λ p. p == x)) a 0) none in
        omega (arith, here, later)
    go false is rest =
        let turned : (y == f.number) ≡ false = grind (arith, nat_tests, is) in
        let here = ap (λ b. cond (is_child_of x f) (cond b a 0) 0) turned ∙ nothing_twice (is_child_of x f) in
        omega (arith, here, rest)

-- ---- an office at or below x is x, or is at or below one child of x

-- what a number adds over the offices that pass
abbrev passing : List Office → ℕ → (ℕ → Bool) → ℕ
passing kids a p = sum_by (λ (c : Office). cond (p c.number) a 0) kids

module _ (x : ℕ) (up : ℕ → Option ℕ) (head : up 1 ≡ None) (kids : List Office)
    (each : (y a : ℕ) → passing kids a (λ n. y == n) ≡ cond (option_any (up y) (λ p. p == x)) a 0) where
  above_split : (n y a : ℕ) (o : Option ℕ) → up y ≡ o → is_within (suc n) up y 1 ≡ true
      → ((q : ℕ) → is_within n up q 1 ≡ true
      → cond (is_within n up q x) a 0 ≡ cond (q == x) a 0 + passing kids a (λ z. is_within n up q z))
      → cond ((y == x) || option_any o (λ p. is_within n up p x)) a 0
      ≡ cond (y == x) a 0 + passing kids a (λ z. (y == z) || option_any o (λ p. is_within n up p z))
  above_split n y a None e near rest =
      let left : cond ((y == x) || false) a 0 ≡ cond (y == x) a 0 = ap (λ b. cond b a 0) (or_false (y == x)) in
      let none : passing kids a (λ z. (y == z) || false) ≡ 0 =
      (λ t. sum_by (λ (c : Office). cond (or_false (y == c.number) t) a 0) kids)
      ∙ each y a ∙ ap (λ o. cond (option_any o (λ p. p == x)) a 0) e in
      omega (arith, left, none)
  above_split n y a (Some q) e near rest =
      let nearer : is_within n up q 1 ≡ true = step_up up head n y q e near in
      let apart : (z : ℕ) → (y == z) ≡ true → is_within n up q z ≡ true → ⊥ = λ z is below.
      no_round up head n n y q e nearer
      (subst (λ (w : ℕ). is_within n up q w ≡ true) (sym (same_number y z is)) below) in
      let left = split_or (y == x) (is_within n up q x) a (apart x) in
      let right = split_sum (λ (c : Office). cond ((y == c.number) || is_within n up q c.number) a 0)
      (λ (c : Office). cond (y == c.number) a 0) (λ (c : Office). cond (is_within n up q c.number) a 0) kids
      (λ c. split_or (y == c.number) (is_within n up q c.number) a (apart c.number)) in
      let here : passing kids a (λ z. y == z) ≡ cond (q == x) a 0 =
      each y a ∙ ap (λ o. cond (option_any o (λ p. p == x)) a 0) e in
      let later = rest q nearer in
      omega (arith, left, right, here, later)

  parts_at : (n y a : ℕ) → is_within n up y 1 ≡ true
      → cond (is_within n up y x) a 0 ≡ cond (y == x) a 0 + passing kids a (λ z. is_within n up y z)
  unfolding is_within
  parts_at zero y a near =
      let top : up y ≡ None = ap up (same_number y 1 near) ∙ head in
      let none : passing kids a (λ z. y == z) ≡ 0 =
      each y a ∙ ap (λ o. cond (option_any o (λ p. p == x)) a 0) top in
      omega (arith, none)
  parts_at (suc n) y a near = above_split n y a (up y) refl near (λ q nearer. parts_at n q a nearer)

  -- the same of sums over offices that reach the head
  parts_of_sum : (g : Office → ℕ) (fs : List Office) → ((z : ℕ) → is_there fs z ≡ true → is_within 5 up z 1 ≡ true)
      → sum_by g (filter (λ (f : Office). is_within 5 up f.number x) fs)
      ≡ sum_by g (filter (λ (f : Office). f.number == x) fs)
      + sum_by (λ (c : Office). sum_by g (filter (λ (f : Office). is_within 5 up f.number c.number) fs)) kids
  parts_of_sum g [] near =
      let none = split_sum (λ c. 0) (λ c. 0) (λ c. 0) kids (λ c. refl) in omega (arith, none)
  parts_of_sum g (f ∷ fs) near =
      let first = near f.number (grind (arith, nat_tests)) in
      let rest = parts_of_sum g fs (λ z there. near z (grind (arith, nat_tests))) in
      let here = parts_at 5 f.number (g f) first in
      let left = sum_filter g (λ (h : Office). is_within 5 up h.number x) f fs in
      let own = sum_filter g (λ (h : Office). h.number == x) f fs in
      let kin = split_sum
      (λ (c : Office). sum_by g (filter (λ (h : Office). is_within 5 up h.number c.number) (f ∷ fs)))
      (λ (c : Office). cond (is_within 5 up f.number c.number) (g f) 0)
      (λ (c : Office). sum_by g (filter (λ (h : Office). is_within 5 up h.number c.number) fs)) kids
      (λ c. sum_filter g (λ (h : Office). is_within 5 up h.number c.number) f fs) in
      omega (arith, rest, here, left, own, kin)

-- what is seen from x is x, and what is seen from its children
seen_parts : (g : Office → ℕ) (x : ℕ) (fs : List Office) (f : Office) → IsTree fs → office_at x fs ≡ Some f
    → sum_by g (seen_by x fs) ≡ g f + sum_by (λ (c : Office). sum_by g (seen_by c.number fs)) (children x fs)
unfolding is_at_or_below
seen_parts g x fs f tree there =
    let parts = parts_of_sum x (parent_of fs) tree.head (children x fs) (each_once x fs tree.ascending) g fs
    (λ z is. tree.all_below z is) in
    let own = numbered_one g x fs f tree.ascending there in
    omega (arith, parts, own)

-- ---- the line of all

one_column : (column : OfficeLine → ℕ) → ((lines : List OfficeLine) → column (total_of lines) ≡ sum_by column lines)
    → (i : Institution) (x : ℕ) (f : Office) → IsTree i.offices → office_at x i.offices ≡ Some f
    → column (line_of_all i x) ≡ column (total_of (arrears_line i.catalogue f
    ∷ map (λ (c : Office). line_of_all i c.number) (children x i.offices)))
one_column column total i x f tree there =
    let k = i.catalogue in
    let seen : (y : ℕ) → column (line_of_all i y)
    ≡ sum_by (λ (g : Office). column (arrears_line k g)) (seen_by y i.offices) =
    λ y. total (arrears_seen y i) ∙ sum_map column (arrears_line k) (seen_by y i.offices) in
    let parts = seen_parts (λ (g : Office). column (arrears_line k g)) x i.offices f tree there in
    let kin : sum_by (λ (c : Office). column (line_of_all i c.number)) (children x i.offices)
    ≡ sum_by (λ (c : Office). sum_by (λ (g : Office). column (arrears_line k g)) (seen_by c.number i.offices))
    (children x i.offices) =
    (λ t. sum_by (λ (c : Office). seen c.number t) (children x i.offices)) in
    let lines : List OfficeLine = map (λ (c : Office). line_of_all i c.number) (children x i.offices) in
    let all = total (arrears_line k f ∷ lines) in
    let first = sum_by-cons column (arrears_line k f) lines in
    let below = sum_map column (λ (c : Office). line_of_all i c.number) (children x i.offices) in
    let whole = seen x in
    omega (arith, whole, parts, kin, all, first, below)

pub line_of_all_parts : (i : Institution) (x : ℕ) (f : Office) → IsTree i.offices → office_at x i.offices ≡ Some f
    → line_of_all i x ≡ total_of (arrears_line i.catalogue f
    ∷ map (λ (c : Office). line_of_all i c.number) (children x i.offices))
line_of_all_parts i x f tree there =
    let a = one_column (λ (l : OfficeLine). l.loans) (λ lines. refl) i x f tree there in
    let b = one_column (λ (l : OfficeLine). l.outstanding) (λ lines. refl) i x f tree there in
    let c = one_column (λ (l : OfficeLine). l.c1_30) (λ lines. refl) i x f tree there in
    let d = one_column (λ (l : OfficeLine). l.c31_60) (λ lines. refl) i x f tree there in
    let e = one_column (λ (l : OfficeLine). l.c61_90) (λ lines. refl) i x f tree there in
    let g = one_column (λ (l : OfficeLine). l.over_90) (λ lines. refl) i x f tree there in
    λ t. record {
      office = 0;
      loans = a t;
      outstanding = b t;
      c1_30 = c t;
      c31_60 = d t;
      c61_90 = e t;
      over_90 = g t;
    }

-- ---- the loans that are seen

sum_flat : (g : AgedLoan → ℕ) (m : Office → List AgedLoan) (fs : List Office)
    → sum_by (λ (f : Office). sum_by g (m f)) fs ≡ sum_by g (flat_map m fs)
sum_flat g m [] = refl
sum_flat g m (f ∷ fs) =
    let rest = sum_flat g m fs in
    omega (arith, rest, sum_by-cons (λ (h : Office). sum_by g (m h)) f fs, sum_by-append g (m f) (flat_map m fs))

one_sum : (k : Catalogue) (fs : List Office) (column : OfficeLine → ℕ) (g : AgedLoan → ℕ)
    → ((f : Office) → column (arrears_line k f) ≡ sum_by g (active_in k f.rows.loans))
    → sum_by column (map (arrears_line k) fs)
    ≡ sum_by g (flat_map (λ (f : Office). active_in k f.rows.loans) fs)
one_sum k fs column g is =
    sum_map column (arrears_line k) fs
    ∙ (λ t. sum_by (λ (f : Office). is f t) fs)
    ∙ sum_flat g (λ (f : Office). active_in k f.rows.loans) fs

pub line_of_all_loans : (i : Institution) (x : ℕ)
    → line_of_all i x
    ≡ line_of_loans 0 (flat_map (λ (f : Office). active_in i.catalogue f.rows.loans) (seen_by x i.offices))
line_of_all_loans i x =
    let k = i.catalogue in
    let fs = seen_by x i.offices in
    let loans : List AgedLoan = flat_map (λ (f : Office). active_in k f.rows.loans) fs in
    let a : sum_by (λ (l : OfficeLine). l.loans) (map (arrears_line k) fs) ≡ length loans =
    sum_map (λ (l : OfficeLine). l.loans) (arrears_line k) fs
    ∙ sym (length-flat_map (λ (f : Office). active_in k f.rows.loans) fs) in
    let b = one_sum k fs (λ (l : OfficeLine). l.outstanding) (λ (a : AgedLoan). a.principal) (λ f. refl) in
    let c = one_sum k fs (λ (l : OfficeLine). l.c1_30)
    (λ (a : AgedLoan). if_1_30 (class_of a.days) a.principal) (λ f. refl) in
    let d = one_sum k fs (λ (l : OfficeLine). l.c31_60)
    (λ (a : AgedLoan). if_31_60 (class_of a.days) a.principal) (λ f. refl) in
    let e = one_sum k fs (λ (l : OfficeLine). l.c61_90)
    (λ (a : AgedLoan). if_61_90 (class_of a.days) a.principal) (λ f. refl) in
    let g = one_sum k fs (λ (l : OfficeLine). l.over_90)
    (λ (a : AgedLoan). if_over_90 (class_of a.days) a.principal) (λ f. refl) in
    λ t. record {
      office = 0;
      loans = a t;
      outstanding = b t;
      c1_30 = c t;
      c31_60 = d t;
      c61_90 = e t;
      over_90 = g t;
    }
