-- Records that were read one after another, until there was none, are all the records of the text.
use Rattle.std.proofs.Common.{◌≡◌, ◌<◌, ◌≤◌, ◌+◌, ℕ, zero, suc, Bool, true, false, List, [], ◌∷◌, length, Some, None}
use Rattle.std.proofs.Common.{◌⊎◌, inl, inr, refl, sym, ap, ◌∙◌, arith}
use Rattle.std.specs.Prelude.{◌==◌, if◌then◌else◌}
use Rattle.csv.specs.Machine.{Read, next_record, ends_at_end, ends_with, in_field, start_field, start_record, is_end}
use Rattle.csv.specs.Machine.{step}
use Rattle.csv.specs.Reading.{Reached, default_config, records, records_from}
use Rattle.csv.specs.declared.parser.State.{State}
use Rattle.csv.specs.declared.parser.State.TheVariants as st
use Rattle.csv.specs.declared.parser.Terminator.TheVariants as term
use Rattle.csv.specs.declared.parser.Action.{Action}

-- what a choice gave
either : {A : Type 0} (b : Bool) (x y z : A) → (if b then x else y) ≡ z → ((b ≡ true) × (x ≡ z))
    ⊎ ((b ≡ false) × (y ≡ z))
either true x y z is = inl (refl, is)
either false x y z is = inr (refl, is)

same_read : (q p : Read) → Some q ≡ Some p → q ≡ p
same_read q p is = cc

left_after : (q p : Read) → Some q ≡ Some p → length q.2 ≡ length p.2
left_after q p is = ap (λ (r : Read). length r.2) (same_read q p is)

-- where a record ends, the reader stands between records
abbrev IsFine : State × Action → Type 0
IsFine next = is_end next.1 ≡ true → ends_at_end next.0 ≡ false

fine_by : (b : Bool) (x y : State × Action) → IsFine x → IsFine y → IsFine (if b then x else y)
fine_by true x y first second = first
fine_by false x y first second = second

after_end_fine : (b : Bool) → ends_at_end (if b then st.AfterCr else st.StartRecord) ≡ false
after_end_fine true = refl
after_end_fine false = refl

in_field_fine : (c : ℕ) → IsFine (in_field default_config c)
in_field_fine c =
    fine_by (c == 44) _ _ (λ h. absurd (cc h)) (fine_by (ends_with term.CRLF c) _ _ (λ h. after_end_fine (c == 13))
    (λ h. absurd (cc h)))

start_field_fine : (c : ℕ) → IsFine (start_field default_config c)
start_field_fine c = fine_by (c == 34) _ _ (λ h. absurd (cc h)) (in_field_fine c)

start_record_fine : (c : ℕ) → IsFine (start_record default_config c)
start_record_fine c = fine_by (ends_with term.CRLF c) _ _ (λ h. absurd (cc h)) (start_field_fine c)

step_fine : (s : State) (c : ℕ) → IsFine (step default_config s c)
step_fine st.StartRecord c = start_record_fine c
step_fine st.StartField c = start_field_fine c
step_fine st.InField c = in_field_fine c
step_fine st.InQuoted c = fine_by (c == 34) _ _ (λ h. absurd (cc h)) (λ h. absurd (cc h))
step_fine st.InEscape c = λ h. absurd (cc h)
step_fine st.AfterQuote c = fine_by (c == 34) _ _ (λ h. absurd (cc h)) (in_field_fine c)
step_fine st.InComment c = fine_by (c == 10) _ _ (λ h. absurd (cc h)) (λ h. absurd (cc h))
step_fine st.AfterCr c = fine_by (c == 10) _ _ (λ h. absurd (cc h)) (start_record_fine c)

-- after a record the reader stands between records
stands_between : (xs : List ℕ) (s : State) (fields : List (List ℕ)) (field : List ℕ) (p : Read)
    → next_record default_config s fields field xs ≡ Some p → ends_at_end p.1 ≡ false
unfolding next_record
stands_between [] s fields field p is =
    elim (either (ends_at_end s) _ _ (Some p) is) [
      | inl h ↦ sym (ap (λ (r : Read). ends_at_end r.1) (same_read _ p h.1))
      | inr h ↦ absurd (cc h.1)
    ]
stands_between (c ∷ rest) s fields field p is =
    elim (either (is_end (step default_config s c).1) _ _ (Some p) is) [
      | inl h ↦ sym (ap (λ (r : Read). ends_at_end r.1) (same_read _ p h.1)) ∙ step_fine s c h.0
      | inr h ↦ stands_between rest _ _ _ p h.1
    ]

-- a record takes bytes off the text
rest_shorter : (xs : List ℕ) (s : State) (fields : List (List ℕ)) (field : List ℕ) (p : Read)
    → next_record default_config s fields field xs ≡ Some p → length p.2 ≤ length xs
unfolding next_record
rest_shorter [] s fields field p is =
    elim (either (ends_at_end s) _ _ (Some p) is) [
      | inl h ↦ omega (arith, left_after _ p h.1)
      | inr h ↦ absurd (cc h.1)
    ]
rest_shorter (c ∷ rest) s fields field p is =
    elim (either (is_end (step default_config s c).1) _ _ (Some p) is) [
      | inl h ↦ omega (arith, left_after _ p h.1)
      | inr h ↦ omega (arith, rest_shorter rest _ _ _ p h.1)
    ]

-- and between records at least one
takes_one : (s : State) (xs : List ℕ) (p : Read) → ends_at_end s ≡ false → next_record default_config s [] [] xs
    ≡ Some p → length p.2 < length xs
unfolding next_record
takes_one s [] p between is =
    elim (either (ends_at_end s) _ _ (Some p) is) [
      | inl h ↦ absurd (cc (sym between ∙ h.0))
      | inr h ↦ absurd (cc h.1)
    ]
takes_one s (c ∷ rest) p between is =
    elim (either (is_end (step default_config s c).1) _ _ (Some p) is) [
      | inl h ↦ omega (arith, left_after _ p h.1)
      | inr h ↦ omega (arith, rest_shorter rest _ _ _ p h.1)
    ]

all_from : (n : ℕ) (s s2 : State) (xs ys : List ℕ) (rows : List (List (List ℕ))) → ends_at_end s ≡ false → length xs < n
    → Reached default_config s xs rows s2 ys → next_record default_config s2 [] [] ys ≡ None
    → rows ≡ records_from default_config n s xs
unfolding Reached records_from
all_from zero s s2 xs ys rows between enough reached last = absurd (omega arith)
all_from (suc n) s s2 xs ys [] between enough reached last =
    let none : next_record default_config s [] [] xs ≡ None = rw (reached.0, reached.1) last in rw none refl
all_from (suc n) s s2 xs ys (row ∷ rows) between enough reached last =
    let shorter = takes_one s xs reached.0 between reached.1 in
    let rest = all_from n reached.0.1 s2 reached.0.2 ys rows (stands_between xs s [] [] reached.0 reached.1)
    (omega (arith, shorter)) reached.3 last in
    rw reached.1 (ap (λ (r : List (List ℕ)). r ∷ rows) reached.2 ∙ ap (λ (rs : List (List (List ℕ))). reached.0.0 ∷ rs)
    rest)

pub all_records : (xs : List ℕ) (rows : List (List (List ℕ))) (s2 : State) (ys : List ℕ) → Reached default_config
    st.StartRecord xs rows s2 ys → next_record default_config s2 [] [] ys ≡ None → rows ≡ records default_config xs
all_records xs rows s2 ys reached last =
    all_from (length xs + 1) st.StartRecord s2 xs ys rows refl (omega arith) reached last
