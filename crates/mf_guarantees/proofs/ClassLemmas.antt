-- The classes of an office's line add up.
use Rattle.std.proofs.Common.{◌≡◌, ◌≤◌, ◌+◌, ◌*◌, ◌<◌, ℕ, List, [], ◌∷◌, refl, arith}
use Rattle.std.proofs.Common.{sym, subst, inl, inr}
use Rattle.std.specs.Prelude.{sum_by, ◌==◌}
use Rattle.std.proofs.lemmas.Bool.{cases_eq, cond_both}
use Rattle.std.proofs.lemmas.List.Sums.{sum_by-cons}
use Rattle.mf_base.specs.Rounding.{half_even}
use Rattle.mf_base.proofs.RoundingLemmas.{half_even-mono, only_nearest}
use Rattle.mf_arrears.specs.declared.line.Class.{Class}
use Rattle.mf_arrears.specs.declared.line.Class.TheVariants.{C0, C1To30, C31To60, C61To90, Over90}
use Rattle.mf_arrears.specs.Line.{AgedLoan, class_of, if_1_30, if_31_60, if_61_90, if_over_90, sum_in, line_of_loans}
use Rattle.mf_arrears.specs.Line.{hundredths_of, par30_of}
use Rattle.mf_guarantees.specs.Ageing.{if_on_time, on_time}

one_class : (c : Class) (p : ℕ)
    → p ≡ if_on_time c p + if_1_30 c p + if_31_60 c p + if_61_90 c p + if_over_90 c p
one_class C0 p = omega arith
one_class C1To30 p = omega arith
one_class C31To60 p = omega arith
one_class C61To90 p = omega arith
one_class Over90 p = omega arith

in_class : (chosen : Class → ℕ → ℕ) (loan : AgedLoan) (loans : List AgedLoan)
    → sum_in chosen (loan ∷ loans) ≡ chosen (class_of loan.days) loan.principal + sum_in chosen loans
in_class chosen loan loans = sum_by-cons (λ (x : AgedLoan). chosen (class_of x.days) x.principal) loan loans

pub classes_add_up : (loans : List AgedLoan) → sum_by (λ (loan : AgedLoan). loan.principal) loans
    ≡ on_time loans + sum_in if_1_30 loans + sum_in if_31_60 loans + sum_in if_61_90 loans + sum_in if_over_90 loans
classes_add_up [] = refl
classes_add_up (loan ∷ loans) =
    let first = one_class (class_of loan.days) loan.principal in
    let rest = classes_add_up loans in
    let all = sum_by-cons (λ (x : AgedLoan). x.principal) loan loans in
    let a = in_class if_on_time loan loans in
    let b = in_class if_1_30 loan loans in
    let c = in_class if_31_60 loan loans in
    let d = in_class if_61_90 loan loans in
    let e = in_class if_over_90 loan loans in
    omega (arith, first, rest, all, a, b, c, d, e)

-- a part is at most all of it
most : (whole part : ℕ) → 0 < whole → part ≤ whole → half_even (10000 * part) whole ≤ 10000
most whole part some le =
    let all : 10000 ≡ half_even (10000 * whole) whole =
    only_nearest (10000 * whole) whole 10000 some (inl (omega arith)) in
    let less = half_even-mono (10000 * part) (10000 * whole) whole some (omega (arith, le)) in
    omega (arith, all, less)

pub hundredths-most : (whole part : ℕ) → part ≤ whole → hundredths_of whole part ≤ 10000
hundredths-most whole part le = elim (cases_eq whole 0) [
  | inl none ↦ subst (λ (w : ℕ). hundredths_of w part ≤ 10000) (sym none) (omega arith)
  | inr some ↦ cond_both (whole == 0) 0 (half_even (10000 * part) whole) (λ x. x ≤ 10000) (λ _. omega arith)
      (λ _. most whole part (omega (arith, some)) le)
]

pub par30-most : (office : ℕ) (loans : List AgedLoan) → par30_of (line_of_loans office loans) ≤ 10000
par30-most office loans =
    let line = line_of_loans office loans in
    let sums = classes_add_up loans in
    hundredths-most line.outstanding (line.c31_60 + line.c61_90 + line.over_90) (omega (arith, sums))
