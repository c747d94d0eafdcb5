use Rattle.std.proofs.Common.{◌≡◌, ◌+◌, ◌<◌, ℕ, zero, suc, pos, List, [], ◌∷◌, length, refl, sym, arith, ◌∙◌}
use Rattle.std.proofs.Common.{rules, subst, IfErr}
use Rattle.std.specs.Prelude.{slice_index, Err}
use Rattle.mf_alloc.specs.Sums.{Instalment, IsRowWithin}
use Rattle.mf_store_schema.specs.declared.instalments.PortionSums.{PortionSums}
use Rattle.mf_store_values.specs.Decoded.{IsNoInstalment}
use Rattle.mf_store_values.specs.Flat.{sums_at}
use Rattle.mf_store_values.proofs.instalments.instalment_from.Goals as goal

-- four amounts, as rows keep them
same_four : (a b c d : ℕ) (ys : List ℕ) → length ys ≡ 4 → pos a ≡ pos (slice_index ys 0)
    → pos b ≡ pos (slice_index ys 1) → pos c ≡ pos (slice_index ys 2) → pos d ≡ pos (slice_index ys 3)
    → a ∷ b ∷ c ∷ d ∷ [] ≡ ys
same_four a b c d (x ∷ y ∷ z ∷ w ∷ []) four h i j k = cc
same_four a b c d ys four h i j k = absurd (omega (arith, four))

pub returns-clause-row : goal.returns-clause-row
returns-clause-row c office loan number sums whole is =
    let penalty = sym c.in_ok-penalty.ensures.amounts ∙ (λ t. (is t).penalty) in
    let fee = sym c.in_ok-fee.ensures.amounts ∙ (λ t. (is t).fee) in
    let interest = sym c.in_ok-interest.ensures.amounts ∙ (λ t. (is t).interest) in
    let principal = sym c.in_ok-principal.ensures.amounts ∙ (λ t. (is t).principal) in
    let owed = same_four _ _ _ _ sums.owed whole.owed (λ t. (penalty t).owed) (λ t. (fee t).owed)
    (λ t. (interest t).owed) (λ t. (principal t).owed) in
    let paid = same_four _ _ _ _ sums.paid whole.paid (λ t. (penalty t).paid) (λ t. (fee t).paid)
    (λ t. (interest t).paid) (λ t. (principal t).paid) in
    let waived = same_four _ _ _ _ sums.waived whole.waived (λ t. (penalty t).waived) (λ t. (fee t).waived)
    (λ t. (interest t).waived) (λ t. (principal t).waived) in
    let written_off = same_four _ _ _ _ sums.written_off whole.written_off (λ t. (penalty t).written_off)
    (λ t. (fee t).written_off) (λ t. (interest t).written_off) (λ t. (principal t).written_off) in
    let due = c.in_ok-due.ensures.day sums.due (λ t. (is t).due) in
    λ t. record { due = due t; owed = owed t; paid = paid t; waived = waived t; written_off = written_off t }

pub invariant_of-result : goal.invariant_of-result
invariant_of-result c zero low = c.in_ok-penalty.ensures.within
invariant_of-result c (suc zero) low = c.in_ok-fee.ensures.within
invariant_of-result c (suc (suc zero)) low = c.in_ok-interest.ensures.within
invariant_of-result c (suc (suc (suc zero))) low = c.in_ok-principal.ensures.within
invariant_of-result c (suc (suc (suc (suc p)))) low = absurd (omega (arith, low))

pub returns-clause-within : goal.returns-clause-within
returns-clause-within c =
    (record { owed = refl; paid = refl; waived = refl; written_off = refl }, invariant_of-result c)

-- sums that are refused are those of no instalment of which at most what is owed is settled
not_within : (sums : Instalment) (p : ℕ) (found : PortionSums) → p < 4
    → ((owed paid waived written_off : ℕ) → found ≡ record {
      owed = pos owed;
      paid = pos paid;
      waived = pos waived;
      written_off = pos written_off;
    } → owed < paid + waived + written_off)
    → IsRowWithin sums → found ≡ sums_at sums p → ⊥
not_within sums p found low refused within is = omega (arith, refused _ _ _ _ is, within p low)

pub returns-in_err-penalty-clause-none : goal.returns-in_err-penalty-clause-none
returns-in_err-penalty-clause-none c =
    let e : c.from_residual.result ≡ Err c.in_err-penalty.field-0.0 = search rules in
    subst (λ r. IfErr r (λ _. IsNoInstalment c.args.row.now)) (sym e)
    (λ office loan number sums dated within is. not_within sums 0 c.args.row.now.penalty (omega arith)
    c.in_err-penalty.ensures.none within (λ t. (is t).penalty))

pub returns-in_err-fee-clause-none : goal.returns-in_err-fee-clause-none
returns-in_err-fee-clause-none c =
    let e : c.from_residual-in_err-fee.result ≡ Err c.in_err-fee.field-0.0 = search rules in
    subst (λ r. IfErr r (λ _. IsNoInstalment c.args.row.now)) (sym e)
    (λ office loan number sums dated within is. not_within sums 1 c.args.row.now.fee (omega arith)
    c.in_err-fee.ensures.none within (λ t. (is t).fee))

pub returns-in_err-interest-clause-none : goal.returns-in_err-interest-clause-none
returns-in_err-interest-clause-none c =
    let e : c.from_residual-in_err-interest.result ≡ Err c.in_err-interest.field-0.0 = search rules in
    subst (λ r. IfErr r (λ _. IsNoInstalment c.args.row.now)) (sym e)
    (λ office loan number sums dated within is. not_within sums 2 c.args.row.now.interest (omega arith)
    c.in_err-interest.ensures.none within (λ t. (is t).interest))

pub returns-in_err-principal-clause-none : goal.returns-in_err-principal-clause-none
returns-in_err-principal-clause-none c =
    let e : c.from_residual-in_err-principal.result ≡ Err c.in_err-principal.field-0.0 = search rules in
    subst (λ r. IfErr r (λ _. IsNoInstalment c.args.row.now)) (sym e)
    (λ office loan number sums dated within is. not_within sums 3 c.args.row.now.principal (omega arith)
    c.in_err-principal.ensures.none within (λ t. (is t).principal))

pub returns-in_err-due-clause-none : goal.returns-in_err-due-clause-none
returns-in_err-due-clause-none c =
    let e : c.from_residual-in_err-due.result ≡ Err c.in_err-due.field-0.0 = search rules in
    subst (λ r. IfErr r (λ _. IsNoInstalment c.args.row.now)) (sym e)
    (λ office loan number sums dated within is. c.in_err-due.ensures.none sums.due dated (λ t. (is t).due))
