use Rattle.std.proofs.Common.{◌≡◌, ◌+◌, ◌<◌, ℕ, List, length, drop, ap, ◌∙◌, refl, add-one, arith, rules, of_z, to_z}
use Rattle.std.specs.Int.{w128}
use Rattle.std.specs.Prelude.{FitsSigned, ℤ, ◌+ℤ◌, get_or}
use Rattle.std.proofs.lemmas.Int.{ints, to_z-of_z}
use Rattle.std.proofs.Math.Seq.{drop-cons}
use Rattle.mf_ledger.specs.declared.accrual.AccruedSums.{AccruedSums}
use Rattle.mf_ledger.specs.Accrual.{accrued_on}
use Rattle.mf_ledger.specs.Books.{signed_sum}
use Rattle.mf_ledger.proofs.adjusting.total.Goals as goal

-- one loan more is counted
one_more : (read : AccruedSums → ℤ) (xs : List AccruedSums) (i : ℕ) (d : AccruedSums) (t u a s : ℤ) → i < length xs
    → a ≡ read (get_or xs i d) → u ≡ t +ℤ a → t +ℤ signed_sum read (drop i xs) ≡ s
    → u +ℤ signed_sum read (drop (i + 1) xs) ≡ s
one_more read xs i d t u a s within item now before =
    let cut : signed_sum read (drop i xs) ≡ read (get_or xs i d) +ℤ signed_sum read (drop (i + 1) xs) =
    rw (add-one, drop-cons xs i d) refl in
    omega (arith, ints, cut, item, now, before)

pub loop-sums-preserved : goal.loop-sums-preserved
loop-sums-preserved c =
    let t : ℤ = to_z w128 c.loop-sums.total-bits in
    let amount : to_z w128 (of_z w128 c.accrued-total.result) ≡ c.accrued-total.result =
    to_z-of_z w128 c.accrued-total.result (search rules) in
    let fits : FitsSigned w128 (t +ℤ to_z w128 (of_z w128 c.accrued-total.result)) = search rules in
    let now : to_z w128 (of_z w128 (t +ℤ to_z w128 (of_z w128 c.accrued-total.result))) ≡ t +ℤ c.accrued-total.result =
    to_z-of_z w128 (t +ℤ to_z w128 (of_z w128 c.accrued-total.result)) fits ∙ ap (λ z. t +ℤ z) amount in
    let value = c.accrued-total.ensures.value in
    record {
      sum = one_more (accrued_on c.args.title) c.args.loans.now c.loop-sums.sums-index _ t _ c.accrued-total.result _
          c.loop-sums-test.true value now c.loop-sums.invariant.sum;
      least = omega (arith, ints);
      most = omega (arith, ints);
    }
