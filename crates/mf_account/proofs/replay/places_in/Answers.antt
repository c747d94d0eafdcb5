use Rattle.std.proofs.Common.{◌≡◌, ℕ, arith, sym, ap, ◌∙◌, get_or, set, inl, inr}
use Rattle.std.proofs.lemmas.Bool.{cases_lt}
use Rattle.std.proofs.lemmas.List.{length-set, get_or-set_same, get_or-set_other}
use Rattle.mf_account.proofs.replay.places_in.Goals as goal

pub index_mut-requires : goal.index_mut-requires
index_mut-requires c =
    let there = c.requires.within c.loop-k.k 0 c.loop-k-test.true in
    omega (arith, there, c.loop-k.invariant.size, c.loop-k.places.ok)

pub loop-k-preserved : goal.loop-k-preserved
loop-k-preserved c =
    let at : ℕ = get_or c.args.order.now c.loop-k.k 0 in
    let there = c.requires.within c.loop-k.k 0 c.loop-k-test.true in
    record {
      size = length-set c.loop-k.places.items at c.loop-k.k ∙ c.loop-k.invariant.size;
      placed = λ apart j less.
          elim (cases_lt j c.loop-k.k) [
            | inl below ↦
                get_or-set_other c.loop-k.places.items at (get_or c.args.order.now j 0) c.loop-k.k 0
                (apart j c.loop-k.k below c.loop-k-test.true)
                ∙ c.loop-k.invariant.placed apart j below
            | inr last ↦
                let same : j ≡ c.loop-k.k = omega (arith, less, last) in
                ap (λ n. get_or (set c.loop-k.places.items at c.loop-k.k) (get_or c.args.order.now n 0) 0) same
                ∙ get_or-set_same c.loop-k.places.items at c.loop-k.k 0 (omega (arith, there, c.loop-k.invariant.size))
                ∙ sym same
          ];
    }
