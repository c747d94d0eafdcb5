use Rattle.std.proofs.Common.{◌≡◌, arith}
use Rattle.std.proofs.lemmas.Bool.{ne_eqb}
use Rattle.std.proofs.lemmas.Fn.{says_at}
use Rattle.mf_store_values.proofs.PartLemmas.{own_here, none_here}
use Rattle.mf_store_sound.proofs.owners.count_own.Goals as goal

pub returns-then-owner_of-owner-clause-count : goal.returns-then-owner_of-owner-clause-count
returns-then-owner_of-owner-clause-count g c of tells =
    let is : c.owner_of.result ≡ of c.row-item.result =
    tells _ _ (says_at g.F.Fn c.owner_of.ensures (λ z. c.owner_of.result)) in
    omega (
      arith,
      c.loop-row.invariant.1 of tells,
      none_here of c.args.owner c.args.rows.now c.loop-row.row-index
          c.row-item.result c.loop-row-test.true c.row-item.is (ne_eqb _ _ (λ same. omega arith)),
    )

pub loop-row-preserved : goal.loop-row-preserved
loop-row-preserved g c = (
  omega arith,
  λ of tells.
      let is : c.owner_of.result ≡ of c.row-item.result =
      tells _ _ (says_at g.F.Fn c.owner_of.ensures (λ z. c.owner_of.result)) in
      omega (
        arith,
        c.loop-row.invariant.1 of tells,
        own_here of c.args.owner c.args.rows.now c.loop-row.row-index
            c.row-item.result c.loop-row-test.true c.row-item.is (omega arith),
      ),
)
