use Rattle.std.proofs.Common.{◌≡◌, ◌∙◌, ap, sym}
use Rattle.std.specs.Prelude.{◌&&◌}
use Rattle.mf_office.specs.Keys.{is_in_range}
use Rattle.mf_office.proofs.TextLemmas.{in_range_is, not_from}
use Rattle.mf_office.proofs.KeyLemmas.{range_of_tree}
use Rattle.mf_office.proofs.key.in_range.Goals as goal

then_value : (c : goal.After-high-then-le-1) → c.lt.result ≡ is_in_range c.args.low.now c.args.high.now c.args.key.now
then_value c =
    ap (λ b. b && c.lt.result) (sym c.if-le.true)
    ∙ in_range_is c.args.low.now c.args.high.now c.args.key.now c.le.result c.lt.result c.le.ensures c.lt.ensures

else_value : (c : goal.Else-le) → c.le.result ≡ is_in_range c.args.low.now c.args.high.now c.args.key.now
else_value c = not_from c.args.low.now c.args.high.now c.args.key.now c.le.result c.le.ensures c.if-le.false

pub returns-then-le-clause-value : goal.returns-then-le-clause-value
returns-then-le-clause-value c = then_value c

pub returns-then-le-clause-subtree : goal.returns-then-le-clause-subtree
returns-then-le-clause-subtree c = range_of_tree _ _ _ _ (then_value c)

pub returns-else-le-clause-value : goal.returns-else-le-clause-value
returns-else-le-clause-value c = else_value c

pub returns-else-le-clause-subtree : goal.returns-else-le-clause-subtree
returns-else-le-clause-subtree c = range_of_tree _ _ _ _ (else_value c)
