use Rattle.std.proofs.Common.{sym, ap, ◌∙◌}
use Rattle.mf_lists.specs.Lists.{begins_with}
use Rattle.mf_store_lists.proofs.FindingLemmas.{has_more, has_end, rest_is}
use Rattle.mf_store_lists.proofs.parts.has_part.Goals as goal

pub loop-start-preserved : goal.loop-start-preserved
loop-start-preserved c =
    has_more c.args.part.now c.args.text.now c.loop-start.start c.loop-start-test.true
    (ap (begins_with c.args.part.now) (sym (rest_is c.args.text.now c.loop-start.start))
    ∙ sym c.begins_with.ensures ∙ c.if-begins_with.false) c.loop-start.invariant

pub returns : goal.returns
returns c =
    has_end c.args.part.now c.args.text.now c.loop-start.start c.loop-start-test.false c.loop-start.invariant
