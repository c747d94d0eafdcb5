use Rattle.mf_statement.proofs.PartLemmas.{none-more}
use Rattle.mf_statement.proofs.entries.without_parts.Goals as goal

pub loop-preserved : goal.loop-preserved
loop-preserved c =
    none-more c.loop.counter c.new-in-loop.result c.new.result.items c.loop.all.items c.push.new.self.items
    c.new.ensures.items c.new-in-loop.ensures c.loop.invariant c.in_ok-push.ensures.items
