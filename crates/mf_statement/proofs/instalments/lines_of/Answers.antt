use Rattle.std.proofs.Common.{◌+◌, refl, arith}
use Rattle.mf_statement.proofs.LineLemmas.{lines-more}
use Rattle.mf_statement.proofs.instalments.lines_of.Goals as goal

pub loop-place-preserved : goal.loop-place-preserved
loop-place-preserved c =
    lines-more c.args.rows.now c.loop-place.place (c.loop-place.place + 1) c.index-rows-place.result
    c.instalment_line.result c.loop-place.lines.items c.push.new.self.items
    (omega arith) c.index-rows-place.is refl c.instalment_line.ensures c.loop-place.invariant c.in_ok-push.ensures.items
