use Rattle.std.specs.Prelude.{string_bytes}
use Rattle.mf_wire_replies.proofs.Joined.{line_put}
use Rattle.mf_lists_replies.proofs.lines.put_lines.Goals as goal

pub loop-line-preserved : goal.loop-line-preserved
loop-line-preserved g c =
    line_put (g.T.ListLine.json c.args.place) c.args.lines.now c.loop-line.line-index c.line-item.result
    c.loop-line.later
    (string_bytes c.args.text.now) (string_bytes c.loop-line.text) (string_bytes c.put_line.new.text)
    c.loop-line-test.true c.line-item.is c.loop-line.invariant.0 c.loop-line.invariant.1 c.in_ok-put_line.ensures.ok
