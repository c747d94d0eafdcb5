use Rattle.std.proofs.Common.{◌≡◌, ◌==◌, ◌<◌, ℕ, false, arith}
use Rattle.mf_wire_lines.proofs.RunLemmas.{Answered-one, request_some}
use Rattle.mf_wire_lines.proofs.lines.answer_line.Goals as goal

above : (n : ℕ) → false ≡ (n == 0) → 0 < n
above n e = grind arith

pub returns-in-Ok-clause-ok : goal.returns-in-Ok-clause-ok
returns-in-Ok-clause-ok g c = (
  omega arith,
  Answered-one _ _ _ c.args.line.now _ _ _ (above _ c.if-is_empty.ensures) c.reply_to-reply.ensures.step
      c.in-Ok.ensures.ok,
)

pub returns-clause-err : goal.returns-clause-err
returns-clause-err g c = let w = c.in-Err.ensures.err in record {
  asks = request_some c.args.line.now (above _ c.if-is_empty.ensures);
  text = _;
  stepped = c.reply_to-reply.ensures.step;
  part = w.0;
  short = w.1;
  begun = w.2;
}
