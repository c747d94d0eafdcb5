use Rattle.std.proofs.Common.{arith, length-drop, ◌∙◌}
use Rattle.std.proofs.lemmas.List.{take_rest}
use Rattle.mf_wire_lines.proofs.Writes.{put_more}
use Rattle.mf_wire_lines.proofs.writing.put.Goals as goal

pub loop-done-preserved : goal.loop-done-preserved
loop-done-preserved g c =
    let rest = take_rest c.args.bytes.now c.loop-done.done in
    let bound = rw rest at c.in_ok-done.ensures.bound in record {
      within = omega (arith, bound, length-drop c.loop-done.done c.args.bytes.now, c.loop-done.invariant.within);
      told = put_more _ _ _ c.args.bytes.now c.loop-done.done c.in_ok-done.field-0 c.loop-done.invariant.told
          (rw rest at c.in_ok-done.ensures.bytes);
      sound = c.in_ok-done.ensures.sound ∙ c.loop-done.invariant.sound;
    }
