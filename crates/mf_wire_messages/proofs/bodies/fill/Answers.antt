use Rattle.std.proofs.Common.{◌∙◌, arith}
use Rattle.mf_wire_messages.proofs.HeadLemmas.{read_more, kept, piece_fits}
use Rattle.mf_wire_messages.proofs.bodies.fill.Goals as goal

pub loop-size-preserved : goal.loop-size-preserved
loop-size-preserved g c =
    let whole = kept c.loop-size.size c.loop-size.room c.read_some.new.room c.loop-size.invariant.within
    c.read_some.auto.room in
    let fits = piece_fits c.loop-size.size c.loop-size.room c.read_some.new.room c.loop-size.invariant.within
    c.read_some.auto.room in record {
      long = whole ∙ c.loop-size.invariant.long;
      within = omega (arith, whole, fits, c.in-Ok.ensures.bound.0);
      told = read_more _ _ _ c.loop-size.size c.in-Ok.n c.loop-size.room c.read_some.new.room
          c.loop-size.invariant.within c.in-Ok.ensures.bound.0 c.loop-size.invariant.told c.in-Ok.ensures.bytes.0;
      sound = c.in-Ok.ensures.sound ∙ c.loop-size.invariant.sound;
    }
