use Rattle.std.proofs.Common.{take, ap, ◌∙◌, arith}
use Rattle.std.proofs.lemmas.List.{take_more, take_all}
use Rattle.mf_wire_lines.specs.Cut.{without_return}
use Rattle.mf_wire_lines.proofs.Feeding.{Fed-end, Fed-within, Fed-broken}
use Rattle.mf_wire_lines.proofs.lines.feed.Goals as goal
use Rattle.mf_wire_lines.proofs.lines.feed.Goals.{then-byte-eq10+in-Ok, else-byte-eq10}

pub returns-in-Err-clause-err : goal.returns-in-Err-clause-err
returns-in-Err-clause-err g c = λ begun e.
    let t = c.loop-byte.invariant.told begun e in
    let line = c.without_return.ensures ∙ ap without_return c.as_slice.ensures.value in (
      omega arith,
      Fed-broken _ _ c.loop-byte.state _ begun c.args.piece.now c.loop-byte.held c.loop-byte.byte-index _
          (g.W.Sink.written c.loop-byte.sink) _ _ c.loop-byte-test.true c.if-byte-eq10.true t
          (rw line at c.in-Err.ensures.err),
    )

pub loop-byte-preserved : goal.loop-byte-preserved
loop-byte-preserved g c = record {
  counted = elim c.if-byte-eq10.branch [
    | then-byte-eq10+in-Ok w ↦ omega (arith, w.answered-is, w.in-Ok.ensures.ok.0, c.loop-byte.invariant.counted)
    | else-byte-eq10 w ↦ omega (arith, w.answered-is, c.loop-byte.invariant.counted)
  ];
  sink_sound = elim c.if-byte-eq10.branch [
    | then-byte-eq10+in-Ok w ↦ rw w.sink-is (w.in-Ok.ensures.sound ∙ c.loop-byte.invariant.sink_sound)
    | else-byte-eq10 w ↦ rw w.sink-is c.loop-byte.invariant.sink_sound
  ];
  told = λ begun e. let t = c.loop-byte.invariant.told begun e in
      let more = take_more c.args.piece.now c.loop-byte.byte-index 0 c.loop-byte-test.true in
      elim c.if-byte-eq10.branch [
        | then-byte-eq10+in-Ok w ↦ let line = w.without_return.ensures ∙ ap without_return w.as_slice.ensures.value in
            let one = rw line at w.in-Ok.ensures.ok.1 in
            rw (w.held-is, w.state-is, w.sink-is, w.answered-is, w.clear.ensures, more)
            (Fed-end _ _ c.loop-byte.state _ begun (take c.loop-byte.byte-index c.args.piece.now) c.loop-byte.held _
            _ (g.W.Sink.written c.loop-byte.sink) _ _ _ w.if-byte-eq10.true t one)
        | else-byte-eq10 w ↦ rw (w.held-is, w.state-is, w.sink-is, w.answered-is, w.push.ensures, more)
            (Fed-within _ _ _ begun (take c.loop-byte.byte-index c.args.piece.now) c.loop-byte.held _ _ _ _
            w.if-byte-eq10.false t)
      ];
}

pub returns-clause-ok : goal.returns-clause-ok
returns-clause-ok g c = λ begun e.
    let t = c.loop-byte.invariant.told begun e in
    let all = take_all c.loop-byte.byte-index c.args.piece.now (omega arith) in
    let u = rw all at t in
    (omega arith, u.0, u.1)
