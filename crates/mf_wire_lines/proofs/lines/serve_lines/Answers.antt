use Rattle.std.proofs.Common.{◌≡◌, ◌≢◌, ◌∙◌, refl, ℕ, [], List, take, length, subst, arith, Option}
use Rattle.std.proofs.lemmas.List.{length-take-le}
use Rattle.std.specs.Io.KnownBytes.{Consumes}
use Rattle.mf_wire_lines.specs.Cut.{begun_line}
use Rattle.mf_wire_lines.proofs.Serving.{Going-start, Going-more, ends_whole, ends_writing_last, ends_writing}
use Rattle.mf_wire_lines.proofs.lines.serve_lines.Goals as goal

pub loop-taken-init : goal.loop-taken-init
loop-taken-init g c = record {
  counted = omega arith;
  bounded = omega arith;
  told = Going-start _ _ _ _ _ c.requires.empty;
  source_sound = refl;
  sink_sound = refl;
}

no_bytes : (a b : Option (List ℕ)) (buf : List ℕ) (n : ℕ) → n ≡ 0 → Consumes a b (take n buf) → Consumes a b []
no_bytes a b buf n e ate = subst (λ k. Consumes a b (take k buf)) e ate

pub returns-in_default-answer_line-clause-ends : goal.returns-in_default-answer_line-clause-ends
returns-in_default-answer_line-clause-ends g c =
    let loop = c.loop-taken.invariant in
    let none = no_bytes _ _ c.read_some.new.room c.in-Ok.n c.if-n-eq0.true c.in-Ok.ensures.bytes.0 in
    let end = c.in-Ok.ensures.bytes.1 c.if-n-eq0.true (omega arith) in
    let half = rw c.as_slice.ensures.value at c.in_default-answer_line.ensures.err in
    let fails = subst (λ faults. g.W.Sink.faults c.answer_line.new.sink ≢ faults) loop.sink_sound
    c.in_default-answer_line.ensures.fault in
    ends_writing_last _ _ c.loop-taken.state _ _ (g.R.Source.unread c.loop-taken.source)
    (g.W.Sink.written c.loop-taken.sink) c.loop-taken.held _ _ none end
    (c.in-Ok.ensures.sound ∙ loop.source_sound) fails half loop.told

pub returns-then-n-eq0-clause-ends : goal.returns-then-n-eq0-clause-ends
returns-then-n-eq0-clause-ends g c =
    let loop = c.loop-taken.invariant in
    let none = no_bytes _ _ c.read_some.new.room c.in-Ok.n c.if-n-eq0.true c.in-Ok.ensures.bytes.0 in
    let end = c.in-Ok.ensures.bytes.1 c.if-n-eq0.true (omega arith) in
    let one = rw c.as_slice.ensures.value at c.in-Ok-answer_line.ensures.ok.1 in
    ends_whole _ _ c.loop-taken.state _ _ (g.R.Source.unread c.loop-taken.source) (g.W.Sink.written c.loop-taken.sink)
    c.loop-taken.held _ _ _ none end
    (c.in-Ok.ensures.sound ∙ loop.source_sound) (c.in-Ok-answer_line.ensures.sound ∙ loop.sink_sound) one loop.told

pub returns-in-Err-clause-ends : goal.returns-in-Err-clause-ends
returns-in-Err-clause-ends g c =
    let loop = c.loop-taken.invariant in
    let fails = subst (λ faults. g.W.Sink.faults c.feed.new.sink ≢ faults) loop.sink_sound c.in-Err.ensures.fault in
    ends_writing _ _ c.loop-taken.state _ _ (g.R.Source.unread c.loop-taken.source) (g.W.Sink.written c.loop-taken.sink)
    c.loop-taken.held _ _ _ _ c.in-Ok.ensures.bytes.0
    (c.in-Ok.ensures.sound ∙ loop.source_sound) fails c.in-Err.ensures.err loop.told

pub overflow_add-answered : goal.overflow_add-answered
overflow_add-answered g c =
    let t = c.loop-taken.invariant.told in
    let more = (c.in-Ok-feed.ensures.ok (begun_line t.bytes) t.holds).0 in
    omega (
      arith,
      more,
      c.in-Ok.ensures.bound.0,
      c.in-Ok.ensures.bound.1,
      c.loop-taken.invariant.counted,
      c.loop-taken.invariant.bounded,
      c.loop-taken.auto.room,
      c.read_some.auto.room,
      c.requires.room,
    )

pub overflow_add-result-in-Err : goal.overflow_add-result-in-Err
overflow_add-result-in-Err g c =
    let t = c.loop-taken.invariant.told in
    let more = (c.in-Err.ensures.err (begun_line t.bytes) t.holds).0 in
    omega (
      arith,
      more,
      c.in-Ok.ensures.bound.0,
      c.in-Ok.ensures.bound.1,
      c.loop-taken.invariant.counted,
      c.loop-taken.invariant.bounded,
      c.loop-taken.auto.room,
      c.read_some.auto.room,
      c.requires.room,
    )

pub loop-taken-preserved : goal.loop-taken-preserved
loop-taken-preserved g c =
    let t = c.loop-taken.invariant.told in
    let more = (c.in-Ok-feed.ensures.ok (begun_line t.bytes) t.holds).0 in
    let long : length (take c.in-Ok.n c.read_some.new.room) ≡ c.in-Ok.n =
    length-take-le c.in-Ok.n c.read_some.new.room c.in-Ok.ensures.bound.0 in
    record {
      counted = omega (arith, more, c.in-Ok.ensures.bound.0, c.in-Ok.ensures.bound.1, c.loop-taken.invariant.counted);
      bounded = omega (
        arith,
        c.in-Ok.ensures.bound.0,
        c.loop-taken-test.true,
        c.loop-taken.auto.room,
        c.read_some.auto.room,
        c.requires.room,
      );
      told = Going-more _ _ c.loop-taken.state _ _ (g.R.Source.unread c.loop-taken.source) _ c.loop-taken.held _ _ _
          (g.W.Sink.written c.loop-taken.sink) _ _ _ _ _ c.in-Ok.ensures.bytes.0 long c.in-Ok-feed.ensures.ok
          c.loop-taken.invariant.told;
      source_sound = c.in-Ok.ensures.sound ∙ c.loop-taken.invariant.source_sound;
      sink_sound = c.in-Ok-feed.ensures.sound ∙ c.loop-taken.invariant.sink_sound;
    }
