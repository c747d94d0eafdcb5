use Rattle.std.proofs.Common.{◌≡◌, ◌≤◌, ◌∙◌, length, take, arith}
use Rattle.std.proofs.lemmas.List.{length-take-le}
use Rattle.mf_wire_messages.proofs.HeadLemmas.{read_more, kept, piece_fits, full, overflows, not_empty, some_taken}
use Rattle.mf_wire_messages.proofs.head.read_head.Goals as goal

pub returns-in-Ok-Complete-clause-ok : goal.returns-in-Ok-Complete-clause-ok
returns-in-Ok-Complete-clause-ok g c =
    let within : c.loop-size.size ≤ length c.loop-size.room =
    omega (arith, c.loop-size.invariant.long, c.loop-size.invariant.within) in
    let whole = kept c.loop-size.size c.loop-size.room c.read_some.new.room within c.read_some.auto.room in
    let fits = piece_fits c.loop-size.size c.loop-size.room c.read_some.new.room within c.read_some.auto.room in (
      omega (arith, whole, fits, c.in-Ok.ensures.bound.0),
      read_more _ _ _ c.loop-size.size c.in-Ok.n c.loop-size.room c.read_some.new.room within c.in-Ok.ensures.bound.0
          c.loop-size.invariant.told c.in-Ok.ensures.bytes.0,
      rw c.in-Ok-Complete.field-0-is at c.in-Ok-Complete.ensures.within,
      rw c.in-Ok-Complete.field-0-is at c.in-Ok-Complete.ensures.complete,
    )

pub loop-size-preserved : goal.loop-size-preserved
loop-size-preserved g c =
    let within : c.loop-size.size ≤ length c.loop-size.room =
    omega (arith, c.loop-size.invariant.long, c.loop-size.invariant.within) in
    let whole = kept c.loop-size.size c.loop-size.room c.read_some.new.room within c.read_some.auto.room in
    let fits = piece_fits c.loop-size.size c.loop-size.room c.read_some.new.room within c.read_some.auto.room in
    record {
      long = whole ∙ c.loop-size.invariant.long;
      many = c.parse_request.auto.headers ∙ c.loop-size.invariant.many;
      within = omega (arith, fits, c.in-Ok.ensures.bound.0, c.loop-size.invariant.long);
      told = read_more _ _ _ c.loop-size.size c.in-Ok.n c.loop-size.room c.read_some.new.room within
          c.in-Ok.ensures.bound.0 c.loop-size.invariant.told c.in-Ok.ensures.bytes.0;
      none = λ _. rw c.in-Ok-Partial.field-0-is at c.in-Ok-Partial.ensures.partial;
      sound = c.in-Ok.ensures.sound ∙ c.loop-size.invariant.sound;
    }

pub returns-in-Err-clause-ok : goal.returns-in-Err-clause-ok
returns-in-Err-clause-ok g c =
    let within : c.loop-size.size ≤ length c.loop-size.room =
    omega (arith, c.loop-size.invariant.long, c.loop-size.invariant.within) in (
      _,
      read_more _ _ _ c.loop-size.size c.in-Ok.n c.loop-size.room c.read_some.new.room within c.in-Ok.ensures.bound.0
          c.loop-size.invariant.told c.in-Ok.ensures.bytes.0,
      some_taken c.loop-size.size c.in-Ok.n c.loop-size.room c.read_some.new.room within c.in-Ok.ensures.bound.0
          c.if-n-eq0.false,
      overflows _ _ _ c.loop-size.invariant.many c.in-Err.ensures.no_room,
    )

pub returns-clause-ok : goal.returns-clause-ok
returns-clause-ok g c =
    let within : c.loop-size.size ≤ length c.loop-size.room =
    omega (arith, c.loop-size.invariant.long, c.loop-size.invariant.within) in
    let long : length (take c.loop-size.size c.loop-size.room) ≡ c.loop-size.size =
    length-take-le c.loop-size.size c.loop-size.room within in
    let most : 16384 ≤ c.loop-size.size = omega (arith, c.loop-size-test.false, c.loop-size.invariant.long) in (
      take c.loop-size.size c.loop-size.room,
      c.loop-size.invariant.told,
      not_empty _ (omega (arith, long, most)),
      full _ _ (omega (arith, long, most)) (c.loop-size.invariant.none (omega (arith, most))),
    )
