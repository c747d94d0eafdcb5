use Rattle.std.proofs.Common.{◌≡◌, ◌++◌, ◌∙◌, [], refl, sym, ap, subst, inr, length, drop, Some}
use Rattle.std.proofs.lemmas.List.{take_rest}
use Rattle.std.specs.Option.{IsSome}
use Rattle.std.proofs.KnownBytes.{Consumes-nil}
use Rattle.mf_wire_messages.specs.Messages.{frame_of, told_in}
use Rattle.mf_wire_messages.specs.Framing.{frame_at}
use Rattle.mf_wire_messages.specs.Arrivals.{bytes_left}
use Rattle.mf_wire_messages.proofs.MessageLemmas.{head_there, unframed, cut_short, whole_request, same_request, written}
use Rattle.mf_wire_messages.proofs.reading.read_request.Goals as goal

pub returns-in_default-clause-ok : goal.returns-in_default-clause-ok
returns-in_default-clause-ok g c =
    let at = c.requires.complete.1 in
    let rest = drop c.args.spans.len c.args.head.items ++ ([] ++ bytes_left (g.R.Source.unread c.args.source.now)) in
    let frame = ap frame_of (sym at.fields) ∙ sym (rw c.deref-2.ensures.value at c.in_default.ensures.value) in (
      [],
      Consumes-nil _,
      inr (
        c.requires.complete.0,
        rest,
        head_there c.args.head.items _ c.args.fields.now c.args.spans _ c.requires.short c.requires.few
            c.requires.within at,
        unframed c.requires.complete.0 rest frame,
        cc (c.is_head-to_head.ensures, c.of.ensures, c.deref.ensures.value, at.method),
      ),
    )

pub returns-in_default-room-clause-ok : goal.returns-in_default-room-clause-ok
returns-in_default-room-clause-ok g c =
    let at = c.requires.complete.1 in (
      [],
      Consumes-nil _,
      (
        c.requires.complete.0,
        drop c.args.spans.len c.args.head.items ++ ([] ++ bytes_left (g.R.Source.unread c.args.source.now)),
        head_there c.args.head.items _ c.args.fields.now c.args.spans _ c.requires.short c.requires.few
            c.requires.within at,
        subst IsSome (rw c.deref-2.ensures.value at c.in-Some.ensures.value ∙ ap frame_of at.fields) refl,
        cc (c.is_head-to_head.ensures, c.of.ensures, c.deref.ensures.value, at.method),
      ),
    )

pub returns-then-not-whole-clause-ok : goal.returns-then-not-whole-clause-ok
returns-then-not-whole-clause-ok g c =
    let at = c.requires.complete.1 in
    let left = g.R.Source.unread c.read_body.new.source in
    let begun = drop c.args.spans.len c.args.head.items in
    let frame = ap frame_of (sym at.fields) ∙ sym (rw c.deref-2.ensures.value at c.in-Some.ensures.value) in
    let size : length c.read_body.new.body ≡ c.in-Some.frame.length =
    c.in-Ok-read_body.ensures.kept ∙ ap length c.as_mut_slice.ensures.value ∙ c.in-Ok.ensures in
    let t = rw (c.if-not-whole.true, c.deref-3.ensures.value, take_rest c.args.head.items c.args.spans.len) at
    c.in-Ok-read_body.ensures.ok in (
      t.0,
      t.1,
      inr (
        c.requires.complete.0,
        begun ++ (t.0 ++ bytes_left left),
        head_there c.args.head.items _ c.args.fields.now c.args.spans _ c.requires.short c.requires.few
            c.requires.within at,
        cut_short c.requires.complete.0 begun t.0 left (frame_at c.args.head.items c.in-Some.frame)
            (length c.read_body.new.body) frame size t.2.0 t.2.1,
        cc (c.is_head-to_head.ensures, c.of.ensures, c.deref.ensures.value, at.method),
      ),
    )

pub returns-clause-ok : goal.returns-clause-ok
returns-clause-ok g c =
    let at = c.requires.complete.1 in
    let left = g.R.Source.unread c.read_body.new.source in
    let begun = drop c.args.spans.len c.args.head.items in
    let frame = ap frame_of (sym at.fields) ∙ sym (rw c.deref-2.ensures.value at c.in-Some.ensures.value) in
    let size : length c.read_body.new.body ≡ c.in-Some.frame.length =
    c.in-Ok-read_body.ensures.kept ∙ ap length c.as_mut_slice.ensures.value ∙ c.in-Ok.ensures in
    let t = rw (c.if-not-whole.false, c.deref-3.ensures.value, take_rest c.args.head.items c.args.spans.len) at
    c.in-Ok-read_body.ensures.ok in (
      t.0,
      t.1,
      (
        c.requires.complete.0,
        begun ++ (t.0 ++ bytes_left left),
        head_there c.args.head.items _ c.args.fields.now c.args.spans _ c.requires.short c.requires.few
            c.requires.within at,
        whole_request c.requires.complete.0 begun t.0 c.read_body.new.body left (frame_at c.args.head.items
            c.in-Some.frame) frame size t.2.0 t.2.1
            ∙ same_request _ _ (frame_at c.args.head.items c.in-Some.frame).0 _ _ c.read_body.new.body _ _ _
            (ap told_in (sym at.fields) ∙ sym (rw c.deref-4.ensures.value at c.find_told-told.ensures.value))
            (sym at.method) (sym at.path) (sym (written c.in-Ok.body.len c.read_body.new.body c.in-Ok.body.items
            (c.in-Ok-read_body.ensures.kept ∙ c.as_mut_slice.ensures.len))) ∙ ap Some (sym c.new-message.ensures),
      ),
    )
