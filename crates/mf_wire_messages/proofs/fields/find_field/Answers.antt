use Rattle.std.proofs.Common.{◌∙◌, sym, ap, length}
use Rattle.std.proofs.lemmas.List.Elements.{All-get_or}
use Rattle.std.specs.Str.{str_eq_ignore_ascii_case}
use Rattle.httparse.specs.Spans.{IsHeaderWithin}
use Rattle.mf_wire_messages.proofs.FieldLemmas.{values_of-named, values_of-other}
use Rattle.mf_wire_messages.proofs.fields.find_field.Goals as goal
use Rattle.mf_wire_messages.proofs.fields.find_field.Goals.{then-is_named, else-is_named}

pub loop-field-preserved : goal.loop-field-preserved
loop-field-preserved c =
    let test = sym (c.is_named.ensures ∙ ap (λ n. str_eq_ignore_ascii_case n c.args.name.now) c.of.ensures) in
    elim c.if-is_named.branch [
      | then-is_named w ↦ rw (
        w.found-is,
        values_of-named c.args.head.now c.args.name.now c.args.fields.now
            c.loop-field.field-index _ c.loop-field-test.true (test ∙ w.if-is_named.true),
      )
          (w.with_one_more-found.ensures c.args.head.now _ (All-get_or (IsHeaderWithin (length c.args.head.now))
          c.args.fields.now c.loop-field.field-index _ c.loop-field-test.true c.requires).1 c.loop-field.invariant)
      | else-is_named w ↦ rw (
        w.found-is,
        values_of-other c.args.head.now c.args.name.now c.args.fields.now
            c.loop-field.field-index _ c.loop-field-test.true (test ∙ w.if-is_named.false),
      ) c.loop-field.invariant
    ]
