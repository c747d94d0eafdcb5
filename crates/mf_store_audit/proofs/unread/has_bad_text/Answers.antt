use Rattle.std.proofs.Common.{arith, subst, sym, ◌∙◌, true≢false}
use Rattle.mf_store_audit.specs.Unread.{IsBadText}
use Rattle.mf_store_audit.proofs.UnreadLemmas.{below_more, none_bad, has_none}
use Rattle.mf_store_audit.proofs.unread.has_bad_text.Goals.{in-Ok+else-is_bad_text, in_default}
use Rattle.mf_store_audit.proofs.unread.has_bad_text.Goals as goal

pub loop-column-preserved : goal.loop-column-preserved
loop-column-preserved c =
    below_more c.args.row.now c.loop-column.column c.loop-column.invariant (elim c.match-get_ref.branch [
      | in-Ok+else-is_bad_text w ↦
          λ bad. absurd (true≢false (
          sym (w.is_bad_text.ensures.1 (subst IsBadText (sym w.in-Ok.ensures.ok.1) bad)) ∙ w.if-is_bad_text.false
          ))
      | in_default w ↦ λ bad. omega (
        arith,
        c.column_count-column-end.ensures,
        c.loop-column-test.true,
        w.in_default.ensures.err.1,
      )
    ])

pub returns : goal.returns
returns c = has_none c.args.row.now (none_bad c.args.row.now c.loop-column.column
    (omega (arith, c.column_count-column-end.ensures, c.loop-column-test.false)) c.loop-column.invariant)
