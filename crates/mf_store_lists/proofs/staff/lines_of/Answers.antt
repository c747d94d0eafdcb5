use Rattle.std.proofs.Common.{ℕ, ◌∙◌}
use Rattle.sqlite_keyed.proofs.ListLemmas.{all_of}
use Rattle.mf_lists.specs.Lists.{staff_line}
use Rattle.mf_model.specs.Institution.{Staff}
use Rattle.mf_store_schema.specs.Rows.{staff_row}
use Rattle.mf_store_values.specs.Flat.{staff_in}
use Rattle.mf_store_values.proofs.ReadLemmas.{next_read, all_read}
use Rattle.mf_store_lists.proofs.staff.lines_of.Goals as goal

pub loop-row-preserved : goal.loop-row-preserved
loop-row-preserved c office staff are =
    next_read (λ (s : ℕ × Staff). Unit {0}) (λ s. staff_row (staff_in office s.0 s.1)) staff_line staff c.args.rows.now
    c.loop-row.row-index c.in_ok-line_of.field-0 are (all_of _ (λ s. tt) staff) c.loop-row-test.true c.row-item.is
    c.in_ok-push.ensures.items (c.loop-row.invariant office staff are) (λ s any. c.in_ok-line_of.ensures.line office s)

pub returns-clause-lines : goal.returns-clause-lines
returns-clause-lines c office staff are =
    c.new.ensures ∙ all_read (λ s. staff_row (staff_in office s.0 s.1)) staff_line staff c.args.rows.now
    c.loop-row.row-index are c.loop-row-test.false (c.loop-row.invariant office staff are)
