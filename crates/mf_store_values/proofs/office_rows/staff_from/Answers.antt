use Rattle.mf_store_schema.specs.Rows.{staff_row}
use Rattle.mf_store_values.specs.Flat.{staff_in}
use Rattle.mf_store_values.proofs.ReadLemmas.{read_more, read_all}
use Rattle.mf_store_values.proofs.office_rows.staff_from.Goals as goal

pub loop-row-preserved : goal.loop-row-preserved
loop-row-preserved c office staff are =
    read_more (λ number s. staff_row (staff_in office number s)) c.args.rows.now c.loop-row.row-index c.row-item.result
    c.in_ok-member_from.field-0 c.loop-row.staff.items _ staff are c.loop-row-test.true c.row-item.is
    c.in_ok-push.ensures.items (c.loop-row.invariant office staff are) (c.in_ok-member_from.ensures.member office)

pub returns-clause-staff : goal.returns-clause-staff
returns-clause-staff c office staff are = read_all (λ number s. staff_row (staff_in office number s)) c.args.rows.now
    c.loop-row.row-index c.loop-row.staff.items staff are c.loop-row-test.false (c.loop-row.invariant office staff are)
