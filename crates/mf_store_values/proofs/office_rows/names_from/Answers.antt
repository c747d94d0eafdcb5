use Rattle.mf_store_schema.specs.Rows.{client_row}
use Rattle.mf_store_values.specs.Flat.{client_in}
use Rattle.mf_store_values.proofs.ReadLemmas.{read_more, read_all}
use Rattle.mf_store_values.proofs.office_rows.names_from.Goals as goal

pub loop-row-preserved : goal.loop-row-preserved
loop-row-preserved c office names are =
    read_more (λ number name. client_row (client_in office number name)) c.args.rows.now c.loop-row.row-index
    c.row-item.result c.in_ok-name_from.field-0 c.loop-row.names.items _ names are c.loop-row-test.true
    c.row-item.is c.in_ok-push.ensures.items (c.loop-row.invariant office names are)
    (c.in_ok-name_from.ensures.name office)

pub returns-clause-names : goal.returns-clause-names
returns-clause-names c office names are = read_all (λ number name. client_row (client_in office number name))
    c.args.rows.now c.loop-row.row-index c.loop-row.names.items names are c.loop-row-test.false
    (c.loop-row.invariant office names are)
