use Rattle.mf_desk.proofs.LoanLemmas.{told_of_account}
use Rattle.mf_desk.proofs.statements.show_entries.Goals as goal

pub returns-clause-decides : goal.returns-clause-decides
returns-clause-decides g c caller = told_of_account g.S.InstitutionStore c.args.loan caller c.in_ok-ledger.field-0
    c.in_ok-account.field-0-0 c.in_ok-account.account c.in_ok-lines.lines c.args.store.now c.ledger.new.self
    c.tell.result c.in_ok-ledger.ensures c.in_ok-account.ensures.ok_part c.in_ok-lines.ensures.lines c.tell.ensures
