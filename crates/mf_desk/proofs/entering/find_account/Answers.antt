use Rattle.std.proofs.Common.{◌∙◌}
use Rattle.mf_desk.proofs.LoanLemmas.{account_asked, if_none}
use Rattle.mf_desk.proofs.entering.find_account.Goals as goal

pub returns-clause-asks : goal.returns-clause-asks
returns-clause-asks g c = account_asked g.S.InstitutionStore c.args.loan.now c.in_ok-ledger.field-0
    c.in_ok-account.field-0-0 c.in_ok-account.account c.args.store.now c.ledger.new.self c.ok_or-2.result
    c.in_ok-ledger.ensures c.in_ok-account.ensures.ok_part (c.ok_or-2.ensures.value ∙ if_none c.in_ok-account.account)
