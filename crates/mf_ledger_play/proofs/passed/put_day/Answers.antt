use Rattle.std.proofs.Common.{sym}
use Rattle.mf_ledger_play.proofs.PassedLemmas.{day_left, day_written}
use Rattle.mf_ledger_play.proofs.passed.put_day.Goals as goal

pub returns-in_ok-put_loans-clause-text : goal.returns-in_ok-put_loans-clause-text
returns-in_ok-put_loans-clause-text c k xs yesterday are =
    let passing = c.args.passing.now in
    day_written c.args.asked.now passing.number passing.day k xs c.args.text.now.items c.put_loans.new.text.items
    (sym c.if-spans.ensures) (c.in_ok-put_loans.ensures.text k xs yesterday are)

pub returns-else-spans-clause-text : goal.returns-else-spans-clause-text
returns-else-spans-clause-text c k xs yesterday are =
    let passing = c.args.passing.now in
    day_left c.args.asked.now passing.number passing.day k xs c.args.text.now.items (sym c.if-spans.ensures)
