use Rattle.std.proofs.Common.{◌∙◌}
use Rattle.mf_ledger_play.proofs.PassedLemmas.{days_added, none_added, not_asked}
use Rattle.mf_ledger_play.proofs.passed.put_passed.Goals as goal

pub returns-then-not-is_asked_between-clause-adds : goal.returns-then-not-is_asked_between-clause-adds
returns-then-not-is_asked_between-clause-adds g c =
    let asked = c.args.asked.now in
    none_added g.S.InstitutionStore asked c.args.number c.args.since c.in-Ok.today c.args.text.now.items
    c.args.store.now c.business_day.new.self c.in-Accrual.is (c.in-Ok.ensures {u = tt})
    (λ day low high. not_asked asked.first asked.last day (λ first last.
    let never = c.if-not-is_asked_between.ensures.every day low high first last in cc))

pub returns-clause-adds : goal.returns-clause-adds
returns-clause-adds g c =
    days_added g.S.InstitutionStore c.args.asked.now c.args.number c.args.since c.in-Ok.today
    c.in_ok-held.held.items c.args.text.now.items c.put_days.new.text.items c.args.store.now
    c.business_day.new.self c.hold_loans.new.store c.in-Accrual.is (c.in-Ok.ensures {u = tt})
    c.in_ok-held.ensures.holds (λ k xs are. c.in_ok-put_days.ensures.text k xs (c.deref.ensures.value ∙ are))
