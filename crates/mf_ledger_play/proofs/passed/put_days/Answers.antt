use Rattle.std.proofs.Common.{◌≡◌, ◌+◌, ◌-◌, ◌++◌, map, ap, ◌∙◌, arith}
use Rattle.std.specs.List.{flat_map, range_with_len}
use Rattle.mf_ledger_play.specs.Due.{loan_due}
use Rattle.mf_ledger_play.specs.Told.{span_text}
use Rattle.mf_ledger_play.proofs.PassedLemmas.{days_more, days_none}
use Rattle.mf_ledger_play.proofs.passed.put_days.Goals as goal

pub loop-passed-init : goal.loop-passed-init
loop-passed-init c = days_none c.args.asked.now c.args.number c.args.since c.args.held.now c.args.text.now.items

pub loop-passed-preserved : goal.loop-passed-preserved
loop-passed-preserved c =
    let first = c.number-first.ensures in
    let before = c.in_ok-before.ensures.day in
    let day = c.in_ok-day.ensures.day in
    days_more c.args.asked.now c.args.number c.args.since c.args.held.now c.loop-passed.passed c.in_ok-before.before
    c.in_ok-day.day c.args.text.now.items c.loop-passed.text.items c.put_day.new.text.items
    (omega (arith, first, before)) (omega (arith, first, day)) c.loop-passed.invariant c.in_ok-put_day.ensures.text

pub returns-clause-text : goal.returns-clause-text
returns-clause-text c k xs are =
    let first = c.number-first.ensures in
    let last = c.number.ensures in
    let count = c.saturating_sub-passed-end.ensures in
    let low = c.loop-passed-test.false in
    let high = c.loop-passed.auto.passed-end in
    let all : c.loop-passed.passed ≡ c.args.today - c.args.since = omega (arith, first, last, count, low, high) in
    c.loop-passed.invariant k xs are
    ∙ ap (λ n. c.args.text.now.items ++ span_text c.args.asked.now (flat_map (λ day. map (loan_due c.args.number day k)
    xs) (range_with_len (c.args.since + 1) n))) all
