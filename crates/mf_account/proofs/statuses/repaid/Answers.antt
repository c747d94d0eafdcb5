use Rattle.std.proofs.Common.{◌≡◌, ◌∙◌, List, ap, arith, get_or}
use Rattle.std.specs.Prelude.{sum_by}
use Rattle.std.proofs.lemmas.List.{take_all}
use Rattle.std.proofs.lemmas.List.Sums.{sum_by_more_le}
use Rattle.mf_account.specs.declared.entry.Entry.{Entry}
use Rattle.mf_account.proofs.StatusLemmas.{repaid_by, repaid-told}
use Rattle.mf_account.proofs.statuses.repaid.Goals as goal

pub returns-in_err-total-clause-some : goal.returns-in_err-total-clause-some
returns-in_err-total-clause-some c room none =
    let all : List Entry = c.args.entries.now in
    let next : Entry = c.entry-item.result in
    let most = sum_by_more_le repaid_by all c.loop-entry.entry-index next c.loop-entry-test.true in
    let own : repaid_by next ≡ repaid_by (get_or all c.loop-entry.entry-index next) = ap repaid_by c.entry-item.is in
    c.in_err-total.ensures (omega (
      arith,
      most,
      own,
      c.loop-entry.invariant,
      c.repaid_by.ensures,
      repaid-told all,
      room,
    ))

pub returns-clause-total : goal.returns-clause-total
returns-clause-total c =
    c.loop-entry.invariant ∙ ap (sum_by repaid_by) (take_all c.loop-entry.entry-index c.args.entries.now
    c.loop-entry-test.false) ∙ repaid-told c.args.entries.now
