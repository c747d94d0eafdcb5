use Rattle.std.proofs.Common.{◌≡◌}
use Rattle.mf_store_sound.proofs.StoredLemmas.{nothing_is}
use Rattle.mf_store_sound.proofs.loans.are_entries_of.Goals as goal

pub returns-in_default : goal.returns-in_default
returns-in_default c l is by =
    rw (← c.in_default.ensures c.args.lender.now.today c.args.lender.now.office c.args.number l c.requires by is)
    (nothing_is c.args.own.now c.is_empty.result c.is_empty.ensures)

pub returns : goal.returns
returns c l is by =
    let day = c.in-Some.ensures c.args.lender.now.today c.args.lender.now.office c.args.number l c.requires by is in
    let periods : l.periods ≡ c.args.row.now.periods = λ t. (is t).periods in
    rw (← day, periods) c.are_loan_entries.ensures
