use Rattle.mf_journal.specs.Chain.{line_of_row}
use Rattle.mf_ledger_play.proofs.LineLemmas.{line_moved}
use Rattle.mf_ledger_play.proofs.line.book_loan.Goals as goal

pub returns-clause-moves : goal.returns-clause-moves
returns-clause-moves g c =
    line_moved g.S.InstitutionStore (line_of_row c.args.row) c.args.booking.now
    (record { before = c.in_ok-before.before; after = c.in_ok-after.after }) c.args.store.now c.loan_state.new.store
    c.play_line.new.store c.loan_state-2.new.store c.in_ok-before.ensures
    (rw c.in-Ok-Ok.field-0-is at (c.in-Ok-Ok.ensures {u = tt}).plays) c.in_ok-after.ensures
