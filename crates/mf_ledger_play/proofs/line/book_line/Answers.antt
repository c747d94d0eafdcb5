use Rattle.mf_journal.specs.Chain.{line_of_row}
use Rattle.mf_ledger_play.proofs.LineLemmas.{line_booked}
use Rattle.mf_ledger_play.proofs.line.book_line.Goals as goal

pub returns-in-Ok-put_passed-clause-books : goal.returns-in-Ok-put_passed-clause-books
returns-in-Ok-put_passed-clause-books g c n is =
    line_booked g.S.InstitutionStore c.args.asked.now n c.args.number c.in-Ok.day (line_of_row c.args.row) is
    c.args.store.now c.business_day.new.self (c.in-Ok.ensures {u = tt}) c.args.text.now.items
    c.book_own.new.text.items c.put_passed.new.text.items c.book_own.new.store c.put_passed.new.store
    (rw c.in-Ok-Ok.field-0-is at (c.in-Ok-Ok.ensures {u = tt}).books) (c.in-Ok-put_passed.ensures {u = tt}).adds
