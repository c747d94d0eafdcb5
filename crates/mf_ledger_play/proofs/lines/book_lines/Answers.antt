use Rattle.std.proofs.Common.{◌+◌, refl}
use Rattle.std.proofs.lemmas.Option.{slice_get-get_or}
use Rattle.mf_ledger_play.proofs.LineLemmas.{booked_more, stopped_there}
use Rattle.mf_ledger_play.proofs.lines.book_lines.Goals as goal

pub loop-place-preserved : goal.loop-place-preserved
loop-place-preserved g c =
    let m = c.args.before + c.loop-place.place in
    booked_more g.S.InstitutionStore c.args.asked.now c.args.before c.args.rows.now c.loop-place.place m _
    c.args.text.now.items c.loop-place.text.items c.book_line.new.text.items c.args.store.now c.loop-place.store
    c.book_line.new.store (slice_get-get_or _ c.loop-place.place _ c.loop-place-test.true) refl c.loop-place.invariant
    (rw c.in-Ok-Ok.field-0-is at (c.in-Ok-Ok.ensures {u = tt}).books m c.in_ok-number.ensures.number)

pub returns-in-Ok-Err-clause-books : goal.returns-in-Ok-Err-clause-books
returns-in-Ok-Err-clause-books g c =
    let m = c.args.before + c.loop-place.place in
    stopped_there g.S.InstitutionStore c.args.asked.now c.args.before c.args.rows.now c.loop-place.place m _
    c.in-Ok-Err.why c.args.text.now.items c.loop-place.text.items c.book_line.new.text.items
    c.book_line.new.text.items c.args.store.now c.loop-place.store c.book_line.new.store
    (slice_get-get_or _ c.loop-place.place _ c.loop-place-test.true) c.loop-place.invariant
    (rw c.in-Ok-Err.field-0-is at (c.in-Ok-Err.ensures {u = tt}).books m c.in_ok-number.ensures.number)
