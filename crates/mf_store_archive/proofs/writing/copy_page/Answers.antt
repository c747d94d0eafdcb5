use Rattle.std.proofs.Common.{◌≡◌, ◌∙◌, List, Err, Some, sym, ap, subst, rules}
use Rattle.sqlite.specs.Order.{Row}
use Rattle.mf_store_journal.specs.Reading.{page_above}
use Rattle.mf_store_journal.specs.Rows.{journal_rows_in}
use Rattle.mf_store_archive.specs.Paging.{IsPage}
use Rattle.mf_store_archive.specs.Writing.{CopiesPage}
use Rattle.mf_store_archive.proofs.WritingLemmas.{copies, uncopied_rows}
use Rattle.mf_store_archive.proofs.writing.copy_page.Goals as goal

pub returns-clause-copies : goal.returns-clause-copies
returns-clause-copies g c =
    let of = subst (λ (rs : List Row). IsPage c.args.day c.args.head rs c.in_ok-page.page) c.deref.ensures.value
    c.in_ok-page.ensures.page in
    copies g.S.Store g.A.Store c.args.day c.args.head c.args.file.now c.rows_after.new.connection
    c.rows_after.ensures.kept c.in_ok-rows.rows.items
    (λ clean lines keeps. c.in_ok-rows.ensures.rows clean lines keeps ∙ ap (λ n. page_above n lines) c.in-Ok.ensures)
    c.in_ok-page.page of c.args.archive.now c.put_rows.new.archive
    (λ begins first. c.in_ok-put_rows.ensures.files of.kept (journal_rows_in begins (Some first))
    (c.deref-2.ensures.value ∙ of.writes_are))

pub returns-in_err-put_rows-clause-copies : goal.returns-in_err-put_rows-clause-copies
returns-in_err-put_rows-clause-copies g c =
    let of = subst (λ (rs : List Row). IsPage c.args.day c.args.head rs c.in_ok-page.page) c.deref.ensures.value
    c.in_ok-page.ensures.page in
    let fault = c.in_err-put_rows.field-0.0 in
    let given : c.from_residual-in_err-put_rows.result ≡ Err fault = search rules in
    subst (λ r. CopiesPage g.S.Store g.A.Store c.args.day c.args.head c.args.file.now c.rows_after.new.connection
    c.args.archive.now c.put_rows.new.archive r) (sym given)
    (uncopied_rows g.S.Store g.A.Store c.args.day c.args.head c.args.file.now c.rows_after.new.connection
    c.rows_after.ensures.kept c.in_ok-rows.rows.items
    (λ clean lines keeps. c.in_ok-rows.ensures.rows clean lines keeps ∙ ap (λ n. page_above n lines) c.in-Ok.ensures)
    c.in_ok-page.page of c.args.archive.now c.put_rows.new.archive fault
    (λ begins first. c.in_err-put_rows.ensures.files of.kept (journal_rows_in begins (Some first))
    (c.deref-2.ensures.value ∙ of.writes_are)))
