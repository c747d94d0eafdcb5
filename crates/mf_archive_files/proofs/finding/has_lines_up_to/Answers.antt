use Rattle.std.proofs.Common.{◌∙◌, List, Some, ap, subst}
use Rattle.sqlite.specs.Order.{Row}
use Rattle.mf_store_journal.specs.Reading.{page_above}
use Rattle.mf_store_journal.specs.Rows.{journal_rows_in}
use Rattle.mf_archive_files.specs.Finding.{IsFirstDay}
use Rattle.mf_archive_files.proofs.FindingLemmas.{has_some}
use Rattle.mf_archive_files.proofs.finding.has_lines_up_to.Goals as goal

pub returns-clause-has : goal.returns-clause-has
returns-clause-has g c clean lines keeps days =
    c.is_up_to.ensures
    ∙ has_some c.args.day c.args.begins c.in_ok-rows.rows.items c.in_ok-first.first
    (subst (λ (rs : List Row). IsFirstDay rs c.in_ok-first.first) c.deref.ensures.value c.in_ok-first.ensures.day)
    lines (c.in_ok-rows.ensures.rows clean _ keeps
    ∙ ap (λ n. page_above n (journal_rows_in c.args.begins (Some lines))) c.in_ok-number.ensures.same) days
