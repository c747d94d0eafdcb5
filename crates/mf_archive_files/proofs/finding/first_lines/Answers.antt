use Rattle.std.proofs.Common.{◌≡◌, ℕ, subst}
use Rattle.sqlite.specs.Held.{state}
use Rattle.mf_store_schema.proofs.ReadLemmas.{at_some}
use Rattle.mf_store_journal.proofs.GoingLemmas.{still_unchanged}
use Rattle.mf_store_archive.specs.Archived.{archived}
use Rattle.mf_archive_files.specs.Finding.{are_lines}
use Rattle.mf_archive_files.proofs.FindingLemmas.{found_if}
use Rattle.mf_archive_files.proofs.finding.first_lines.Goals as goal

pub returns-in-Ok-clause-kept : goal.returns-in-Ok-clause-kept
returns-in-Ok-clause-kept g c =
    still_unchanged (state g.S.Store c.args.file.now) (state g.S.Store c.read_journal.new.connection)
    (state g.S.Store c.has_lines_up_to.new.file) c.in-Ok-Some.ensures.kept c.in-Ok.ensures.kept

pub returns-in-Ok-clause-found : goal.returns-in-Ok-clause-found
returns-in-Ok-clause-found g c =
    let read = c.in-Ok-Some in
    found_if g.S.Store c.args.file.now c.read_journal.new.connection c.has_lines_up_to.new.file read.ensures.kept
    c.in-Ok.ensures.kept c.args.day c.args.today read.journal read.ensures.open
    (λ good its. at_some read.field-0 _ read.journal read.field-0-is (read.ensures.only good its))
    c.in-Ok.has_lines c.closed_lines.result
    (λ clean lines keeps days. subst (λ (d : ℕ). c.in-Ok.has_lines ≡ are_lines (archived d lines)) c.number.ensures
    (c.in-Ok.ensures.has clean lines keeps days)) c.closed_lines.ensures

pub returns-in-Err-clause-kept : goal.returns-in-Err-clause-kept
returns-in-Err-clause-kept g c =
    still_unchanged (state g.S.Store c.args.file.now) (state g.S.Store c.read_journal.new.connection)
    (state g.S.Store c.has_lines_up_to.new.file) c.in-Ok-Some.ensures.kept c.in-Err.ensures.kept
