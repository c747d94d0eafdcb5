use Rattle.std.proofs.Common.{◌∙◌, [], ◌∷◌, None, Some, sym, subst}
use Rattle.mf_store_journal.specs.declared.journal.Journal.{Journal}
use Rattle.sqlite.specs.Files.{over_files}
use Rattle.mf_store_noted.specs.Tabled.{IsTabled}
use Rattle.mf_archive_files.specs.Moving.{ArchivesOver, MovesAndCloses}
use Rattle.mf_archive_files.proofs.MovingLemmas.{close_over}
use Rattle.mf_archive_files.proofs.OverLemmas.{closed_without, not_made, not_opened, once_made, same_refusal, was_found}
use Rattle.mf_archive_files.proofs.OverLemmas.{was_refused}
use Rattle.mf_archive_files.specs.declared.finding.Unmoved.TheVariants.{NoJournal}
use Rattle.mf_archive_files.proofs.over.archive_over.Goals as goal

pub returns-in-Ok-2-clause-archives : goal.returns-in-Ok-2-clause-archives
returns-in-Ok-2-clause-archives g c clean clean_too journal i lines is s are l =
    let lines_of = c.lines_to_move-found in
    let good = c.close_file.ensures.premise clean in (
      (was_found c.args.day i.catalogue.day journal _ lines lines_of.result.0 c.in-Ok-2.is
          (lines_of.ensures.found good journal i lines is s are)).1,
      close_over lines_of.result.1 c.close_file.result c.close_file.ensures clean (Some journal) i
          (lines_of.ensures.tabled good journal is i s) (i ∷ []) (lines_of.ensures.leaves good journal is i s l),
    )

pub returns-in-Err-clause-archives : goal.returns-in-Err-clause-archives
returns-in-Err-clause-archives g c clean clean_too journal i lines is s are l =
    let lines_of = c.lines_to_move-found in
    let good = c.close_file-in-Err.ensures.premise clean in
    not_made c.args.day c.args.is_free i lines c.close_file-in-Err.result c.in-Err.unmoved
    (was_refused c.args.day i.catalogue.day journal c.in-Err.unmoved lines lines_of.result.0 c.in-Err.is
    (lines_of.ensures.found good journal i lines is s are))
    (close_over lines_of.result.1 c.close_file-in-Err.result c.close_file-in-Err.ensures clean (Some journal) i
    (lines_of.ensures.tabled good journal is i s) (i ∷ []) (lines_of.ensures.leaves good journal is i s l))

pub returns-in-Err-clause-none : goal.returns-in-Err-clause-none
returns-in-Err-clause-none g c is =
    same_refusal c.in-Err.unmoved NoJournal c.lines_to_move-found.result.0 c.in-Err.is
    (c.lines_to_move-found.ensures.none is).0

pub returns-in-Err-clause-kept : goal.returns-in-Err-clause-kept
returns-in-Err-clause-kept g c clean is i s l =
    closed_without c.args.store c.lines_to_move-found.result.1 c.close_file-in-Err.result
    c.close_file-in-Err.ensures clean is
    (c.lines_to_move-found.ensures.none is).1 i s l

pub returns-in-Ok-new_archive-clause-archives : goal.returns-in-Ok-new_archive-clause-archives
returns-in-Ok-new_archive-clause-archives g c clean clean_too journal i lines is s are l =
    let lines_of = c.lines_to_move-found in
    let moves = c.archive_and_close-moved in
    let good = moves.ensures.premise clean in
    let good_too = moves.ensures.premise_too clean_too in
    let f = was_found c.args.day i.catalogue.day journal c.in-Ok.journal lines lines_of.result.0 c.in-Ok.is
    (lines_of.ensures.found good journal i lines is s are) in
    subst (λ r. ArchivesOver c.args.day c.args.is_free journal.begins i lines r moves.result.1 (Some moves.result.2))
    (sym c.once_begun.ensures)
    (once_made c.args.day c.args.is_free journal.begins i lines moves.result.1 moves.result.2 moves.result.0 f.1
    c.if-is_free.true
    (subst (λ (j : Journal). MovesAndCloses c.args.day j.begins i lines moves.result.0 moves.result.1 moves.result.2)
    f.0 (moves.ensures.moves clean clean_too i lines (record {
      tabled = subst (λ (j : Journal). IsTabled over_files (Some j) lines_of.result.1 i) (sym f.0)
          (lines_of.ensures.tabled good journal is i s);
      lines_are = are;
      empty = c.in-Ok-new_archive.ensures.empty good_too;
    }) (lines_of.ensures.leaves good journal is i s l))))

pub returns-in-Ok-new_archive-clause-kept : goal.returns-in-Ok-new_archive-clause-kept
returns-in-Ok-new_archive-clause-kept g c clean is i s l =
    let never = sym c.in-Ok.is ∙ (c.lines_to_move-found.ensures.none is).0 in absurd (cc)

pub returns-in-Err-new_archive-clause-archives : goal.returns-in-Err-new_archive-clause-archives
returns-in-Err-new_archive-clause-archives g c clean clean_too journal i lines is s are l =
    let lines_of = c.lines_to_move-found in
    let good = c.close_file-in-Err-new_archive.ensures.premise clean in
    let f = was_found c.args.day i.catalogue.day journal c.in-Ok.journal lines lines_of.result.0 c.in-Ok.is
    (lines_of.ensures.found good journal i lines is s are) in
    not_opened c.args.day c.args.is_free i lines c.close_file-in-Err-new_archive.result
    c.in-Err-new_archive.unmoved c.in-Err-new_archive.ensures.refuses f.1 c.if-is_free.true
    (close_over lines_of.result.1 c.close_file-in-Err-new_archive.result
    c.close_file-in-Err-new_archive.ensures clean (Some journal) i
    (lines_of.ensures.tabled good journal is i s) (i ∷ []) (lines_of.ensures.leaves good journal is i s l))
