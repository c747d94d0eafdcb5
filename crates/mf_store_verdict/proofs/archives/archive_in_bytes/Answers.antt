use Rattle.std.proofs.Common.{ap, refl}
use Rattle.sqlite.specs.Files.{file_state}
use Rattle.mf_store_sql.proofs.OpenLemmas.{always_clean}
use Rattle.mf_store_archived.specs.declared.checking.Unread.TheVariants.{Failed}
use Rattle.mf_store_verdict.proofs.FileLemmas.{part_kept}
use Rattle.mf_store_verdict.proofs.archives.archive_in_bytes.Goals as goal

pub returns-in-Ok-clause-only : goal.returns-in-Ok-clause-only
returns-in-Ok-clause-only c begins lines part =
    c.read_archive.ensures.only (always_clean (λ _. refl) c.read_archive.new.connection) begins lines
    (part_kept _ (file_state c.in-Ok.connection) (c.in-Ok.ensures.shows (always_clean (λ _. refl) c.in-Ok.connection))
    begins lines part)

pub returns-in-Ok-clause-gives_up : goal.returns-in-Ok-clause-gives_up
returns-in-Ok-clause-gives_up c begins lines part =
    c.read_archive.ensures.gives_up (always_clean (λ _. refl) c.read_archive.new.connection) begins lines
    (part_kept _ (file_state c.in-Ok.connection) (c.in-Ok.ensures.shows (always_clean (λ _. refl) c.in-Ok.connection))
    begins lines part)

pub returns-in-Err-clause-gives_up : goal.returns-in-Err-clause-gives_up
returns-in-Err-clause-gives_up c begins lines part = ap Failed c.in-Err.ensures.gives_up
