use Rattle.sqlite.specs.Files.{file_state}
use Rattle.sqlite_wal.specs.Files.{image_at}
use Rattle.mf_store_sound.proofs.FileLemmas.{left_as_held}
use Rattle.mf_store_played.specs.Answer.{IsCopyAnswerOf}
use Rattle.mf_store_verdict.proofs.FileLemmas.{all_of_file, verdict_of_file}
use Rattle.mf_store_verdict.proofs.files.audit_over_with.Goals as goal

pub returns-in-Ok-clause-exact : goal.returns-in-Ok-clause-exact
returns-in-Ok-clause-exact g c clean copied stands =
    let told = c.in-Ok in
    let shows = c.in_ok-connection.ensures.shows (told.ensures.kept.premise clean) in
    verdict_of_file (image_at g.S.Start) (file_state c.in_ok-connection.connection) shows (IsCopyAnswerOf copied)
    told.verdict
    (told.ensures.exact clean shows.rowids copied stands)

pub returns-in-Ok-clause-leaves : goal.returns-in-Ok-clause-leaves
returns-in-Ok-clause-leaves g c clean trees holds left may =
    let told = c.in-Ok in
    left_as_held (image_at g.S.Start) (file_state c.in_ok-connection.connection) (c.in_ok-connection.ensures.shows
    (told.ensures.kept.premise clean)) trees holds left (told.ensures.kept.stop clean (λ live. tt) left may)

pub returns-in-Ok-clause-every : goal.returns-in-Ok-clause-every
returns-in-Ok-clause-every g c whole clean copied stands =
    let told = c.in-Ok in
    let shows = c.in_ok-connection.ensures.shows (told.ensures.kept.premise clean) in
    all_of_file (image_at g.S.Start) (file_state c.in_ok-connection.connection) shows told.verdict
    (told.ensures.exact clean shows.rowids copied stands).audited (told.ensures.every whole clean)
