use Rattle.sqlite.specs.Files.{file_state}
use Rattle.sqlite_wal.specs.Files.{image_at}
use Rattle.mf_store_sound.proofs.FileLemmas.{left_as_held}
use Rattle.mf_store_sound.proofs.ToldLemmas.{told_of_file}
use Rattle.mf_store_sound.proofs.looking.look_with.Goals as goal

pub returns-in-Ok-judge-clause-exact : goal.returns-in-Ok-judge-clause-exact
returns-in-Ok-judge-clause-exact g c clean =
    let judged = c.in-Ok-judge in
    let shows = c.in-Ok.ensures.shows (judged.ensures.kept.premise clean) in
    told_of_file (image_at g.S.Start) (file_state c.in-Ok.connection) shows judged.contents (judged.ensures.exact clean
    shows.rowids)

pub returns-in-Ok-judge-clause-leaves : goal.returns-in-Ok-judge-clause-leaves
returns-in-Ok-judge-clause-leaves g c clean trees holds left may =
    let judged = c.in-Ok-judge in
    left_as_held (image_at g.S.Start) (file_state c.in-Ok.connection)
    (c.in-Ok.ensures.shows (judged.ensures.kept.premise clean)) trees holds left (judged.ensures.kept.stop clean
    (λ live. tt) left may)
