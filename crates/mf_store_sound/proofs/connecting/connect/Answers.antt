use Rattle.sqlite.specs.Files.{file_state}
use Rattle.sqlite_wal.specs.Files.{image_at}
use Rattle.mf_store_sound.proofs.FileLemmas.{shows}
use Rattle.mf_store_sound.proofs.connecting.connect.Goals as goal

pub returns-in-Ok-clause-shows : goal.returns-in-Ok-clause-shows
returns-in-Ok-clause-shows g c clean =
    let live = c.in-Ok.ensures.opened clean in
    shows (image_at g.S.Start) (file_state c.in-Ok.connection) live.0 live.1 (c.in-Ok.ensures.found clean)
    (c.in-Ok.ensures.rowids clean) (c.nothing_waits.ensures live.0.is_open)
