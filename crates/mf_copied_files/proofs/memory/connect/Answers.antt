use Rattle.std.proofs.Common.{ap, sym, subst}
use Rattle.sqlite.specs.Effect.{Database}
use Rattle.sqlite.specs.Files.{file_state, AreFoundIn, image_of}
use Rattle.sqlite.specs.Start.{FindsIn}
use Rattle.sqlite_catalog.specs.Listing.{IsSound}
use Rattle.mf_store_schema.specs.Versions.{schema_at}
use Rattle.mf_store_schema.proofs.TreeLemmas.{are_low, rowids_of_files}
use Rattle.mf_store_sound.specs.Files.{ShowsFile}
use Rattle.mf_store_sound.proofs.FileLemmas.{shows}
use Rattle.mf_copied_files.proofs.memory.connect.Goals as goal

pub returns-in-Ok-clause-shows : goal.returns-in-Ok-clause-shows
returns-in-Ok-clause-shows g c clean =
    let s = file_state c.in-Ok.connection in
    let live = c.in-Ok.ensures.opened clean in
    let found = c.in-Ok.ensures.found clean in
    let image = image_of g.D.Disk c.in_ok-files.files in
    subst (λ i. ShowsFile i s) c.in_ok-files.ensures.image
    (shows image s live.0 live.1 (record { holds = found.holds; reads = found.reads })
    (λ v ours. rowids_of_files (schema_at v) image s.now.trees (are_low v)
    (subst (AreFoundIn image) (ap (λ (d : Database). d.trees) (sym live.0.clean)) found.reads)
    (subst (λ k. IsSound k s.now.trees) ours (live.1 live.0.is_open).0))
    (c.nothing_waits.ensures live.0.is_open))
