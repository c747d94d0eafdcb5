use Rattle.std.proofs.Common.{subst}
use Rattle.mf_store_archived.specs.declared.archive.Archive.{Archive}
use Rattle.mf_store_played.specs.Archived.{PlaysArchive}
use Rattle.mf_store_played.proofs.ArchivedLemmas.{indexed}
use Rattle.mf_store_played.proofs.archived.play_at.Goals as goal

pub returns-clause-plays : goal.returns-clause-plays
returns-clause-plays g c a there =
    let item = c.index-archives-place.result in
    subst (λ (b : Archive). PlaysArchive g.T.InstitutionStore b c.args.store.now c.play_archive.new.store
    c.play_archive.result) (indexed c.args.archives.now c.args.place a item item there c.index-archives-place.is)
    c.play_archive.ensures.plays
