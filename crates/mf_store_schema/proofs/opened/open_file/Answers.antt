use Rattle.std.proofs.Common.{ap, sym, subst}
use Rattle.sqlite.specs.Effect.{Database}
use Rattle.sqlite.specs.Files.{file_state, AreFoundIn}
use Rattle.sqlite_catalog.specs.Listing.{IsSound}
use Rattle.mf_store_schema.specs.Versions.{schema_at}
use Rattle.mf_store_schema.proofs.TreeLemmas.{are_low, rowids_of_files}
use Rattle.mf_store_schema.proofs.opened.open_file.Goals as goal

pub returns-in-Ok-clause-rowids : goal.returns-in-Ok-clause-rowids
returns-in-Ok-clause-rowids g c clean v ours =
    let s = file_state c.in-Ok.connection in
    let live = c.in-Ok.ensures.opened clean in
    let found = c.in-Ok.ensures.found clean in
    rowids_of_files (schema_at v) _ s.now.trees (are_low v) (subst (AreFoundIn _) (ap (λ (d : Database). d.trees)
    (sym live.0.clean)) found.reads) (subst (λ k. IsSound k s.now.trees) ours (live.1 live.0.is_open).0)
