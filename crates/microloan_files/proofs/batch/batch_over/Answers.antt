use Rattle.std.proofs.Common.{[], ◌∷◌}
use Rattle.std.proofs.Math.Logic.{∥∥₁_map}
use Rattle.mf_store.specs.Stands.{StandsFor, Leaves}
use Rattle.sqlite.specs.Files.{file_state, over_files}
use Rattle.sqlite_wal.specs.Files.{image_at}
use Rattle.microloan_files.proofs.OpeningLemmas.{opened_so, still_held}
use Rattle.microloan_files.proofs.batch.batch_over.Goals as goal

pub returns-in-Ok-clause-ends : goal.returns-in-Ok-clause-ends
returns-in-Ok-clause-ends g c = λ clean i opens.
    let good = c.run_over.ensures.premise clean in
    let e = c.in-Ok.ensures in
    let store = c.in-Ok.store in
    c.run_over.ensures.ends clean i
    (opened_so (λ j. StandsFor over_files store j) c.args.day (image_at g.S.Start) (e.made good) (e.found.stands good)
    i opens)
    (opened_so (λ j. Leaves over_files store (j ∷ [])) c.args.day (image_at g.S.Start) (e.made_leaves good)
    (e.found.leaves good) i opens)

pub returns-in-Err-default-Some-clause-unopened : goal.returns-in-Err-default-Some-clause-unopened
returns-in-Err-default-Some-clause-unopened g c = λ clean i held left may.
    let good = c.give_up.ensures.premise clean in
    let e = c.in-Err-default-Some in
    let kept = rw e.field-0-1-is at e.ensures.kept in
    ∥∥₁_map (c.give_up.ensures.left clean left may)
    (λ found. still_held (file_state e.connection).may_leave (image_at g.S.Start) left i held (kept.left good)
    found.0 found.1 found.2)
