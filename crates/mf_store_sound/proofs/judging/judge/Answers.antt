use Rattle.std.proofs.Common.{rules}
use Rattle.sqlite.specs.Held.{state}
use Rattle.mf_store_schema.specs.Versions.{IsOfVersion}
use Rattle.mf_store_sound.proofs.judging.judge.Goals as goal

pub returns-in-Ok-clause-exact : goal.returns-in-Ok-clause-exact
returns-in-Ok-clause-exact g c clean rowids =
    let ours : IsOfVersion c.in-Some.version (state g.S.Store c.args.connection.now).now.schema = search rules in
    (ours, c.in-Ok.ensures.exact clean ours (rowids c.in-Some.version ours))
