use Rattle.std.proofs.Common.{sym, subst}
use Rattle.sqlite.specs.Held.{state}
use Rattle.mf_store_noted.specs.Tabled.{HasGoodDisk}
use Rattle.mf_store_schema.specs.Schemas.{IsUnchangedUnder}
use Rattle.mf_store_schema.specs.Versions.{IsOfVersion}
use Rattle.mf_store_files.proofs.AdoptLemmas.{stands_at, leaves_at, left_at}
use Rattle.mf_store_schema.proofs.ReadLemmas.{at_some}
use Rattle.mf_store_files.proofs.adopted.take_over.Goals as goal

pub returns-in-Ok-bring_up-clause-sound : goal.returns-in-Ok-bring_up-clause-sound
returns-in-Ok-bring_up-clause-sound g c clean ours rowids =
    let read = c.in-Ok-Some in
    let good = c.in-Ok-bring_up.ensures.premise (subst (HasGoodDisk g.S.Store) c.over.ensures.same clean) in
    at_some read.field-0 _ read.found read.field-0-is (read.ensures.sound good ours rowids)

pub returns-in-Ok-bring_up-clause-stands : goal.returns-in-Ok-bring_up-clause-stands
returns-in-Ok-bring_up-clause-stands g c =
    let read = c.in-Ok-Some in
    stands_at g.S.Store c.args.version c.args.connection c.read_sound.new.connection read.ensures.kept read.found.tables
    read.ensures.open (λ clean ours. at_some read.field-0 _ read.found read.field-0-is
    (read.ensures.rows clean ours))
    c.bring_up.new.connection c.in-Ok-bring_up.ensures.premise read.found.journal
    (λ clean ours. at_some read.field-0 _ read.found read.field-0-is (read.ensures.journal clean ours))
    c.in-Ok-bring_up.ensures.made c.in-Ok-bring_up.ensures.others
    c.over.result c.over.ensures.same c.over.ensures.stands

pub returns-in-Ok-bring_up-clause-leaves : goal.returns-in-Ok-bring_up-clause-leaves
returns-in-Ok-bring_up-clause-leaves g c =
    let read = c.in-Ok-Some in
    leaves_at g.S.Store c.args.version c.args.connection c.read_sound.new.connection read.ensures.kept read.found.tables
    read.ensures.open (λ clean ours. at_some read.field-0 _ read.found read.field-0-is
    (read.ensures.rows clean ours))
    c.bring_up.new.connection c.in-Ok-bring_up.ensures.premise read.found.journal
    (λ clean ours. at_some read.field-0 _ read.found read.field-0-is (read.ensures.journal clean ours))
    c.in-Ok-bring_up.ensures.made c.in-Ok-bring_up.ensures.others
    c.over.result c.over.ensures.same c.over.ensures.leaves c.in-Ok-bring_up.ensures.open

pub returns-in-Err-bring_up-clause-left : goal.returns-in-Err-bring_up-clause-left
returns-in-Err-bring_up-clause-left g c =
    let read = c.in-Ok-Some in
    let made = c.in-Err-bring_up in
    left_at g.S.Store c.args.version c.args.connection c.read_sound.new.connection read.ensures.kept read.found.tables
    read.ensures.open (λ clean ours. at_some read.field-0 _ read.found read.field-0-is
    (read.ensures.rows clean ours))
    c.bring_up.new.connection made.ensures.premise made.ensures.shuts made.ensures.was_open made.ensures.same
    made.ensures.stop
    (λ clean ours rowids. at_some read.field-0 _ read.found read.field-0-is (read.ensures.sound clean ours rowids))

pub returns-in-Err-bring_up-clause-unchanged : goal.returns-in-Err-bring_up-clause-unchanged
returns-in-Err-bring_up-clause-unchanged g c later =
    subst (λ h. IsUnchangedUnder (IsOfVersion c.args.version) (state g.S.Store c.args.connection) (state g.S.Store h))
    (sym (c.in-Err-bring_up.ensures.others later)) c.in-Ok-Some.ensures.kept
