use Rattle.sqlite.specs.Held.{state}
use Rattle.mf_store_schema.proofs.ReadLemmas.{unchanged_then}
use Rattle.mf_store_schema.proofs.groups.Tuple2Group.read_group.Goals as goal

pub returns-in_err-more-clause-kept : goal.returns-in_err-more-clause-kept
returns-in_err-more-clause-kept g c =
    unchanged_then g.A.Group.IsUnder g.B.Group.IsUnder (state g.S.Store c.args.connection.now)
    (state g.S.Store c.read_group.new.connection) (state g.S.Store c.read_group-2.new.connection)
    c.read_group.ensures.kept c.read_group-2.ensures.kept

pub returns-in_default-more-clause-kept : goal.returns-in_default-more-clause-kept
returns-in_default-more-clause-kept g c =
    unchanged_then g.A.Group.IsUnder g.B.Group.IsUnder (state g.S.Store c.args.connection.now)
    (state g.S.Store c.read_group.new.connection) (state g.S.Store c.read_group-2.new.connection)
    c.read_group.ensures.kept c.read_group-2.ensures.kept

pub returns-clause-kept : goal.returns-clause-kept
returns-clause-kept g c =
    unchanged_then g.A.Group.IsUnder g.B.Group.IsUnder (state g.S.Store c.args.connection.now)
    (state g.S.Store c.read_group.new.connection) (state g.S.Store c.read_group-2.new.connection)
    c.read_group.ensures.kept c.read_group-2.ensures.kept
