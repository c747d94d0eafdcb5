use Rattle.std.proofs.Common.{refl, ap, subst, sym}
use Rattle.std.specs.Prelude.{is_some}
use Rattle.mf_lists_runs.specs.Choice.{choice_if}
use Rattle.microloan_commands.specs.Served.{ServesConnections}
use Rattle.microloan_commands.proofs.ServedLemmas.{serves_nothing, served_one, begun_on, added_on}
use Rattle.microloan_commands.proofs.serving.serve_next.Goals as goal

pub returns-in_default-clause-served : goal.returns-in_default-clause-served
returns-in_default-clause-served g c = serves_nothing _ _ _ 1 _ _ _ _ c.in_default.ensures.kept refl

pub returns-clause-served : goal.returns-clause-served
returns-clause-served g c =
    let before = g.N.Listener.ended c.args.listener.now in
    let between = g.N.Listener.ended c.accept.new.self in
    let after = g.N.Listener.ended c.end.new.self in
    let heard = g.N.Listener.heard c.accept.new.self in
    let begun = begun_on before between heard _ _ _ _ c.in-Ok.ensures.kept
    (ap g.N.Reader.Read.remaining c.new-source.ensures.reader) (ap g.N.Writer.Write.contents c.new-sink.ensures.writer)
    c.in-Ok.ensures.begins in
    let added = added_on before between after heard _ _ c.in-Ok.ensures.kept
    (ap g.N.Writer.Write.contents c.into_inner-2.ensures) c.end.ensures.adds in
    subst (ServesConnections _ (choice_if g.L.Lists.folded (is_some c.args.desk.now.lists)) c.args.desk.now.desk.told 1
    before after c.args.store.now c.serve_one.new.store) (sym c.whole-answered.ensures)
    (served_one _ _ _ before after heard _ begun added c.serve_one.result _ _ c.serve_one.ensures.ends)
