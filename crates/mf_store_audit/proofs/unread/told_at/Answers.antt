use Rattle.std.proofs.Common.{sym, ◌∙◌}
use Rattle.mf_store_audit.proofs.ToldLemmas.{read_has}
use Rattle.mf_store_audit.proofs.unread.told_at.Goals as goal

pub returns-then-is_some-clause-told : goal.returns-then-is_some-clause-told
returns-then-is_some-clause-told g c =
    read_has g.T.NamedTable.name g.T.Table.stored g.met.T.NamedTable.keeps.has c.args.row.now c.in_ok-found.found
    (sym c.is_some.ensures ∙ c.if-is_some.true) c.in_ok-found.ensures.some
