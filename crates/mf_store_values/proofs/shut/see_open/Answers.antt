use Rattle.std.proofs.Common.{not, ap, ◌∙◌}
use Rattle.sqlite.specs.Held.{state}
use Rattle.mf_store_values.proofs.PrincipalLemmas.{find_principal, find_principal_plain}
use Rattle.mf_store_values.proofs.RowsLemmas.{unprepared}
use Rattle.mf_store_values.proofs.shut.see_open.Goals as goal

pub returns-then-is_err-clause-kept : goal.returns-then-is_err-clause-kept
returns-then-is_err-clause-kept g c =
    unprepared _ find_principal _ (state g.S.Store c.args.connection.now) (state g.S.Store c.prepare.new.self)
    c.prepare.result find_principal_plain
    (c.is_autocommit-settled.ensures.settled (c.is_autocommit-settled.ensures.value ∙ ap not c.requires.alone))
    c.prepare.ensures.ok c.prepare.ensures.err c.prepare.ensures.survives

pub returns-clause-kept : goal.returns-clause-kept
returns-clause-kept g c =
    unprepared _ find_principal _ (state g.S.Store c.args.connection.now) (state g.S.Store c.prepare.new.self)
    c.prepare.result find_principal_plain
    (c.is_autocommit-settled.ensures.settled (c.is_autocommit-settled.ensures.value ∙ ap not c.requires.alone))
    c.prepare.ensures.ok c.prepare.ensures.err c.prepare.ensures.survives
