use Rattle.std.proofs.Common.{subst, sym}
use Rattle.std.proofs.lemmas.Result.{IfOk-weaker}
use Rattle.sqlite.specs.Held.{state}
use Rattle.mf_store_sound.specs.Told.{IsAny}
use Rattle.mf_store_audit.specs.Audits.{TellsAll}
use Rattle.mf_store_audit.proofs.KeptLemmas.{then_under}
use Rattle.mf_store_verdict.specs.declared.verdict.Verdict.{Verdict}
use Rattle.mf_store_verdict.proofs.verdict.audit_with.Goals as goal

pub verdict_of-requires : goal.verdict_of-requires
verdict_of-requires g c = record { alone = c.audit_tables.ensures.mode }

pub returns-in-Ok-clause-kept : goal.returns-in-Ok-clause-kept
returns-in-Ok-clause-kept g c =
    then_under IsAny IsAny (state g.S.Store c.args.connection.now) (state g.S.Store c.audit_tables.new.connection)
    (state g.S.Store c.verdict_of.new.connection) (λ k is. is) c.audit_tables.ensures.kept c.verdict_of.ensures.kept

pub returns-in-Ok-clause-exact : goal.returns-in-Ok-clause-exact
returns-in-Ok-clause-exact g c clean rowids =
    let early = c.verdict_of.ensures.kept.premise clean in
    c.verdict_of.ensures.exact clean (state g.S.Store c.args.connection.now).now
    (record { is = λ live. c.audit_tables.ensures.kept.same early live tt }) (c.in-Ok.ensures.exact early rowids)

pub returns-in-Ok-clause-every : goal.returns-in-Ok-clause-every
returns-in-Ok-clause-every g c whole clean =
    let early = c.verdict_of.ensures.kept.premise clean in
    let Tells = TellsAll (state g.S.Store c.args.connection.now).now in
    IfOk-weaker c.verdict_of.result _ (λ (v : Verdict). Tells v.audit)
    (λ v same. subst Tells (sym same) (c.in-Ok.ensures.every whole early)) c.verdict_of.ensures.audit

pub returns-in-Ok-clause-gives_up : goal.returns-in-Ok-clause-gives_up
returns-in-Ok-clause-gives_up g c = c.verdict_of.ensures.gives_up

pub returns-in-Err-clause-kept : goal.returns-in-Err-clause-kept
returns-in-Err-clause-kept g c = c.audit_tables.ensures.kept
