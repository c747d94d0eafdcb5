use Rattle.std.proofs.Common.{inr, refl, sym, subst}
use Rattle.std.proofs.lemmas.Result.{IfOk-weaker}
use Rattle.sqlite.specs.Effect.{Database}
use Rattle.sqlite.specs.Held.{state}
use Rattle.mf_store_schema.proofs.ReadLemmas.{at_none, at_some}
use Rattle.mf_store_schema.specs.Versions.{IsOfVersion}
use Rattle.mf_store_schema.specs.declared.versions.Version.TheVariants.{Third}
use Rattle.mf_store_sound.proofs.JudgedLemmas.{no_journal_kept}
use Rattle.mf_store_audit.specs.Audits.{IsBroken, IsWithJournal, KeepsOnly}
use Rattle.mf_store_audit.proofs.KeptLemmas.{then_under}
use Rattle.mf_store_audit.proofs.journal.audit_journal.Goals as goal

pub returns-in-Ok-Some-clause-kept : goal.returns-in-Ok-Some-clause-kept
returns-in-Ok-Some-clause-kept g c = then_under (IsOfVersion Third) (IsOfVersion Third)
    (state g.S.Store c.args.connection.now) (state g.S.Store c.read_journal.new.connection)
    (state g.S.Store c.audit_lines.new.connection) (λ k is. is) c.read_journal.ensures.kept
    c.audit_lines.ensures.kept

pub returns-in-Ok-Some-clause-exact : goal.returns-in-Ok-Some-clause-exact
returns-in-Ok-Some-clause-exact g c clean ours rowids =
    let read = c.in-Ok-Some in
    let was = (state g.S.Store c.args.connection.now).now in
    let now = (state g.S.Store c.read_journal.new.connection).now in
    let early = c.audit_lines.ensures.kept.premise clean in
    let same = c.read_journal.ensures.kept.same early (read.ensures.open early) ours in
    let there = subst (λ (d : Database). IsOfVersion Third d.schema) (sym same) ours in
    let to = at_some read.field-0 _ read.journal read.field-0-is (read.ensures.some early ours rowids) in
    let only = at_some read.field-0 _ read.journal read.field-0-is (read.ensures.only early ours) in
    let keeps : KeepsOnly read.journal was.trees =
    record { to = to; only = λ begins lines kept. (only begins lines kept).0 } in
    IfOk-weaker c.audit_lines.result _ _
    (λ whole told. subst (λ (d : Database). IsWithJournal d.trees c.args.audit whole) same told)
    (c.audit_lines.ensures.exact clean there
    (subst (λ (d : Database). KeepsOnly read.journal d.trees) (sym same) keeps))

pub returns-in_err-broken-clause-kept : goal.returns-in_err-broken-clause-kept
returns-in_err-broken-clause-kept g c = then_under (IsOfVersion Third) (IsOfVersion Third)
    (state g.S.Store c.args.connection.now) (state g.S.Store c.read_journal.new.connection)
    (state g.S.Store c.broken_journal.new.connection) (λ k is. is) c.read_journal.ensures.kept
    c.broken_journal.ensures.kept

pub returns-clause-kept : goal.returns-clause-kept
returns-clause-kept g c = then_under (IsOfVersion Third) (IsOfVersion Third)
    (state g.S.Store c.args.connection.now) (state g.S.Store c.read_journal.new.connection)
    (state g.S.Store c.broken_journal.new.connection) (λ k is. is) c.read_journal.ensures.kept
    c.broken_journal.ensures.kept

pub returns-clause-exact : goal.returns-clause-exact
returns-clause-exact g c clean ours rowids =
    let was = (state g.S.Store c.args.connection.now).now in
    let now = (state g.S.Store c.read_journal.new.connection).now in
    let read = c.in-Ok-None in
    let early = c.broken_journal.ensures.kept.premise clean in
    let same = c.read_journal.ensures.kept.same early (read.ensures.open early) ours in
    let there = subst (λ (d : Database). IsOfVersion Third d.schema) (sym same) ours in
    let none = no_journal_kept was.trees (at_none read.field-0 _ read.field-0-is (read.ensures.none early ours)) in
    inr (
      c.in_ok-broken.broken,
      refl,
      (λ kept. none kept.0 kept.1),
      subst (λ (d : Database). IsBroken d.trees c.in_ok-broken.broken) same (c.in_ok-broken.ensures.broken clean there),
    )
