use Rattle.std.proofs.Common.{inl, inr, refl, Some}
use Rattle.sqlite.specs.Held.{state}
use Rattle.mf_store_audit.proofs.JournalLemmas.{none_told}
use Rattle.mf_store_audit.proofs.journal.audit_lines.Goals as goal

pub returns-in-Ok-None-clause-exact : goal.returns-in-Ok-None-clause-exact
returns-in-Ok-None-clause-exact g c clean ours keeps =
    let to = keeps.to in
    let begins = c.args.journal.begins in
    inl (
      refl,
      λ found. (
        Some to.lines,
        (begins, to.lines, refl, to.keeps),
        rw c.in-Ok-None.field-0-is at (c.in-Ok-None.ensures.untold clean ours to.lines to.keeps),
      ),
    )

pub returns-in-Ok-Some-clause-exact : goal.returns-in-Ok-Some-clause-exact
returns-in-Ok-Some-clause-exact g c clean ours keeps =
    let trees = (state g.S.Store c.args.connection.now).now.trees in
    let to = keeps.to in
    let here = rw c.in-Ok-Some.field-0-is at (c.in-Ok-Some.ensures.untold clean ours to.lines to.keeps) in
    inr (
      _,
      refl,
      none_told trees c.args.journal keeps.only c.in-Ok-Some.number (λ lines kept.
          rw c.in-Ok-Some.field-0-is at (c.in-Ok-Some.ensures.untold clean ours lines kept)),
      (c.args.journal, to, here),
    )
