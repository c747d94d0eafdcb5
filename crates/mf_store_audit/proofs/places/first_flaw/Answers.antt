use Rattle.std.proofs.Common.{Some, None, subst}
use Rattle.std.specs.Prelude.{option_copied}
use Rattle.mf_store_audit.specs.Places.{IsFirst}
use Rattle.mf_store_audit.proofs.PlaceLemmas.{first_is, first_none}
use Rattle.mf_store_audit.proofs.places.first_flaw.Goals as goal

pub returns-then-branch-clause-first : goal.returns-then-branch-clause-first
returns-then-branch-clause-first g c rise =
    let Broken : g.row.R-Flaw.Denot → Type 0 =
    λ flaw. g.R.Row.Breaks c.args.setting flaw (option_copied c.args.before) c.args.row.now in
    subst (λ flaws. IsFirst Broken flaws (Some c.flaw-item.result)) c.all-flaw-items.ensures.listed
    (first_is Broken c.all-flaw-items.result.now c.loop-flaw.flaw-index c.flaw-item.result c.loop-flaw-test.true
    c.flaw-item.is ((c.in_ok-breaks.ensures {u = tt}).found c.if-branch.true) (c.loop-flaw.invariant rise))

pub returns-clause-first : goal.returns-clause-first
returns-clause-first g c rise =
    let Broken : g.row.R-Flaw.Denot → Type 0 =
    λ flaw. g.R.Row.Breaks c.args.setting flaw (option_copied c.args.before) c.args.row.now in
    subst (λ flaws. IsFirst Broken flaws None) c.all-flaw-items.ensures.listed
    (first_none Broken c.all-flaw-items.result.now c.loop-flaw.flaw-index c.loop-flaw-test.false
    (c.loop-flaw.invariant rise))
