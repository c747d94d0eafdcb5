use Rattle.std.proofs.Common.{length, subst, sym, arith}
use Rattle.mf_alloc.specs.Sums.{AreWithin}
use Rattle.mf_account.specs.declared.entry.Kind.{Kind}
use Rattle.mf_account.specs.declared.entry.Kind.TheVariants.{Fee, Penalty}
use Rattle.mf_account.specs.Undo.{without_charge}
use Rattle.mf_account.specs.Applicable.{HasCharge}
use Rattle.mf_account.proofs.BoundLemmas.{within-lowered}
use Rattle.mf_account.proofs.RewindLemmas.{uncharged-row}
use Rattle.mf_account.proofs.rewind.uncharge.Goals as goal

pub returns-in-Fee-clause-whether : goal.returns-in-Fee-clause-whether
returns-in-Fee-clause-whether c apart =
    let entry = c.args.entry.now in
    let there : HasCharge Fee entry (length c.args.rows.now) =
    subst (λ (k : Kind). HasCharge k entry (length c.args.rows.now)) c.in-Fee.is c.requires.there in
    let within : AreWithin (without_charge Fee entry c.args.rows.now) =
    subst (λ (k : Kind). AreWithin (without_charge k entry c.args.rows.now)) c.in-Fee.is apart in
    c.lower_owed.ensures.whether.1 (uncharged-row c.args.rows.now entry.instalment 1 entry.amount
    c.index-rows-entry.result there.0 there.1 within)

pub returns-in-Penalty-clause-whether : goal.returns-in-Penalty-clause-whether
returns-in-Penalty-clause-whether c apart =
    let entry = c.args.entry.now in
    let there : HasCharge Penalty entry (length c.args.rows.now) =
    subst (λ (k : Kind). HasCharge k entry (length c.args.rows.now)) c.in-Penalty.is c.requires.there in
    let within : AreWithin (without_charge Penalty entry c.args.rows.now) =
    subst (λ (k : Kind). AreWithin (without_charge k entry c.args.rows.now)) c.in-Penalty.is apart in
    c.lower_owed-in-Penalty.ensures.whether.1 (uncharged-row c.args.rows.now entry.instalment 0 entry.amount
    c.index-rows-entry-in-Penalty.result there.0 there.1 within)

pub returns-in-Fee-clause-apart : goal.returns-in-Fee-clause-apart
returns-in-Fee-clause-apart c lowered within =
    let entry = c.args.entry.now in
    let there : HasCharge Fee entry (length c.args.rows.now) =
    subst (λ (k : Kind). HasCharge k entry (length c.args.rows.now)) c.in-Fee.is c.requires.there in
    let own = c.lower_owed.ensures.whether.0 lowered in
    subst (λ (k : Kind). AreWithin (without_charge k entry c.args.rows.now)) (sym c.in-Fee.is)
    (within-lowered c.args.rows.now entry.instalment 1 entry.amount c.index-rows-entry.result (omega (
      arith,
      there.0,
      there.1,
    )) own within)

pub returns-in-Penalty-clause-apart : goal.returns-in-Penalty-clause-apart
returns-in-Penalty-clause-apart c lowered within =
    let entry = c.args.entry.now in
    let there : HasCharge Penalty entry (length c.args.rows.now) =
    subst (λ (k : Kind). HasCharge k entry (length c.args.rows.now)) c.in-Penalty.is c.requires.there in
    let own = c.lower_owed-in-Penalty.ensures.whether.0 lowered in
    subst (λ (k : Kind). AreWithin (without_charge k entry c.args.rows.now)) (sym c.in-Penalty.is)
    (within-lowered c.args.rows.now entry.instalment 0 entry.amount c.index-rows-entry-in-Penalty.result
    (omega (arith, there.0, there.1)) own within)
