use Rattle.std.proofs.Common.{IsTrue, sym, subst}
use Rattle.sqlite.specs.Held.{state}
use Rattle.mf_store.proofs.KeptLemmas.{learnt_stays, stays_then}
use Rattle.mf_store.proofs.store.Store.disbursed_account.Goals as goal

pub returns-in-Some-clause-asks : goal.returns-in-Some-clause-asks
returns-in-Some-clause-asks g c = record {
  kept = learnt_stays g.S.Store _ _ c.take_account.ensures.tables c.take_account.ensures.journal
      c.take_account.ensures.same;
  gives_up = tt;
  stays_open = λ clean up. subst (λ h. IsTrue (state g.S.Store h).is_open) (sym c.take_account.ensures.tables) up;
}

pub returns-clause-asks : goal.returns-clause-asks
returns-clause-asks g c = record {
  kept = stays_then g.S.Store _ _ _ (stays_then g.S.Store _ _ _ (learnt_stays g.S.Store _ _
      c.take_account.ensures.tables c.take_account.ensures.journal c.take_account.ensures.same)
      c.in_ok-rows.ensures.asks.kept)
      c.resume.ensures.asks.kept;
  gives_up = c.resume.ensures.asks.gives_up;
  stays_open = λ clean up. c.resume.ensures.asks.stays_open clean;
}

pub returns-clause-value : goal.returns-clause-value
returns-clause-value g c clean i s there day =
    let before = c.resume.ensures.asks.kept.premise clean in
    let left = c.take_account.ensures.same i s in
    c.resume.ensures.value clean i (c.in_ok-rows.ensures.asks.kept.same before i left) there day
    (c.in_ok-rows.ensures.value before i left)
