use Rattle.mf_store.proofs.store.Store.take_account.Goals as goal

pub returns-clause-value : goal.returns-clause-value
returns-clause-value g c = rw (← c.self.view_is) (λ i s. c.take_account.ensures.value i s.knows)

pub returns-clause-same : goal.returns-clause-same
returns-clause-same g c = rw (← c.self.view_is) (λ i s. record {
  sound = s.sound;
  serves = s.serves;
  journal = s.journal;
  knows = c.take_account.ensures.same i s.knows;
})
