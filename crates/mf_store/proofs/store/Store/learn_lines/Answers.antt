use Rattle.mf_store.proofs.store.Store.learn_lines.Goals as goal

pub returns-clause-same : goal.returns-clause-same
returns-clause-same g c = rw (← c.self.view_is) (λ i s first. record {
  sound = s.sound;
  serves = s.serves;
  journal = s.journal;
  knows = c.learn_lines.ensures.same i s.knows first;
})
