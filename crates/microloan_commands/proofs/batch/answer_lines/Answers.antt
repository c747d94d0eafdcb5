use Rattle.std.proofs.Common.{inr, refl}
use Rattle.mf_store_sql.proofs.OpenLemmas.{always_clean}
use Rattle.microloan_commands.proofs.batch.answer_lines.Goals as goal

pub returns-clause-ends : goal.returns-clause-ends
returns-clause-ends g c = inr (record {
  first = c.in-Ok.store;
  last = c.run.new.store;
  stood = c.in-Ok.ensures.stands;
  left = c.in-Ok.ensures.leaves;
  clean = always_clean (λ _. refl) c.run.new.store.connection;
  ended = c.run.ensures.ends;
})
