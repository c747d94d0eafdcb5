use Rattle.mf_store_sql.proofs.run.Goals as goal

pub returns-clause-ok : goal.returns-clause-ok
returns-clause-ok g c clean inside = let ran = c.in_ok-execute.ensures.runs clean inside in record {
  mode = ran.1.mode;
  was_open = ran.1.was_open;
  count = c.in_ok-execute.field-0;
  ran = ran.0;
}
