use Rattle.mf_store_noted.proofs.noted.with_line.Goals as goal

pub returns-clause-writes : goal.returns-clause-writes
returns-clause-writes c = (c.in_ok-noted.noted.items, c.in_ok-push.ensures.items, c.in_ok-noted.ensures.puts)
