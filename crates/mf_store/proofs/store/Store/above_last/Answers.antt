use Rattle.std.proofs.Common.{arith}
use Rattle.mf_store.proofs.LookLemmas.{count_limit}
use Rattle.mf_store.proofs.store.Store.above_last.Goals as goal

pub returns-clause-value : goal.returns-clause-value
returns-clause-value g c clean i s = let most = count_limit c.args.kind i s.sound in omega arith
