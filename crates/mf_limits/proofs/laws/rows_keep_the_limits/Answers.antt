use Rattle.mf_limits.proofs.LimitLemmas.{refused_when_full, room_when_taken}
use Rattle.mf_limits.proofs.laws.rows_keep_the_limits.Goals as goal

pub returns-clause-entries : goal.returns-clause-entries
returns-clause-entries c = refused_when_full

pub returns-clause-most : goal.returns-clause-most
returns-clause-most c = room_when_taken
