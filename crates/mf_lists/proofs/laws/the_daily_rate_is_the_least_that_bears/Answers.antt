use Rattle.mf_lists.proofs.RateLemmas.{least-borne, none-below}
use Rattle.mf_lists.proofs.laws.the_daily_rate_is_the_least_that_bears.Goals as goal

pub returns-clause-bears : goal.returns-clause-bears
returns-clause-bears c = least-borne

pub returns-clause-least : goal.returns-clause-least
returns-clause-least c = none-below
