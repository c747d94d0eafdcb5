use Rattle.mf_account.proofs.TailLemmas.{tails-rewound}
use Rattle.mf_account.proofs.laws.tails_can_be_rewound.Goals as goal

pub returns : goal.returns
returns c = tails-rewound
