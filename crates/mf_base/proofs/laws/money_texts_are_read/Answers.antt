use Rattle.mf_base.proofs.MoneyLemmas.{money_text-is}
use Rattle.mf_base.proofs.laws.money_texts_are_read.Goals as goal

pub returns : goal.returns
returns c = money_text-is
