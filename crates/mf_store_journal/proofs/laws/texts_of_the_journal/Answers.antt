use Rattle.mf_store_journal.proofs.TextsLemmas.{has_texts, is_journal}
use Rattle.mf_store_journal.proofs.laws.texts_of_the_journal.Goals as goal

pub returns-clause-texts : goal.returns-clause-texts
returns-clause-texts c = has_texts

pub returns-clause-meaning : goal.returns-clause-meaning
returns-clause-meaning c = is_journal
