use Rattle.mf_store_sql.proofs.WorkedJournalLemmas.{has_texts, is_journal}
use Rattle.mf_store_sql.proofs.laws.journal_is_numbered.Goals as goal

pub returns-clause-texts : goal.returns-clause-texts
returns-clause-texts c = has_texts

pub returns-clause-meaning : goal.returns-clause-meaning
returns-clause-meaning c = is_journal
