use Rattle.mf_store_values.proofs.AnswerLemmas.{refuses, no_answer}
use Rattle.mf_store_sound.proofs.EnteredLemmas.{loan_entries, entry_rows_of}
use Rattle.mf_store_sound.proofs.entered.are_loan_entries.Goals as goal

pub returns-then-not-are_numbered : goal.returns-then-not-are_numbered
returns-then-not-are_numbered c = no_answer (λ h. refuses c.are_numbered.result c.if-not-are_numbered.true
    (c.are_numbered.ensures tt) (entry_rows_of _ _ _ _ _ _ h))

pub returns : goal.returns
returns c = loan_entries _ _ _ _ _ c.args.rows.now c.are_seals_last.result c.are_seals_last.ensures
    ((c.are_numbered.ensures tt).0 c.if-not-are_numbered.false)
