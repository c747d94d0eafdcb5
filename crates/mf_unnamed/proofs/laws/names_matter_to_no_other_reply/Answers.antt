use Rattle.mf_unnamed.proofs.UnnamedLemmas.{answer_of_both, next_same, runs_same, same_unless}
use Rattle.mf_unnamed.proofs.laws.names_matter_to_no_other_reply.Goals as goal

pub returns-clause-answer : goal.returns-clause-answer
returns-clause-answer c = λ i j l m is_i is_l none. same_unless _ _ (answer_of_both i j l m is_i is_l) none

pub returns-clause-next : goal.returns-clause-next
returns-clause-next c = λ i j l m is_i is_l. next_same i j l m is_i is_l

pub returns-clause-answers : goal.returns-clause-answers
returns-clause-answers c = λ i j ls ms is_i are. (runs_same i j ls ms is_i are).0

pub returns-clause-last : goal.returns-clause-last
returns-clause-last c = λ i j ls ms is_i are. (runs_same i j ls ms is_i are).1
