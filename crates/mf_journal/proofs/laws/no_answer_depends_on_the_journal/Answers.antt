use Rattle.std.proofs.Common.{None, ap}
use Rattle.mf_journal.specs.Journal.{with_other_journal}
use Rattle.mf_journal.proofs.Noting.{unread, last_with}
use Rattle.mf_journal.proofs.laws.no_answer_depends_on_the_journal.Goals as goal

pub returns-clause-answers : goal.returns-clause-answers
returns-clause-answers c = λ i run journal. unread run journal i

pub returns-clause-rows : goal.returns-clause-rows
returns-clause-rows c = λ i run journal. ap (with_other_journal None) (last_with run journal i).1
