use Rattle.std.proofs.Common.{sym, ap, ◌∙◌}
use Rattle.mf_lists.specs.Readings.{list_seen}
use Rattle.mf_lists.proofs.ChangeLemmas.{by_view}
use Rattle.mf_lists.proofs.ListLemmas.{unseen}
use Rattle.mf_lists.proofs.laws.lists_are_read_off_the_view.Goals as goal

pub returns-clause-view : goal.returns-clause-view
returns-clause-view c = by_view

pub returns-clause-alike : goal.returns-clause-alike
returns-clause-alike c = λ folded asked o x i j same.
    sym (by_view folded asked o x i) ∙ ap (list_seen folded asked o x) same ∙ by_view folded asked o x j

pub returns-clause-unseen : goal.returns-clause-unseen
returns-clause-unseen c = unseen
