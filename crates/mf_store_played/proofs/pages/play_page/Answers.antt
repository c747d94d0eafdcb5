use Rattle.std.proofs.Common.{◌∙◌, ap, map, subst}
use Rattle.mf_journal.specs.Chain.{line_of_row}
use Rattle.mf_play.specs.Playing.{PlaysLines}
use Rattle.mf_store_played.proofs.PlayLemmas.{gave_up_first}
use Rattle.mf_store_played.proofs.pages.play_page.Goals as goal

pub returns-in-Ok-clause-premise : goal.returns-in-Ok-clause-premise
returns-in-Ok-clause-premise g c = c.play_lines.ensures.plays.premise

pub returns-in-Ok-clause-plays : goal.returns-in-Ok-clause-plays
returns-in-Ok-clause-plays g c h lines are =
    subst (λ ls. PlaysLines g.T.InstitutionStore ls c.args.store.now c.play_lines.new.store c.play_lines.result)
    (ap (map line_of_row) c.deref.ensures.value ∙ c.in-Ok.ensures.told h lines are) c.play_lines.ensures.plays

pub returns-in-Err-clause-plays : goal.returns-in-Err-clause-plays
returns-in-Err-clause-plays g c h lines are =
    gave_up_first g.T.InstitutionStore lines c.args.store.now c.in-Err.fault c.in-Err.ensures.gives_up
