use Rattle.std.proofs.Common.{take, sym, ap, ◌∙◌}
use Rattle.std.specs.Prelude.{slice_get}
use Rattle.mf_model.specs.Run.{answer, last}
use Rattle.mf_headline.proofs.Places.{at_place}
use Rattle.mf_headline.proofs.Told.{told_replay}
use Rattle.mf_headline.proofs.laws.a_shown_balance_is_the_replay.Goals as goal

pub returns : goal.returns
returns g c = λ i told lines texts old new ran place line text loan asked at_line at_text is reads.
    let it = at_place told ran.run lines i place line text ran.calls at_line
    (ap (λ ts. slice_get ts place) (sym ran.replied) ∙ at_text) in (
      answer it.line_is (last (take place ran.run) i),
      told_replay loan asked reads (take place ran.run) i it.line_is (ap (λ c. c.request) it.call ∙ is),
      it.said,
    )
