use Rattle.std.proofs.Common.{◌≡◌, ℕ, ◌+◌, ◌≤◌, ◌<◌, List, Option, Some, None, arith}
use Rattle.std.specs.Prelude.{IfSome}
use Rattle.mf_base.specs.DayText.{day_text, last_entered_day}
use Rattle.mf_wire_requests.proofs.DayTexts.{day_among_is}
use Rattle.mf_lists_wire.proofs.paths.day.Goals as goal

below : (text : List ℕ) (r : Option ℕ) → IfSome r (λ day. (day ≤ last_entered_day) × (text ≡ day_text day))
    → IfSome r (λ day. (day < last_entered_day + 1) × (text ≡ day_text day))
below text None h = tt
below text (Some day) h = (omega (arith, h.0), h.1)

pub returns-clause-value : goal.returns-clause-value
returns-clause-value c =
    day_among_is (last_entered_day + 1) c.args.text.now c.parse.result (below c.args.text.now c.parse.result
    c.parse.ensures.some)
    (λ day h e. c.parse.ensures.every day (omega (arith, h)) e)
