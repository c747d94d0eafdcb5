use Rattle.std.proofs.Common.{◌≡◌, ◌∙◌, Some, None, codes, refl, arith}
use Rattle.mf_base.specs.Calendar.{date_of}
use Rattle.mf_base.specs.DayText.{day_text}
use Rattle.microloan_words.proofs.values.default_day.Goals as goal

-- the day's number
text : codes "2024-01-01" ≡ day_text 8766
unfolding day_text date_of
text = refl

pub unreachable-requires : goal.unreachable-requires
unreachable-requires c =
    let read : c.parse.result ≡ Some 8766 =
    c.parse.ensures.every 8766 (omega arith) (c.as_bytes.ensures.value ∙ text) in
    let none : c.parse.result ≡ None = c.in-None.is in
    cc
