use Rattle.std.proofs.Common.{unsigned_abs, ap, sym, ◌∙◌}
use Rattle.mf_base.specs.DayText.{date_text}
use Rattle.mf_base.specs.CivilDate.{date_from, IsSince2000}
use Rattle.mf_base.proofs.CivilDateLemmas.{year-read}
use Rattle.mf_base.proofs.DayTextLemmas.{date_text-day}
use Rattle.mf_base.proofs.WrittenLemmas.{written_date}
use Rattle.mf_base.proofs.day.DayDisplay.fmt.Goals as goal

pub returns-clause-writes : goal.returns-clause-writes
returns-clause-writes g c =
    let year = c.unsigned_abs-year.ensures.value ∙ ap unsigned_abs (year-read c.to_plain-date.result) in
    let since : IsSince2000 c.to_plain-date.result = rw c.to_plain-date.ensures c.date.ensures.since in
    let date = ap date_from c.to_plain-date.ensures ∙ c.date.ensures.value in
    let text = written_date c.to_plain-date.result since ∙ ap date_text date ∙ sym (date_text-day c.args.self.now) in
    λ plain ok. rw (year, c.laid_out.ensures, c.laid_out-2.ensures, text) at (c.write.ensures.writes plain ok)
