use Rattle.std.proofs.Common.{Err, inl, inr, refl, rules, ◌≡◌}
use Rattle.microloan_words.specs.declared.reading.Wrong.TheVariants.{Day, Existing, Journal}
use Rattle.microloan_words.proofs.OptionLemmas.{right, unread}
use Rattle.microloan_words.proofs.reading.batch_words.Goals as goal

pub returns-in_err-day-clause-wrong : goal.returns-in_err-day-clause-wrong
returns-in_err-day-clause-wrong c =
    let e : c.from_residual.result ≡ Err Day = search rules in
    rw e (inl (inl (refl, unread _ c.day_at.result c.in_err-day.ensures.variant c.day_at.ensures.every)))

pub returns-in_err-existing-clause-wrong : goal.returns-in_err-existing-clause-wrong
returns-in_err-existing-clause-wrong c =
    let e : c.from_residual-in_err-existing.result ≡ Err Existing = search rules in
    rw e (inl (inr (
      right _ c.day_at.result c.in_ok-day.day c.in_ok-day.ensures.ok_part c.day_at.ensures.read,
      inl (refl, unread _ c.flag_at.result c.in_err-existing.ensures.variant c.flag_at.ensures.every),
    )))

pub returns-in_err-journal-clause-wrong : goal.returns-in_err-journal-clause-wrong
returns-in_err-journal-clause-wrong c =
    let e : c.from_residual-in_err-journal.result ≡ Err Journal = search rules in
    rw e (inl (inr (
      right _ c.day_at.result c.in_ok-day.day c.in_ok-day.ensures.ok_part c.day_at.ensures.read,
      inr (
        right _ c.flag_at.result c.in_ok-existing.existing c.in_ok-existing.ensures.ok_part
            c.flag_at.ensures.read,
        inl (refl, unread _ c.flag_at-2.result c.in_err-journal.ensures.variant c.flag_at-2.ensures.every),
      ),
    )))
