use Rattle.std.proofs.Common.{Err, inl, inr, refl, rules, sym, ◌∙◌, ◌≡◌}
use Rattle.microloan_words.specs.declared.reading.Wrong.TheVariants.{Existing, File, To, Into}
use Rattle.microloan_words.proofs.OptionLemmas.{read, right, unread}
use Rattle.microloan_words.proofs.reading.archive_words.Goals as goal

pub returns-in_err-file-clause-wrong : goal.returns-in_err-file-clause-wrong
returns-in_err-file-clause-wrong c =
    let e : c.from_residual.result ≡ Err File = search rules in
    rw e (inl (
      refl,
      (λ given. read c.file_at.result given.0 c.in_err-file.ensures.variant (c.file_at.ensures
          ∙ given.1)),
    ))

pub returns-in_err-existing-clause-wrong : goal.returns-in_err-existing-clause-wrong
returns-in_err-existing-clause-wrong c =
    let e : c.from_residual-in_err-existing.result ≡ Err Existing = search rules in
    rw e (inr (
      (c.in_ok-file.file, sym c.file_at.ensures ∙ c.in_ok-file.ensures.ok_part),
      inl (refl, unread _ c.flag_at.result c.in_err-existing.ensures.variant c.flag_at.ensures.every),
    ))

pub returns-in_err-to-clause-wrong : goal.returns-in_err-to-clause-wrong
returns-in_err-to-clause-wrong c =
    let e : c.from_residual-in_err-to.result ≡ Err To = search rules in
    rw e (inr (
      (c.in_ok-file.file, sym c.file_at.ensures ∙ c.in_ok-file.ensures.ok_part),
      inr (
        right _ c.flag_at.result c.in_ok-existing.existing c.in_ok-existing.ensures.ok_part c.flag_at.ensures.read,
        inl (refl, unread _ c.day_at.result c.in_err-to.ensures.variant c.day_at.ensures.every),
      ),
    ))

pub returns-in_err-into-clause-wrong : goal.returns-in_err-into-clause-wrong
returns-in_err-into-clause-wrong c =
    let e : c.from_residual-in_err-into.result ≡ Err Into = search rules in
    rw e (inr (
      (c.in_ok-file.file, sym c.file_at.ensures ∙ c.in_ok-file.ensures.ok_part),
      inr (
        right _ c.flag_at.result c.in_ok-existing.existing c.in_ok-existing.ensures.ok_part c.flag_at.ensures.read,
        inr (
          right _ c.day_at.result c.in_ok-to.to c.in_ok-to.ensures.ok_part c.day_at.ensures.read,
          inl (
            refl,
            (λ given. read c.path_at.result given.0 c.in_err-into.ensures.variant (c.path_at.ensures
                ∙ given.1)),
          ),
        ),
      ),
    ))
