use Rattle.std.proofs.Common.{Err, inl, inr, refl, rules, sym, ◌∙◌, ◌≡◌}
use Rattle.microloan_words.specs.declared.reading.Wrong.TheVariants.{All, File}
use Rattle.microloan_words.proofs.OptionLemmas.{read, unread}
use Rattle.microloan_words.proofs.reading.audit_words.Goals as goal

pub returns-in_err-file-clause-wrong : goal.returns-in_err-file-clause-wrong
returns-in_err-file-clause-wrong c =
    let e : c.from_residual.result ≡ Err File = search rules in
    rw e (inl (
      refl,
      (λ given. read c.file_at.result given.0 c.in_err-file.ensures.variant (c.file_at.ensures
          ∙ given.1)),
    ))

pub returns-in_err-all-clause-wrong : goal.returns-in_err-all-clause-wrong
returns-in_err-all-clause-wrong c =
    let e : c.from_residual-in_err-all.result ≡ Err All = search rules in
    rw e (inr (
      (c.in_ok-file.file, sym c.file_at.ensures ∙ c.in_ok-file.ensures.ok_part),
      inl (refl, unread _ c.flag_at.result c.in_err-all.ensures.variant c.flag_at.ensures.every),
    ))
