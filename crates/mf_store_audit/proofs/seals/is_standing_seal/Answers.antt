use Rattle.std.proofs.Common.{◌∙◌, sym, true≢false}
use Rattle.mf_store_values.proofs.AnswerLemmas.{no_answer}
use Rattle.mf_store_audit.proofs.seals.is_standing_seal.Goals as goal

pub returns-then-is_reversed : goal.returns-then-is_reversed
returns-then-is_reversed c x m e own =
    no_answer (λ standing. true≢false (sym c.if-is_reversed.true ∙ c.is_reversed.ensures x m e own ∙ standing.1))

pub returns : goal.returns
returns c x m e own = (
  λ seal. (sym (c.is_seal.ensures x m e own) ∙ seal, sym (c.is_reversed.ensures x m e own) ∙ c.if-is_reversed.false),
  λ standing. c.is_seal.ensures x m e own ∙ standing.0,
)
