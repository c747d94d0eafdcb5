use Rattle.std.proofs.Common.{◌∙◌, sym, ap}
use Rattle.std.specs.Option.{is_some}
use Rattle.mf_store_values.proofs.AnswerLemmas.{there}
use Rattle.mf_store_sound.proofs.products.has_choices.Goals as goal

pub returns : goal.returns
returns c = (
  λ yes.
      let found = there c.product_columns.result _ c.product_columns.ensures.some (sym c.is_some.ensures ∙ yes) in
      (found.1.0, found.1.1),
  λ p. c.is_some.ensures ∙ ap is_some (c.product_columns.ensures.every c.args.row.now.number p.0 p.1),
)
