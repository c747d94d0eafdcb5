use Rattle.std.proofs.Common.{◌∙◌, sym, ap}
use Rattle.std.specs.Option.{is_some}
use Rattle.mf_store_values.specs.Decoded.{entry_of_columns}
use Rattle.mf_store_values.proofs.AnswerLemmas.{there}
use Rattle.mf_store_sound.proofs.entries.is_readable.Goals as goal

pub returns : goal.returns
returns c =
    let row = c.args.row.now in (
      λ yes.
          let found = there c.entry_columns.result _ c.entry_columns.ensures.some (sym c.is_some.ensures ∙ yes) in
          (entry_of_columns row found.0, found.1.0, found.1.1),
      λ p. c.is_some.ensures ∙ ap is_some (c.entry_columns.ensures.every row.office row.loan p.0 p.1 p.2),
    )
