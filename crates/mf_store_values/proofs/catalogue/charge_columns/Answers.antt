use Rattle.std.proofs.Common.{◌∙◌, refl, sym, rules}
use Rattle.std.proofs.lemmas.Int.{to_z-of_z}
use mir.Syntax.{w64}
use Rattle.mf_store_values.proofs.catalogue.charge_columns.Goals as goal

pub returns-clause-some : goal.returns-clause-some
returns-clause-some c =
    let row = c.args.row.now in
    let value = c.in_ok-amount_from.ensures.some ∙ to_z-of_z w64 row.value (search rules) in (
      record {
        name = row.name;
        kind = c.in_ok-from_number.field-0;
        calc = c.in_ok-from_number-2.field-0;
        value = c.in_ok-amount_from.field-0;
      },
      λ k. record row {
        kind = sym c.in_ok-from_number.ensures.some k;
        calc = sym c.in_ok-from_number-2.ensures.some k;
        value = value k;
      },
      refl,
    )
