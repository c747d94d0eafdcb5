use Rattle.std.proofs.Common.{◌∙◌, refl, sym, rules}
use Rattle.std.proofs.lemmas.Int.{to_z-of_z}
use mir.Syntax.{w64}
use Rattle.mf_store_values.proofs.catalogue.product_columns.Goals as goal

pub returns-clause-some : goal.returns-clause-some
returns-clause-some c =
    let row = c.args.row.now in
    let least = c.in_ok-amount_from.ensures.some ∙ to_z-of_z w64 row.min_principal (search rules) in
    let most = c.in_ok-amount_from-2.ensures.some ∙ to_z-of_z w64 row.max_principal (search rules) in (
      record {
        members = record {
          name = row.name;
          method = c.in_ok-from_number.field-0;
          rate = row.rate;
          freq = c.in_ok-from_number-2.field-0;
          every = row.every;
          principal_grace = row.principal_grace;
          interest_grace = row.interest_grace;
          min_principal = c.in_ok-amount_from.field-0;
          max_principal = c.in_ok-amount_from-2.field-0;
          min_periods = row.min_periods;
          max_periods = row.max_periods;
          strategy = c.in_ok-from_number-3.field-0;
          disbursement_charge = row.disbursement_charge;
          instalment_charge = row.instalment_charge;
          overdue_charge = row.overdue_charge;
        };
        retired = c.in_ok-flag_from.field-0;
      },
      λ k. record row {
        method = sym c.in_ok-from_number.ensures.some k;
        frequency = sym c.in_ok-from_number-2.ensures.some k;
        strategy = sym c.in_ok-from_number-3.ensures.some k;
        min_principal = least k;
        max_principal = most k;
        retired = c.in_ok-flag_from.ensures.some k;
      },
      refl,
    )
