use Rattle.std.proofs.Common.{◌≡◌, ◌∙◌, sym, ap}
use Rattle.std.specs.Option.{option_map}
use Rattle.std.proofs.lemmas.Result.{IfOk-weaker}
use Rattle.mf_catalog.specs.Product.{charge_of}
use Rattle.mf_model.specs.Institution.{Catalogue, charge_def, charge_in}
use Rattle.mf_store_values.specs.Flat.{charge_as, numbered_from}
use Rattle.mf_store_values.proofs.NumberedLemmas.{by_row, by_no_row}
use Rattle.mf_store_values.proofs.terms.named_charge.Goals as goal

pub returns-in-Some-row_numbered-clause-charge : goal.returns-in-Some-row_numbered-clause-charge
returns-in-Some-row_numbered-clause-charge c =
    IfOk-weaker c.charge_def.result _ (λ found. (k : Catalogue) → numbered_from charge_as 1 k.charges
    ≡ c.args.charges.now → found ≡ charge_of (charge_in k) c.args.named)
    (λ found h k e. by_row charge_as (option_map (charge_def c.in-Some.number)) k.charges c.in-Some.number
    c.args.charges.now c.in-Some-row_numbered.row.now found e c.in-Some-row_numbered.ensures h
    ∙ sym (ap (charge_of (charge_in k)) c.in-Some.is)) c.charge_def.ensures.charge

pub returns-in-None-clause-charge : goal.returns-in-None-clause-charge
returns-in-None-clause-charge c k e =
    by_no_row charge_as (option_map (charge_def c.in-Some.number)) k.charges c.in-Some.number c.args.charges.now e
    c.in-None.ensures ∙ sym (ap (charge_of (charge_in k)) c.in-Some.is)
