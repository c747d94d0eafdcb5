-- What the body of a request for a new product asks, part by part.
use Rattle.std.specs.Prelude.{ℕ, ◌≤◌, List, codes, Option, option_map, option_and_then}
use Rattle.serde_json.specs.Data.{Data}
use Rattle.mf_catalog.specs.declared.product.ProductMembers.{ProductMembers}
use Rattle.mf_catalog.specs.Limits.{greatest_amount, greatest_rate, most_grace, most_periods, longest_step}
use Rattle.mf_model.specs.declared.request.Request.{Request}
use Rattle.mf_model.specs.declared.request.CatalogueRequest.TheVariants.{AddProduct}
use Rattle.mf_model.specs.declared.request.Request.TheVariants.{Catalogue}
use Rattle.mf_wire_requests.specs.declared.request.products.Step.{Step}
use Rattle.mf_wire_requests.specs.declared.request.products.Planning.{Planning}
use Rattle.mf_wire_requests.specs.declared.request.products.Bounds.{Bounds}
use Rattle.mf_wire_requests.specs.declared.request.products.Charged.{Charged}
use Rattle.mf_wire_requests.specs.Bodies.{name_at, number_at, optional_number_at}
use Rattle.mf_wire_requests.specs.Named.{method_at, freq_at, strategy_at}

-- the step between due days, by the members frequency and every
abbrev pub step_at : Data → Option Step
step_at d =
    option_and_then (λ freq.
    option_map (λ every. record { freq = freq; every = every }) (number_at 1 (longest_step freq) (codes "every") d))
    (freq_at (codes "frequency") d)

-- how schedules are planned, by the members method, rate, frequency, every, principal_grace, interest_grace and
-- strategy
abbrev pub planning_at : Data → Option Planning
planning_at d =
    option_and_then (λ method.
    option_and_then (λ rate.
    option_and_then (λ step.
    option_and_then (λ principal_grace.
    option_and_then (λ interest_grace.
    option_map (λ strategy. record {
      method = method;
      rate = rate;
      step = step;
      principal_grace = principal_grace;
      interest_grace = interest_grace;
      strategy = strategy;
    })
    (strategy_at (codes "strategy") d))
    (number_at 0 most_grace (codes "interest_grace") d))
    (number_at 0 most_grace (codes "principal_grace") d))
    (step_at d))
    (number_at 0 greatest_rate (codes "rate") d))
    (method_at (codes "method") d)

-- the least and the greatest loan, by the members min_principal, max_principal, min_periods and max_periods
abbrev pub bounds_at : Data → Option Bounds
bounds_at d =
    option_and_then (λ min_principal.
    option_and_then (λ max_principal.
    option_and_then (λ min_periods.
    option_map (λ max_periods. record {
      min_principal = min_principal;
      max_principal = max_principal;
      min_periods = min_periods;
      max_periods = max_periods;
    })
    (number_at 1 most_periods (codes "max_periods") d))
    (number_at 1 most_periods (codes "min_periods") d))
    (number_at 1 greatest_amount (codes "max_principal") d))
    (number_at 1 greatest_amount (codes "min_principal") d)

-- a member that may be absent or null, and else is a charge's number, which may be that of no charge
abbrev pub optional_charge_at : List ℕ → Data → Option (Option ℕ)
optional_charge_at name d = optional_number_at 999999999 name d

-- the charges that are named, by the members disbursement_charge, instalment_charge and overdue_charge
abbrev pub charged_at : Data → Option Charged
charged_at d =
    option_and_then (λ disbursement.
    option_and_then (λ instalment.
    option_map (λ overdue. record { disbursement = disbursement; instalment = instalment; overdue = overdue })
    (optional_charge_at (codes "overdue_charge") d))
    (optional_charge_at (codes "instalment_charge") d))
    (optional_charge_at (codes "disbursement_charge") d)

-- the members of a product in one
abbrev pub members_of : List ℕ → Planning → Bounds → Charged → ProductMembers
members_of name planning bounds charged = record {
  name = name;
  method = planning.method;
  rate = planning.rate;
  freq = planning.step.freq;
  every = planning.step.every;
  principal_grace = planning.principal_grace;
  interest_grace = planning.interest_grace;
  min_principal = bounds.min_principal;
  max_principal = bounds.max_principal;
  min_periods = bounds.min_periods;
  max_periods = bounds.max_periods;
  strategy = planning.strategy;
  disbursement_charge = charged.disbursement;
  instalment_charge = charged.instalment;
  overdue_charge = charged.overdue;
}

-- a new product, by how it plans, what it lends, which charges it names and the member name
abbrev pub new_product_request : Data → Option Request
new_product_request d =
    option_and_then (λ planning.
    option_and_then (λ bounds.
    option_and_then (λ charged.
    option_map (λ name. Catalogue (AddProduct (members_of name planning bounds charged))) (name_at (codes "name") d))
    (charged_at d))
    (bounds_at d))
    (planning_at d)

-- the ranges of a step
pub record IsDueStepInRange (step : Step) : Type 0 where
  pub some : 1 ≤ step.every
  pub longest : step.every ≤ longest_step step.freq

-- the ranges of what plans schedules
pub record IsPlanningInRange (planning : Planning) : Type 0 where
  pub rate : planning.rate ≤ greatest_rate
  pub step : IsDueStepInRange planning.step
  pub principal_grace : planning.principal_grace ≤ most_grace
  pub interest_grace : planning.interest_grace ≤ most_grace

-- the ranges of the least and the greatest loan
pub record AreBoundsInRange (bounds : Bounds) : Type 0 where
  pub some_min_principal : 1 ≤ bounds.min_principal
  pub most_min_principal : bounds.min_principal ≤ greatest_amount
  pub some_max_principal : 1 ≤ bounds.max_principal
  pub most_max_principal : bounds.max_principal ≤ greatest_amount
  pub some_min_periods : 1 ≤ bounds.min_periods
  pub most_min_periods : bounds.min_periods ≤ most_periods
  pub some_max_periods : 1 ≤ bounds.max_periods
  pub most_max_periods : bounds.max_periods ≤ most_periods
