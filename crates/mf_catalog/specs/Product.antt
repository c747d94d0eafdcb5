-- Products: which charges they name, what they lend, and the terms that they give a loan. A catalogue's charges are a
-- function from numbers, which gives None where no charge has the number.
use Rattle.std.specs.List.{find}
use Rattle.std.specs.Prelude.{ℕ, ◌≤◌, Bool, true, false, cond, ◌&&◌, List, ◌==◌, nat_le, nat_lt, is_some, Option, Some}
use Rattle.std.specs.Prelude.{None, Result, Ok, Err}
use Rattle.mf_base.specs.declared.fault.Fault.{Fault}
use Rattle.mf_base.specs.declared.fault.Fault.TheVariants.{F7, F8}
use Rattle.mf_catalog.specs.declared.charge.ChargeDef.{ChargeDef}
use Rattle.mf_catalog.specs.declared.charge.ChargeKind.{ChargeKind}
use Rattle.mf_catalog.specs.declared.charge.ChargeKind.TheVariants.{Disbursement, Instalment, Overdue, DueDate}
use Rattle.mf_catalog.specs.declared.product.Product.{Product}
use Rattle.mf_catalog.specs.declared.product.ProductMembers.{ProductMembers}
use Rattle.mf_catalog.specs.declared.terms.Terms.{Terms}
use Rattle.mf_catalog.specs.Limits.{greatest_amount, greatest_rate, most_grace, most_periods, longest_step}

-- the charge of this number in a list
abbrev pub charge_at : List ChargeDef → ℕ → Option ChargeDef
charge_at charges k = find (λ charge. charge.number == k) charges

-- two kinds of charges are one
abbrev pub same_kind : ChargeKind → ChargeKind → Bool
same_kind Disbursement Disbursement = true
same_kind Instalment Instalment = true
same_kind Overdue Overdue = true
same_kind DueDate DueDate = true
same_kind _ _ = false

-- a charge of this kind
abbrev pub has_kind : ChargeKind → Option ChargeDef → Bool
has_kind kind None = false
has_kind kind (Some charge) = same_kind kind charge.kind

-- the charge is there, where one is named
abbrev pub is_charge_there : (ℕ → Option ChargeDef) → Option ℕ → Bool
is_charge_there charges None = true
is_charge_there charges (Some k) = is_some (charges k)

-- the charge is there and has this kind, where one is named
abbrev pub is_of_kind : (ℕ → Option ChargeDef) → ChargeKind → Option ℕ → Bool
is_of_kind charges kind None = true
is_of_kind charges kind (Some k) = has_kind kind (charges k)

-- each charge that the product names is there
abbrev pub charges_there : (ℕ → Option ChargeDef) → ProductMembers → Bool
charges_there charges p = is_charge_there charges p.disbursement_charge
    && (is_charge_there charges p.instalment_charge && is_charge_there
    charges p.overdue_charge)

-- each charge that the product names is there and of the kind that its place asks
abbrev pub kinds_right : (ℕ → Option ChargeDef) → ProductMembers → Bool
kinds_right charges p = is_of_kind charges Disbursement p.disbursement_charge && (is_of_kind charges Instalment
    p.instalment_charge && is_of_kind charges Overdue p.overdue_charge)

-- each least limit is at most its greatest, and both graces are below the least number of periods
abbrev pub limits_agree : ProductMembers → Bool
limits_agree p = (nat_le p.min_principal p.max_principal && nat_le p.min_periods p.max_periods)
    && (nat_lt p.principal_grace p.min_periods && nat_lt p.interest_grace p.min_periods)

-- a product whose limits agree and whose charges are of the right kinds
abbrev pub is_consistent : (ℕ → Option ChargeDef) → ProductMembers → Bool
is_consistent charges p = limits_agree p && kinds_right charges p

-- a principal and a number of periods that lie within the product's limits
abbrev pub allows : ProductMembers → ℕ → ℕ → Bool
allows p principal n = (nat_le p.min_principal principal && nat_le principal p.max_principal) && (nat_le p.min_periods n
    && nat_le n p.max_periods)

-- a retired product lends nothing, and no product outside its limits
abbrev pub lending : Product → ℕ → ℕ → Result (Unit {0}) Fault
lending product principal n = cond product.retired (Err F7) (cond (allows product.members principal n) (Ok tt) (Err F8))

-- the charge that a product names, if it names one
abbrev pub charge_of : (ℕ → Option ChargeDef) → Option ℕ → Option ChargeDef
charge_of charges None = None
charge_of charges (Some k) = charges k

-- the terms that a product gives a loan, with these charges at disbursement, with each instalment and for an overdue
-- one
abbrev pub terms_with : ProductMembers → Option ChargeDef → Option ChargeDef → Option ChargeDef → Terms
terms_with p disbursement instalment overdue = record {
  method = p.method;
  rate = p.rate;
  freq = p.freq;
  every = p.every;
  principal_grace = p.principal_grace;
  interest_grace = p.interest_grace;
  strategy = p.strategy;
  disbursement = disbursement;
  instalment = instalment;
  overdue = overdue;
}

-- the same with the charges that the product names
abbrev pub terms_of : (ℕ → Option ChargeDef) → ProductMembers → Terms
terms_of charges p = terms_with p (charge_of charges p.disbursement_charge) (charge_of charges p.instalment_charge)
    (charge_of charges p.overdue_charge)

-- the ranges in which the members of a product are read
pub record AreMembersWithinLimits (p : ProductMembers) : Type 0 where
  pub rate : p.rate ≤ greatest_rate
  pub some_step : 1 ≤ p.every
  pub longest_step : p.every ≤ longest_step p.freq
  pub principal_grace : p.principal_grace ≤ most_grace
  pub interest_grace : p.interest_grace ≤ most_grace
  pub some_min_principal : 1 ≤ p.min_principal
  pub most_min_principal : p.min_principal ≤ greatest_amount
  pub some_max_principal : 1 ≤ p.max_principal
  pub most_max_principal : p.max_principal ≤ greatest_amount
  pub some_min_periods : 1 ≤ p.min_periods
  pub most_min_periods : p.min_periods ≤ most_periods
  pub some_max_periods : 1 ≤ p.max_periods
  pub most_max_periods : p.max_periods ≤ most_periods
