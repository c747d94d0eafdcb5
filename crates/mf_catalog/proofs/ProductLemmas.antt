-- What a product's limits bound.
use Rattle.std.proofs.Common.{◌≡◌, ℕ, ◌<◌, ◌≤◌, Bool, true, false, cond, List, [], ◌∷◌, Option, Some, None, refl, arith}
use Rattle.std.specs.Prelude.{◌&&◌, ◌==◌, nat_le, nat_lt, IfSome}
use Rattle.std.specs.List.{AllByRecursion}
use Rattle.std.proofs.lemmas.Bool.Decides.{nat_tests}
use Rattle.mf_catalog.specs.declared.charge.ChargeDef.{ChargeDef}
use Rattle.mf_catalog.specs.Limits.{greatest_amount, most_periods}
use Rattle.mf_catalog.specs.declared.product.ProductMembers.{ProductMembers}
use Rattle.mf_catalog.specs.Limits.{IsChargeWithinLimits, AreTermsWithinLimits}
use Rattle.mf_catalog.specs.Product.{AreMembersWithinLimits, charge_at, charge_of, limits_agree, allows, terms_of}

found_within : (charges : List ChargeDef) (k : ℕ) → AllByRecursion IsChargeWithinLimits charges
    → IfSome (charge_at charges k) IsChargeWithinLimits
found_within [] k a = tt
found_within (c ∷ cs) k a = either (c.number == k) (found_within cs k a.1)
  where
    either : (b : Bool) → IfSome (charge_at cs k) IsChargeWithinLimits → IfSome (cond b (Some c) (charge_at cs k))
        IsChargeWithinLimits
    either true rest = a.0
    either false rest = rest

named_within : (charges : List ChargeDef) (named : Option ℕ) → AllByRecursion IsChargeWithinLimits charges
    → IfSome (charge_of (charge_at charges) named) IsChargeWithinLimits
named_within charges None a = tt
named_within charges (Some k) a = found_within charges k a

pub terms_within : (charges : List ChargeDef) (p : ProductMembers) → AreMembersWithinLimits p
    → AllByRecursion IsChargeWithinLimits charges → AreTermsWithinLimits (terms_of (charge_at charges) p)
terms_within charges p m a = record {
  rate = m.rate;
  some_step = m.some_step;
  longest = m.longest_step;
  disbursement = named_within charges p.disbursement_charge a;
  instalment = named_within charges p.instalment_charge a;
  overdue = named_within charges p.overdue_charge a;
}

and_left : (a b : Bool) → (a && b) ≡ true → a ≡ true
and_left true b h = refl
and_left false b h = absurd (cc)

and_right : (a b : Bool) → (a && b) ≡ true → b ≡ true
and_right true b h = h
and_right false b h = absurd (cc)

pub graces_within : (p : ProductMembers) (principal n : ℕ) → limits_agree p ≡ true → allows p principal n ≡ true
    → (p.principal_grace < n) × (p.interest_grace < n)
graces_within p principal n agree allow =
    let graces = and_right (nat_le p.min_principal p.max_principal && nat_le p.min_periods p.max_periods) _ agree in
    let principal_grace : nat_lt p.principal_grace p.min_periods ≡ true =
    and_left (nat_lt p.principal_grace p.min_periods) _ graces in
    let interest_grace : nat_lt p.interest_grace p.min_periods ≡ true =
    and_right (nat_lt p.principal_grace p.min_periods) _ graces in
    let periods = and_right (nat_le p.min_principal principal && nat_le principal p.max_principal) _ allow in
    let least : nat_le p.min_periods n ≡ true = and_left (nat_le p.min_periods n) _ periods in
    (grind (arith, nat_tests), grind (arith, nat_tests))

pub loan_within : (p : ProductMembers) (principal n : ℕ) → AreMembersWithinLimits p → allows p principal n ≡ true
    → (1 ≤ principal) × (principal ≤ greatest_amount) × (1 ≤ n) × (n ≤ most_periods)
loan_within p principal n m allow =
    let amounts = and_left (nat_le p.min_principal principal && nat_le principal p.max_principal) _ allow in
    let least : nat_le p.min_principal principal ≡ true = and_left (nat_le p.min_principal principal) _ amounts in
    let greatest : nat_le principal p.max_principal ≡ true = and_right (nat_le p.min_principal principal) _ amounts in
    let periods = and_right (nat_le p.min_principal principal && nat_le principal p.max_principal) _ allow in
    let few : nat_le p.min_periods n ≡ true = and_left (nat_le p.min_periods n) _ periods in
    let many : nat_le n p.max_periods ≡ true = and_right (nat_le p.min_periods n) _ periods in
    let some = m.some_min_principal in
    let most = m.most_max_principal in
    let some_periods = m.some_min_periods in
    let most_periods = m.most_max_periods in
    (grind (arith, nat_tests), grind (arith, nat_tests), grind (arith, nat_tests), grind (arith, nat_tests))
