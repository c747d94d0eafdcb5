-- The choices of charges and products: their names in requests, replies and options, and the numbers by which tables
-- keep them, each from 1.
use Rattle.std.specs.Prelude.{ℕ, List, [], ◌∷◌, codes}
use Rattle.mf_catalog.specs.declared.charge.ChargeKind.{ChargeKind}
use Rattle.mf_catalog.specs.declared.charge.ChargeKind.TheVariants.{Disbursement, Instalment, Overdue, DueDate}
use Rattle.mf_catalog.specs.declared.charge.Calc.{Calc}
use Rattle.mf_catalog.specs.declared.charge.Calc.TheVariants as calc
use Rattle.mf_catalog.specs.declared.terms.Method.{Method}
use Rattle.mf_catalog.specs.declared.terms.Method.TheVariants as method
use Rattle.mf_catalog.specs.declared.terms.StrategyName.{StrategyName}
use Rattle.mf_catalog.specs.declared.terms.StrategyName.TheVariants.{MifosStandard, PrincipalFirst, InterestFirst}
use Rattle.mf_catalog.specs.declared.terms.StrategyName.TheVariants.{DueFirst}

-- when a charge is taken
abbrev pub kind_name : ChargeKind → List ℕ
kind_name Disbursement = codes "disbursement"
kind_name Instalment = codes "instalment"
kind_name Overdue = codes "overdue"
kind_name DueDate = codes "due-date"

-- the number of a kind of charge
abbrev pub kind_number : ChargeKind → ℕ
kind_number Disbursement = 1
kind_number Instalment = 2
kind_number Overdue = 3
kind_number DueDate = 4

-- the kinds of charges, in the order of their numbers
abbrev pub kinds : List ChargeKind
kinds = Disbursement ∷ Instalment ∷ Overdue ∷ DueDate ∷ []

-- how a charge is computed
abbrev pub calc_name : Calc → List ℕ
calc_name calc.Flat = codes "flat"
calc_name calc.OfAmount = codes "percent-of-amount"
calc_name calc.OfInterest = codes "percent-of-interest"
calc_name calc.OfBoth = codes "percent-of-amount-and-interest"

-- the number of a way to reckon a charge
abbrev pub calc_number : Calc → ℕ
calc_number calc.Flat = 1
calc_number calc.OfAmount = 2
calc_number calc.OfInterest = 3
calc_number calc.OfBoth = 4

-- the ways to reckon a charge, in the order of their numbers
abbrev pub calcs : List Calc
calcs = calc.Flat ∷ calc.OfAmount ∷ calc.OfInterest ∷ calc.OfBoth ∷ []

-- how principal and interest are planned
abbrev pub method_name : Method → List ℕ
method_name method.Flat = codes "flat"
method_name method.EqualPrincipal = codes "declining-equal-principal"
method_name method.Fixed = codes "declining-equal-instalments"

-- the number of a method
abbrev pub method_number : Method → ℕ
method_number method.Flat = 1
method_number method.EqualPrincipal = 2
method_number method.Fixed = 3

-- the methods, in the order of their numbers
abbrev pub methods : List Method
methods = method.Flat ∷ method.EqualPrincipal ∷ method.Fixed ∷ []

-- in which order a payment fills the portions
abbrev pub strategy_name : StrategyName → List ℕ
strategy_name MifosStandard = codes "mifos-standard-strategy"
strategy_name PrincipalFirst = codes "principal-interest-penalties-fees-order-strategy"
strategy_name InterestFirst = codes "interest-principal-penalties-fees-order-strategy"
strategy_name DueFirst = codes "due-first-by-portion"

-- the number of a strategy
abbrev pub strategy_number : StrategyName → ℕ
strategy_number MifosStandard = 1
strategy_number PrincipalFirst = 2
strategy_number InterestFirst = 3
strategy_number DueFirst = 4

-- the strategies, in the order of their numbers
abbrev pub strategies : List StrategyName
strategies = MifosStandard ∷ PrincipalFirst ∷ InterestFirst ∷ DueFirst ∷ []
