-- What members name, by their texts.
use Rattle.std.specs.Prelude.{ℕ, List, Option, option_and_then}
use Rattle.serde_json.specs.Data.{Data}
use Rattle.mf_base.specs.Choices.{choice_named, frequencies, frequency_name}
use Rattle.mf_base.specs.declared.day.Freq.{Freq}
use Rattle.mf_office.specs.Roles.{roles, role_name}
use Rattle.mf_office.specs.declared.staff.Role.{Role}
use Rattle.mf_catalog.specs.Names.{kinds, kind_name, calcs, calc_name, methods, method_name, strategies, strategy_name}
use Rattle.mf_catalog.specs.declared.charge.ChargeKind.{ChargeKind}
use Rattle.mf_catalog.specs.declared.charge.Calc.{Calc}
use Rattle.mf_catalog.specs.declared.terms.Method.{Method}
use Rattle.mf_catalog.specs.declared.terms.StrategyName.{StrategyName}
use Rattle.mf_model.specs.Waivable.{waivables, waivable_name}
use Rattle.mf_model.specs.declared.waivable.Waivable.{Waivable}
use Rattle.mf_wire_requests.specs.Bodies.{text_at}

-- a member that names a choice, among some
abbrev pub choice_at : {A : Type 0} → (A → List ℕ) → List A → List ℕ → Data → Option A
choice_at name_of choices member d = option_and_then (choice_named name_of choices) (text_at member d)

-- a member that names when a charge is taken
abbrev pub kind_at : List ℕ → Data → Option ChargeKind
kind_at = choice_at kind_name kinds

-- a member that names how a charge is computed
abbrev pub calc_at : List ℕ → Data → Option Calc
calc_at = choice_at calc_name calcs

-- a member that names how principal and interest are planned
abbrev pub method_at : List ℕ → Data → Option Method
method_at = choice_at method_name methods

-- a member that names weeks or months
abbrev pub freq_at : List ℕ → Data → Option Freq
freq_at = choice_at frequency_name frequencies

-- a member that names the order in which payments fill the portions
abbrev pub strategy_at : List ℕ → Data → Option StrategyName
strategy_at = choice_at strategy_name strategies

-- a member that names a role
abbrev pub role_at : List ℕ → Data → Option Role
role_at = choice_at role_name roles

-- a member that names a portion that may be waived
abbrev pub waivable_at : List ℕ → Data → Option Waivable
waivable_at = choice_at waivable_name waivables
