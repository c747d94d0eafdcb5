-- What is wrong with rows of meta, of charges and of products.
use Rattle.std.specs.Prelude.{◌≡◌, ◌≢◌, ℕ, ℤ, pos, ◌≤◌, ◌<◌, ◌<ℤ◌, List, Option}
use Rattle.mf_base.specs.Choices.{frequency_number}
use Rattle.mf_base.specs.declared.day.Freq.{Freq}
use Rattle.mf_catalog.specs.declared.charge.Calc.{Calc}
use Rattle.mf_catalog.specs.declared.charge.ChargeKind.TheVariants.{Disbursement, Instalment, Overdue}
use Rattle.mf_catalog.specs.Limits.{greatest_amount, greatest_rate, most_grace, most_periods, longest_step}
use Rattle.mf_catalog.specs.Names.{kind_number, calc_number, method_number, strategy_number}
use Rattle.mf_model.specs.Sound.{IsName, IsValue}
use Rattle.mf_store_values.specs.Flat.{flag_number}
use Rattle.mf_store_schema.specs.declared.charges.ChargeRow.{ChargeRow}
use Rattle.mf_store_schema.specs.declared.meta.MetaRow.{MetaRow}
use Rattle.mf_store_schema.specs.declared.products.ProductRow.{ProductRow}
use Rattle.mf_store_sound.specs.Charges.{HasRowOfKind}
use Rattle.mf_store_audit.specs.Places.{number_after, IsNoDay}
use Rattle.mf_store_audit.specs.declared.finding.MetaFlaw.{MetaFlaw}
use Rattle.mf_store_audit.specs.declared.finding.MetaFlaw.TheVariants as meta
use Rattle.mf_store_audit.specs.declared.finding.ChargeFlaw.{ChargeFlaw}
use Rattle.mf_store_audit.specs.declared.finding.ChargeFlaw.TheVariants as charge
use Rattle.mf_store_audit.specs.declared.finding.ProductFlaw.{ProductFlaw}
use Rattle.mf_store_audit.specs.declared.finding.ProductFlaw.TheVariants as product

-- a number is that of no choice
abbrev pub IsNoNumber : {A : Type 0} → (A → ℕ) → ℕ → Type 0
IsNoNumber number_of n = (choice : _) → number_of choice ≢ n

-- an integer that is no amount of 1 to the greatest, in cents
abbrev pub IsNoAmount : ℤ → Type 0
IsNoAmount cents = (amount : ℕ) → pos amount ≡ cents → ¬ ((1 ≤ amount) × (amount ≤ greatest_amount))

-- a row of meta, under a schema's number
abbrev pub BreaksMeta : ℕ → MetaFlaw → MetaRow → Type 0
BreaksMeta schema meta.Key row = row.one ≢ 1
BreaksMeta schema meta.Schema row = row.schema ≢ schema
BreaksMeta schema meta.Day row = IsNoDay row.day

-- a row of a charge, after another
abbrev pub BreaksCharge : ChargeFlaw → Option ChargeRow → ChargeRow → Type 0
BreaksCharge charge.Number before row = row.number ≢ number_after (λ (c : ChargeRow). c.number) before
BreaksCharge charge.Limit before row = 999 < row.number
BreaksCharge charge.Name before row = ¬ IsName row.name
BreaksCharge charge.Kind before row = IsNoNumber kind_number row.kind
BreaksCharge charge.Calc before row = IsNoNumber calc_number row.calc
BreaksCharge charge.Value before row =
    (calc : Calc) → calc_number calc ≡ row.calc → (value : ℕ) → pos value ≡ row.value → ¬ IsValue calc value

-- a row of a product, after another, over these charges
abbrev pub BreaksProduct : List ChargeRow → ProductFlaw → Option ProductRow → ProductRow → Type 0
BreaksProduct charges product.Number before row = row.number ≢ number_after (λ (p : ProductRow). p.number) before
BreaksProduct charges product.Limit before row = 999 < row.number
BreaksProduct charges product.Name before row = ¬ IsName row.name
BreaksProduct charges product.Method before row = IsNoNumber method_number row.method
BreaksProduct charges product.Frequency before row = IsNoNumber frequency_number row.frequency
BreaksProduct charges product.Strategy before row = IsNoNumber strategy_number row.strategy
BreaksProduct charges product.Retired before row = IsNoNumber flag_number row.retired
BreaksProduct charges product.Rate before row = greatest_rate < row.rate
BreaksProduct charges product.Every before row =
    (freq : Freq) → frequency_number freq ≡ row.frequency → ¬ ((1 ≤ row.every) × (row.every ≤ longest_step freq))
BreaksProduct charges product.PrincipalGrace before row = most_grace < row.principal_grace
BreaksProduct charges product.InterestGrace before row = most_grace < row.interest_grace
BreaksProduct charges product.MinPrincipal before row = IsNoAmount row.min_principal
BreaksProduct charges product.MaxPrincipal before row = IsNoAmount row.max_principal
BreaksProduct charges product.MinPeriods before row = ¬ ((1 ≤ row.min_periods) × (row.min_periods ≤ most_periods))
BreaksProduct charges product.MaxPeriods before row = ¬ ((1 ≤ row.max_periods) × (row.max_periods ≤ most_periods))
BreaksProduct charges product.PrincipalOrder before row = row.max_principal <ℤ row.min_principal
BreaksProduct charges product.PeriodsOrder before row = row.max_periods < row.min_periods
BreaksProduct charges product.PrincipalGraceOrder before row = row.min_periods ≤ row.principal_grace
BreaksProduct charges product.InterestGraceOrder before row = row.min_periods ≤ row.interest_grace
BreaksProduct charges product.DisbursementCharge before row =
    ¬ HasRowOfKind charges Disbursement row.disbursement_charge
BreaksProduct charges product.InstalmentCharge before row = ¬ HasRowOfKind charges Instalment row.instalment_charge
BreaksProduct charges product.OverdueCharge before row = ¬ HasRowOfKind charges Overdue row.overdue_charge
