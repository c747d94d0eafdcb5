-- A preview is refused as submitting is, and shows what paying out gives.
use Rattle.std.proofs.Common.{◌≡◌, ℕ, true, List, [], Option, Some, None, Result, Ok, Err, inl, inr}
use Rattle.std.proofs.Common.{refl, sym, ap, ◌∙◌, map}
use Rattle.std.specs.Prelude.{option_map}
use Rattle.std.specs.List.{AllByRecursion}
use Rattle.std.proofs.lemmas.Bool.{cases_Bool, cond-true, cond-false}
use Rattle.mf_base.specs.declared.fault.Fault.{Fault}
use Rattle.mf_base.specs.declared.fault.Fault.TheVariants.{F4, F7, F8}
use Rattle.mf_catalog.specs.declared.charge.ChargeDef.{ChargeDef}
use Rattle.mf_catalog.specs.declared.product.Product.{Product}
use Rattle.mf_catalog.specs.Limits.{IsChargeWithinLimits}
use Rattle.mf_catalog.specs.Product.{AreMembersWithinLimits, allows, charge_at, charge_of, lending, limits_agree}
use Rattle.mf_catalog.specs.Product.{terms_of}
use Rattle.mf_catalog.specs.Product.{terms_with}
use Rattle.mf_catalog.proofs.ProductLemmas.{terms_within, graces_within, loan_within}
use Rattle.mf_catalog.specs.declared.terms.Terms.{Terms}
use Rattle.mf_schedule.specs.Fresh.{IsLoanWithinLimits}
use Rattle.mf_account.specs.declared.entry.Entry.{Entry}
use Rattle.mf_account.specs.Account.{row_of}
use Rattle.mf_account.specs.Balance.{balances_of}
use Rattle.mf_account.specs.Loan.{DisbursedLoan}
use Rattle.mf_statement.specs.Lines.{instalments_from, instalments_of}
use Rattle.mf_model.specs.declared.loan.Stage.{Stage}
use Rattle.mf_model.specs.declared.loan.Stage.TheVariants.{Disbursed}
use Rattle.mf_model.specs.declared.reply.Reply.{Reply}
use Rattle.mf_model.specs.declared.request.Application.{Application}
use Rattle.mf_model.specs.Accounts.{account_in, balances_in, instalments_in, no_balances, of_account, running_from}
use Rattle.mf_model.specs.Accounts.{running_loan, terms_in}
use Rattle.mf_model.specs.Institution.{Catalogue, Ledger, Rows, charge_in, item_numbered, product_in}
use Rattle.mf_model.specs.Loans.{lend, make_loan, submit}
use Rattle.mf_model.specs.Outcomes.{unless_refused, where_found}
use Rattle.mf_model.specs.Stages.{disbursed_on}
use Rattle.mf_lists.specs.declared.preview.LoanPreview.{LoanPreview}
use Rattle.mf_lists.specs.Preview.{preview_by, preview_in, preview_of}

-- a product that lends so is within its limits
allowed : (p : Product) (principal n : ℕ) → lending p principal n ≡ Ok tt → allows p.members principal n ≡ true
allowed p principal n lends =
    elim (cases_Bool p.retired) [
      | inl retired ↦
          let refused : lending p principal n ≡ Err F7 = cond-true p.retired _ _ retired in absurd (cc)
      | inr offered ↦ elim (cases_Bool (allows p.members principal n)) [
        | inl within ↦ within
        | inr outside ↦
            let refused : lending p principal n ≡ Err F8 =
            cond-false p.retired _ _ offered ∙ cond-false (allows p.members principal n) _ _ outside in
            absurd (cc)
      ]
    ]

-- so its terms have a schedule
pub limits_of : (charges : List ChargeDef) (p : Product) (principal n : ℕ) → AllByRecursion IsChargeWithinLimits charges
    → AreMembersWithinLimits p.members → limits_agree p.members ≡ true → lending p principal n ≡ Ok tt
    → IsLoanWithinLimits (terms_of (charge_at charges) p.members) principal n
limits_of charges p principal n within members agree lends =
    let allow = allowed p principal n lends in
    let lent = loan_within p.members principal n members allow in
    let graces = graces_within p.members principal n agree allow in
    record {
      terms_limits = terms_within charges p.members members within;
      some_principal = lent.0;
      most_principal = lent.1;
      most_periods = lent.3;
      principal_grace = graces.0;
      interest_grace = graces.1;
    }

-- ---- submitting

-- what is told of a product that is there, and that of its refusal
abbrev asked_of : Catalogue → Option Product → ℕ → ℕ → ℕ → Result LoanPreview Fault
asked_of k found principal n day = where_found found (λ p. preview_of (charge_in k) p principal n day)

-- what a fault of a preview is of submitting
of_refusal : (r : Result (Unit {0}) Fault) (shown : Result LoanPreview Fault)
    (made : Result (Reply × Option Rows) Fault) (p : LoanPreview) (fault : Fault) → shown ≡ Ok p
    → unless_refused r shown ≡ Err fault
    → unless_refused r made ≡ Err fault
of_refusal (Err e) shown made p fault is refused = ap Err (let same : e ≡ fault = cc in same)
of_refusal (Ok u) shown made p fault is refused = absurd (cc)

of_lending : (k : Catalogue) (rows : Rows) (office day : ℕ) (asked : Application) (fault : Fault)
    (found : Option Product)
    → asked_of k found asked.principal asked.periods day ≡ Err fault → lend office asked found rows ≡ Err fault
of_lending k rows office day asked fault None refused = ap Err (let same : F4 ≡ fault = cc in same)
of_lending k rows office day asked fault (Some p) refused =
    of_refusal (lending p asked.principal asked.periods)
    (Ok (preview_by (terms_of (charge_in k) p.members) asked.principal asked.periods day)) (make_loan office asked rows)
    (preview_by (terms_of (charge_in k) p.members) asked.principal asked.periods day) fault refl refused

-- where its client is there, submitting is lending
submit-lends : (k : Catalogue) (rows : Rows) (office : ℕ) (asked : Application) (name : List ℕ)
    → item_numbered rows.clients asked.client ≡ Some name
    → submit office asked k rows ≡ lend office asked (product_in k asked.product) rows
submit-lends k rows office asked name there =
    ap (λ (o : Option (List ℕ)). where_found o (λ n. lend office asked (product_in k asked.product) rows)) there

pub refused-alike : (k : Catalogue) (rows : Rows) (office day : ℕ) (asked : Application) (name : List ℕ) (fault : Fault)
    → item_numbered rows.clients asked.client ≡ Some name
    → preview_in k asked.product asked.principal asked.periods day ≡ Err fault → submit office asked k rows ≡ Err fault
refused-alike k rows office day asked name fault there refused =
    submit-lends k rows office asked name there
    ∙ of_lending k rows office day asked fault (product_in k asked.product) refused

of_shown : (r : Result (Unit {0}) Fault) (shown : Result LoanPreview Fault) (made : Result (Reply × Option Rows) Fault)
    (p : LoanPreview) → unless_refused r shown ≡ Ok p → unless_refused r made ≡ made
of_shown (Err e) shown made p is = absurd (cc)
of_shown (Ok u) shown made p is = refl

of_offer : (k : Catalogue) (rows : Rows) (office day : ℕ) (asked : Application) (shown : LoanPreview)
    (found : Option Product)
    → asked_of k found asked.principal asked.periods day ≡ Ok shown
    → lend office asked found rows ≡ make_loan office asked rows
of_offer k rows office day asked shown None is = absurd (cc)
of_offer k rows office day asked shown (Some p) is =
    of_shown (lending p asked.principal asked.periods)
    (Ok (preview_by (terms_of (charge_in k) p.members) asked.principal asked.periods day)) (make_loan office asked rows)
    shown is

pub shown-alike : (k : Catalogue) (rows : Rows) (office day : ℕ) (asked : Application) (name : List ℕ)
    (shown : LoanPreview) → item_numbered rows.clients asked.client ≡ Some name
    → preview_in k asked.product asked.principal asked.periods day ≡ Ok shown
    → submit office asked k rows ≡ make_loan office asked rows
shown-alike k rows office day asked name shown there is =
    submit-lends k rows office asked name there ∙ of_offer k rows office day asked shown (product_in k asked.product) is

-- the charges that a product names give its terms
pub charges-enough : (k : Catalogue) (charges : List ChargeDef) (number principal n day : ℕ) (p : Product)
    → product_in k number ≡ Some p
    → charge_of (charge_at charges) p.members.disbursement_charge
    ≡ charge_of (charge_in k) p.members.disbursement_charge
    → charge_of (charge_at charges) p.members.instalment_charge ≡ charge_of (charge_in k) p.members.instalment_charge
    → charge_of (charge_at charges) p.members.overdue_charge ≡ charge_of (charge_in k) p.members.overdue_charge
    → preview_of (charge_at charges) p principal n day ≡ preview_in k number principal n day
charges-enough k charges number principal n day p is kept each late =
    let terms : terms_of (charge_at charges) p.members ≡ terms_of (charge_in k) p.members = λ t.
    terms_with p.members (kept t) (each t) (late t) in
    ap (λ (t : Terms). unless_refused (lending p principal n) (Ok (preview_by t principal n day))) terms
    ∙ sym (ap (λ (o : Option Product). asked_of k o principal n day) is)

-- ---- paying out

-- a preview that is shown is that of the product's terms
of_terms : (k : Catalogue) (principal n day : ℕ) (shown : LoanPreview) (found : Option Product)
    → asked_of k found principal n day ≡ Ok shown
    → (t : Terms) × (option_map (λ (p : Product). terms_of (charge_in k) p.members) found ≡ Some t)
    × (shown ≡ preview_by t principal n day)
of_terms k principal n day shown None is = absurd (cc)
of_terms k principal n day shown (Some p) is = (
  terms_of (charge_in k) p.members,
  refl,
  told (lending p principal n) (preview_by (terms_of (charge_in k) p.members) principal n day) is,
)
  where
    told : (r : Result (Unit {0}) Fault) (by : LoanPreview) → unless_refused r (Ok by) ≡ Ok shown → shown ≡ by
    told (Err e) by is = absurd (cc)
    told (Ok u) by is = let same : by ≡ shown = cc in sym same

-- the account of a loan that is paid out, before anything is entered
pub paid_out : (k : Catalogue) (l : Ledger) (approved day : ℕ) (shown : LoanPreview)
    → l.loan.stage ≡ Disbursed approved day → l.entries ≡ []
    → preview_in k l.loan.product l.loan.principal l.loan.periods day ≡ Ok shown
    → (t : Terms) × (account_in k l ≡ Some (running_loan l.loan [] day t))
    × (shown ≡ preview_by t l.loan.principal l.loan.periods day)
paid_out k l approved day shown stage none is =
    let terms = of_terms k l.loan.principal l.loan.periods day shown (product_in k l.loan.product) is in (
      terms.0,
      ap (λ (s : Stage). running_from l.loan l.entries (disbursed_on s) (terms_in k l.loan.product)) stage
          ∙ ap (λ (es : List Entry). running_from l.loan es (Some day) (terms_in k l.loan.product)) none
          ∙ ap (running_from l.loan [] (Some day)) terms.1,
      terms.2,
    )

pub instalments-shown : (k : Catalogue) (l : Ledger) (approved day : ℕ) (shown : LoanPreview)
    → l.loan.stage ≡ Disbursed approved day → l.entries ≡ []
    → preview_in k l.loan.product l.loan.principal l.loan.periods day ≡ Ok shown
    → instalments_in k l ≡ instalments_from 1 (map row_of shown.instalments)
instalments-shown k l approved day shown stage none is =
    let paid = paid_out k l approved day shown stage none is in
    ap (of_account [] instalments_of) paid.1
    ∙ ap (λ (p : LoanPreview). instalments_from 1 (map row_of p.instalments)) (sym paid.2)

pub kept-shown : (k : Catalogue) (l : Ledger) (approved day : ℕ) (shown : LoanPreview)
    → l.loan.stage ≡ Disbursed approved day → l.entries ≡ []
    → preview_in k l.loan.product l.loan.principal l.loan.periods day ≡ Ok shown
    → (balances_in k l).disbursement_fee ≡ shown.kept
kept-shown k l approved day shown stage none is =
    let paid = paid_out k l approved day shown stage none is in
    ap (λ (a : Option DisbursedLoan). (of_account no_balances balances_of a).disbursement_fee) paid.1
    ∙ ap (λ (p : LoanPreview). p.kept) (sym paid.2)
