-- A loan of 1,000.00 over three months, by equal principal at 12 percent, with 1.5 percent kept when it is paid out and
-- half a percent of principal and interest with each instalment; as a second program worked it out.
use Rattle.std.specs.Prelude.{ℕ, false, true, List, [], ◌∷◌, codes, Some, None}
use Rattle.mf_base.specs.declared.day.Freq.TheVariants.{Months}
use Rattle.mf_catalog.specs.declared.charge.Calc.TheVariants.{OfAmount, OfBoth}
use Rattle.mf_catalog.specs.declared.charge.ChargeKind.TheVariants.{Disbursement, Instalment}
use Rattle.mf_catalog.specs.declared.product.ProductMembers.{ProductMembers}
use Rattle.mf_catalog.specs.declared.terms.Method.TheVariants.{EqualPrincipal}
use Rattle.mf_catalog.specs.declared.terms.StrategyName.TheVariants.{MifosStandard}
use Rattle.mf_schedule.specs.declared.instalment.FreshInstalment.{FreshInstalment}
use Rattle.mf_model.specs.Institution.{Catalogue, ListedCharge}
use Rattle.mf_lists.specs.declared.preview.LoanPreview.{LoanPreview}
use Rattle.mf_lists.specs.WorkedRates.{pay_out_day}

-- 1.5 percent of the principal at disbursement
abbrev pub kept_charge : ListedCharge
kept_charge = record { name = codes "Kept"; kind = Disbursement; calc = OfAmount; value = 150 }

-- half a percent of an instalment's principal and interest
abbrev pub instalment_charge : ListedCharge
instalment_charge = record { name = codes "Service"; kind = Instalment; calc = OfBoth; value = 50 }

-- it lends 100.00 to 5,000.00 over 3 to 24 months
abbrev pub quarterly : ProductMembers
quarterly = record {
  name = codes "Trade";
  method = EqualPrincipal;
  rate = 1200;
  freq = Months;
  every = 1;
  principal_grace = 0;
  interest_grace = 0;
  min_principal = 10000;
  max_principal = 500000;
  min_periods = 3;
  max_periods = 24;
  strategy = MifosStandard;
  disbursement_charge = Some 1;
  instalment_charge = Some 2;
  overdue_charge = None;
}

-- product 1 lends so, and product 2 is the same, retired
abbrev pub worked_catalogue : Catalogue
worked_catalogue = record {
  day = pay_out_day;
  charges = kept_charge ∷ instalment_charge ∷ [];
  products =
      record { members = quarterly; retired = false }
      ∷ record { members = quarterly; retired = true }
      ∷ [];
}

-- an instalment of this day
abbrev pub instalment_on : ℕ → ℕ → ℕ → ℕ → FreshInstalment
instalment_on day principal interest fees = record {
  due = day;
  principal = principal;
  interest = interest;
  fees = fees;
}

-- due on 2024-02-29, 2024-03-31 and 2024-04-30
abbrev pub worked_instalments : List FreshInstalment
worked_instalments =
    instalment_on 8825 33333 1000 172 ∷ instalment_on 8856 33333 667 170 ∷ instalment_on 8886 33334 333 168 ∷ []

-- 15.00 are kept, so that 985.00 are handed over, and 1,025.10 asked
abbrev pub worked_loan : LoanPreview
worked_loan = record {
  instalments = worked_instalments;
  kept = 1500;
  handed_over = 98500;
  owed = 102510;
  rate = Some 2786;
}
