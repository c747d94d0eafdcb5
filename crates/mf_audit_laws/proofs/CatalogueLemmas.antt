-- Rows of meta, of charges and of products that keep all conditions.
use Rattle.std.proofs.Common.{◌≡◌, ◌<◌, ◌≤◌, ◌==◌, ◌∙◌, ◌&&◌, ℕ, pos, true, false, List, [], ◌∷◌}
use Rattle.std.proofs.Common.{length, Option, Some, None, refl, sym, subst, arith}
use Rattle.std.specs.Prelude.{nat_le, nat_lt, ◌<ℤ◌, if◌then◌else◌}
use Rattle.std.specs.List.{AllByRecursion}
use Rattle.std.proofs.lemmas.Bool.{eq-eqb}
use Rattle.std.proofs.lemmas.Bool.Decides.{nat_tests}
use Rattle.std.proofs.lemmas.Int.{ints}
use Rattle.mf_base.specs.DayText.{last_entered_day}
use Rattle.mf_base.specs.declared.day.Freq.{Freq}
use Rattle.mf_catalog.specs.declared.charge.ChargeKind.{ChargeKind}
use Rattle.mf_catalog.specs.declared.charge.ChargeKind.TheVariants.{Disbursement, Instalment, Overdue}
use Rattle.mf_catalog.specs.declared.product.ProductMembers.{ProductMembers}
use Rattle.mf_catalog.specs.declared.terms.Method.{Method}
use Rattle.mf_catalog.specs.declared.terms.StrategyName.{StrategyName}
use Rattle.mf_catalog.specs.Limits.{greatest_rate, most_grace}
use Rattle.mf_catalog.specs.Names.{kind_number}
use Rattle.mf_catalog.specs.Product.{is_of_kind, limits_agree}
use Rattle.mf_model.specs.Institution.{Catalogue, ListedProduct, charge_in}
use Rattle.mf_model.specs.Sound.{AreMembers, IsSoundCharge, IsSoundOffer}
use Rattle.mf_store_schema.specs.declared.charges.ChargeRow.{ChargeRow}
use Rattle.mf_store_schema.specs.declared.meta.MetaRow.{MetaRow}
use Rattle.mf_store_schema.specs.declared.products.ProductRow.{ProductRow}
use Rattle.mf_store_values.specs.Flat.{charge_as, product_as, numbered_from}
use Rattle.mf_store_sound.specs.Charges.{HasRowOfKind}
use Rattle.mf_store_sound.specs.Schemas.{meta_under}
use Rattle.mf_store_sound.specs.Stored.{IsRowOf, AllFrom}
use Rattle.mf_store_sound.proofs.ProductLemmas.{named_charge}
use Rattle.mf_store_audit.specs.Catalogue.{BreaksMeta, BreaksCharge, BreaksProduct}
use Rattle.mf_store_audit.specs.Findings.{IsToday, told_of_meta}
use Rattle.mf_store_audit.specs.Kinds.{charge_flaws, meta_flaws, product_flaws}
use Rattle.mf_store_audit.specs.Places.{number_after}
use Rattle.mf_store_audit.specs.declared.finding.Finding.TheVariants as finding
use Rattle.mf_audit_laws.proofs.FoundLemmas.{Keeps}
use Rattle.mf_audit_laws.proofs.NextLemmas.{under_numbers}
use Rattle.mf_audit_laws.proofs.WalkLemmas.{Walk, all_stand, greater, no_greater, same_number, walk_each, walk_weaker}

-- ---- meta

-- there is one row of meta where nothing is told of their number
one_row : (rows : List MetaRow) → told_of_meta rows ≡ [] → (row : MetaRow) × (rows ≡ row ∷ [])
one_row [] told = absurd (cc)
one_row (row ∷ []) told = (row, refl)
one_row (row ∷ other ∷ rows) told =
    let many : (length (row ∷ other ∷ rows) == 1) ≡ false = grind (arith, nat_tests) in
    absurd (let none : finding.MetaRows ∷ [] ≡ [] =
    (λ t. if sym many t then [] else finding.MetaRows ∷ []) ∙ told in cc)

-- the row of meta is that of the business day
pub meta_is : (schema today : ℕ) (rows : List MetaRow) → IsToday schema rows today → told_of_meta rows ≡ []
    → Walk (Keeps meta_flaws (λ flaw before. BreaksMeta schema flaw)) None rows
    → ¬ ¬ ((today ≤ last_entered_day) × (meta_under schema today ∷ [] ≡ rows))
meta_is schema today rows is told walk fails =
    let one = one_row rows told in
    go one.0 one.1 (subst (Walk (Keeps meta_flaws (λ flaw before. BreaksMeta schema flaw)) None) one.1 walk)
  where
    go : (row : MetaRow) → rows ≡ row ∷ []
        → Walk (Keeps meta_flaws (λ flaw before. BreaksMeta schema flaw)) None (row ∷ []) → ⊥
    go row are walk = walk.0.1.1.0 (λ day entered text.
        let key : row.one ≡ 1 = same_number row.one 1 walk.0.0 in
        let number : row.schema ≡ schema = same_number row.schema schema walk.0.1.0 in
        let made : meta_under schema day ∷ [] ≡ rows =
        (λ t. record row { one = sym key t; schema = sym number t; day = text t } ∷ []) ∙ sym are in
        let same : today ≡ day = is.told day entered made in
        fails (subst (λ d. (d ≤ last_entered_day) × (meta_under schema d ∷ [] ≡ rows)) (sym same) (entered, made)))

-- ---- charges

charge_is : (before : Option ChargeRow) (row : ChargeRow) → Keeps charge_flaws BreaksCharge before row
    → ¬ ¬ ((row.number ≤ 999) × IsRowOf charge_as IsSoundCharge row.number row)
charge_is before row (number, (limit, (name, (kind, (calc, (value, rest)))))) fails =
    kind (λ k is_kind. value (λ c is_calc v is_value within. name (λ named. fails (
      no_greater row.number 999 limit,
      record {
        value = record { name = row.name; kind = k; calc = c; value = v };
        passes = record { name = named; value = within };
        row_is = λ t. record row { kind = is_kind t; calc = is_calc t; value = is_value t };
      },
    ))))

pub charges_are : (rows : List ChargeRow) → Walk (Keeps charge_flaws BreaksCharge) None rows
    → ¬ ¬ ((length rows ≤ 999) × AllFrom (IsRowOf charge_as IsSoundCharge) 1 rows)
charges_are rows walk fails =
    all_stand (λ (r : ChargeRow). (r.number ≤ 999) × IsRowOf charge_as IsSoundCharge r.number r) rows
    (walk_each (Keeps charge_flaws BreaksCharge) _ charge_is None rows walk)
    (λ each. fails (under_numbers (λ (r : ChargeRow). r.number) 999 (IsRowOf charge_as IsSoundCharge) rows
    (walk_weaker (Keeps charge_flaws BreaksCharge) (λ b r. r.number ≡ number_after (λ (c : ChargeRow). c.number) b)
    (λ b r keeps. same_number r.number _ keeps.0) None rows walk) each))

-- ---- products

-- the row is that of a product whose members are in their ranges, and of the charges that it names
pub record IsOfferRow (charges : List ChargeRow) (row : ProductRow) : Type 0 where
  pub product : ListedProduct
  pub row_is : product_as row.number product ≡ row
  pub members : AreMembers product.members
  pub agree : limits_agree product.members ≡ true
  pub disbursement : HasRowOfKind charges Disbursement product.members.disbursement_charge
  pub instalment : HasRowOfKind charges Instalment product.members.instalment_charge
  pub overdue : HasRowOfKind charges Overdue product.members.overdue_charge

-- the members that a row tells
abbrev members_of : ProductRow → Method → Freq → StrategyName → ℕ → ℕ → ProductMembers
members_of row method freq strategy low high = record {
  name = row.name;
  method = method;
  rate = row.rate;
  freq = freq;
  every = row.every;
  principal_grace = row.principal_grace;
  interest_grace = row.interest_grace;
  min_principal = low;
  max_principal = high;
  min_periods = row.min_periods;
  max_periods = row.max_periods;
  strategy = strategy;
  disbursement_charge = row.disbursement_charge;
  instalment_charge = row.instalment_charge;
  overdue_charge = row.overdue_charge;
}

limits_are : (p : ProductMembers) → p.min_principal ≤ p.max_principal → p.min_periods ≤ p.max_periods
    → p.principal_grace < p.min_periods → p.interest_grace < p.min_periods → limits_agree p ≡ true
limits_are p principal periods first second =
    let a : nat_le p.min_principal p.max_principal ≡ true = grind (arith, nat_tests) in
    let b : nat_le p.min_periods p.max_periods ≡ true = grind (arith, nat_tests) in
    let c : nat_lt p.principal_grace p.min_periods ≡ true = grind (arith, nat_tests) in
    let d : nat_lt p.interest_grace p.min_periods ≡ true = grind (arith, nat_tests) in
    λ t. (a t && b t) && (c t && d t)

amounts_in_order : (low high : ℕ) → ¬ (pos high <ℤ pos low) → low ≤ high
amounts_in_order low high h =
    no_greater low high (λ less. h (let below : high < low = less in omega (arith, ints)))

product_is : (charges : List ChargeRow) (before : Option ProductRow) (row : ProductRow)
    → Keeps product_flaws (BreaksProduct charges) before row → ¬ ¬ ((row.number ≤ 999) × IsOfferRow charges row)
product_is charges before row keeps fails =
    let from_limit = keeps.1 in
    let from_name = from_limit.1 in
    let from_method = from_name.1 in
    let from_frequency = from_method.1 in
    let from_strategy = from_frequency.1 in
    let from_retired = from_strategy.1 in
    let from_rate = from_retired.1 in
    let from_every = from_rate.1 in
    let from_principal_grace = from_every.1 in
    let from_interest_grace = from_principal_grace.1 in
    let from_min_principal = from_interest_grace.1 in
    let from_max_principal = from_min_principal.1 in
    let from_min_periods = from_max_principal.1 in
    let from_max_periods = from_min_periods.1 in
    let from_principal_order = from_max_periods.1 in
    let from_periods_order = from_principal_order.1 in
    let from_principal_grace_order = from_periods_order.1 in
    let from_interest_grace_order = from_principal_grace_order.1 in
    let from_disbursement = from_interest_grace_order.1 in
    let from_instalment = from_disbursement.1 in
    let from_overdue = from_instalment.1 in
    from_method.0 (λ m is_method. from_every.0 (λ f is_frequency step. from_strategy.0 (λ s is_strategy.
    from_retired.0 (λ flag is_flag. from_min_principal.0 (λ low is_low low_in.
    from_max_principal.0 (λ high is_high high_in. from_min_periods.0 (λ least. from_max_periods.0 (λ most.
    from_name.0 (λ named. from_disbursement.0 (λ at_disbursement. from_instalment.0 (λ at_instalment.
    from_overdue.0 (λ at_overdue. fails (
      no_greater row.number 999 from_limit.0,
      record {
        product = record { members = members_of row m f s low high; retired = flag };
        row_is = λ t. record row {
          method = is_method t;
          frequency = is_frequency t;
          min_principal = is_low t;
          max_principal = is_high t;
          strategy = is_strategy t;
          retired = is_flag t;
        };
        members = record {
          name = named;
          limits = record {
            rate = no_greater row.rate greatest_rate from_rate.0;
            some_step = step.0;
            longest_step = step.1;
            principal_grace = no_greater row.principal_grace most_grace from_principal_grace.0;
            interest_grace = no_greater row.interest_grace most_grace from_interest_grace.0;
            some_min_principal = low_in.0;
            most_min_principal = low_in.1;
            some_max_principal = high_in.0;
            most_max_principal = high_in.1;
            some_min_periods = least.0;
            most_min_periods = least.1;
            some_max_periods = most.0;
            most_max_periods = most.1;
          };
        };
        agree = limits_are (members_of row m f s low high) (amounts_in_order low high (λ less. from_principal_order.0
            (subst (λ z. z <ℤ row.min_principal) is_high (subst (λ z. pos high <ℤ z) is_low less))))
            (no_greater row.min_periods row.max_periods from_periods_order.0)
            (greater row.principal_grace row.min_periods from_principal_grace_order.0)
            (greater row.interest_grace row.min_periods from_interest_grace_order.0);
        disbursement = at_disbursement;
        instalment = at_instalment;
        overdue = at_overdue;
      },
    )))))))))))))

-- the charge that a product names is of its kind, by any catalogue that has these rows
kind_is : (k : Catalogue) (rows : List ChargeRow) (kind : ChargeKind) (named : Option ℕ)
    → numbered_from charge_as 1 k.charges ≡ rows → HasRowOfKind rows kind named
    → is_of_kind (charge_in k) kind named ≡ true
kind_is k rows kind None are has = refl
kind_is k rows kind (Some number) are has =
    sym (named_charge k rows (Some has.0) number kind are (sym has.1)) ∙ eq-eqb has.0.kind (kind_number kind) has.2

-- by any catalogue that has the rows of charges, the row is that of a product that it may have
pub offer_of : (k : Catalogue) (charges : List ChargeRow) → numbered_from charge_as 1 k.charges ≡ charges
    → (row : ProductRow) → IsOfferRow charges row → IsRowOf product_as (IsSoundOffer (charge_in k)) row.number row
offer_of k charges are row h = record {
  value = h.product;
  passes = record {
    members = h.members;
    consistent = λ t. h.agree t && (kind_is k charges Disbursement h.product.members.disbursement_charge are
        h.disbursement t && (kind_is k charges Instalment h.product.members.instalment_charge are h.instalment t
        && kind_is k charges Overdue h.product.members.overdue_charge are h.overdue t));
  };
  row_is = h.row_is;
}

-- what stands of rows of products
pub record AreOffers (charges : List ChargeRow) (rows : List ProductRow) : Type 0 where
  pub numbers : Walk (λ b r. r.number ≡ number_after (λ (p : ProductRow). p.number) b) None rows
  pub each : AllByRecursion (λ (r : ProductRow). (r.number ≤ 999) × IsOfferRow charges r) rows

pub products_are : (charges : List ChargeRow) (rows : List ProductRow)
    → Walk (Keeps product_flaws (BreaksProduct charges)) None rows → ¬ ¬ AreOffers charges rows
products_are charges rows walk fails =
    all_stand (λ (r : ProductRow). (r.number ≤ 999) × IsOfferRow charges r) rows
    (walk_each (Keeps product_flaws (BreaksProduct charges)) _ (product_is charges) None rows walk)
    (λ each. fails (record {
      numbers = walk_weaker (Keeps product_flaws (BreaksProduct charges))
          (λ b r. r.number ≡ number_after (λ (p : ProductRow). p.number) b)
          (λ b r keeps. same_number r.number _ keeps.0) None rows walk;
      each = each;
    }))

pub offers_under : (k : Catalogue) (charges : List ChargeRow) (rows : List ProductRow)
    → numbered_from charge_as 1 k.charges ≡ charges → AreOffers charges rows
    → (length rows ≤ 999) × AllFrom (IsRowOf product_as (IsSoundOffer (charge_in k))) 1 rows
offers_under k charges rows are h =
    under_numbers (λ (r : ProductRow). r.number) 999 (IsRowOf product_as (IsSoundOffer (charge_in k))) rows h.numbers
    (each_offer rows h.each)
  where
    each_offer : (rs : List ProductRow)
        → AllByRecursion (λ (r : ProductRow). (r.number ≤ 999) × IsOfferRow charges r) rs
        → AllByRecursion (λ (r : ProductRow). (r.number ≤ 999)
        × IsRowOf product_as (IsSoundOffer (charge_in k)) r.number r) rs
    each_offer [] all = tt
    each_offer (r ∷ rs) all = ((all.0.0, offer_of k charges are r all.0.1), each_offer rs all.1)
