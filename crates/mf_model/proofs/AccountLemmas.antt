-- The account of a sound loan is one that can be replayed and entered into.
use Rattle.std.proofs.Common.{◌≡◌, ℕ, ◌<◌, ◌≤◌, Bool, true, cond, List, [], ◌∷◌, length, map, Option, Some, None, inl}
use Rattle.std.proofs.Common.{inr, refl, ap, ◌∙◌, subst, arith}
use Rattle.std.specs.Prelude.{◌||◌, nat_lt, IfSome, option_map, zero, suc}
use Rattle.std.specs.List.{AllByRecursion, list_any}
use Rattle.std.proofs.lemmas.List.Elements.{All-nil}
use Rattle.mf_catalog.specs.declared.product.Product.{Product}
use Rattle.mf_catalog.specs.declared.product.ProductMembers.{ProductMembers}
use Rattle.mf_catalog.specs.declared.terms.Terms.{Terms}
use Rattle.mf_catalog.specs.Limits.{IsChargeWithinLimits, AreTermsWithinLimits}
use Rattle.mf_catalog.specs.Product.{AreMembersWithinLimits, charge_of, limits_agree, kinds_right, terms_of}
use Rattle.mf_catalog.proofs.ProductLemmas.{graces_within, loan_within}
use Rattle.mf_schedule.specs.declared.instalment.FreshInstalment.{FreshInstalment}
use Rattle.mf_schedule.specs.Fresh.{IsLoanWithinLimits, fresh_schedule, total_principal}
use Rattle.mf_schedule.proofs.LoanLemmas.{scheduled-principal-sum}
use Rattle.mf_alloc.specs.Sums.{is_open, row_outstanding}
use Rattle.mf_account.specs.Account.{row_of, state_of, status_of}
use Rattle.std.proofs.lemmas.Bool.{cases_lt, lt-ltb}
use Rattle.std.proofs.lemmas.List.Sums.{sum_by-append}
use Rattle.mf_account.proofs.SoundLemmas.{or_true}
use Rattle.mf_account.specs.declared.entry.Entry.{Entry}
use Rattle.mf_account.specs.Loan.{DisbursedLoan, IsEntry, AreEntries, IsSoundDisbursed, schedule_of}
use Rattle.mf_account.specs.Loan.{orders_of, status_of_loan}
use Rattle.mf_account.specs.Standing.{entry_at}
use Rattle.mf_model.specs.declared.loan.Stage.{Stage}
use Rattle.mf_model.specs.declared.loan.Stage.TheVariants.{Submitted, Approved, Disbursed, Withdrawn, Rejected}
use Rattle.mf_model.specs.Institution.{Catalogue, ListedCharge, ListedProduct, Ledger, item_numbered, charge_def}
use Rattle.mf_model.specs.Institution.{product_of}
use Rattle.mf_model.specs.Institution.{charge_in, product_in}
use Rattle.mf_model.specs.Stages.{disbursed_on}
use Rattle.mf_model.specs.Accounts.{terms_in, running_loan, running_from, account_in}
use Rattle.mf_model.specs.Sound.{IsSoundCharge, IsSoundOffer, IsSoundCatalogue, IsStageBy, IsEntryBy, AreEntered}
use Rattle.mf_model.specs.Sound.{AreEntriesBy, IsSoundLoan, lends}
use Rattle.mf_office.specs.declared.caller.Caller.{Caller}
use Rattle.mf_model.proofs.Growing.{all_at, and_left}

-- what an account is made of
pub record IsRunning (k : Catalogue) (l : Ledger) (a : DisbursedLoan) : Type 0 where
  pub day : ℕ
  pub terms : Terms
  pub day_is : disbursed_on l.loan.stage ≡ Some day
  pub terms_is : terms_in k l.loan.product ≡ Some terms
  pub account_is : running_loan l.loan l.entries day terms ≡ a

pub account_is : (k : Catalogue) (l : Ledger) (a : DisbursedLoan) → account_in k l ≡ Some a → IsRunning k l a
account_is k l a h = step (disbursed_on l.loan.stage) (terms_in k l.loan.product) refl refl h
  where
    step : (d : Option ℕ) (t : Option Terms) → disbursed_on l.loan.stage ≡ d → terms_in k l.loan.product ≡ t
        → running_from l.loan l.entries d t ≡ Some a → IsRunning k l a
    step None t e f h = absurd (cc)
    step (Some d) None e f h = absurd (cc)
    step (Some d) (Some t) e f h = record { day = d; terms = t; day_is = e; terms_is = f; account_is = cc }

-- a day of disbursement is not after the business day
pub day_of_stage : (today : ℕ) (s : Stage) (d : ℕ) → disbursed_on s ≡ Some d → IsStageBy today s → d ≤ today
day_of_stage today Submitted d h i = absurd (cc)
day_of_stage today (Approved day) d h i = absurd (cc)
day_of_stage today (Disbursed approved day) d h i = let same : day ≡ d = cc in subst (λ x. x ≤ today) same i.1
day_of_stage today Withdrawn d h i = absurd (cc)
day_of_stage today Rejected d h i = absurd (cc)

-- the charges of a sound catalogue
charge_within : (k : Catalogue) (n : ℕ) → IsSoundCatalogue k → IfSome (charge_in k n) IsChargeWithinLimits
charge_within k n s = found (item_numbered k.charges n) refl
  where
    found : (o : Option ListedCharge) → item_numbered k.charges n ≡ o → IfSome (option_map (charge_def n) o)
        IsChargeWithinLimits
    found None e = tt
    found (Some c) e = let is : IsSoundCharge c =
        all_at IsSoundCharge k.charges n c s.charges e in record { some = is.value.some; most = is.value.most }

named_within : (k : Catalogue) (named : Option ℕ) → IsSoundCatalogue k → IfSome (charge_of (charge_in k) named)
    IsChargeWithinLimits
named_within k None s = tt
named_within k (Some n) s = charge_within k n s

terms_within : (k : Catalogue) (p : ProductMembers) → IsSoundCatalogue k → AreMembersWithinLimits p
    → AreTermsWithinLimits (terms_of (charge_in k) p)
terms_within k p s m = record {
  rate = m.rate;
  some_step = m.some_step;
  longest = m.longest_step;
  disbursement = named_within k p.disbursement_charge s;
  instalment = named_within k p.instalment_charge s;
  overdue = named_within k p.overdue_charge s;
}

-- what a product lends lies within the limits of a schedule
pub limits_of : (k : Catalogue) (n principal periods : ℕ) (t : Terms) → IsSoundCatalogue k
    → lends (product_in k n) principal periods ≡ true → terms_in k n ≡ Some t → IsLoanWithinLimits t principal periods
limits_of k n principal periods t s h e = found (item_numbered k.products n) refl h e
  where
    found : (o : Option ListedProduct) → item_numbered k.products n ≡ o
        → lends (option_map (product_of n) o) principal periods
        ≡ true → option_map (λ (p : Product). terms_of (charge_in k) p.members) (option_map (product_of n) o) ≡ Some t
        → IsLoanWithinLimits t principal periods
    found None is h e = absurd (cc)
    found (Some p) is h e =
        let offer : IsSoundOffer (charge_in k) p = all_at (IsSoundOffer (charge_in k)) k.products n p s.products is in
        let lent = loan_within p.members principal periods offer.members.limits h in
        let graces = graces_within p.members principal periods (and_left (limits_agree p.members)
        (kinds_right (charge_in k) p.members) offer.consistent) h in
        let same : terms_of (charge_in k) p.members ≡ t = cc in
        let few = lent.3 in
        subst (λ (x : Terms). IsLoanWithinLimits x principal periods) same (record {
          terms_limits = terms_within k p.members s offer.members.limits;
          some_principal = lent.0;
          most_principal = lent.1;
          most_periods = omega (arith, few);
          principal_grace = graces.0;
          interest_grace = graces.1;
        })

entered_of : (today : ℕ) (staffed : Caller → Bool) (periods : ℕ) (o : Option ℕ) (day : ℕ) (es : List Entry)
    → o ≡ Some day → AreEntriesBy today staffed periods o es → AreEntered today staffed periods day es
entered_of today staffed periods None day es h i = absurd (cc)
entered_of today staffed periods (Some d) day es h i = let same : d ≡ day =
    cc in subst (λ x. AreEntered today staffed periods x es) same i

pub entered_at : (k : Catalogue) (staffed : Caller → Bool) (clients : List (List ℕ)) (l : Ledger) (day : ℕ)
    → disbursed_on l.loan.stage ≡ Some day → IsSoundLoan k staffed clients l → AreEntered k.day staffed l.loan.periods
    day l.entries
entered_at k staffed clients l day e s =
    entered_of k.day staffed l.loan.periods (disbursed_on l.loan.stage) day l.entries e s.entries

-- the account of a sound loan
pub account_sound : (k : Catalogue) (staffed : Caller → Bool) (clients : List (List ℕ)) (l : Ledger) (a : DisbursedLoan)
    → IsSoundCatalogue k → IsSoundLoan k staffed clients l → account_in k l ≡ Some a → IsSoundDisbursed a
account_sound k staffed clients l a c s h =
    let is : IsRunning k l a = account_is k l a h in
    let early = day_of_stage k.day l.loan.stage is.day is.day_is s.stage in
    let late = c.day in
    subst IsSoundDisbursed is.account_is (record {
      limits = limits_of k l.loan.product l.loan.principal l.loan.periods is.terms c s.product is.terms_is;
      day = omega (arith, early, late);
      entries = (entered_at k staffed clients l is.day is.day_is s).lawful;
    })

-- a loan that is disbursed has its account
pub account_there : (k : Catalogue) (l : Ledger) (day : ℕ) → disbursed_on l.loan.stage ≡ Some day
    → lends (product_in k l.loan.product) l.loan.principal l.loan.periods ≡ true → (a : DisbursedLoan)
    × (account_in k l ≡ Some a)
account_there k l day e h = found (product_in k l.loan.product) refl h
  where
    found : (o : Option Product) → product_in k l.loan.product ≡ o → lends o l.loan.principal l.loan.periods ≡ true
        → (a : DisbursedLoan) × (account_in k l ≡ Some a)
    found None is h = absurd (cc)
    found (Some p) is h =
        let t = terms_of (charge_in k) p.members in (
          running_loan l.loan l.entries day t,
          ap (λ d. running_from l.loan l.entries d (terms_in k l.loan.product)) e
              ∙ ap (λ (o : Option Product). running_from l.loan l.entries (Some day)
              (option_map (λ (q : Product). terms_of (charge_in k) q.members) o)) is,
        )

-- no entries
pub no_entries : (n day : ℕ) → AreEntries n day []
no_entries n day = record {
  numbers = λ i below. absurd (omega (arith, below));
  few = omega arith;
  each = All-nil (IsEntry n day);
  seal_last = λ i j below_i below_j apart stands_i stands_j seal. absurd (omega (arith, below_i));
}

-- the days of entries, by place
pub days_by : (today : ℕ) (staffed : Caller → Bool) (es : List Entry) → AllByRecursion (IsEntryBy today staffed) es
    → (i : ℕ) → i < length es → (entry_at es i).day ≤ today
days_by today staffed [] a i below = absurd (omega (arith, below))
days_by today staffed (e ∷ es) a zero below = a.0.day
days_by today staffed (e ∷ es) a (suc i) below = days_by today staffed es a.1 i (omega (arith, below))

-- a fresh schedule has something outstanding
row_open : (i : FreshInstalment) → 1 ≤ i.principal → is_open (row_of i) ≡ true
row_open i some = let left : 0 < row_outstanding (row_of i) =
    omega (arith, some) in lt-ltb 0 (row_outstanding (row_of i)) left

any_open : (schedule : List FreshInstalment) → 1 ≤ total_principal schedule → list_any is_open (map row_of schedule)
    ≡ true
any_open [] some = absurd (omega (arith, some))
any_open (i ∷ is) some =
    let whole = sum_by-append (λ (x : FreshInstalment). x.principal) (i ∷ []) is in
    elim (cases_lt 0 i.principal) [
      | inl here ↦ ap (λ b. b || list_any is_open (map row_of is)) (row_open i here)
      | inr none ↦ or_true (is_open (row_of i)) (list_any is_open (map row_of is))
          (any_open is (omega (arith, whole, some, none)))
    ]

fresh_open : (terms : Terms) (principal n day : ℕ) → IsLoanWithinLimits terms principal n
    → list_any is_open (map row_of (fresh_schedule terms principal n day)) ≡ true
fresh_open terms principal n day limits =
    let sum = scheduled-principal-sum terms principal n day limits in
    let some = limits.some_principal in
    any_open (fresh_schedule terms principal n day) (omega (arith, sum, some))

pub status_first : (a : DisbursedLoan) → IsSoundDisbursed a → a.entries ≡ [] → status_of_loan a ≡ 300
status_first a s e =
    let left = fresh_open a.terms a.principal a.periods a.day s.limits in
    ap (λ (es : List Entry). status_of es (state_of (orders_of a) (schedule_of a) es)) e
    ∙ ap (λ b. cond b 300 (cond (nat_lt 0 0) 700 600)) left
