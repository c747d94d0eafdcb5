-- The account of a loan, by the rows of the loan, of its entries and of the catalogue.
use Rattle.std.proofs.Common.{◌≡◌, ◌≢◌, ◌≤◌, ◌∙◌, ℕ, List, [], Option, Some, None, refl, sym, ap, subst, arith}
use Rattle.std.specs.Prelude.{IfSome}
use Rattle.std.specs.List.{AllByRecursion}
use Rattle.std.specs.Option.{option_map}
use Rattle.std.proofs.lemmas.Option.{same_Some}
use Rattle.sqlite_keyed.proofs.ListLemmas.{all_weaker}
use Rattle.mf_base.specs.DayText.{last_entered_day}
use Rattle.mf_catalog.specs.declared.terms.Terms.{Terms}
use Rattle.mf_account.specs.Change.{KeptAccount, account_by_replay}
use Rattle.mf_account.specs.Loan.{DisbursedLoan, IsSoundDisbursed}
use Rattle.mf_account.specs.declared.entry.Entry.{Entry}
use Rattle.mf_model.specs.Accounts.{terms_in, running_loan, running_from, account_in, of_account}
use Rattle.mf_model.specs.Institution.{Catalogue, Ledger}
use Rattle.mf_model.specs.Sound.{IsSoundCatalogue}
use Rattle.mf_model.specs.Stages.{disbursed_on}
use Rattle.mf_model.proofs.AccountLemmas.{day_of_stage, limits_of}
use Rattle.mf_store_values.specs.Ledgers.{IsReadable, IsEnteredBy, AreEntriesIn, IsPlainLoan}

-- ---- the account

pub readable_of : (today n : ℕ) (o : Option ℕ) (es : List Entry) → AreEntriesIn today n o es
    → AllByRecursion IsReadable es
readable_of today n None es are = subst (AllByRecursion IsReadable) (sym are) tt
readable_of today n (Some day) es are =
    all_weaker (IsEnteredBy today) IsReadable (λ e by. by.readable) es are.1

pub no_account : (k : Catalogue) (l : Ledger) → None ≡ disbursed_on l.loan.stage
    → ◌≡◌ {A = Option KeptAccount} None (option_map account_by_replay (account_in k l))
no_account k l none =
    ap (λ d. option_map account_by_replay (running_from l.loan l.entries d (terms_in k l.loan.product))) none

pub account_found : (k : Catalogue) (names : List (List ℕ)) (l : Ledger) (day : ℕ) (terms : Terms)
    (found : Option KeptAccount)
    → IsSoundCatalogue k → IsPlainLoan k names l → Some day ≡ disbursed_on l.loan.stage
    → Some terms ≡ terms_in k l.loan.product
    → IfSome found (λ account. account ≡ account_by_replay (running_loan l.loan l.entries day terms))
    → (IsSoundDisbursed (running_loan l.loan l.entries day terms) → found ≢ None)
    → found ≡ option_map account_by_replay (account_in k l)
account_found k names l day terms None sound plain on given is some = absurd (some right refl)
  where
    late : day ≤ last_entered_day
    late = let by : day ≤ k.day = day_of_stage k.day l.loan.stage day (sym on) plain.own.stage in let last =
        sound.day in omega (arith, by, last)

    right : IsSoundDisbursed (running_loan l.loan l.entries day terms)
    right = record {
      limits = limits_of k l.loan.product l.loan.principal l.loan.periods terms sound plain.own.product (sym given);
      day = late;
      entries = (subst (λ o. AreEntriesIn k.day l.loan.periods o l.entries) (sym on) plain.entries).0;
    }
account_found k names l day terms (Some account) sound plain on given is some =
    ap (λ (b : KeptAccount). Some b) is
    ∙ (λ t. option_map account_by_replay (running_from l.loan l.entries (on t) (given t)))

-- ---- what is read off it

pub read_none : {A : Type 0} (read : DisbursedLoan → List A) (o : Option DisbursedLoan)
    → ◌≡◌ {A = Option KeptAccount} None (option_map account_by_replay o) → of_account [] read o ≡ []
read_none read None none = refl
read_none read (Some a) none = absurd (let never : None ≡ Some (account_by_replay a) = none in cc)

pub read_some : {A : Type 0} (read : DisbursedLoan → List A) (shown : KeptAccount → List A) (o : Option DisbursedLoan)
    (account : KeptAccount)
    → ((a : DisbursedLoan) → shown (account_by_replay a) ≡ read a) → Some account ≡ option_map account_by_replay o
    → shown account ≡ of_account [] read o
read_some read shown None account is found = absurd (let never : Some account ≡ None = found in cc)
read_some read shown (Some a) account is found = ap shown (same_Some account (account_by_replay a) found) ∙ is a
