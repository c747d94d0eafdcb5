-- The books of one loan: what it has on all accounts comes to nothing, and the catalogue's growing moves nothing of it.
use Rattle.std.proofs.Common.{◌≡◌, ◌+◌, ◌<◌, ◌^◌, ℕ, Bool, true, false, List, [], Option, Some, None, refl, sym, ap}
use Rattle.std.proofs.Common.{◌∙◌}
use Rattle.std.proofs.Common.{subst, arith, sum}
use Rattle.std.specs.Prelude.{ℤ, pos, ◌+ℤ◌, ◌-ℤ◌, neg_ℤ, slice_index}
use Rattle.std.proofs.lemmas.Int.{ints}
use Rattle.mf_office.specs.declared.caller.Caller.{Caller}
use Rattle.mf_account.specs.declared.balances.Balances.{Balances}
use Rattle.mf_account.specs.Balance.{balances_of, sum_repaid}
use Rattle.mf_account.specs.Loan.{DisbursedLoan, IsSoundDisbursed}
use Rattle.mf_account.proofs.ConserveLemmas.{sum-four, balances-repaid}
use Rattle.mf_account.proofs.StatusLemmas.{repaid-room}
use Rattle.mf_model.specs.Accounts.{account_in, of_account, no_balances, balances_in, running_from, terms_in}
use Rattle.mf_model.specs.Institution.{Catalogue, Ledger}
use Rattle.mf_model.specs.Sound.{IsSoundCatalogue, IsSoundLoan, AreEntriesBy}
use Rattle.mf_model.specs.Stages.{disbursed_on}
use Rattle.mf_model.proofs.AccountLemmas.{IsRunning, account_is, account_sound, account_there}
use Rattle.mf_model.proofs.Growing.{Grows}
use Rattle.mf_guarantees.specs.Money.{IsAccountedFor}
use Rattle.mf_guarantees.proofs.MoneyLemmas.{accounted}
use Rattle.mf_ledger.specs.declared.books.LoanSums.{LoanSums}
use Rattle.mf_ledger.specs.declared.books.Title.{Title}
use Rattle.mf_ledger.specs.declared.books.Title.TheVariants.{Cash, Principal, Interest, Fees, Penalties}
use Rattle.mf_ledger.specs.declared.books.Title.TheVariants.{DisbursementFees, Overpaid, WrittenOff}
use Rattle.mf_ledger.specs.declared.books.Title.TheVariants.{InterestReceivable, FeesReceivable, PenaltiesReceivable}
use Rattle.mf_ledger.specs.declared.books.Title.TheVariants.{InterestWaived, FeesWaived, PenaltiesWaived}
use Rattle.mf_ledger.specs.declared.books.Title.TheVariants.{InterestWrittenOff, FeesWrittenOff, PenaltiesWrittenOff}
use Rattle.mf_ledger.specs.Books.{signed_sum, titles, amount_on, lent_on, sums_in, postings_between}
use Rattle.mf_ledger.specs.Runs.{Selection, where_meant, posted_by}

-- what a loan has on all accounts
abbrev pub on_all : LoanSums → ℤ
on_all s = signed_sum (λ t. amount_on t s) titles

-- the sums of an account that may be there
abbrev sums_from : Option DisbursedLoan → ℕ → LoanSums
sums_from o repaid = record {
  lent = of_account {A = ℕ} 0 (λ (a : DisbursedLoan). a.principal) o;
  repaid = repaid;
  balances = of_account no_balances balances_of o;
}

-- ---- the account of a sound loan

-- before it is paid out it has no entries
unpaid : (today : ℕ) (staffed : Caller → Bool) (periods : ℕ) (d : Option ℕ) (l : Ledger) → d ≡ None
    → AreEntriesBy today staffed periods d l.entries → l.entries ≡ []
unpaid today staffed periods None l e is = is
unpaid today staffed periods (Some day) l e is = absurd (cc)

none_repaid : (k : Catalogue) (staffed : Caller → Bool) (clients : List (List ℕ)) (l : Ledger)
    → IsSoundLoan k staffed clients l → account_in k l ≡ None → sum_repaid l.entries ≡ 0
none_repaid k staffed clients l sound none = go (disbursed_on l.loan.stage) refl
  where
    go : (d : Option ℕ) → disbursed_on l.loan.stage ≡ d → sum_repaid l.entries ≡ 0
    go None e = ap sum_repaid (unpaid k.day staffed l.loan.periods (disbursed_on l.loan.stage) l e sound.entries)
    go (Some day) e =
        let there = account_there k l day e sound.product in
        let some : account_in k l ≡ Some there.0 = there.1 in
        absurd (cc)

zero_sum : (lent repaid fee p0 p1 p2 p3 gone left over back all : ℕ) → lent ≡ p3 + gone + left
    → repaid ≡ all + over + back → all ≡ p0 + p1 + p2 + p3
    → ((pos repaid +ℤ pos fee) -ℤ (pos lent +ℤ pos back)) +ℤ (pos left +ℤ (neg_ℤ (pos p2) +ℤ (neg_ℤ (pos p1)
    +ℤ (neg_ℤ (pos p0) +ℤ (neg_ℤ (pos fee) +ℤ (neg_ℤ (pos over) +ℤ (pos gone +ℤ pos 0))))))) ≡ pos 0
zero_sum lent repaid fee p0 p1 p2 p3 gone left over back all a b c = omega (arith, ints, a, b, c)

pub comes_to_nothing : (k : Catalogue) (staffed : Caller → Bool) (clients : List (List ℕ)) (l : Ledger)
    → IsSoundCatalogue k → IsSoundLoan k staffed clients l → on_all (sums_in k l) ≡ pos 0
comes_to_nothing k staffed clients l c sound = go (account_in k l) refl
  where
    go : (o : Option DisbursedLoan) → account_in k l ≡ o → on_all (sums_from o (sum_repaid l.entries)) ≡ pos 0
    go None e = ap (λ n. on_all (sums_from None n)) (none_repaid k staffed clients l sound e)
    go (Some a) e =
        let is : IsAccountedFor a = accounted a (account_sound k staffed clients l a c sound e) in
        let entries : a.entries ≡ l.entries =
        ap (λ (x : DisbursedLoan). x.entries) (sym (account_is k l a e).account_is) in
        ap (λ es. on_all (sums_from (Some a) (sum_repaid es))) (sym entries)
        ∙ zero_sum a.principal (sum_repaid a.entries) (balances_of a).disbursement_fee
        (slice_index (balances_of a).paid 0) (slice_index (balances_of a).paid 1) (slice_index (balances_of a).paid 2)
        (slice_index (balances_of a).paid 3) (slice_index (balances_of a).written_off 3)
        (slice_index (balances_of a).outstanding 3) (balances_of a).overpaid (balances_of a).refunded
        (sum (balances_of a).paid) is.lent is.repaid (sum-four (balances_of a).paid refl)

-- ---- the catalogue grows

pub same_account : (k m : Catalogue) → Grows k m → (staffed : Caller → Bool) (clients : List (List ℕ)) (l : Ledger)
    → IsSoundLoan k staffed clients l → account_in m l ≡ account_in k l
same_account k m grows staffed clients l sound = go (disbursed_on l.loan.stage) refl
  where
    go : (d : Option ℕ) → disbursed_on l.loan.stage ≡ d
        → running_from l.loan l.entries (disbursed_on l.loan.stage) (terms_in m l.loan.product)
        ≡ running_from l.loan l.entries (disbursed_on l.loan.stage) (terms_in k l.loan.product)
    go None e =
        ap (λ d. running_from l.loan l.entries d (terms_in m l.loan.product)) e
        ∙ sym (ap (λ d. running_from l.loan l.entries d (terms_in k l.loan.product)) e)
    go (Some day) e =
        let there = account_there k l day e sound.product in
        let is : IsRunning k l there.0 = account_is k l there.0 there.1 in
        ap (running_from l.loan l.entries (disbursed_on l.loan.stage))
        (grows.terms l.loan.product is.terms is.terms_is ∙ sym is.terms_is)

pub same_sums : (k m : Catalogue) (l : Ledger) → account_in m l ≡ account_in k l → sums_in m l ≡ sums_in k l
same_sums k m l same = ap (λ (o : Option DisbursedLoan). sums_from o (sum_repaid l.entries)) same

-- ---- the postings of a change on the accounts of a title

-- nothing is meant where nothing is moved
unposted : (b : Bool) → pos 0 ≡ where_meant b (pos 0 -ℤ pos 0)
unposted true = refl
unposted false = refl

pub posted_at : (title : Title) (meant : Selection) (office product : ℕ) (s t : LoanSums)
    → signed_sum (posted_by title meant) (postings_between office product s t)
    ≡ where_meant (meant office product) (amount_on title t -ℤ amount_on title s)
posted_at Cash meant office product s t = omega (arith, ints)
posted_at Principal meant office product s t = omega (arith, ints)
posted_at Interest meant office product s t = omega (arith, ints)
posted_at Fees meant office product s t = omega (arith, ints)
posted_at Penalties meant office product s t = omega (arith, ints)
posted_at DisbursementFees meant office product s t = omega (arith, ints)
posted_at Overpaid meant office product s t = omega (arith, ints)
posted_at WrittenOff meant office product s t = omega (arith, ints)
posted_at InterestReceivable meant office product s t = unposted (meant office product)
posted_at FeesReceivable meant office product s t = unposted (meant office product)
posted_at PenaltiesReceivable meant office product s t = unposted (meant office product)
posted_at InterestWaived meant office product s t = unposted (meant office product)
posted_at FeesWaived meant office product s t = unposted (meant office product)
posted_at PenaltiesWaived meant office product s t = unposted (meant office product)
posted_at InterestWrittenOff meant office product s t = unposted (meant office product)
posted_at FeesWrittenOff meant office product s t = unposted (meant office product)
posted_at PenaltiesWrittenOff meant office product s t = unposted (meant office product)

pub nothing_yet : (title : Title) → amount_on title (record { lent = 0; repaid = 0; balances = no_balances }) ≡ pos 0
nothing_yet Cash = refl
nothing_yet Principal = refl
nothing_yet Interest = refl
nothing_yet Fees = refl
nothing_yet Penalties = refl
nothing_yet DisbursementFees = refl
nothing_yet Overpaid = refl
nothing_yet WrittenOff = refl
nothing_yet InterestReceivable = refl
nothing_yet FeesReceivable = refl
nothing_yet PenaltiesReceivable = refl
nothing_yet InterestWaived = refl
nothing_yet FeesWaived = refl
nothing_yet PenaltiesWaived = refl
nothing_yet InterestWrittenOff = refl
nothing_yet FeesWrittenOff = refl
nothing_yet PenaltiesWrittenOff = refl

-- ---- what the books read of a loan

pub none_read : (k : Catalogue) (staffed : Caller → Bool) (clients : List (List ℕ)) (l : Ledger) (b : Balances)
    → IsSoundLoan k staffed clients l → account_in k l ≡ None → b ≡ balances_in k l
    → record { lent = 0; repaid = 0; balances = b } ≡ sums_in k l
none_read k staffed clients l b sound none is =
    let lent : lent_on k l ≡ 0 = ap (of_account {A = ℕ} 0 (λ (a : DisbursedLoan). a.principal)) none in
    let repaid : sum_repaid l.entries ≡ 0 = none_repaid k staffed clients l sound none in
    λ t. record { lent = sym lent t; repaid = sym repaid t; balances = is t }

pub some_read : (k : Catalogue) (staffed : Caller → Bool) (clients : List (List ℕ)) (l : Ledger) (a : DisbursedLoan)
    (b : Balances) (r : ℕ) → IsSoundCatalogue k → IsSoundLoan k staffed clients l → account_in k l ≡ Some a
    → b ≡ balances_in k l
    → (sum b.paid + b.overpaid + b.refunded < 2 ^ 64 → r ≡ sum b.paid + b.overpaid + b.refunded)
    → record { lent = l.loan.principal; repaid = r; balances = b } ≡ sums_in k l
some_read k staffed clients l a b r catalogue sound some is value =
    let is_running : IsRunning k l a = account_is k l a some in
    let held : IsSoundDisbursed a = account_sound k staffed clients l a catalogue sound some in
    let principal : a.principal ≡ l.loan.principal =
    ap (λ (x : DisbursedLoan). x.principal) (sym is_running.account_is) in
    let entries : a.entries ≡ l.entries = ap (λ (x : DisbursedLoan). x.entries) (sym is_running.account_is) in
    let lent : lent_on k l ≡ l.loan.principal =
    ap (of_account {A = ℕ} 0 (λ (x : DisbursedLoan). x.principal)) some ∙ principal in
    let own : b ≡ balances_of a = is ∙ ap (of_account no_balances balances_of) some in
    let all : sum b.paid + b.overpaid + b.refunded ≡ sum_repaid a.entries =
    ap (λ (x : Balances). sum x.paid + x.overpaid + x.refunded) own ∙ balances-repaid a held in
    let room = repaid-room a held in
    let small : sum b.paid + b.overpaid + b.refunded < 2 ^ 64 = subst (λ n. n < 2 ^ 64) (sym all) room in
    let repaid : r ≡ sum_repaid l.entries = value small ∙ all ∙ ap sum_repaid entries in
    λ t. record { lent = sym lent t; repaid = repaid t; balances = is t }
