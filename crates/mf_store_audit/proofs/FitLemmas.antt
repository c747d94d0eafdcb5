-- What offices come to, one more at a time: it has room only where all that the first of them come to has.
use Rattle.std.proofs.Common.{◌≡◌, ◌+◌, ◌<◌, ◌^◌, ◌∙◌, ℕ, List, length, get_or, take, subst, sym, arith}
use Rattle.std.specs.Prelude.{sum_by}
use Rattle.std.proofs.lemmas.List.Sums.{sum_by-take-le}
use Rattle.mf_store_audit.specs.declared.totals.OfficeSums.{OfficeSums}
use Rattle.mf_store_audit.specs.declared.totals.Sums.{Sums}
use Rattle.mf_store_audit.specs.Sums.{Fit, added, sums_of_all}
use Rattle.mf_store_audit.proofs.AddedLemmas.{office_added}

under : (os : List OfficeSums) (i : ℕ) (f : OfficeSums → ℕ) (most : ℕ) → sum_by f os < most → sum_by f (take i os)
    < most
under os i f most low = let less = sum_by-take-le f os i in omega (arith, less, low)

pub fit_before : (os : List OfficeSums) (i : ℕ) → Fit (sums_of_all os) → Fit (sums_of_all (take i os))
fit_before os i all = record {
  clients = under os i (λ (o : OfficeSums). o.sums.clients) (2 ^ 64) all.clients;
  loans = record {
    submitted = under os i (λ (o : OfficeSums). o.sums.loans.submitted) (2 ^ 64) all.loans.submitted;
    approved = under os i (λ (o : OfficeSums). o.sums.loans.approved) (2 ^ 64) all.loans.approved;
    active = under os i (λ (o : OfficeSums). o.sums.loans.active) (2 ^ 64) all.loans.active;
    withdrawn = under os i (λ (o : OfficeSums). o.sums.loans.withdrawn) (2 ^ 64) all.loans.withdrawn;
    rejected = under os i (λ (o : OfficeSums). o.sums.loans.rejected) (2 ^ 64) all.loans.rejected;
    closed = under os i (λ (o : OfficeSums). o.sums.loans.closed) (2 ^ 64) all.loans.closed;
    written_off = under os i (λ (o : OfficeSums). o.sums.loans.written_off) (2 ^ 64) all.loans.written_off;
    overpaid = under os i (λ (o : OfficeSums). o.sums.loans.overpaid) (2 ^ 64) all.loans.overpaid;
  };
  entries = record {
    standing = under os i (λ (o : OfficeSums). o.sums.entries.standing) (2 ^ 64) all.entries.standing;
    reversed = under os i (λ (o : OfficeSums). o.sums.entries.reversed) (2 ^ 64) all.entries.reversed;
  };
  principal = record {
    disbursed = under os i (λ (o : OfficeSums). o.sums.principal.disbursed) (2 ^ 128) all.principal.disbursed;
    paid = under os i (λ (o : OfficeSums). o.sums.principal.paid) (2 ^ 128) all.principal.paid;
    written_off = under os i (λ (o : OfficeSums). o.sums.principal.written_off) (2 ^ 128) all.principal.written_off;
    outstanding = under os i (λ (o : OfficeSums). o.sums.principal.outstanding) (2 ^ 128) all.principal.outstanding;
  };
  money = record {
    repaid = under os i (λ (o : OfficeSums). o.sums.money.repaid) (2 ^ 128) all.money.repaid;
    paid = under os i (λ (o : OfficeSums). o.sums.money.paid) (2 ^ 128) all.money.paid;
    overpaid = under os i (λ (o : OfficeSums). o.sums.money.overpaid) (2 ^ 128) all.money.overpaid;
    refunded = under os i (λ (o : OfficeSums). o.sums.money.refunded) (2 ^ 128) all.money.refunded;
  };
}

module _ (os : List OfficeSums) (i : ℕ) (d : OfficeSums) (so_far : Sums) (low : i < length os)
    (is : so_far ≡ sums_of_all (take i os)) where
  next : added so_far (get_or os i d).sums ≡ sums_of_all (take (i + 1) os)
  next = (λ t. added (is t) (get_or os i d).sums) ∙ office_added os i d low

  -- one office more
  pub total_more : (all : Sums) → all ≡ added so_far (get_or os i d).sums → all ≡ sums_of_all (take (i + 1) os)
  total_more all same = same ∙ next

  -- with which there is no room
  pub no_room : (Fit (added so_far (get_or os i d).sums) → ⊥) → Fit (sums_of_all os) → ⊥
  no_room none fit = none (subst Fit (sym next) (fit_before os (i + 1) fit))
