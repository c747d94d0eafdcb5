-- What rows come to: counts, and sums of money in whole cents. All that is summed of a loan is read off its account.
use Rattle.std.specs.Prelude.{◌≡◌, ℕ, ◌+◌, ◌^◌, ◌<◌, ◌==◌, not, List, length, filter, sum, sum_by, slice_index}
use Rattle.mf_account.specs.declared.entry.Entry.{Entry}
use Rattle.mf_account.specs.Balance.{sum_repaid}
use Rattle.mf_account.specs.Loan.{DisbursedLoan}
use Rattle.mf_model.specs.Accounts.{account_in, of_account, status_in, balances_in}
use Rattle.mf_model.specs.Institution.{Catalogue, Ledger, Office}
use Rattle.mf_store_audit.specs.declared.totals.LoanCounts.{LoanCounts}
use Rattle.mf_store_audit.specs.declared.totals.EntryCounts.{EntryCounts}
use Rattle.mf_store_audit.specs.declared.totals.PrincipalSums.{PrincipalSums}
use Rattle.mf_store_audit.specs.declared.totals.MoneySums.{MoneySums}
use Rattle.mf_store_audit.specs.declared.totals.Sums.{Sums}
use Rattle.mf_store_audit.specs.declared.totals.OfficeSums.{OfficeSums}

-- how many of these loans have this status
abbrev pub loans_of_status : Catalogue → List Ledger → ℕ → ℕ
loans_of_status k ls status = length (filter (λ (l : Ledger). status_in k l == status) ls)

-- how many loans have which status
abbrev pub loan_counts : Catalogue → List Ledger → LoanCounts
loan_counts k ls = record {
  submitted = loans_of_status k ls 100;
  approved = loans_of_status k ls 200;
  active = loans_of_status k ls 300;
  withdrawn = loans_of_status k ls 400;
  rejected = loans_of_status k ls 500;
  closed = loans_of_status k ls 600;
  written_off = loans_of_status k ls 601;
  overpaid = loans_of_status k ls 700;
}

-- how many entries of these loans stand, and how many are reversed
abbrev pub entry_counts : List Ledger → EntryCounts
entry_counts ls = record {
  standing = sum_by (λ (l : Ledger). length (filter (λ (e : Entry). not e.reversed) l.entries)) ls;
  reversed = sum_by (λ (l : Ledger). length (filter (λ (e : Entry). e.reversed) l.entries)) ls;
}

-- what was lent on a loan: its principal, once it is disbursed
abbrev pub lent_on : Catalogue → Ledger → ℕ
lent_on k l = of_account {A = ℕ} 0 (λ (a : DisbursedLoan). a.principal) (account_in k l)

-- where the principal of these loans is; it is the last of the four portions
abbrev pub principal_sums : Catalogue → List Ledger → PrincipalSums
principal_sums k ls = record {
  disbursed = sum_by (lent_on k) ls;
  paid = sum_by (λ (l : Ledger). slice_index (balances_in k l).paid 3) ls;
  written_off = sum_by (λ (l : Ledger). slice_index (balances_in k l).written_off 3) ls;
  outstanding = sum_by (λ (l : Ledger). slice_index (balances_in k l).outstanding 3) ls;
}

-- where the money went that the standing repayments of these loans brought
abbrev pub money_sums : Catalogue → List Ledger → MoneySums
money_sums k ls = record {
  repaid = sum_by (λ (l : Ledger). sum_repaid l.entries) ls;
  paid = sum_by (λ (l : Ledger). sum (balances_in k l).paid) ls;
  overpaid = sum_by (λ (l : Ledger). (balances_in k l).overpaid) ls;
  refunded = sum_by (λ (l : Ledger). (balances_in k l).refunded) ls;
}

-- what so many clients and these loans come to
abbrev pub sums_by_loan : Catalogue → ℕ → List Ledger → Sums
sums_by_loan k clients ls = record {
  clients = clients;
  loans = loan_counts k ls;
  entries = entry_counts ls;
  principal = principal_sums k ls;
  money = money_sums k ls;
}

-- what the rows of an office come to
abbrev pub sums_of_office : Catalogue → Office → OfficeSums
sums_of_office k f = record { office = f.number; sums = sums_by_loan k (length f.rows.clients) f.rows.loans }

-- all that was lent is paid, written off or outstanding, and all that was repaid has paid something, is overpaid or was
-- refunded
pub record IsBalanced (s : Sums) : Type 0 where
  pub principal : s.principal.disbursed ≡ s.principal.paid + s.principal.written_off + s.principal.outstanding
  pub money : s.money.repaid ≡ s.money.paid + s.money.overpaid + s.money.refunded

-- the sums that have these numbers, where each is made from the way in which it is read
abbrev pub sums_made : ((Sums → ℕ) → ℕ) → Sums
sums_made made = record {
  clients = made (λ s. s.clients);
  loans = record {
    submitted = made (λ s. s.loans.submitted);
    approved = made (λ s. s.loans.approved);
    active = made (λ s. s.loans.active);
    withdrawn = made (λ s. s.loans.withdrawn);
    rejected = made (λ s. s.loans.rejected);
    closed = made (λ s. s.loans.closed);
    written_off = made (λ s. s.loans.written_off);
    overpaid = made (λ s. s.loans.overpaid);
  };
  entries = record { standing = made (λ s. s.entries.standing); reversed = made (λ s. s.entries.reversed) };
  principal = record {
    disbursed = made (λ s. s.principal.disbursed);
    paid = made (λ s. s.principal.paid);
    written_off = made (λ s. s.principal.written_off);
    outstanding = made (λ s. s.principal.outstanding);
  };
  money = record {
    repaid = made (λ s. s.money.repaid);
    paid = made (λ s. s.money.paid);
    overpaid = made (λ s. s.money.overpaid);
    refunded = made (λ s. s.money.refunded);
  };
}

-- what offices come to in all
abbrev pub sums_of_all : List OfficeSums → Sums
sums_of_all os = sums_made (λ read. sum_by (λ (o : OfficeSums). read o.sums) os)

-- two of each, added number by number
abbrev pub loans_added : LoanCounts → LoanCounts → LoanCounts
loans_added a b = record {
  submitted = a.submitted + b.submitted;
  approved = a.approved + b.approved;
  active = a.active + b.active;
  withdrawn = a.withdrawn + b.withdrawn;
  rejected = a.rejected + b.rejected;
  closed = a.closed + b.closed;
  written_off = a.written_off + b.written_off;
  overpaid = a.overpaid + b.overpaid;
}

-- two counts of entries, added
abbrev pub entries_added : EntryCounts → EntryCounts → EntryCounts
entries_added a b = record { standing = a.standing + b.standing; reversed = a.reversed + b.reversed }

-- two sums of principal, added
abbrev pub principal_added : PrincipalSums → PrincipalSums → PrincipalSums
principal_added a b = record {
  disbursed = a.disbursed + b.disbursed;
  paid = a.paid + b.paid;
  written_off = a.written_off + b.written_off;
  outstanding = a.outstanding + b.outstanding;
}

-- two sums of repayments, added
abbrev pub money_added : MoneySums → MoneySums → MoneySums
money_added a b = record {
  repaid = a.repaid + b.repaid;
  paid = a.paid + b.paid;
  overpaid = a.overpaid + b.overpaid;
  refunded = a.refunded + b.refunded;
}

-- two offices' sums, added
abbrev pub added : Sums → Sums → Sums
added a b = record {
  clients = a.clients + b.clients;
  loans = loans_added a.loans b.loans;
  entries = entries_added a.entries b.entries;
  principal = principal_added a.principal b.principal;
  money = money_added a.money b.money;
}

-- 64 bits hold each count, and 128 bits each sum
pub record FitLoans (s : LoanCounts) : Type 0 where
  pub submitted : s.submitted < 2 ^ 64
  pub approved : s.approved < 2 ^ 64
  pub active : s.active < 2 ^ 64
  pub withdrawn : s.withdrawn < 2 ^ 64
  pub rejected : s.rejected < 2 ^ 64
  pub closed : s.closed < 2 ^ 64
  pub written_off : s.written_off < 2 ^ 64
  pub overpaid : s.overpaid < 2 ^ 64

-- the counts have room in 64 bits
pub record FitEntries (s : EntryCounts) : Type 0 where
  pub standing : s.standing < 2 ^ 64
  pub reversed : s.reversed < 2 ^ 64

-- the sums of principal have room in 128 bits
pub record FitPrincipal (s : PrincipalSums) : Type 0 where
  pub disbursed : s.disbursed < 2 ^ 128
  pub paid : s.paid < 2 ^ 128
  pub written_off : s.written_off < 2 ^ 128
  pub outstanding : s.outstanding < 2 ^ 128

-- the sums of repayments have room in 128 bits
pub record FitMoney (s : MoneySums) : Type 0 where
  pub repaid : s.repaid < 2 ^ 128
  pub paid : s.paid < 2 ^ 128
  pub overpaid : s.overpaid < 2 ^ 128
  pub refunded : s.refunded < 2 ^ 128

-- all counts and sums have room
pub record Fit (s : Sums) : Type 0 where
  pub clients : s.clients < 2 ^ 64
  pub loans : FitLoans s.loans
  pub entries : FitEntries s.entries
  pub principal : FitPrincipal s.principal
  pub money : FitMoney s.money
