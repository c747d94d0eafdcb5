-- How the loans of clients are counted, a loan at a time.
use Rattle.std.specs.Prelude.{ℕ, ◌+◌, ◌≤◌, Bool, true, false, cond, ◌&&◌, ◌==◌, List}
use Rattle.std.specs.List.{count_by}
use Rattle.mf_lists.specs.declared.lines.ClientLine.{ClientLine}
use Rattle.mf_lists.specs.Lists.{is_active, is_of_client, is_overdue, is_waiting}
use Rattle.mf_model.specs.declared.loan.Stage.{Stage}
use Rattle.mf_model.specs.declared.loan.Stage.TheVariants.{Submitted, Approved, Disbursed, Withdrawn, Rejected}
use Rattle.mf_model.specs.Institution.{Catalogue, Ledger}
use Rattle.mf_store_lists.specs.declared.clients.Bounds.{Bounds}
use Rattle.mf_store_lists.specs.declared.clients.LoanCount.{LoanCount}

-- at this stage a loan waits for its approval or for its disbursement
abbrev pub waits : Stage → Bool
waits Submitted = true
waits (Approved day) = true
waits (Disbursed approved day) = false
waits Withdrawn = false
waits Rejected = false

-- how a loan counts for its client
abbrev pub loan_count : Catalogue → Ledger → LoanCount
loan_count k l = record { waiting = is_waiting k l; active = is_active k l; overdue = is_overdue k l }

-- how many of some loans pass and are a client's
abbrev pub counted : (Ledger → Bool) → ℕ → List Ledger → ℕ
counted passes client loans = count_by (λ l. passes l && is_of_client client l) loans

-- a client with these counts
abbrev pub client_with : ℕ × List ℕ → ℕ → ℕ → ℕ → ClientLine
client_with client waiting active overdue = record {
  number = client.0;
  name = client.1;
  waiting = waiting;
  active = active;
  overdue = overdue;
}

-- a client none of whose loans is counted
abbrev pub uncounted : ℕ × List ℕ → ClientLine
uncounted client = client_with client 0 0 0

-- a client with the counts of their loans among these
abbrev pub counted_by : Catalogue → List Ledger → ℕ × List ℕ → ClientLine
counted_by k loans client =
    client_with client (counted (is_waiting k) client.0 loans) (counted (is_active k) client.0 loans)
    (counted (is_overdue k) client.0 loans)

-- a count with one more where it is so
abbrev pub one_more : ℕ → Bool → ℕ
one_more n is = n + cond is 1 0

-- a client's line with one more loan of a client
abbrev pub with_count : ℕ → LoanCount → ClientLine → ClientLine
with_count client count line = cond (client == line.number) (record line {
  waiting = one_more line.waiting count.waiting;
  active = one_more line.active count.active;
  overdue = one_more line.overdue count.overdue;
}) line

-- a number that bounds allow
abbrev pub IsBetween : Bounds → ℕ → Type 0
IsBetween b n = (b.low ≤ n) × (n ≤ b.high)
