-- The lists that pages ask for, each as a function of the catalogue and the rows of one office.
use Rattle.std.specs.Prelude.{ℕ, Bool, true, false, cond, ◌&&◌, ◌||◌, ◌==◌, nat_le, nat_lt, List, [], ◌∷◌, map, filter}
use Rattle.std.specs.Prelude.{fold, take, sum_by, Option, Some, None}
use Rattle.std.specs.List.{count_by, enumerate_from, list_any}
use Rattle.std.specs.Option.{unwrap_or}
use Rattle.std.specs.Str.{bytes_eq}
use Rattle.mf_office.specs.Written.{account_text}
use Rattle.mf_alloc.specs.Sums.{Instalment, is_open, open_at, row_outstanding}
use Rattle.mf_arrears.specs.Ageing.{days_overdue, earliest_due}
use Rattle.mf_account.specs.declared.entry.Entry.{Entry}
use Rattle.mf_account.specs.Loan.{DisbursedLoan, state_of_loan}
use Rattle.mf_model.specs.declared.loan.Stage.{Stage}
use Rattle.mf_model.specs.declared.loan.Stage.TheVariants.{Submitted, Approved, Disbursed, Withdrawn, Rejected}
use Rattle.mf_model.specs.Accounts.{account_in, of_account, status_in}
use Rattle.mf_model.specs.Institution.{Catalogue, Ledger, Rows, Staff, item_numbered}
use Rattle.mf_model.specs.Stages.{disbursed_on}
use Rattle.mf_lists.specs.declared.lines.ClientLine.{ClientLine}
use Rattle.mf_lists.specs.declared.lines.ClientLoan.{ClientLoan}
use Rattle.mf_lists.specs.declared.lines.DueLine.{DueLine}
use Rattle.mf_lists.specs.declared.lines.LastEntry.{LastEntry}
use Rattle.mf_lists.specs.declared.lines.StaffLine.{StaffLine}
use Rattle.mf_lists.specs.declared.lines.StageLine.{StageLine}

-- ---- pages

-- the lines of the things that are chosen, in the order of their numbers, which run from 1
abbrev pub lines_where : {X Y : Type 0} → (ℕ × X → Bool) → (ℕ × X → Y) → List X → List Y
lines_where chosen line xs = map line (filter chosen (enumerate_from 1 xs))

-- the first so many lines with a number above this one
abbrev pub page : {Y : Type 0} → (Y → ℕ) → ℕ → ℕ → List Y → List Y
page number most after lines = take most (filter (λ y. nat_lt after (number y)) lines)

-- ---- what is told of a loan

-- the instalments of a loan as they stand; none before it is paid out
abbrev pub rows_in : Catalogue → Ledger → List Instalment
rows_in k l = of_account [] (λ (a : DisbursedLoan). (state_of_loan a).rows) (account_in k l)

-- what is outstanding of a loan, in all portions
abbrev pub left_of : Catalogue → Ledger → ℕ
left_of k l = sum_by row_outstanding (rows_in k l)

-- its days overdue on the business day
abbrev pub overdue_days : Catalogue → Ledger → ℕ
overdue_days k l = days_overdue (rows_in k l) k.day

-- it waits for its approval or for its disbursement
abbrev pub is_waiting : Catalogue → Ledger → Bool
is_waiting k l = (status_in k l == 100) || (status_in k l == 200)

-- it is paid out, and something is outstanding
abbrev pub is_active : Catalogue → Ledger → Bool
is_active k l = status_in k l == 300

-- it is active, and something of it is overdue
abbrev pub is_overdue : Catalogue → Ledger → Bool
is_overdue k l = is_active k l && nat_lt 0 (overdue_days k l)

-- the name of a client; empty where there is none
abbrev pub name_of_client : Rows → ℕ → List ℕ
name_of_client rows client = unwrap_or (item_numbered rows.clients client) []

-- ---- clients

-- the loan is one of this client
abbrev pub is_of_client : ℕ → Ledger → Bool
is_of_client client l = l.loan.client == client

-- how many loans of a client pass
abbrev pub loans_that : (Ledger → Bool) → ℕ → Rows → ℕ
loans_that passes client rows = count_by (λ l. passes l && is_of_client client l) rows.loans

-- a client with the counts of their loans
abbrev pub counted_client : Catalogue → Rows → ℕ × List ℕ → ClientLine
counted_client k rows client = record {
  number = client.0;
  name = client.1;
  waiting = loans_that (is_waiting k) client.0 rows;
  active = loans_that (is_active k) client.0 rows;
  overdue = loans_that (is_overdue k) client.0 rows;
}

-- the clients of an office
abbrev pub clients_of : Catalogue → Rows → List ClientLine
clients_of k rows = lines_where (λ c. true) (counted_client k rows) rows.clients

-- the first 500 with a number above this one
abbrev pub clients_after : ℕ → Catalogue → Rows → List ClientLine
clients_after after k rows = page (λ (c : ClientLine). c.number) 500 after (clients_of k rows)

-- ---- the loans of a client

-- the day of a loan's approval, where it has one
abbrev pub approved_on : Stage → Option ℕ
approved_on Submitted = None
approved_on (Approved day) = Some day
approved_on (Disbursed approved day) = Some approved
approved_on Withdrawn = None
approved_on Rejected = None

-- a loan as it is told of its client
abbrev pub client_loan : Catalogue → ℕ × Ledger → ClientLoan
client_loan k l = record {
  loan = l.0;
  product = l.1.loan.product;
  principal = l.1.loan.principal;
  status = status_in k l.1;
  approved = approved_on l.1.loan.stage;
  disbursed = disbursed_on l.1.loan.stage;
  left = left_of k l.1;
  overdue = overdue_days k l.1;
}

-- the loans of a client
abbrev pub loans_of_client : ℕ → Catalogue → Rows → List ClientLoan
loans_of_client client k rows = lines_where (λ l. is_of_client client l.1) (client_loan k) rows.loans

-- ---- what is due

-- the instalments that are due by a day
abbrev pub instalments_due_by : ℕ → Catalogue → Ledger → List Instalment
instalments_due_by day k l = filter (λ (row : Instalment). nat_le row.due day) (rows_in k l)

-- it is active, and something is due by the day and outstanding
abbrev pub is_due : ℕ → Catalogue → Ledger → Bool
is_due day k l = is_active k l && list_any is_open (instalments_due_by day k l)

-- what is due by the day and outstanding of a portion
abbrev pub portion_due : ℕ → ℕ → Catalogue → Ledger → ℕ
portion_due portion day k l = sum_by (λ (row : Instalment). open_at row portion) (instalments_due_by day k l)

-- the last entry that counts
abbrev pub last_entry : List Entry → Option LastEntry
last_entry entries =
    fold (λ found (e : Entry). cond e.reversed found (Some (record { seq = e.seq; day = e.day }))) None entries

-- what is due of a loan by a day: penalties, fees, interest and principal
abbrev pub due_line : ℕ → Catalogue → Rows → ℕ × Ledger → DueLine
due_line day k rows l = record {
  loan = l.0;
  client = l.1.loan.client;
  name = name_of_client rows l.1.loan.client;
  oldest = unwrap_or (earliest_due (rows_in k l.1)) 0;
  due = portion_due 0 day k l.1 ∷ portion_due 1 day k l.1 ∷ portion_due 2 day k l.1 ∷ portion_due 3 day k l.1 ∷ [];
  left = left_of k l.1;
  last = last_entry l.1.entries;
}

-- the active loans of an office of which something is due by a day
abbrev pub due_lines : ℕ → Catalogue → Rows → List DueLine
due_lines day k rows = lines_where (λ l. is_due day k l.1) (due_line day k rows) rows.loans

-- the first 200 with a number above this one
abbrev pub due_after : ℕ → ℕ → Catalogue → Rows → List DueLine
due_after day after k rows = page (λ (d : DueLine). d.loan) 200 after (due_lines day k rows)

-- ---- loans by status

-- the day on which a loan came to its stage, where it is kept
abbrev pub stage_day : Stage → Option ℕ
stage_day Submitted = None
stage_day (Approved day) = Some day
stage_day (Disbursed approved day) = Some day
stage_day Withdrawn = None
stage_day Rejected = None

-- a loan with its client
abbrev pub stage_line : Rows → ℕ × Ledger → StageLine
stage_line rows l = record {
  loan = l.0;
  client = l.1.loan.client;
  name = name_of_client rows l.1.loan.client;
  product = l.1.loan.product;
  principal = l.1.loan.principal;
  day = stage_day l.1.loan.stage;
}

-- the loans of a status
abbrev pub stage_lines : ℕ → Catalogue → Rows → List StageLine
stage_lines status k rows = lines_where (λ l. status_in k l.1 == status) (stage_line rows) rows.loans

-- the first 200 with a number above this one
abbrev pub stages_after : ℕ → ℕ → Catalogue → Rows → List StageLine
stages_after status after k rows = page (λ (s : StageLine). s.loan) 200 after (stage_lines status k rows)

-- ---- staff

-- a member of staff and its number
abbrev pub staff_line : ℕ × Staff → StaffLine
staff_line s = record { number = s.0; name = s.1.name; role = s.1.role }

-- the staff of an office
abbrev pub staff_of : Rows → List StaffLine
staff_of rows = lines_where (λ s. true) staff_line rows.staff

-- ---- find

-- a text begins with another
abbrev pub begins_with : List ℕ → List ℕ → Bool
begins_with [] text = true
begins_with (x ∷ xs) [] = false
begins_with (x ∷ xs) (y ∷ ys) = (x == y) && begins_with xs ys

-- a text has another in it
abbrev pub has_part : List ℕ → List ℕ → Bool
has_part part [] = begins_with part []
has_part part (y ∷ ys) = begins_with part (y ∷ ys) || has_part part ys

-- the client has a loan of this account number
abbrev pub has_loan : ℕ → ℕ → List ℕ → Rows → Bool
has_loan office client text rows =
    list_any (λ (l : ℕ × Ledger). is_of_client client l.1 && bytes_eq text (account_text office l.0))
    (enumerate_from 1 rows.loans)

-- A client has the part in their name, where both are folded, or has it as their number or as that of a loan. A folding
-- leaves out what isn't regarded, as case and accents.
abbrev pub is_found : (List ℕ → List ℕ) → ℕ → List ℕ → Rows → ℕ × List ℕ → Bool
is_found folded office part rows client =
    has_part (folded part) (folded client.1)
    || (bytes_eq part (account_text office client.0) || has_loan office client.0 part rows)

-- the first 50 clients of an office that are found
abbrev pub find_clients : (List ℕ → List ℕ) → ℕ → List ℕ → Catalogue → Rows → List ClientLine
find_clients folded office part k rows =
    take 50 (lines_where (is_found folded office part rows) (counted_client k rows) rows.clients)
