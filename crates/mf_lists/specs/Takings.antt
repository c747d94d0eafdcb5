-- What was paid in and paid out at an office on a business day, by member of staff, as the journal tells it. A request
-- counts on the day on which it was accepted.
use Rattle.std.specs.Prelude.{ℕ, ◌+◌, ◌-◌, Bool, cond, ◌&&◌, ◌==◌, nat_lt, List, [], ◌∷◌, ◌++◌, map, filter, fold}
use Rattle.std.specs.Prelude.{length, sum_by, Option, Some, None, option_map, option_and_then}
use Rattle.std.specs.List.{filter_map, list_any}
use Rattle.mf_office.specs.declared.caller.Caller.{Caller}
use Rattle.mf_account.specs.declared.entry.Entry.{Entry}
use Rattle.mf_account.specs.declared.entry.Kind.{Kind}
use Rattle.mf_account.specs.declared.entry.Kind.TheVariants as kind
use Rattle.mf_model.specs.declared.loan.Statement.{Statement}
use Rattle.mf_model.specs.declared.request.LoanRequest.{LoanRequest}
use Rattle.mf_model.specs.declared.request.LoanRequest.TheVariants.{Take, Repay, Post, Reverse}
use Rattle.mf_model.specs.declared.request.LoanStep.TheVariants.{Disburse}
use Rattle.mf_model.specs.declared.request.Posting.TheVariants.{Refund}
use Rattle.mf_model.specs.declared.request.Request.{Request}
use Rattle.mf_model.specs.declared.request.Request.TheVariants.{Loan}
use Rattle.mf_model.specs.Accounts.{statement}
use Rattle.mf_model.specs.Institution.{Catalogue, JournalLine, Ledger, Rows, item_numbered}
use Rattle.mf_wire_requests.specs.Requests.{request_of}
use Rattle.mf_lists.specs.declared.takings.Counted.{Counted}
use Rattle.mf_lists.specs.declared.takings.Movement.{Movement}
use Rattle.mf_lists.specs.declared.takings.Taking.{Taking}
use Rattle.mf_lists.specs.declared.takings.Way.{Way}
use Rattle.mf_lists.specs.declared.takings.Way.TheVariants.{PaidIn, PaidOut, InReversed, OutReversed}

-- ---- what a request moves

-- what a loan's disbursement moves: its principal less the fee that is kept goes out, or the rest of the fee comes in
abbrev pub handed_over : Statement → Movement
handed_over s =
    cond (nat_lt s.principal s.balances.disbursement_fee)
    (record { way = PaidIn; amount = s.balances.disbursement_fee - s.principal })
    (record { way = PaidOut; amount = s.principal - s.balances.disbursement_fee })

-- what a refund of a loan gives back: what is overpaid of it, given back or not
abbrev pub refund_of : Statement → ℕ
refund_of s = s.balances.overpaid + s.balances.refunded

-- what a refund moves
abbrev pub given_back : Statement → Movement
given_back s = record { way = PaidOut; amount = refund_of s }

-- what the reversal of a repayment moves
abbrev pub repayment_reversed : ℕ → Movement
repayment_reversed amount = record { way = InReversed; amount = amount }

-- what the reversal of a refund moves
abbrev pub refund_reversed : Statement → Movement
refund_reversed s = record { way = OutReversed; amount = refund_of s }

-- what the reversal of an entry of a kind moves: other entries than repayments and refunds move no money
abbrev pub reversal_of : Kind → ℕ → Option Statement → Option Movement
reversal_of kind.Repay amount told = Some (repayment_reversed amount)
reversal_of kind.Refund amount told = option_map refund_reversed told
reversal_of _ amount told = None

-- the same of an entry
abbrev pub entry_reversed : Option Statement → Entry → Option Movement
entry_reversed told e = reversal_of e.kind e.amount told

-- the entries of a loan, where it is there
abbrev pub entries_there : Option Ledger → List Entry
entries_there None = []
entries_there (Some l) = l.entries

-- a loan as it is shown, where it is there
abbrev pub shown_there : Catalogue → Option Ledger → Option Statement
shown_there k found = option_map (statement k) found

-- what a request on a loan moves, by the loan as it stands
abbrev pub movement_on : LoanRequest → Catalogue → Option Ledger → Option Movement
movement_on (Repay repayment) k found = Some (record { way = PaidIn; amount = repayment.amount })
movement_on (Take (Disburse day)) k found = option_map handed_over (shown_there k found)
movement_on (Post Refund) k found = option_map given_back (shown_there k found)
movement_on (Reverse seq) k found =
    option_and_then (entry_reversed (shown_there k found)) (item_numbered (entries_there found) seq)
movement_on _ k found = None

-- what a request moves at an office; none but those on its loans do
abbrev pub movement_asked : Request → Catalogue → Rows → Option Movement
movement_asked (Loan loan asked) k rows = movement_on asked k (item_numbered rows.loans loan.number)
movement_asked _ k rows = None

-- ---- what the journal tells of a day

-- who sent a line
abbrev pub sender : JournalLine → Caller
sender l = record { office = l.office; staff = l.staff }

-- what a line moved, and who sent it
abbrev pub moved : Catalogue → Rows → JournalLine → Option (Caller × Movement)
moved k rows l = option_map (λ m. (sender l, m)) (movement_asked (request_of l.method l.path l.body) k rows)

-- a line names an office, and was accepted on a day
abbrev pub is_of_day : ℕ → ℕ → JournalLine → Bool
is_of_day office day l = (l.named_office == office) && (l.day == day)

-- what was moved at an office on a day, in the order in which it was accepted
abbrev pub movements_on : ℕ → ℕ → Catalogue → Rows → List JournalLine → List (Caller × Movement)
movements_on office day k rows lines = filter_map (moved k rows) (filter (is_of_day office day) lines)

-- ---- by member of staff

-- the number of a way
abbrev pub way_number : Way → ℕ
way_number PaidIn = 0
way_number PaidOut = 1
way_number InReversed = 2
way_number OutReversed = 3

-- two ways are the same
abbrev pub is_way : Way → Way → Bool
is_way a b = way_number a == way_number b

-- two members of staff are the same
abbrev pub is_same : Caller → Caller → Bool
is_same a b = (a.office == b.office) && (a.staff == b.staff)

-- those that went a way
abbrev pub those : Way → List Movement → List Movement
those way ms = filter (λ (m : Movement). is_way way m.way) ms

-- how many went a way, and their sum
abbrev pub counted : Way → List Movement → Counted
counted way ms = record { count = length (those way ms); sum = sum_by (λ (m : Movement). m.amount) (those way ms) }

-- what somebody moved
abbrev pub moved_by : Caller → List (Caller × Movement) → List Movement
moved_by who moves = map (λ m. m.1) (filter (λ m. is_same m.0 who) moves)

-- the takings of somebody who moved so much
abbrev pub taking_with : Caller → List Movement → Taking
taking_with who own = record {
  staff = who;
  paid_in = counted PaidIn own;
  paid_out = counted PaidOut own;
  in_reversed = counted InReversed own;
  out_reversed = counted OutReversed own;
}

-- the takings of somebody
abbrev pub taking_of : Caller → List (Caller × Movement) → Taking
taking_of who moves = taking_with who (moved_by who moves)

-- those before, and one more who isn't among them
abbrev pub with_sender : List Caller → Caller → List Caller
with_sender before who = cond (list_any (is_same who) before) before (before ++ who ∷ [])

-- each who moved something once, in the order of the first movements
abbrev pub senders : List (Caller × Movement) → List Caller
senders moves = fold (λ before m. with_sender before m.0) [] moves

-- the takings of each who moved something
abbrev pub takings_of : List (Caller × Movement) → List Taking
takings_of moves = map (λ who. taking_of who moves) (senders moves)

-- the takings of an office on a day
abbrev pub takings_on : ℕ → ℕ → Catalogue → Rows → List JournalLine → List Taking
takings_on office day k rows lines = takings_of (movements_on office day k rows lines)

-- ---- a movement more

-- one more of an amount, where it counts
abbrev pub one_more : Bool → ℕ → Counted → Counted
one_more counts amount c = cond counts (record { count = c.count + 1; sum = c.sum + amount }) c

-- takings with one movement more
abbrev pub with_movement : Movement → Taking → Taking
with_movement m t = record {
  staff = t.staff;
  paid_in = one_more (is_way PaidIn m.way) m.amount t.paid_in;
  paid_out = one_more (is_way PaidOut m.way) m.amount t.paid_out;
  in_reversed = one_more (is_way InReversed m.way) m.amount t.in_reversed;
  out_reversed = one_more (is_way OutReversed m.way) m.amount t.out_reversed;
}

-- takings with a movement of somebody, where they are that one's
abbrev pub with_own : Caller → Movement → Taking → Taking
with_own who m t = cond (is_same who t.staff) (with_movement m t) t
