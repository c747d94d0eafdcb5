-- Takings of the small institution on 2024-03-15, by its journal, worked out by hand.
use Rattle.std.specs.Prelude.{ℕ, ◌+◌, List, [], ◌∷◌, codes, Option, None, Some}
use Rattle.mf_office.specs.declared.caller.Caller.{Caller}
use Rattle.mf_model.specs.declared.loan.Statement.{Statement}
use Rattle.mf_model.specs.Accounts.{no_balances}
use Rattle.mf_model.specs.declared.request.Repayment.{Repayment}
use Rattle.mf_model.specs.Institution.{Institution, JournalLine, Ledger, item_numbered}
use Rattle.mf_model.specs.Store.{rows_at}
use Rattle.mf_lists.specs.declared.takings.Counted.{Counted}
use Rattle.mf_lists.specs.declared.takings.Movement.{Movement}
use Rattle.mf_lists.specs.declared.takings.Taking.{Taking}
use Rattle.mf_lists.specs.declared.takings.Way.{Way}
use Rattle.mf_lists.specs.declared.takings.Way.TheVariants.{PaidIn, PaidOut, InReversed}
use Rattle.mf_lists.specs.WorkedLists.{first_due, small, worked_day}

-- a line of the teller of office 2 about its loan 3
abbrev teller_line : ℕ → List ℕ → List ℕ → JournalLine
teller_line day path body = record {
  day = day;
  office = 2;
  staff = 2;
  told = [];
  method = codes "POST";
  path = path;
  body = body;
  named_office = 2;
  named_loan = 3;
}

-- 345.05 are paid in for loan 3
abbrev pub repaying : ℕ → JournalLine
repaying day =
    teller_line day (codes "/loans/0002-000003/repayments") (codes "{\"amount\":34505,\"day\":\"2024-02-29\"}")

-- and 100.00
abbrev repaying_more : JournalLine
repaying_more = record (repaying worked_day) { body = codes "{\"amount\":10000,\"day\":\"2024-03-15\"}" }

-- a penalty moves no money
abbrev charging : JournalLine
charging =
    teller_line worked_day (codes "/loans/0002-000003/penalties") (codes "{\"instalment\":1}")

-- the manager pays out loan 2, of which 15.00 are kept
abbrev paying_out : JournalLine
paying_out = record (teller_line worked_day (codes "/loans/0002-000002/disburse") (codes "{\"day\":\"2024-01-31\"}")) {
  staff = 1;
  named_loan = 2;
}

-- the head reverses the second repayment of loan 3
abbrev reversing : JournalLine
reversing = record (teller_line worked_day (codes "/loans/0002-000003/entries/2/reverse") []) { office = 1; staff = 1 }

-- the teller pays something in for office 3, too
abbrev elsewhere : JournalLine
elsewhere = record (repaying worked_day) { named_office = 3 }

-- the journal: the day before, that day, and the day after it
abbrev pub lines_taken : List JournalLine
lines_taken =
    repaying 8839 ∷ repaying worked_day ∷ elsewhere ∷ paying_out ∷ charging ∷ repaying_more ∷ reversing
    ∷ repaying (worked_day + 1) ∷ []

-- the lines of office 2 and of that day
abbrev pub lines_of_the_day : List JournalLine
lines_of_the_day = repaying worked_day ∷ paying_out ∷ charging ∷ repaying_more ∷ reversing ∷ []

-- the small institution, which keeps a journal of these
abbrev pub taken : Institution
taken = record small { journal = Some lines_taken }

-- what the first line of a day asks: 345.05 paid back on 2024-02-29
abbrev pub first_repayment : Repayment
first_repayment = record { amount = 34505; day = first_due; receipt = None }

-- a loan of office 2
abbrev pub loan_of_branch : ℕ → Option Ledger
loan_of_branch number = item_numbered (rows_at 2 small).loans number

-- an amount that went a way
abbrev pub moved_way : Way → ℕ → Movement
moved_way way amount = record { way = way; amount = amount }

-- what these lines moved, and who sent them
abbrev pub movements_of_the_day : List (Caller × Movement)
movements_of_the_day =
    (record { office = 2; staff = 2 }, moved_way PaidIn 34505)
    ∷ (record { office = 2; staff = 1 }, moved_way PaidOut 98500)
    ∷ (record { office = 2; staff = 2 }, moved_way PaidIn 10000)
    ∷ (record { office = 1; staff = 1 }, moved_way InReversed 34505)
    ∷ []

-- nothing
abbrev none : Counted
none = record { count = 0; sum = 0 }

-- the takings of somebody who moved nothing
abbrev without : ℕ → ℕ → Taking
without office staff = record {
  staff = record { office = office; staff = staff };
  paid_in = none;
  paid_out = none;
  in_reversed = none;
  out_reversed = none;
}

-- the teller took 445.05
abbrev pub takings_of_teller : Taking
takings_of_teller = record (without 2 2) { paid_in = record { count = 2; sum = 44505 } }

-- the manager handed over 985.00
abbrev pub takings_of_manager : Taking
takings_of_manager = record (without 2 1) { paid_out = record { count = 1; sum = 98500 } }

-- the head reversed 345.05
abbrev pub takings_of_head : Taking
takings_of_head = record (without 1 1) { in_reversed = record { count = 1; sum = 34505 } }

-- a loan of a principal with a fee at disbursement, of which so much is overpaid and so much was given back
abbrev pub loan_with : ℕ → ℕ → ℕ → ℕ → Statement
loan_with principal fee overpaid refunded = record {
  client = 1;
  product = 1;
  principal = principal;
  periods = 3;
  day = None;
  status = 300;
  balances = record no_balances { disbursement_fee = fee; overpaid = overpaid; refunded = refunded };
}
