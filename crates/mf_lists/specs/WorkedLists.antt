-- A small institution on 2024-03-15, and its lists, worked out by hand. Office 2 has three clients and five loans; the
-- loans are those of the worked preview, paid out on 2024-01-31.
use Rattle.std.specs.Prelude.{ℕ, Bool, false, true, List, [], ◌∷◌, codes, Option, Some, None}
use Rattle.mf_office.specs.declared.caller.Caller.{Caller}
use Rattle.mf_office.specs.declared.staff.Role.TheVariants.{Teller, Manager}
use Rattle.mf_alloc.specs.declared.row.Portion.TheVariants.{Principal}
use Rattle.mf_account.specs.declared.entry.Entry.{Entry}
use Rattle.mf_account.specs.declared.entry.Kind.TheVariants.{Repay}
use Rattle.mf_model.specs.declared.loan.Stage.{Stage}
use Rattle.mf_model.specs.declared.loan.Stage.TheVariants.{Submitted, Approved, Disbursed, Withdrawn}
use Rattle.mf_model.specs.Institution.{Institution, Ledger, Office, Rows, no_rows}
use Rattle.mf_lists.specs.declared.lines.ClientLine.{ClientLine}
use Rattle.mf_lists.specs.declared.lines.ClientLoan.{ClientLoan}
use Rattle.mf_lists.specs.declared.lines.DueLine.{DueLine}
use Rattle.mf_lists.specs.declared.lines.StaffLine.{StaffLine}
use Rattle.mf_lists.specs.declared.lines.StageLine.{StageLine}
use Rattle.mf_lists.specs.WorkedPreview.{worked_catalogue}
use Rattle.mf_lists.specs.WorkedRates.{pay_out_day}

-- 2024-03-15, the day of approval 2024-01-30, and the due days 2024-02-29 and 2024-03-31
abbrev pub worked_day : ℕ
worked_day = 8840

-- 2024-01-30
abbrev pub approval : ℕ
approval = 8795

-- 2024-02-29
abbrev pub first_due : ℕ
first_due = 8825

-- 2024-03-31
abbrev pub second_due : ℕ
second_due = 8856

-- a loan of 1,000.00 over three months
abbrev loan_of : ℕ → Stage → List Entry → Ledger
loan_of client stage entries = record {
  loan = record { client = client; product = 1; principal = 100000; periods = 3; stage = stage };
  entries = entries;
}

-- a repayment of the first instalment, and one that is reversed
abbrev first_repaid : ℕ → ℕ → Bool → Entry
first_repaid seq day reversed = record {
  seq = seq;
  kind = Repay;
  day = day;
  amount = 34505;
  instalment = 0;
  portion = Principal;
  receipt = None;
  staff = record { office = 2; staff = 1 };
  reversed = reversed;
}

-- the branch: Amina's loans 1 and 2, Binta's 3 and 4, Chidi's 5
abbrev pub branch : Rows
branch = record {
  staff = record { name = codes "Zola"; role = Manager } ∷ record { name = codes "Yemi"; role = Teller } ∷ [];
  clients = codes "Amina" ∷ codes "Binta" ∷ codes "Chidi" ∷ [];
  loans =
      loan_of 1 Submitted []
      ∷ loan_of 1 (Disbursed approval pay_out_day) []
      ∷ loan_of 2 (Disbursed approval pay_out_day)
      (first_repaid 1 first_due false ∷ first_repaid 2 worked_day true ∷ [])
      ∷ loan_of 2 Withdrawn []
      ∷ loan_of 3 (Approved worked_day) []
      ∷ [];
}

-- offices 2 and 3 are below the head
abbrev office_with : ℕ → Option ℕ → Rows → Office
office_with number parent rows = record { number = number; parent = parent; name = codes "Office"; rows = rows }

-- the institution on that day
abbrev pub small : Institution
small = record {
  catalogue = record worked_catalogue { day = worked_day };
  offices = office_with 1 None no_rows ∷ office_with 2 (Some 1) branch ∷ office_with 3 (Some 1) no_rows ∷ [];
  journal = None;
}

-- ---- its lists

-- Amina has a loan that waits and one that is overdue
abbrev pub amina : ClientLine
amina = record { number = 1; name = codes "Amina"; waiting = 1; active = 1; overdue = 1 }

-- Binta has paid what was due
abbrev pub binta : ClientLine
binta = record { number = 2; name = codes "Binta"; waiting = 0; active = 1; overdue = 0 }

-- Chidi's loan is approved
abbrev pub chidi : ClientLine
chidi = record { number = 3; name = codes "Chidi"; waiting = 1; active = 0; overdue = 0 }

-- Amina's loans
abbrev pub loans_of_amina : List ClientLoan
loans_of_amina =
    record {
      loan = 1;
      product = 1;
      principal = 100000;
      status = 100;
      approved = None;
      disbursed = None;
      left = 0;
      overdue = 0;
    }
    ∷ record {
      loan = 2;
      product = 1;
      principal = 100000;
      status = 300;
      approved = Some approval;
      disbursed = Some pay_out_day;
      left = 102510;
      overdue = 15;
    }
    ∷ []

-- what is due of Amina's loan by the first due day or after it
abbrev pub due_of_amina : DueLine
due_of_amina = record {
  loan = 2;
  client = 1;
  name = codes "Amina";
  oldest = first_due;
  due = 0 ∷ 172 ∷ 1000 ∷ 33333 ∷ [];
  left = 102510;
  last = None;
}

-- by the second due day two instalments of hers are due
abbrev pub later_of_amina : DueLine
later_of_amina = record due_of_amina { due = 0 ∷ 342 ∷ 1667 ∷ 66666 ∷ [] }

-- and one of Binta's
abbrev pub later_of_binta : DueLine
later_of_binta = record {
  loan = 3;
  client = 2;
  name = codes "Binta";
  oldest = second_due;
  due = 0 ∷ 170 ∷ 667 ∷ 33333 ∷ [];
  left = 68005;
  last = Some (record { seq = 1; day = first_due });
}

-- a loan of a status
abbrev pub stage_of : ℕ → ℕ → List ℕ → Option ℕ → StageLine
stage_of loan client name day = record {
  loan = loan;
  client = client;
  name = name;
  product = 1;
  principal = 100000;
  day = day;
}

-- Yemi
abbrev pub teller : Caller
teller = record { office = 2; staff = 2 }

-- a third member of the branch's staff, which has two
abbrev pub nobody : Caller
nobody = record { office = 2; staff = 3 }

-- the staff
abbrev pub zola_and_yemi : List StaffLine
zola_and_yemi =
    record { number = 1; name = codes "Zola"; role = Manager }
    ∷ record { number = 2; name = codes "Yemi"; role = Teller }
    ∷ []
