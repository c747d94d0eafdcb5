-- Entries that are suspect, though the rows are sound: by staff who can't see the loan, or who may not enter that kind.
use Rattle.std.specs.Prelude.{◌≡◌, ℕ, ◌==◌, ◌&&◌, Bool, true, false, List, take, Option, Some, None, option_and_then}
use Rattle.std.specs.List.{Contains}
use Rattle.mf_account.specs.declared.entry.Kind.{Kind}
use Rattle.mf_account.specs.declared.entry.Kind.TheVariants as kind
use Rattle.mf_office.specs.Roles.{role_number}
use Rattle.mf_office.specs.Texts.{caller_of}
use Rattle.mf_office.specs.Tree.{is_at_or_below}
use Rattle.mf_office.specs.declared.caller.Caller.{Caller}
use Rattle.mf_office.specs.declared.staff.Role.{Role}
use Rattle.mf_model.specs.Desk.{is_manager, is_officer, loan_need, meets}
use Rattle.mf_model.specs.declared.request.LoanRequest.{LoanRequest}
use Rattle.mf_model.specs.declared.request.LoanRequest.TheVariants.{Show, ShowInstalments, ShowEntries, Take, Repay}
use Rattle.mf_model.specs.declared.request.LoanRequest.TheVariants.{ChargeFee, Post, Reverse}
use Rattle.mf_model.specs.declared.request.Posting.TheVariants.{Penalty, Waiver, WriteOff, Refund}
use Rattle.mf_store_schema.specs.Rows.{Lists}
use Rattle.mf_store_schema.specs.declared.entries.EntryRow.{EntryRow}
use Rattle.mf_store_schema.specs.declared.offices.OfficeRow.{OfficeRow}
use Rattle.mf_store_schema.specs.declared.staff.StaffRow.{StaffRow}
use Rattle.mf_store_sound.specs.Offices.{office_row_in}
use Rattle.mf_store_values.specs.Flat.{entry_kind_number}
use Rattle.mf_store_audit.specs.Kinds.{doubts}
use Rattle.mf_store_audit.specs.Places.{AreFoundIn}
use Rattle.mf_store_audit.specs.declared.finding.Doubt.{Doubt}
use Rattle.mf_store_audit.specs.declared.finding.Doubt.TheVariants as doubt
use Rattle.mf_store_audit.specs.declared.finding.Finding.{Finding}
use Rattle.mf_store_audit.specs.declared.finding.Finding.TheVariants as finding

-- the parent of an office, if it is there and has one
abbrev pub parent_in : List OfficeRow → ℕ → Option ℕ
parent_in offices x = option_and_then (λ (o : OfficeRow). o.parent) (office_row_in x offices)

-- the member of staff whom a text names
abbrev pub is_named : Option Caller → StaffRow → Bool
is_named None s = false
is_named (Some c) s = (s.office == c.office) && (s.number == c.staff)

-- the entry was entered by a member of staff of whom this holds
pub record ByStaff (staff : List StaffRow) (row : EntryRow) (Holds : StaffRow → Type 0) : Type 0 where
  pub member : StaffRow
  pub there : Contains staff member
  pub named : is_named (caller_of row.staff) member ≡ true
  pub holds : Holds member

-- a member of staff can't see the loan of an entry: its office isn't theirs, nor below it
abbrev pub CannotSee : List OfficeRow → EntryRow → StaffRow → Type 0
CannotSee offices row s = is_at_or_below (parent_in offices) row.office s.office ≡ false

-- the kind of the entry that a request makes, if it makes one
abbrev pub kind_entered : LoanRequest → Option Kind
kind_entered Show = None
kind_entered ShowInstalments = None
kind_entered ShowEntries = None
kind_entered (Take step) = None
kind_entered (Repay repayment) = Some kind.Repay
kind_entered (ChargeFee charge due) = Some kind.Fee
kind_entered (Post (Penalty instalment)) = Some kind.Penalty
kind_entered (Post (Waiver instalment portion)) = Some kind.Waive
kind_entered (Post WriteOff) = Some kind.WriteOff
kind_entered (Post Refund) = Some kind.Refund
kind_entered (Reverse entry) = None

-- somebody with this role, of this office, may send no request that makes an entry of this kind
abbrev pub MayNotEnter : Kind → Role → ℕ → Type 0
MayNotEnter kind role office =
    (asked : LoanRequest) → kind_entered asked ≡ Some kind → meets (loan_need asked) role office ≡ false

-- the same by kinds and roles alone
abbrev pub may_enter : Kind → Role → Bool
may_enter kind.Repay role = true
may_enter kind.Fee role = is_officer role
may_enter kind.Penalty role = is_officer role
may_enter kind.Waive role = is_manager role
may_enter kind.WriteOff role = is_manager role
may_enter kind.Refund role = is_manager role

-- a member of staff may not enter an entry of the row's kind
pub record IsBeyondRole (row : EntryRow) (s : StaffRow) : Type 0 where
  pub kind : Kind
  pub kind_is : entry_kind_number kind ≡ row.kind
  pub role : Role
  pub role_is : role_number role ≡ s.role
  pub beyond : MayNotEnter kind role s.office

-- what makes a row of an entry suspect
abbrev pub IsSuspect : List OfficeRow → List StaffRow → Doubt → EntryRow → Type 0
IsSuspect offices staff doubt.Office row = ByStaff staff row (CannotSee offices row)
IsSuspect offices staff doubt.Role row = ByStaff staff row (IsBeyondRole row)

-- these are all entries that are suspect, in order, each with the first that makes it so
abbrev pub AreSuspects : Lists → List Finding → Type 0
AreSuspects lists found =
    AreFoundIn doubts (λ d before. IsSuspect lists.offices lists.staff d) finding.Suspect lists.entries found

-- these are all that was found, or the first alone
abbrev pub wanted_of : Bool → List Finding → List Finding
wanted_of true found = found
wanted_of false found = take 1 found
