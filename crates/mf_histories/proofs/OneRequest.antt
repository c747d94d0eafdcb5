-- What an accepted request on a loan does to its entries, and that no other request does.
use Rattle.std.proofs.Common.{◌≡◌, ℕ, ◌-◌, ◌<◌, nat_le, Bool, true, false, List, [], ◌∷◌, ◌++◌, length, Option, Some}
use Rattle.std.proofs.Common.{None, Result, Ok, Err, refl, sym, ap, ◌∙◌, subst, arith}
use Rattle.std.specs.Prelude.{◌&&◌, not, if◌then◌else◌}
use Rattle.std.specs.Option.{option_map, option_and_then}
use Rattle.std.proofs.lemmas.Bool.{and_parts, leb-true}
use Rattle.mf_base.specs.declared.fault.Fault.{Fault}
use Rattle.mf_base.specs.declared.fault.Fault.TheVariants.{F11, F12, F13}
use Rattle.mf_catalog.specs.declared.charge.ChargeDef.{ChargeDef}
use Rattle.mf_catalog.specs.declared.product.Product.{Product}
use Rattle.mf_catalog.specs.Product.{lending}
use Rattle.mf_office.specs.declared.caller.Caller.{Caller}
use Rattle.mf_account.specs.declared.entry.Entry.{Entry}
use Rattle.mf_account.specs.Loan.{DisbursedLoan}
use Rattle.mf_account.specs.Refusals.{refusal_of, reversal_refused, is_instalment_number, is_sealed}
use Rattle.mf_account.specs.Kinds.{is_seal}
use Rattle.mf_account.specs.Standing.{entry_at, with_mark}
use Rattle.mf_model.specs.declared.loan.Stage.{Stage}
use Rattle.mf_model.specs.declared.request.Application.{Application}
use Rattle.mf_model.specs.declared.request.LoanRequest.{LoanRequest}
use Rattle.mf_model.specs.declared.request.LoanRequest.TheVariants.{Show, ShowInstalments, ShowEntries, Take, Repay}
use Rattle.mf_model.specs.declared.request.LoanRequest.TheVariants.{ChargeFee, Post, Reverse}
use Rattle.mf_model.specs.declared.request.LoanStep.{LoanStep}
use Rattle.mf_model.specs.declared.request.OfficeRequest.{OfficeRequest}
use Rattle.mf_model.specs.declared.request.OfficeRequest.TheVariants.{AddStaff, AddClient, ShowClient, SubmitLoan}
use Rattle.mf_model.specs.declared.request.OfficeRequest.TheVariants.{ListLoans}
use Rattle.mf_model.specs.declared.request.Repayment.{Repayment}
use Rattle.mf_model.specs.declared.reply.LoanReply.{LoanReply}
use Rattle.mf_model.specs.declared.reply.LoanReply.TheVariants.{Status, Entered, Reversed}
use Rattle.mf_model.specs.declared.reply.Reply.{Reply}
use Rattle.mf_model.specs.declared.reply.Reply.TheVariants as reply
use Rattle.mf_model.specs.Accounts.{account_in}
use Rattle.mf_model.specs.Desk.{on_office}
use Rattle.mf_model.specs.Institution.{Catalogue, Rows, Ledger, item_numbered, charge_in, product_in}
use Rattle.mf_model.specs.Loans.{LedgerChange, with_stage, with_new_entry, with_reversal, unless_fault, fault_or, enter}
use Rattle.mf_model.specs.Loans.{none_first, fee_first, reverse, repeat_of, unless_known, on_loan, repayment, fee}
use Rattle.mf_model.specs.Loans.{posting, loan_added, new_loan, lend}
use Rattle.mf_model.specs.Outcomes.{next_of, with_value, with_found, where_found, unless_refused}
use Rattle.mf_model.specs.Offices.{staff_added, client_added}
use Rattle.mf_model.specs.Receipts.{Use, uses_from, used_before, repeated_seq}
use Rattle.mf_model.specs.Stages.{next_stage, stage_number}
use Rattle.mf_model.proofs.AccountLemmas.{account_is}
use Rattle.mf_histories.specs.Histories.{Deed, Adds, Marks, entry_by, deed_told, entries_of_ledger}
use Rattle.mf_histories.proofs.Numbered.{numbered_push}

-- what a deed makes of entries; what is marked is there
abbrev pub IsDone : Option Deed → List Entry → List Entry → Type 0
IsDone None old new = new ≡ old
IsDone (Some (Adds e)) old new = new ≡ old ++ e ∷ []
IsDone (Some (Marks seq)) old new = (seq - 1 < length old) × (new ≡ with_mark old (seq - 1) true)

-- what is told of a request on a loan, and what becomes of the loan, is its deed
abbrev pub IsOnLedger : LoanRequest → Caller → Catalogue → Ledger → Result (LoanReply × Option LedgerChange) Fault
    → Type 0
IsOnLedger asked c k l (Err fault) = Unit {0}
IsOnLedger asked c k l (Ok (told, None)) = deed_told asked c k (account_in k l) told ≡ None
IsOnLedger asked c k l (Ok (told, Some change)) =
    IsDone (deed_told asked c k (account_in k l) told) l.entries (change l).entries

module _ (asked : LoanRequest) (c : Caller) (k : Catalogue) (l : Ledger) where
  entering : (first : DisbursedLoan → Option Fault) (make : ℕ → DisbursedLoan → Entry)
      → ((a : DisbursedLoan) → entry_by asked c k a ≡ Some (make k.day a))
      → (account : Option DisbursedLoan) → account_in k l ≡ account
      → IsOnLedger asked c k l (enter first make k account)
  entering first make by None is = tt
  entering first make by (Some a) is = step (fault_or (first a) (refusal_of a (make k.day a) k.day))
    where
      deed : deed_told asked c k (account_in k l) (Entered (make k.day a).seq) ≡ Some (Adds (make k.day a))
      deed = ap (λ o. option_map Adds (option_and_then (entry_by asked c k) o)) is ∙ ap (option_map Adds) (by a)

      step : (fault : Option Fault) → IsOnLedger asked c k l (unless_fault fault (Entered (make k.day a).seq)
          (with_new_entry (make k.day a)))
      step (Some fault) = tt
      step None = subst (λ d. IsDone d l.entries (l.entries ++ make k.day a ∷ [])) (sym deed) refl

staged : (step : LoanStep) (c : Caller) (k : Catalogue) (l : Ledger) (r : Result Stage Fault)
    → IsOnLedger (Take step) c k l (with_value r (λ stage. (Status (stage_number stage), Some (with_stage stage))))
staged step c k l (Err fault) = tt
staged step c k l (Ok stage) = refl

repeated : (asked : Repayment) (c : Caller) (k : Catalogue) (l : Ledger) (r : Result ℕ Fault)
    → IsOnLedger (Repay asked) c k l (repeat_of r)
repeated asked c k l (Err fault) = tt
repeated asked c k l (Ok seq) = refl

repaying : (asked : Repayment) (c : Caller) (k : Catalogue) (n : ℕ) (l : Ledger) (known : Option Use)
    → IsOnLedger (Repay asked) c k l (unless_known n asked known (enter none_first (λ today. repayment asked c) k
    (account_in k l)))
repaying asked c k n l None = entering (Repay asked) c k l none_first (λ today. repayment asked c) (λ a. refl)
    (account_in k l) refl
repaying asked c k n l (Some u) = repeated asked c k l (repeated_seq n asked.amount asked.day u.by)

charging : (charge due : ℕ) (c : Caller) (k : Catalogue) (l : Ledger) (found : Option ChargeDef) → charge_in k charge
    ≡ found
    → IsOnLedger (ChargeFee charge due) c k l (where_found found (λ d. enter (fee_first due)
    (fee d due c) k (account_in k l)))
charging charge due c k l None is = tt
charging charge due c k l (Some d) is =
    entering (ChargeFee charge due) c k l (fee_first due) (fee d due c)
    (λ a. ap (option_map (λ (x : ChargeDef). fee x due c k.day a)) is) (account_in k l) refl

not_there : (b x y z : Bool)
    → (if not b then Some F12 else (if x then Some F13 else (if y && z then Some F11 else None))) ≡ None → b ≡ true
not_there true x y z h = refl
not_there false x y z h = absurd (cc)

reversing : (seq : ℕ) (c : Caller) (k : Catalogue) (l : Ledger) (account : Option DisbursedLoan) → account_in k l
    ≡ account
    → IsOnLedger (Reverse seq) c k l (reverse seq account)
reversing seq c k l None is = tt
reversing seq c k l (Some a) is = step (reversal_refused a.entries seq) refl
  where
    same : a.entries ≡ l.entries
    same = ap (λ (x : DisbursedLoan). x.entries) (sym (account_is k l a is).account_is)

    step : (fault : Option Fault) → reversal_refused a.entries seq ≡ fault
        → IsOnLedger (Reverse seq) c k l (unless_fault fault (Reversed seq) (with_reversal seq))
    step (Some fault) e = tt
    step None e =
        let there = not_there (is_instalment_number (length a.entries) seq) (entry_at a.entries (seq - 1)).reversed
        (is_sealed a.entries) (not (is_seal (entry_at a.entries (seq - 1)).kind)) e in
        let within = and_parts (nat_le 1 seq) (nat_le seq (length a.entries)) there in
        let low = leb-true 1 seq within.0 in
        let high = leb-true seq (length a.entries) within.1 in
        (omega (arith, low, high, ap length same), refl)

-- whatever is asked of a loan
pub done_on : (asked : LoanRequest) (c : Caller) (k : Catalogue) (rows : Rows) (n : ℕ) (l : Ledger)
    → IsOnLedger asked c k l (on_loan asked c k rows n l)
done_on Show c k rows n l = refl
done_on ShowInstalments c k rows n l = refl
done_on ShowEntries c k rows n l = refl
done_on (Take step) c k rows n l = staged step c k l (next_stage step k.day l.loan.stage)
done_on (Repay asked) c k rows n l = repaying asked c k n l (used_before asked.receipt (uses_from 1 rows.loans))
done_on (ChargeFee charge due) c k rows n l = charging charge due c k l (charge_in k charge) refl
done_on (Post asked) c k rows n l = entering (Post asked) c k l none_first (posting asked c) (λ a. refl)
    (account_in k l) refl
done_on (Reverse seq) c k rows n l = reversing seq c k l (account_in k l) refl

-- the loans of an office keep their entries, and what is added has none
abbrev pub KeepEntries : Rows → Result (Reply × Option Rows) Fault → Type 0
KeepEntries old (Err fault) = Unit {0}
KeepEntries old (Ok (told, None)) = Unit {0}
KeepEntries old (Ok (told, Some rows)) =
    (n : ℕ) → entries_of_ledger (item_numbered rows.loans n) ≡ entries_of_ledger (item_numbered old.loans n)

keeps_staffed : (rows : Rows) (r : Result ℕ Fault) (told : ℕ → Reply) (new : Rows) → new.loans ≡ rows.loans
    → KeepEntries rows (with_value r (λ n. (told n, Some new)))
keeps_staffed rows (Err fault) told new same = tt
keeps_staffed rows (Ok n) told new same = λ m. ap (λ ls. entries_of_ledger (item_numbered ls m)) same

keeps_found : {A : Type 0} (rows : Rows) (found : Option A) (told : A → Reply)
    → KeepEntries rows (with_found found (λ a. (told a, None)))
keeps_found rows None told = tt
keeps_found rows (Some a) told = tt

keeps_lent : (office : ℕ) (asked : Application) (k : Catalogue) (rows : Rows) (name : Option (List ℕ))
    (product : Option Product) → KeepEntries rows (where_found name (λ n. lend office asked product rows))
keeps_lent office asked k rows None product = tt
keeps_lent office asked k rows (Some name) None = tt
keeps_lent office asked k rows (Some name) (Some p) =
    lent (lending p asked.principal asked.periods) (next_of (length rows.loans) 999999)
  where
    lent : (allowed : Result (Unit {0}) Fault) (number : Result ℕ Fault)
        → KeepEntries rows (unless_refused allowed (with_value number
        (λ n. (reply.LoanMade (record { office = office; number = n }), Some (loan_added (new_loan asked) rows)))))
    lent (Err fault) number = tt
    lent (Ok u) (Err fault) = tt
    lent (Ok u) (Ok n) = λ m. numbered_push rows.loans (record { loan = new_loan asked; entries = [] }) m refl

pub kept_in_office : (asked : OfficeRequest) (office : ℕ) (k : Catalogue) (rows : Rows)
    → KeepEntries rows (on_office asked office k rows)
kept_in_office (AddStaff name role) office k rows = keeps_staffed rows (next_of (length rows.staff) 9999)
    (λ n. reply.StaffMade (record { office = office; staff = n })) (staff_added name role rows) refl
kept_in_office (AddClient name) office k rows = keeps_staffed rows (next_of (length rows.clients) 999999)
    (λ n. reply.ClientMade (record { office = office; number = n })) (client_added name rows) refl
kept_in_office (ShowClient client) office k rows = keeps_found rows (item_numbered rows.clients client)
    (λ name. reply.ClientShown (record { office = office; number = client }) name)
kept_in_office (SubmitLoan asked) office k rows =
    keeps_lent office asked k rows (item_numbered rows.clients asked.client) (product_in k asked.product)
kept_in_office (ListLoans after) office k rows = tt
