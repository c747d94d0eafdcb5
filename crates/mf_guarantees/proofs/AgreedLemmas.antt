-- What was agreed when a loan was paid out is owed ever after.
use Rattle.std.proofs.Common.{◌≡◌, ◌≢◌, ◌-◌, ◌+◌, ℕ, zero, suc, List, [], ◌∷◌, map}
use Rattle.std.proofs.Common.{Option, Some, None, get_or, set, refl, sym, ap, ◌∙◌, arith, inl, inr}
use Rattle.std.proofs.lemmas.List.{get_or-set_other}
use Rattle.mf_catalog.specs.declared.charge.ChargeDef.{ChargeDef}
use Rattle.mf_office.specs.declared.account.Account.{Account}
use Rattle.mf_office.specs.declared.caller.Caller.{Caller}
use Rattle.mf_schedule.specs.declared.instalment.FreshInstalment.{FreshInstalment}
use Rattle.mf_alloc.specs.declared.row.Cell.{Cell}
use Rattle.mf_alloc.specs.Sums.{Instalment}
use Rattle.mf_alloc.specs.Rows.{no_row, place_in_row}
use Rattle.mf_account.specs.declared.entry.Entry.{Entry}
use Rattle.mf_account.specs.declared.entry.Kind.{Kind}
use Rattle.mf_account.specs.declared.entry.Kind.TheVariants.{Repay, Fee, Penalty, Waive, WriteOff, Refund}
use Rattle.mf_account.specs.declared.settled.How.{How}
use Rattle.mf_account.specs.declared.settled.How.TheVariants.{Paid, Waived, WrittenOff}
use Rattle.mf_account.specs.Account.{Orders, after_entries, first_state, row_of}
use Rattle.mf_account.specs.AtOnce.{rows_charged}
use Rattle.mf_account.specs.Effect.{State, Part, after_entry, settle, settle_row, owe_row, with_settled, with_charge}
use Rattle.mf_account.specs.Effect.{parts_of}
use Rattle.mf_account.specs.Loan.{DisbursedLoan, orders_of, schedule_of, state_of_loan}
use Rattle.mf_account.specs.Standing.{standing_entries}
use Rattle.mf_account.proofs.OnceLemmas.{rows-after}
use Rattle.mf_model.specs.declared.loan.Loan.{Loan}
use Rattle.mf_model.specs.declared.loan.Stage.{Stage}
use Rattle.mf_model.specs.declared.loan.Stage.TheVariants.{Submitted, Approved, Disbursed, Withdrawn, Rejected}
use Rattle.mf_model.specs.declared.reply.LoanReply.TheVariants.{Status}
use Rattle.mf_model.specs.declared.request.LoanRequest.{LoanRequest}
use Rattle.mf_model.specs.declared.request.LoanRequest.TheVariants.{Show, ShowInstalments, ShowEntries, Take, Repay}
use Rattle.mf_model.specs.declared.request.LoanRequest.TheVariants.{ChargeFee, Post, Reverse}
use Rattle.mf_model.specs.declared.request.LoanStep.{LoanStep}
use Rattle.mf_model.specs.declared.request.LoanStep.TheVariants.{Plain, Disburse}
use Rattle.mf_model.specs.declared.request.PlainStep.TheVariants.{Approve, Reject, Withdraw, UndoApproval}
use Rattle.mf_model.specs.Accounts.{account_in, running_loan, running_from, terms_in}
use Rattle.mf_model.specs.Institution.{Institution, Catalogue, Rows, Ledger, charge_in}
use Rattle.mf_model.specs.Loans.{LedgerChange, on_loan, with_stage, none_first, fee_first}
use Rattle.mf_model.specs.Loans.{enter, fee, posting}
use Rattle.mf_model.specs.Outcomes.{with_value, where_found}
use Rattle.mf_model.specs.Receipts.{uses_from, used_before}
use Rattle.mf_model.specs.Run.{Line, next, last}
use Rattle.mf_model.specs.Sound.{IsSound, AreInRange}
use Rattle.mf_model.specs.Stages.{disbursed_on, next_stage, stage_number}
use Rattle.mf_model.specs.Store.{ledger_at, account_of}
use Rattle.mf_model.specs.Tree.{IsTree}
use Rattle.mf_model.proofs.AccountLemmas.{IsRunning, account_is}
use Rattle.mf_model.proofs.Lasting.{terms_last}
use Rattle.mf_model.proofs.Runs.{IsTree_next}
use Rattle.mf_guarantees.specs.Agreed.{Agreed, agreed_by, agreed_in}
use Rattle.mf_guarantees.proofs.LoanLines.{line_loan}
use Rattle.mf_guarantees.proofs.LoanSteps.{change_told, entered_is, reversed_is, some_same}
use Rattle.mf_guarantees.proofs.MoveLemmas.{repay_enters}

-- ---- the account

-- a change of a row that leaves what is agreed
same_rows : (change : Instalment → Instalment) (rows : List Instalment) (k : ℕ)
    → ((row : Instalment) → agreed_in (change row) ≡ agreed_in row)
    → map agreed_in (set rows k (change (get_or rows k no_row))) ≡ map agreed_in rows
same_rows change [] k same = refl
same_rows change (row ∷ rows) zero same = ap (λ (a : Agreed). a ∷ map agreed_in rows) (same row)
same_rows change (row ∷ rows) (suc k) same =
    ap (λ (all : List Agreed). agreed_in row ∷ all) (same_rows change rows k same)

owed_more : (p amount : ℕ) (row : Instalment) → 2 ≢ p → 3 ≢ p → agreed_in (owe_row p amount row) ≡ agreed_in row
owed_more p amount row not_interest not_principal =
    let interest = get_or-set_other row.owed p 2 (get_or row.owed p 0 + amount) 0 not_interest in
    let principal = get_or-set_other row.owed p 3 (get_or row.owed p 0 + amount) 0 not_principal in
    λ t. record { due = row.due; interest = interest t; principal = principal t }

settled_row : (how : How) (p amount : ℕ) (row : Instalment) → agreed_in (settle_row how p amount row) ≡ agreed_in row
settled_row Paid p amount row = refl
settled_row Waived p amount row = refl
settled_row WrittenOff p amount row = refl

settled_rows : (rows : List Instalment) (parts : List Part)
    → map agreed_in (with_settled rows parts) ≡ map agreed_in rows
settled_rows rows [] = refl
settled_rows rows (part ∷ parts) =
    let p : ℕ = place_in_row part.cell.portion in
    settled_rows (settle rows part) parts
    ∙ same_rows (settle_row part.how p part.amount) rows (part.cell.instalment - 1) (settled_row part.how p part.amount)

charged_rows : (kind : Kind) (entry : Entry) (rows : List Instalment)
    → map agreed_in (with_charge kind entry rows) ≡ map agreed_in rows
charged_rows Fee entry rows = same_rows (owe_row 1 entry.amount) rows (entry.instalment - 1)
    (λ row. owed_more 1 entry.amount row (λ e. omega (arith, e)) (λ e. omega (arith, e)))
charged_rows Penalty entry rows = same_rows (owe_row 0 entry.amount) rows (entry.instalment - 1)
    (λ row. owed_more 0 entry.amount row (λ e. omega (arith, e)) (λ e. omega (arith, e)))
charged_rows Repay entry rows = refl
charged_rows Waive entry rows = refl
charged_rows WriteOff entry rows = refl
charged_rows Refund entry rows = refl

entered_rows : (order : ℕ → Cell) (entry : Entry) (before : State)
    → map agreed_in (after_entry order entry before).rows ≡ map agreed_in before.rows
entered_rows order entry before =
    ap (map agreed_in) (rows-after order entry before)
    ∙ settled_rows (rows_charged entry before) (parts_of order entry before)
    ∙ charged_rows entry.kind entry before.rows

all_rows : (orders : Orders) (entries : List Entry) (before : State)
    → map agreed_in (after_entries orders entries before).rows ≡ map agreed_in before.rows
all_rows orders [] before = refl
all_rows orders (entry ∷ entries) before =
    all_rows orders entries (after_entry (orders entry) entry before) ∙ entered_rows (orders entry) entry before

first_rows : (schedule : List FreshInstalment) → map agreed_in (map row_of schedule) ≡ map agreed_by schedule
first_rows [] = refl
first_rows (i ∷ schedule) = ap (λ (all : List Agreed). agreed_by i ∷ all) (first_rows schedule)

pub agreed_stands : (loan : DisbursedLoan) → map agreed_in (state_of_loan loan).rows ≡ map agreed_by (schedule_of loan)
agreed_stands loan =
    all_rows (orders_of loan) (standing_entries loan.entries) (first_state (schedule_of loan))
    ∙ first_rows (schedule_of loan)

-- ---- a loan that is paid out stays as it was lent

no_step : (step : LoanStep) (day today : ℕ) (s : Stage) (becomes : LedgerChange) → disbursed_on s ≡ Some day
    → change_told (with_value (next_stage step today s)
    (λ stage. (Status (stage_number stage), Some (with_stage stage)))) ≡ Some becomes → ⊥
no_step step day today Submitted becomes out h = cc
no_step step day today (Approved approved) becomes out h = cc
no_step (Plain Approve) day today (Disbursed approved then) becomes out h = cc
no_step (Plain Reject) day today (Disbursed approved then) becomes out h = cc
no_step (Plain Withdraw) day today (Disbursed approved then) becomes out h = cc
no_step (Plain UndoApproval) day today (Disbursed approved then) becomes out h = cc
no_step (Disburse on) day today (Disbursed approved then) becomes out h = cc
no_step step day today Withdrawn becomes out h = cc
no_step step day today Rejected becomes out h = cc

charged_keeps : (due : ℕ) (by : Caller) (k : Catalogue) (found : Option ChargeDef) (l : Ledger)
    (becomes : LedgerChange)
    → change_told (where_found found (λ d. enter (fee_first due) (fee d due by) k (account_in k l))) ≡ Some becomes
    → (becomes l).loan ≡ l.loan
charged_keeps due by k None l becomes h = absurd (cc)
charged_keeps due by k (Some d) l becomes h =
    let made = entered_is (fee_first due) (fee d due by) k (account_in k l) becomes h in
    ap (λ (b : LedgerChange). (b l).loan) (sym made.2)

keeps_loan : (asked : LoanRequest) (by : Caller) (k : Catalogue) (rows : Rows) (n : ℕ) (l : Ledger)
    (becomes : LedgerChange) (day : ℕ) → disbursed_on l.loan.stage ≡ Some day
    → change_told (on_loan asked by k rows n l) ≡ Some becomes → (becomes l).loan ≡ l.loan
keeps_loan Show by k rows n l becomes day out h = absurd (cc)
keeps_loan ShowInstalments by k rows n l becomes day out h = absurd (cc)
keeps_loan ShowEntries by k rows n l becomes day out h = absurd (cc)
keeps_loan (Take step) by k rows n l becomes day out h = absurd (no_step step day k.day l.loan.stage becomes out h)
keeps_loan (Repay asked) by k rows n l becomes day out h =
    let made = repay_enters asked by k n l (used_before asked.receipt (uses_from 1 rows.loans)) becomes h in
    ap (λ (b : LedgerChange). (b l).loan) (sym made.2)
keeps_loan (ChargeFee charge due) by k rows n l becomes day out h =
    charged_keeps due by k (charge_in k charge) l becomes h
keeps_loan (Post asked) by k rows n l becomes day out h =
    let made = entered_is none_first (posting asked by) k (account_in k l) becomes h in
    ap (λ (b : LedgerChange). (b l).loan) (sym made.2)
keeps_loan (Reverse seq) by k rows n l becomes day out h =
    let made = reversed_is seq (account_in k l) becomes h in
    ap (λ (b : LedgerChange). (b l).loan) (sym made.3)

record IsLent (loan : Account) (lent : Loan) (i : Institution) : Type 0 where
  ledger : Ledger
  there : ledger_at loan i ≡ Some ledger
  same : ledger.loan ≡ lent

line_lent : (loan : Account) (l : Line) (i : Institution) (lent : Loan) (day : ℕ) → IsTree i.offices
    → disbursed_on lent.stage ≡ Some day → IsLent loan lent i → IsLent loan lent (next l i)
line_lent loan l i lent day t out is = elim (line_loan loan l i t) [
  | inl stays ↦ record { ledger = is.ledger; there = stays.ledger is.ledger is.there; same = is.same }
  | inr by ↦
      let same : by.ledger ≡ is.ledger = some_same by.ledger is.ledger (sym by.before ∙ is.there) in
      let lent_is : by.ledger.loan ≡ lent = ap (λ (m : Ledger). m.loan) same ∙ is.same in
      let paid : disbursed_on by.ledger.loan.stage ≡ Some day =
      ap (λ (x : Loan). disbursed_on x.stage) lent_is ∙ out in
      record {
        ledger = by.becomes by.ledger;
        there = by.now;
        same = keeps_loan by.asked by.caller i.catalogue by.office.rows loan.number by.ledger by.becomes day paid
            by.becomes_is ∙ lent_is;
      }
]

run_lent : (loan : Account) (lines : List Line) (i : Institution) (lent : Loan) (day : ℕ) → IsTree i.offices
    → disbursed_on lent.stage ≡ Some day → IsLent loan lent i → IsLent loan lent (last lines i)
run_lent loan [] i lent day t out is = is
run_lent loan (l ∷ ls) i lent day t out is =
    run_lent loan ls (next l i) lent day (IsTree_next l i t) out (line_lent loan l i lent day t out is)

pub agreed_kept : (i : Institution) (lines : List Line) (loan : Account) (a : DisbursedLoan) → IsSound i
    → AreInRange lines → account_of i.catalogue (ledger_at loan i) ≡ Some a
    → (later : DisbursedLoan) × (account_of (last lines i).catalogue (ledger_at loan (last lines i)) ≡ Some later)
    × (map agreed_in (state_of_loan later).rows ≡ map agreed_in (state_of_loan a).rows)
agreed_kept i lines loan a s r there = at (ledger_at loan i) refl there
  where
    K : Catalogue
    K = (last lines i).catalogue

    at : (o : Option Ledger) → ledger_at loan i ≡ o → account_of i.catalogue o ≡ Some a
        → (later : DisbursedLoan) × (account_of K (ledger_at loan (last lines i)) ≡ Some later)
        × (map agreed_in (state_of_loan later).rows ≡ map agreed_in (state_of_loan a).rows)
    at None e h = absurd (cc)
    at (Some l) e h =
        let is : IsRunning i.catalogue l a = account_is i.catalogue l a h in
        let lent = run_lent loan lines i l.loan is.day s.tree is.day_is (record { ledger = l; there = e; same = refl })
        in
        let m : Ledger = lent.ledger in
        let later : DisbursedLoan = running_loan l.loan m.entries is.day is.terms in
        let terms = terms_last lines i s r l.loan.product is.terms is.terms_is in
        let now : account_in K m ≡ Some later =
        ap (λ (x : Loan). running_from x m.entries (disbursed_on x.stage) (terms_in K x.product)) lent.same
        ∙ ap (λ d. running_from l.loan m.entries d (terms_in K l.loan.product)) is.day_is
        ∙ ap (running_from l.loan m.entries (Some is.day)) terms in
        let same : schedule_of later ≡ schedule_of a = ap schedule_of is.account_is in (
          later,
          ap (account_of K) lent.there ∙ now,
          agreed_stands later ∙ ap (map agreed_by) same ∙ sym (agreed_stands a),
        )
