-- On no instalment two penalties stand.
use Rattle.std.proofs.Common.{◌≡◌, ◌≤◌, ◌+◌, ◌-◌, ℕ, Bool, true, false, cond, not, ◌||◌, List, [], ◌∷◌, ◌++◌}
use Rattle.std.proofs.Common.{length, Option, Some, None, Result, Ok, Err, refl, sym, ap, ◌∙◌, subst, arith, inl, inr}
use Rattle.std.proofs.Common.{eqb}
use Rattle.std.specs.Prelude.{◌==◌, is_some, nat_le}
use Rattle.std.specs.List.{AllByRecursion}
use Rattle.std.proofs.lemmas.Bool.{cases_lt, eqb-true}
use Rattle.std.proofs.lemmas.List.{set_past}
use Rattle.std.proofs.lemmas.List.Sums.{sum_by-cons, sum_by_push, sum_by-set}
use Rattle.mf_base.specs.declared.fault.Fault.{Fault}
use Rattle.mf_base.specs.declared.fault.Fault.TheVariants.{F9, F10, F11, F14}
use Rattle.mf_catalog.specs.declared.charge.ChargeDef.{ChargeDef}
use Rattle.mf_office.specs.declared.caller.Caller.{Caller}
use Rattle.mf_alloc.specs.Rows.{row_at}
use Rattle.mf_alloc.specs.Sums.{Instalment, is_open}
use Rattle.mf_account.specs.declared.entry.Entry.{Entry}
use Rattle.mf_account.specs.Loan.{DisbursedLoan, state_of_loan, status_of_loan}
use Rattle.mf_account.specs.Refusals.{refusal_of, is_sealed, admits, is_out_of_order, is_forbidden, is_penalty_on}
use Rattle.mf_account.specs.Refusals.{has_penalty, is_instalment_number}
use Rattle.mf_account.specs.Standing.{entry_at, no_entry, with_mark}
use Rattle.mf_model.specs.declared.loan.Stage.{Stage}
use Rattle.mf_model.specs.declared.reply.LoanReply.TheVariants.{Status}
use Rattle.mf_model.specs.declared.request.LoanRequest.{LoanRequest}
use Rattle.mf_model.specs.declared.request.LoanRequest.TheVariants.{Show, ShowInstalments, ShowEntries, Take, Repay}
use Rattle.mf_model.specs.declared.request.LoanRequest.TheVariants.{ChargeFee, Post, Reverse}
use Rattle.mf_model.specs.declared.request.Posting.{Posting}
use Rattle.mf_model.specs.declared.request.Posting.TheVariants.{Penalty, Waiver, WriteOff, Refund}
use Rattle.mf_model.specs.Accounts.{account_in}
use Rattle.mf_model.specs.Institution.{Institution, Catalogue, Rows, Ledger, charge_in, item_numbered, newly_made}
use Rattle.mf_model.specs.Institution.{Office, office_at}
use Rattle.mf_model.specs.Loans.{LedgerChange, on_loan, with_stage, with_new_entry, none_first, fee_first}
use Rattle.mf_model.specs.Loans.{enter, fault_or, repayment, fee, posting}
use Rattle.mf_model.specs.Outcomes.{with_value, where_found}
use Rattle.mf_model.specs.Receipts.{uses_from, used_before}
use Rattle.mf_model.specs.Run.{Line, next, last}
use Rattle.mf_model.specs.Stages.{next_stage, stage_number}
use Rattle.mf_model.specs.Store.{rows_of}
use Rattle.mf_model.specs.Tree.{IsTree}
use Rattle.mf_model.proofs.AccountLemmas.{account_is}
use Rattle.mf_model.proofs.Confined.{IsTree_new}
use Rattle.mf_model.proofs.Runs.{IsTree_next}
use Rattle.mf_guarantees.specs.Entered.{entries_held}
use Rattle.mf_guarantees.specs.Penalties.{standing_penalties, NoneBearsTwo}
use Rattle.mf_guarantees.proofs.LoanLines.{line_loan}
use Rattle.mf_guarantees.proofs.LoanSteps.{change_told, entered_is, reversed_is, some_same, unless}
use Rattle.mf_guarantees.proofs.MoveLemmas.{repay_enters}

-- ---- counting

abbrev one_if : Bool → ℕ
one_if b = cond b 1 0

one_more : (x : ℕ) (es : List Entry) (e : Entry) → standing_penalties x (es ++ e ∷ [])
    ≡ standing_penalties x es + one_if (is_penalty_on x e)
one_more x es e = sum_by_push (λ (d : Entry). cond (is_penalty_on x d) 1 0) es e

marked_no_more : (x : ℕ) (es : List Entry) (i : ℕ)
    → standing_penalties x (with_mark es i true) ≤ standing_penalties x es
marked_no_more x es i =
    elim (cases_lt i (length es)) [
      | inl within ↦
          let set = sum_by-set (λ (d : Entry). cond (is_penalty_on x d) 1 0) es i
          (record (entry_at es i) { reversed = true }) no_entry within in
          omega (arith, set)
      | inr past ↦
          let same = ap (standing_penalties x) (set_past es i (record (entry_at es i) { reversed = true }) past) in
          omega (arith, same)
    ]

none_stands : (x : ℕ) (es : List Entry) → has_penalty es x ≡ false → standing_penalties x es ≡ 0
none_stands x [] none = refl
none_stands x (e ∷ es) none = go (is_penalty_on x e) refl none (none_stands x es)
  where
    go : (b : Bool) → is_penalty_on x e ≡ b → (b || has_penalty es x) ≡ false
        → (has_penalty es x ≡ false → standing_penalties x es ≡ 0) → standing_penalties x (e ∷ es) ≡ 0
    go true is none rest = absurd (cc)
    go false is none rest =
        let all = sum_by-cons (λ (d : Entry). cond (is_penalty_on x d) 1 0) e es in
        let own : one_if (is_penalty_on x e) ≡ 0 = ap one_if is in
        let later = rest none in
        omega (arith, all, own, later)

-- ---- a penalty that nothing refuses

none_of : (b : Bool) (fault : Fault) (rest : Option Fault) → cond b (Some fault) rest ≡ None → (b ≡ false)
    × (rest ≡ None)
none_of true fault rest none = absurd (cc)
none_of false fault rest none = (refl, none)

second_none : (a b : Bool) → (a || b) ≡ false → b ≡ false
second_none true b none = absurd (cc)
second_none false b none = none

nothing_before : (first rest : Option Fault) → fault_or first rest ≡ None → rest ≡ None
nothing_before (Some fault) rest none = absurd (cc)
nothing_before None rest none = none

penalty_admitted : (a : DisbursedLoan) (instalment : ℕ) (by : Caller) (today : ℕ)
    → refusal_of a (posting (Penalty instalment) by today a) today ≡ None → has_penalty a.entries instalment ≡ false
penalty_admitted a instalment by today none =
    let e : Entry = posting (Penalty instalment) by today a in
    let sealed = none_of (is_sealed a.entries) F11 _ none in
    let status = none_of (not (admits e.kind (status_of_loan a))) F9 _ sealed.1 in
    let order = none_of (is_out_of_order e.kind a.day today e.day) F10 _ status.1 in
    let forbidden = none_of (is_forbidden e.kind (is_some a.terms.overdue) (state_of_loan a).rows a.entries e today) F14
    _ order.1 in
    let rows : List Instalment = (state_of_loan a).rows in
    let row : Instalment = row_at rows instalment in
    let allowed = second_none (not (is_instalment_number (length rows) instalment)) _ forbidden.0 in
    let overdue = second_none (not (is_some a.terms.overdue)) _ allowed in
    let closed = second_none (nat_le today row.due) _ overdue in
    second_none (not (is_open row)) _ closed

-- an entry is made that nothing refuses
entered_unrefused : (make : ℕ → DisbursedLoan → Entry) (k : Catalogue) (o : Option DisbursedLoan)
    (becomes : LedgerChange) → change_told (enter none_first make k o) ≡ Some becomes
    → (a : DisbursedLoan) × (o ≡ Some a) × (refusal_of a (make k.day a) k.day ≡ None)
    × (with_new_entry (make k.day a) ≡ becomes)
entered_unrefused make k None becomes h = absurd (cc)
entered_unrefused make k (Some a) becomes h =
    let r = refusal_of a (make k.day a) k.day in
    let is = unless (fault_or (none_first a) r) _ (with_new_entry (make k.day a)) becomes h in
    (a, refl, nothing_before (none_first a) r is.0, is.1)

-- ---- what becomes of a loan

abbrev StaysAlone : Ledger → LedgerChange → Type 0
StaysAlone l becomes = (x : ℕ) → standing_penalties x l.entries ≤ 1 → standing_penalties x (becomes l).entries ≤ 1

harmless : (l : Ledger) (e : Entry) (becomes : LedgerChange) → ((x : ℕ) → is_penalty_on x e ≡ false)
    → with_new_entry e ≡ becomes → StaysAlone l becomes
harmless l e becomes none is =
    subst (StaysAlone l) is (λ x alone.
    let more = one_more x l.entries e in
    let own : one_if (is_penalty_on x e) ≡ 0 = ap one_if (none x) in
    omega (arith, more, own, alone))

penalised : (k : Catalogue) (l : Ledger) (a : DisbursedLoan) (instalment : ℕ) (by : Caller) (becomes : LedgerChange)
    → account_in k l ≡ Some a → refusal_of a (posting (Penalty instalment) by k.day a) k.day ≡ None
    → with_new_entry (posting (Penalty instalment) by k.day a) ≡ becomes → StaysAlone l becomes
penalised k l a instalment by becomes there none is =
    let e : Entry = posting (Penalty instalment) by k.day a in
    let has : a.entries ≡ l.entries =
    ap (λ (x : DisbursedLoan). x.entries) (sym (account_is k l a there).account_is) in
    let free : has_penalty l.entries instalment ≡ false =
    ap (λ (es : List Entry). has_penalty es instalment) (sym has) ∙ penalty_admitted a instalment by k.day none in
    subst (StaysAlone l) is (λ x alone. go x alone (eqb instalment x) refl free (one_more x l.entries e))
  where
    go : (x : ℕ) → standing_penalties x l.entries ≤ 1 → (b : Bool) → eqb instalment x ≡ b
        → has_penalty l.entries instalment ≡ false
        → standing_penalties x (l.entries ++ posting (Penalty instalment) by k.day a ∷ [])
        ≡ standing_penalties x l.entries + one_if (eqb instalment x)
        → standing_penalties x (l.entries ++ posting (Penalty instalment) by k.day a ∷ []) ≤ 1
    go x alone true here free more =
        let same : instalment ≡ x = eqb-true instalment x here in
        let nothing : standing_penalties x l.entries ≡ 0 =
        none_stands x l.entries (ap (has_penalty l.entries) (sym same) ∙ free) in
        let one : one_if (eqb instalment x) ≡ 1 = ap one_if here in
        omega (arith, more, nothing, one)
    go x alone false elsewhere free more =
        let zero : one_if (eqb instalment x) ≡ 0 = ap one_if elsewhere in
        omega (arith, more, alone, zero)

staged : (r : Result Stage Fault) (l : Ledger) (becomes : LedgerChange)
    → change_told (with_value r (λ stage. (Status (stage_number stage), Some (with_stage stage)))) ≡ Some becomes
    → StaysAlone l becomes
staged (Err fault) l becomes h = absurd (cc)
staged (Ok stage) l becomes h =
    subst (StaysAlone l) (some_same (with_stage stage) becomes h) (λ x alone. alone)

charged : (due : ℕ) (by : Caller) (k : Catalogue) (found : Option ChargeDef) (l : Ledger) (becomes : LedgerChange)
    → change_told (where_found found (λ d. enter (fee_first due) (fee d due by) k (account_in k l))) ≡ Some becomes
    → StaysAlone l becomes
charged due by k None l becomes h = absurd (cc)
charged due by k (Some d) l becomes h =
    let made = entered_is (fee_first due) (fee d due by) k (account_in k l) becomes h in
    harmless l (fee d due by k.day made.0) becomes (λ x. refl) made.2

posted : (asked : Posting) (by : Caller) (k : Catalogue) (l : Ledger) (becomes : LedgerChange)
    → change_told (enter none_first (posting asked by) k (account_in k l)) ≡ Some becomes → StaysAlone l becomes
posted (Penalty instalment) by k l becomes h =
    let made = entered_unrefused (posting (Penalty instalment) by) k (account_in k l) becomes h in
    penalised k l made.0 instalment by becomes made.1 made.2 made.3
posted (Waiver instalment portion) by k l becomes h =
    let made = entered_is none_first (posting (Waiver instalment portion) by) k (account_in k l) becomes h in
    harmless l (posting (Waiver instalment portion) by k.day made.0) becomes (λ x. refl) made.2
posted WriteOff by k l becomes h =
    let made = entered_is none_first (posting WriteOff by) k (account_in k l) becomes h in
    harmless l (posting WriteOff by k.day made.0) becomes (λ x. refl) made.2
posted Refund by k l becomes h =
    let made = entered_is none_first (posting Refund by) k (account_in k l) becomes h in
    harmless l (posting Refund by k.day made.0) becomes (λ x. refl) made.2

stays_alone : (asked : LoanRequest) (by : Caller) (k : Catalogue) (rows : Rows) (n : ℕ) (l : Ledger)
    (becomes : LedgerChange) → change_told (on_loan asked by k rows n l) ≡ Some becomes → StaysAlone l becomes
stays_alone Show by k rows n l becomes h = absurd (cc)
stays_alone ShowInstalments by k rows n l becomes h = absurd (cc)
stays_alone ShowEntries by k rows n l becomes h = absurd (cc)
stays_alone (Take step) by k rows n l becomes h = staged (next_stage step k.day l.loan.stage) l becomes h
stays_alone (Repay asked) by k rows n l becomes h =
    let made = repay_enters asked by k n l (used_before asked.receipt (uses_from 1 rows.loans)) becomes h in
    harmless l (repayment asked by made.0) becomes (λ x. refl) made.2
stays_alone (ChargeFee charge due) by k rows n l becomes h = charged due by k (charge_in k charge) l becomes h
stays_alone (Post asked) by k rows n l becomes h = posted asked by k l becomes h
stays_alone (Reverse seq) by k rows n l becomes h =
    let made = reversed_is seq (account_in k l) becomes h in
    subst (StaysAlone l) made.3
    (λ x alone. let less = marked_no_more x l.entries (seq - 1) in omega (arith, less, alone))

-- ---- a run

line_alone : (l : Line) (i : Institution) → IsTree i.offices → NoneBearsTwo i → NoneBearsTwo (next l i)
line_alone l i t alone loan x = elim (line_loan loan l i t) [
  | inl stays ↦
      let is = ap (standing_penalties x) stays.entries in
      let before = alone loan x in
      omega (arith, is, before)
  | inr by ↦
      let old = ap (λ (o : Option Ledger). standing_penalties x (entries_held o)) by.before in
      let new = ap (λ (o : Option Ledger). standing_penalties x (entries_held o)) by.now in
      let before = alone loan x in
      let stays = stays_alone by.asked by.caller i.catalogue by.office.rows loan.number by.ledger by.becomes
      by.becomes_is x (omega (arith, old, before)) in
      omega (arith, new, stays)
]

pub run_alone : (lines : List Line) (i : Institution) → IsTree i.offices → NoneBearsTwo i → NoneBearsTwo (last lines i)
run_alone [] i t alone = alone
run_alone (l ∷ ls) i t alone = run_alone ls (next l i) (IsTree_next l i t) (line_alone l i t alone)

no_loan : (n : ℕ) → entries_held (item_numbered [] n) ≡ []
no_loan n = go (n == 0)
  where
    go : (b : Bool) → entries_held (cond b None None) ≡ []
    go true = refl
    go false = refl

abbrev NoneLent : List Office → Type 0
NoneLent fs = AllByRecursion (λ (f : Office). f.rows.loans ≡ []) fs

none_held : (x n : ℕ) (fs : List Office) → NoneLent fs
    → entries_held (item_numbered (rows_of (office_at x fs)).loans n) ≡ []
none_held x n [] none = no_loan n
none_held x n (f ∷ fs) none = go (f.number == x) (none_held x n fs none.1)
  where
    go : (b : Bool) → entries_held (item_numbered (rows_of (office_at x fs)).loans n) ≡ []
        → entries_held (item_numbered (rows_of (cond b (Some f) (office_at x fs))).loans n) ≡ []
    go true rest = ap (λ (ls : List Ledger). entries_held (item_numbered ls n)) none.0 ∙ no_loan n
    go false rest = rest

new_alone : (day : ℕ) → NoneBearsTwo (newly_made day)
new_alone day loan x =
    let none = none_held loan.office loan.number (newly_made day).offices (refl, tt) in
    let nothing = ap (standing_penalties x) none in
    omega (arith, nothing)

pub founded_alone : (day : ℕ) (lines : List Line) → NoneBearsTwo (last lines (newly_made day))
founded_alone day lines = run_alone lines (newly_made day) (IsTree_new day) (new_alone day)
