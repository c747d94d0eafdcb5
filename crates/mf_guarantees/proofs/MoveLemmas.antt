-- What an accepted request on a loan moves of the sums.
use Rattle.std.proofs.Common.{◌≡◌, ◌≢◌, ◌+◌, ◌-◌, ◌<◌, ◌≤◌, ℕ, zero, suc, Bool, true, false, cond, not, ◌&&◌, List, []}
use Rattle.std.proofs.Common.{◌∷◌, ◌++◌, length, Option, Some, None, Ok, Err, refl, sym, ap, ◌∙◌, subst, arith}
use Rattle.std.proofs.Common.{inl, inr}
use Rattle.std.specs.Prelude.{◌==◌, nat_le, sum_by, slice_get, option_map}
use Rattle.std.proofs.lemmas.Bool.{cases_eq}
use Rattle.std.proofs.lemmas.Bool.Decides.{nat_tests}
use Rattle.std.proofs.lemmas.List.Sums.{sum_by-cons, sum_by_push, sum_by-set}
use Rattle.mf_base.specs.declared.fault.Fault.TheVariants.{F10, F11, F12, F13}
use Rattle.mf_office.specs.declared.account.Account.{Account}
use Rattle.mf_office.specs.declared.caller.Caller.{Caller}
use Rattle.mf_account.specs.declared.entry.Entry.{Entry}
use Rattle.mf_account.specs.Balance.{sum_repaid}
use Rattle.mf_account.specs.Kinds.{money_in, is_seal}
use Rattle.mf_account.specs.Loan.{DisbursedLoan}
use Rattle.mf_account.specs.Refusals.{is_instalment_number, is_sealed, reversal_refused}
use Rattle.mf_account.specs.Standing.{entry_at, no_entry, with_mark}
use Rattle.mf_account.proofs.StatusLemmas.{repaid_by, repaid-told}
use Rattle.mf_model.specs.declared.loan.Stage.{Stage}
use Rattle.mf_model.specs.declared.loan.Stage.TheVariants.{Submitted, Approved, Disbursed, Withdrawn, Rejected}
use Rattle.mf_model.specs.declared.reply.LoanReply.TheVariants.{Status}
use Rattle.mf_model.specs.Calls.{Call}
use Rattle.mf_model.specs.declared.request.LoanRequest.TheVariants.{Take, Repay, Reverse}
use Rattle.mf_model.specs.declared.request.LoanStep.TheVariants.{Disburse}
use Rattle.mf_model.specs.declared.request.Repayment.{Repayment}
use Rattle.mf_model.specs.declared.request.Request.TheVariants as request
use Rattle.mf_model.specs.Accounts.{account_in}
use Rattle.mf_model.specs.Desk.{change_in, outcome}
use Rattle.mf_model.specs.Institution.{Institution, Catalogue, Office, Rows, Ledger, office_at, item_numbered}
use Rattle.mf_model.specs.Institution.{with_numbered, with_rows, Change, Rows_become, after}
use Rattle.mf_model.specs.Loans.{LedgerChange, loan_changed, with_new_entry, with_reversal, with_stage, none_first}
use Rattle.mf_model.specs.Loans.{enter, repayment, unless_known}
use Rattle.mf_model.specs.Outcomes.{with_value}
use Rattle.mf_model.specs.Receipts.{Use, uses_from, used_before, repeated_seq}
use Rattle.mf_model.specs.Stages.{disbursed_on, next_stage, stage_number}
use Rattle.mf_model.specs.Store.{rows_of, ledger_at}
use Rattle.mf_model.specs.Tree.{IsTree, Above, Ascending}
use Rattle.mf_model.proofs.AccountLemmas.{account_is}
use Rattle.mf_model.proofs.Confined.{others_stay}
use Rattle.mf_model.proofs.Growing.{numbered_suc}
use Rattle.mf_model.proofs.StaffLemmas.{rows_found}
use Rattle.mf_guarantees.specs.Moves.{repaid, paid_out, if_dated, sum_or_zero, loan_sum, office_sum, whole_sum, Rises}
use Rattle.mf_guarantees.proofs.LoanSteps.{loan_changes, change_told, entered_is, reversed_is}
use Rattle.mf_guarantees.proofs.LoanSteps.{repeated_none, some_same}

-- ---- one thing of a list is changed

module _ {X : Type 0} (change : X → X) where
  slice_same : (n : ℕ) (xs : List X) (k : ℕ) (x : X) → slice_get xs k ≡ Some x → suc k ≡ n
      → slice_get (with_numbered n change xs) k ≡ Some (change x)
  slice_same n [] k x h is = absurd (cc)
  slice_same n (y ∷ ys) k x h is = go (n == 1) refl k h is (λ j. slice_same (n - 1) ys j x)
    where
      go : (b : Bool) → (n == 1) ≡ b → (k : ℕ) → slice_get (y ∷ ys) k ≡ Some x → suc k ≡ n
          → ((j : ℕ) → slice_get ys j ≡ Some x → suc j ≡ n - 1
          → slice_get (with_numbered (n - 1) change ys) j ≡ Some (change x))
          → slice_get (cond b (change y ∷ ys) (y ∷ with_numbered (n - 1) change ys)) k ≡ Some (change x)
      go true e zero h is rest = let same : y ≡ x = cc in ap (λ z. Some (change z)) same
      go true e (suc k) h is rest = let one : n ≡ 1 = grind (arith, nat_tests) in absurd (omega (arith, one, is))
      go false e zero h is rest = absurd (grind (arith, nat_tests))
      go false e (suc k) h is rest = rest k h (omega (arith, is))

  slice_other : (n : ℕ) (xs : List X) (k : ℕ) → suc k ≢ n
      → slice_get (with_numbered n change xs) k ≡ slice_get xs k
  slice_other n [] k apart = refl
  slice_other n (y ∷ ys) k apart = go (n == 1) refl k apart (λ j. slice_other (n - 1) ys j)
    where
      go : (b : Bool) → (n == 1) ≡ b → (k : ℕ) → suc k ≢ n
          → ((j : ℕ) → suc j ≢ n - 1 → slice_get (with_numbered (n - 1) change ys) j ≡ slice_get ys j)
          → slice_get (cond b (change y ∷ ys) (y ∷ with_numbered (n - 1) change ys)) k ≡ slice_get (y ∷ ys) k
      go true e zero apart rest = let one : n ≡ 1 = grind (arith, nat_tests) in absurd (apart (omega (arith, one)))
      go true e (suc k) apart rest = refl
      go false e zero apart rest = refl
      go false e (suc k) apart rest = rest k (λ is. apart (omega (arith, is)))

  slice_sum : (read : X → ℕ) (n : ℕ) (xs : List X) (k : ℕ) (x : X) → slice_get xs k ≡ Some x → suc k ≡ n
      → sum_by read (with_numbered n change xs) + read x ≡ sum_by read xs + read (change x)
  slice_sum read n [] k x h is = absurd (cc)
  slice_sum read n (y ∷ ys) k x h is = go (n == 1) refl k h is (λ j. slice_sum read (n - 1) ys j x)
    where
      go : (b : Bool) → (n == 1) ≡ b → (k : ℕ) → slice_get (y ∷ ys) k ≡ Some x → suc k ≡ n
          → ((j : ℕ) → slice_get ys j ≡ Some x → suc j ≡ n - 1
          → sum_by read (with_numbered (n - 1) change ys) + read x ≡ sum_by read ys + read (change x))
          → sum_by read (cond b (change y ∷ ys) (y ∷ with_numbered (n - 1) change ys)) + read x
          ≡ sum_by read (y ∷ ys) + read (change x)
      go true e zero h is rest =
          let same : y ≡ x = cc in
          let left = sum_by-cons read (change y) ys in
          let right = sum_by-cons read y ys in
          let now = ap (λ z. read (change z)) same in
          let before = ap read same in
          omega (arith, left, right, now, before)
      go true e (suc k) h is rest = let one : n ≡ 1 = grind (arith, nat_tests) in absurd (omega (arith, one, is))
      go false e zero h is rest = absurd (grind (arith, nat_tests))
      go false e (suc k) h is rest =
          let later = rest k h (omega (arith, is)) in
          let left = sum_by-cons read y (with_numbered (n - 1) change ys) in
          let right = sum_by-cons read y ys in
          omega (arith, later, left, right)

  pub numbered_same : (n : ℕ) (xs : List X) (x : X) → item_numbered xs n ≡ Some x
      → item_numbered (with_numbered n change xs) n ≡ Some (change x)
  numbered_same zero xs x h = absurd (cc)
  numbered_same (suc k) xs x h =
      numbered_suc (with_numbered (suc k) change xs) k
      ∙ slice_same (suc k) xs k x (sym (numbered_suc xs k) ∙ h) refl

  pub numbered_other : (n m : ℕ) (xs : List X) → m ≢ n
      → item_numbered (with_numbered n change xs) m ≡ item_numbered xs m
  numbered_other n zero xs apart = refl
  numbered_other n (suc k) xs apart =
      numbered_suc (with_numbered n change xs) k ∙ slice_other n xs k apart ∙ sym (numbered_suc xs k)

  numbered_sum : (read : X → ℕ) (n : ℕ) (xs : List X) (x : X) → item_numbered xs n ≡ Some x
      → sum_by read (with_numbered n change xs) + read x ≡ sum_by read xs + read (change x)
  numbered_sum read zero xs x h = absurd (cc)
  numbered_sum read (suc k) xs x h = slice_sum read (suc k) xs k x (sym (numbered_suc xs k) ∙ h) refl

-- ---- one office has other rows

rows_unseen : (x : ℕ) (new : Rows) (fs : List Office) → Above x fs → with_rows x new fs ≡ fs
rows_unseen x new [] above = refl
rows_unseen x new (f ∷ fs) above =
    let apart : (f.number == x) ≡ false = grind (arith, nat_tests, above.0) in
    ap (λ b. record f { rows = cond b new f.rows } ∷ with_rows x new fs) apart
    ∙ ap (λ gs. f ∷ gs) (rows_unseen x new fs above.1)

rows_sum : (read : Rows → ℕ) (x : ℕ) (new : Rows) (fs : List Office) (f : Office) → Ascending fs
    → office_at x fs ≡ Some f
    → sum_by (λ (g : Office). read g.rows) (with_rows x new fs) + read f.rows
    ≡ sum_by (λ (g : Office). read g.rows) fs + read new
rows_sum read x new [] f up h = absurd (cc)
rows_sum read x new (e ∷ fs) f up h = go (e.number == x) refl h (λ k. rows_sum read x new fs f up.1 k)
  where
    total : List Office → ℕ
    total gs = sum_by (λ (g : Office). read g.rows) gs

    go : (b : Bool) → (e.number == x) ≡ b → cond b (Some e) (office_at x fs) ≡ Some f
        → (office_at x fs ≡ Some f
        → sum_by (λ (g : Office). read g.rows) (with_rows x new fs) + read f.rows
        ≡ sum_by (λ (g : Office). read g.rows) fs + read new)
        → sum_by (λ (g : Office). read g.rows) (record e { rows = cond b new e.rows } ∷ with_rows x new fs)
        + read f.rows
        ≡ sum_by (λ (g : Office). read g.rows) (e ∷ fs) + read new
    go true is h rest =
        let same : e ≡ f = cc in
        let number : e.number ≡ x = grind (arith, nat_tests) in
        let unseen = ap (λ gs. sum_by (λ (g : Office). read g.rows) gs)
        (rows_unseen x new fs (subst (λ (n : ℕ). Above n fs) number up.0)) in
        let left = sum_by-cons (λ (g : Office). read g.rows) (record e { rows = new }) (with_rows x new fs) in
        let right = sum_by-cons (λ (g : Office). read g.rows) e fs in
        let own = ap (λ (g : Office). read g.rows) same in
        omega (arith, unseen, left, right, own)
    go false is h rest =
        let later = rest h in
        let left = sum_by-cons (λ (g : Office). read g.rows) e (with_rows x new fs) in
        let right = sum_by-cons (λ (g : Office). read g.rows) e fs in
        omega (arith, later, left, right)

-- ---- a loan has become another

record Moved (read : Ledger → ℕ) (loan : Account) (old new : ℕ) (i j : Institution) : Type 0 where
  before : loan_sum read loan i ≡ old
  now : loan_sum read loan j ≡ new
  office : office_sum read loan.office j + old ≡ office_sum read loan.office i + new
  all : whole_sum read j + old ≡ whole_sum read i + new
  other_loans : (other : Account) → other ≢ loan → loan_sum read other j ≡ loan_sum read other i
  other_offices : (x : ℕ) → x ≢ loan.office → office_sum read x j ≡ office_sum read x i

moved : (read : Ledger → ℕ) (loan : Account) (i : Institution) (f : Office) (l : Ledger) (becomes : LedgerChange)
    → Ascending i.offices → office_at loan.office i.offices ≡ Some f → item_numbered f.rows.loans loan.number ≡ Some l
    → Moved read loan (read l) (read (becomes l)) i
    (after (Rows_become loan.office (loan_changed loan.number becomes f.rows)) i)
moved read loan i f l becomes up there found =
    let new : Rows = loan_changed loan.number becomes f.rows in
    let x : ℕ = loan.office in
    let n : ℕ = loan.number in
    let fs : List Office = i.offices in
    let here : office_at x (with_rows x new fs) ≡ Some (record f { rows = new }) =
    rows_found x new fs ∙ ap (option_map (λ (g : Office). record g { rows = new })) there in
    let old_rows : (rows_of (office_at x fs)) ≡ f.rows = ap rows_of there in
    let new_rows : (rows_of (office_at x (with_rows x new fs))) ≡ new = ap rows_of here in
    let sum = numbered_sum becomes read n f.rows.loans l found in
    let was = ap (λ (r : Rows). sum_by read r.loans) old_rows in
    let is = ap (λ (r : Rows). sum_by read r.loans) new_rows in
    let whole = rows_sum (λ r. sum_by read r.loans) x new fs f up there in
    record {
      before = ap (λ (r : Rows). sum_or_zero read (item_numbered r.loans n)) old_rows ∙ ap (sum_or_zero read) found;
      now = ap (λ (r : Rows). sum_or_zero read (item_numbered r.loans n)) new_rows
          ∙ ap (sum_or_zero read) (numbered_same becomes n f.rows.loans l found);
      office = omega (arith, sum, was, is);
      all = omega (arith, sum, whole);
      other_loans = λ other apart. elim (cases_eq other.office x) [
        | inl same ↦
            let number : other.number ≢ n = λ e. apart (λ t. record { office = same t; number = e t }) in
            ap (λ y. sum_or_zero read (item_numbered (rows_of (office_at y (with_rows x new fs))).loans other.number))
            same
            ∙ ap (λ (r : Rows). sum_or_zero read (item_numbered r.loans other.number)) new_rows
            ∙ ap (sum_or_zero read) (numbered_other becomes n other.number f.rows.loans number)
            ∙ sym (ap (λ y. sum_or_zero read (item_numbered (rows_of (office_at y fs)).loans other.number)) same
            ∙ ap (λ (r : Rows). sum_or_zero read (item_numbered r.loans other.number)) old_rows)
        | inr elsewhere ↦
            ap (λ (o : Option Office). sum_or_zero read (item_numbered (rows_of o).loans other.number))
            (others_stay x other.office new fs elsewhere)
      ];
      other_offices = λ y apart.
          ap (λ (o : Option Office). sum_by read (rows_of o).loans) (others_stay x y new fs apart);
    }

rises : (read : Ledger → ℕ) (loan : Account) (old new amount : ℕ) (i j : Institution) → Moved read loan old new i j
    → new ≡ old + amount → Rises read loan amount i j
rises read loan old new amount i j m more =
    let before = m.before in
    let now = m.now in
    let office = m.office in
    let all = m.all in
    record {
      own = omega (arith, before, now, more);
      office = omega (arith, office, more);
      all = omega (arith, all, more);
      other_loans = m.other_loans;
      other_offices = m.other_offices;
    }

falls : (read : Ledger → ℕ) (loan : Account) (old new amount : ℕ) (i j : Institution) → Moved read loan old new i j
    → old ≡ new + amount → Rises read loan amount j i
falls read loan old new amount i j m more =
    let before = m.before in
    let now = m.now in
    let office = m.office in
    let all = m.all in
    record {
      own = omega (arith, before, now, more);
      office = omega (arith, office, more);
      all = omega (arith, all, more);
      other_loans = λ other apart. sym (m.other_loans other apart);
      other_offices = λ x apart. sym (m.other_offices x apart);
    }

moved_by : (read : Ledger → ℕ) (loan : Account) (i : Institution) (f : Office) (l : Ledger) (becomes : LedgerChange)
    (change : Change) → IsTree i.offices → office_at loan.office i.offices ≡ Some f
    → item_numbered f.rows.loans loan.number ≡ Some l
    → Rows_become loan.office (loan_changed loan.number becomes f.rows) ≡ change
    → Moved read loan (read l) (read (becomes l)) i (after change i)
moved_by read loan i f l becomes change tree there found is =
    subst (λ (c : Change). Moved read loan (read l) (read (becomes l)) i (after c i)) is
    (moved read loan i f l becomes tree.ascending there found)

-- ---- a repayment

pub repay_enters : (asked : Repayment) (c : Caller) (k : Catalogue) (n : ℕ) (l : Ledger) (used : Option Use)
    (becomes : LedgerChange)
    → change_told (unless_known n asked used (enter none_first (λ today. repayment asked c) k (account_in k l)))
    ≡ Some becomes
    → (a : DisbursedLoan) × (account_in k l ≡ Some a) × (with_new_entry (repayment asked c a) ≡ becomes)
repay_enters asked c k n l None becomes h =
    entered_is none_first (λ today. repayment asked c) k (account_in k l) becomes h
repay_enters asked c k n l (Some u) becomes h =
    absurd (repeated_none (repeated_seq n asked.amount asked.day u.by) becomes h)

repaid_more : (es : List Entry) (e : Entry) → sum_repaid (es ++ e ∷ []) ≡ sum_repaid es + repaid_by e
repaid_more es e =
    let old = repaid-told es in
    let new = repaid-told (es ++ e ∷ []) in
    let push = sum_by_push repaid_by es e in
    omega (arith, old, new, push)

pub repayment_rises : (call : Call) (i : Institution) (change : Change) (loan : Account) (asked : Repayment)
    → IsTree i.offices → call.request ≡ request.Loan loan (Repay asked) → change_in (outcome call i) ≡ Some change
    → Rises repaid loan asked.amount i (after change i)
repayment_rises call i change loan asked tree is h =
    let s = loan_changes call i change loan (Repay asked) is h in
    let made = repay_enters asked s.caller i.catalogue loan.number s.ledger
    (used_before asked.receipt (uses_from 1 s.office.rows.loans)) s.becomes s.becomes_is in
    let m : Moved repaid loan (repaid s.ledger) (repaid (s.becomes s.ledger)) i (after change i) =
    moved_by repaid loan i s.office s.ledger s.becomes change tree s.office_is s.ledger_is s.change_is in
    let now : repaid (s.becomes s.ledger) ≡ repaid (with_new_entry (repayment asked s.caller made.0) s.ledger) =
    ap (λ (b : LedgerChange). repaid (b s.ledger)) (sym made.2) in
    let more = repaid_more s.ledger.entries (repayment asked s.caller made.0) in
    rises repaid loan (repaid s.ledger) (repaid (s.becomes s.ledger)) asked.amount i (after change i) m
    (omega (arith, now, more))

-- ---- a reversal

-- an entry that may be taken back is there, and stands
pub record StandsAt (entries : List Entry) (seq : ℕ) : Type 0 where
  pub first : 1 ≤ seq
  pub within : seq - 1 < length entries
  pub stands : (entry_at entries (seq - 1)).reversed ≡ false

pub may_reverse : (entries : List Entry) (seq : ℕ) → reversal_refused entries seq ≡ None → StandsAt entries seq
may_reverse entries seq h = go (is_instalment_number (length entries) seq) (entry_at entries (seq - 1)).reversed
    (is_sealed entries && not (is_seal (entry_at entries (seq - 1)).kind)) refl refl h
  where
    go : (there reversed sealed : Bool) → is_instalment_number (length entries) seq ≡ there
        → (entry_at entries (seq - 1)).reversed ≡ reversed
        → cond (not there) (Some F12) (cond reversed (Some F13) (cond sealed (Some F11) None)) ≡ None
        → StandsAt entries seq
    go false reversed sealed a b h = absurd (cc)
    go true true sealed a b h = absurd (cc)
    go true false sealed a b h =
        let places = numbered_within (nat_le 1 seq) (nat_le seq (length entries)) refl refl a in
        record { first = places.0; within = places.1; stands = b }
      where
        numbered_within : (first last : Bool) → nat_le 1 seq ≡ first → nat_le seq (length entries) ≡ last
            → (first && last) ≡ true → (1 ≤ seq) × (seq - 1 < length entries)
        numbered_within true true a b h =
            let low : 1 ≤ seq = grind (arith, nat_tests) in
            let high : seq ≤ length entries = grind (arith, nat_tests) in
            (low, omega (arith, low, high))
        numbered_within true false a b h = absurd (cc)
        numbered_within false last a b h = absurd (cc)

repaid_less : (es : List Entry) (seq : ℕ) → StandsAt es seq
    → sum_repaid es ≡ sum_repaid (with_mark es (seq - 1) true)
    + money_in (entry_at es (seq - 1)).kind (entry_at es (seq - 1)).amount
repaid_less es seq at =
    let e : Entry = entry_at es (seq - 1) in
    let old = repaid-told es in
    let new = repaid-told (with_mark es (seq - 1) true) in
    let set = sum_by-set repaid_by es (seq - 1) (record e { reversed = true }) no_entry at.within in
    let own : repaid_by e ≡ money_in e.kind e.amount = ap (λ b. cond b 0 (money_in e.kind e.amount)) at.stands in
    omega (arith, old, new, set, own)

pub reversal_falls : (call : Call) (i : Institution) (change : Change) (loan : Account) (seq : ℕ) (l : Ledger)
    → IsTree i.offices → call.request ≡ request.Loan loan (Reverse seq) → ledger_at loan i ≡ Some l
    → change_in (outcome call i) ≡ Some change
    → Rises repaid loan (money_in (entry_at l.entries (seq - 1)).kind (entry_at l.entries (seq - 1)).amount)
    (after change i) i
reversal_falls call i change loan seq l tree is there h =
    let s = loan_changes call i change loan (Reverse seq) is h in
    let same : s.ledger ≡ l =
    some_same s.ledger l (sym s.ledger_is ∙ sym (ap (λ (r : Rows). item_numbered r.loans loan.number)
    (ap rows_of s.office_is)) ∙ there) in
    let made = reversed_is seq (account_in i.catalogue s.ledger) s.becomes s.becomes_is in
    let a : DisbursedLoan = made.0 in
    let has : a.entries ≡ s.ledger.entries =
    ap (λ (x : DisbursedLoan). x.entries) (sym (account_is i.catalogue s.ledger a made.1).account_is) in
    let at : StandsAt l.entries seq = may_reverse l.entries seq
    (ap (λ (es : List Entry). reversal_refused es seq) (sym (has ∙ ap (λ (x : Ledger). x.entries) same)) ∙ made.2) in
    let m : Moved repaid loan (repaid s.ledger) (repaid (s.becomes s.ledger)) i (after change i) =
    moved_by repaid loan i s.office s.ledger s.becomes change tree s.office_is s.ledger_is s.change_is in
    let now : repaid (s.becomes s.ledger) ≡ repaid (with_reversal seq l) =
    ap (λ (b : LedgerChange). repaid (b s.ledger)) (sym made.3) ∙ ap (λ (x : Ledger). repaid (with_reversal seq x)) same
    in
    let before = ap repaid same in
    let less = repaid_less l.entries seq at in
    falls repaid loan (repaid s.ledger) (repaid (s.becomes s.ledger)) _ i (after change i) m
    (omega (arith, now, before, less))

-- ---- a loan is paid out

paid_out_stage : (day today : ℕ) (s : Stage) (l : Ledger) (becomes : LedgerChange) → l.loan.stage ≡ s
    → change_told (with_value (next_stage (Disburse day) today s)
    (λ stage. (Status (stage_number stage), Some (with_stage stage)))) ≡ Some becomes
    → paid_out (becomes l) ≡ paid_out l + l.loan.principal
paid_out_stage day today Submitted l becomes e h = absurd (cc)
paid_out_stage day today (Disbursed approved then) l becomes e h = absurd (cc)
paid_out_stage day today Withdrawn l becomes e h = absurd (cc)
paid_out_stage day today Rejected l becomes e h = absurd (cc)
paid_out_stage day today (Approved approved) l becomes e h = go (nat_le approved day && nat_le day today) h
  where
    go : (b : Bool) → change_told (with_value (cond b (Ok (Disbursed approved day)) (Err F10))
        (λ stage. (Status (stage_number stage), Some (with_stage stage)))) ≡ Some becomes
        → paid_out (becomes l) ≡ paid_out l + l.loan.principal
    go false h = absurd (cc)
    go true h =
        let is : with_stage (Disbursed approved day) ≡ becomes = cc in
        let now : paid_out (becomes l) ≡ l.loan.principal = ap (λ (b : LedgerChange). paid_out (b l)) (sym is) in
        let before : paid_out l ≡ 0 = ap (λ (t : Stage). if_dated (disbursed_on t) l.loan.principal) e in
        omega (arith, now, before)

pub paying_out_rises : (call : Call) (i : Institution) (change : Change) (loan : Account) (day : ℕ) (l : Ledger)
    → IsTree i.offices → call.request ≡ request.Loan loan (Take (Disburse day)) → ledger_at loan i ≡ Some l
    → change_in (outcome call i) ≡ Some change → Rises paid_out loan l.loan.principal i (after change i)
paying_out_rises call i change loan day l tree is there h =
    let s = loan_changes call i change loan (Take (Disburse day)) is h in
    let same : s.ledger ≡ l =
    some_same s.ledger l (sym s.ledger_is ∙ sym (ap (λ (r : Rows). item_numbered r.loans loan.number)
    (ap rows_of s.office_is)) ∙ there) in
    let more = paid_out_stage day i.catalogue.day s.ledger.loan.stage s.ledger s.becomes refl s.becomes_is in
    let own = ap (λ (x : Ledger). x.loan.principal) same in
    rises paid_out loan (paid_out s.ledger) (paid_out (s.becomes s.ledger)) l.loan.principal i (after change i)
    (moved_by paid_out loan i s.office s.ledger s.becomes change tree s.office_is s.ledger_is s.change_is)
    (omega (arith, more, own))
