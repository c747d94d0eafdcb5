-- The lines of a sound institution have no more loans than its offices may have.
use Rattle.std.proofs.Common.{◌≡◌, ◌+◌, ◌*◌, ◌^◌, ◌≤◌, ◌==◌, ℕ, suc, Bool, true, false, cond, List, [], ◌∷◌, map}
use Rattle.std.proofs.Common.{length, Option, Some, None, Result, Ok, Err, subst, arith, length-append}
use Rattle.std.specs.Prelude.{sum_by}
use Rattle.std.specs.List.{AllByRecursion}
use Rattle.std.proofs.lemmas.List.Sums.{sum_by-cons}
use Rattle.mf_base.specs.declared.fault.Fault.{Fault}
use Rattle.mf_base.specs.declared.fault.Fault.TheVariants.{F2, F3}
use Rattle.mf_office.specs.declared.caller.Caller.{Caller}
use Rattle.mf_office.specs.Tree.{is_at_or_below}
use Rattle.mf_account.specs.Loan.{DisbursedLoan, status_of_loan}
use Rattle.mf_arrears.specs.Line.{OfficeLine}
use Rattle.mf_model.specs.declared.reply.Reply.{Reply}
use Rattle.mf_model.specs.declared.reply.Reply.TheVariants.{ArrearsShown}
use Rattle.mf_model.specs.declared.request.Request.TheVariants.{SeenArrears}
use Rattle.mf_model.specs.Accounts.{account_in}
use Rattle.mf_model.specs.Calls.{Received}
use Rattle.mf_model.specs.Arrears.{aged_loan, if_active, active_in, arrears_line, arrears_seen, list_arrears}
use Rattle.mf_model.specs.Desk.{On_all_seen, need, meets, carried_out, where_permitted, staff_at, reply_in, reply}
use Rattle.mf_model.specs.Institution.{Institution, Catalogue, Ledger, Office, Staff}
use Rattle.mf_model.specs.Sound.{IsSound, IsSoundOffice, is_staff}
use Rattle.mf_model.specs.Tree.{Above, Ascending, offices_where, parent_of}

-- a loan counts once at most
active_once : (today : ℕ) (o : Option DisbursedLoan) → length (if_active today o) ≤ 1
active_once today None = omega arith
active_once today (Some a) =
    elim (status_of_loan a == 300) as (λ (b : Bool). length (cond b (aged_loan today a ∷ []) []) ≤ 1) [
      | true ↦ omega arith
      | false ↦ omega arith
    ]

active_few : (k : Catalogue) (ls : List Ledger) → length (active_in k ls) ≤ length ls
active_few k [] = omega arith
active_few k (l ∷ ls) =
    let first = active_once k.day (account_in k l) in
    let rest = active_few k ls in
    let whole = length-append (if_active k.day (account_in k l)) (active_in k ls) in
    omega (arith, first, rest, whole)

module _ (k : Catalogue) (staffed : Caller → Bool) where
  line_few : (o : Office) → IsSoundOffice k staffed o → (arrears_line k o).loans ≤ 999999
  line_few o sound =
      let most = active_few k o.rows.loans in
      let limit = sound.rows.loan_limit in
      omega (arith, most, limit)

  -- the lines of some of the offices
  lines_few : (p : ℕ → Bool) (fs : List Office) → AllByRecursion (IsSoundOffice k staffed) fs
      → sum_by (λ (l : OfficeLine). l.loans) (map (arrears_line k) (offices_where p fs)) ≤ length fs * 999999
  lines_few p [] all = omega arith
  lines_few p (o ∷ fs) all =
      let first = line_few o all.0 in
      let rest = lines_few p fs all.1 in
      let whole = sum_by-cons (λ (l : OfficeLine). l.loans) (arrears_line k o)
      (map (arrears_line k) (offices_where p fs)) in
      elim (p o.number) as (λ (b : Bool). sum_by (λ (l : OfficeLine). l.loans)
      (map (arrears_line k) (cond b (o ∷ offices_where p fs) (offices_where p fs))) ≤ suc (length fs) * 999999) [
        | true ↦ omega (arith, first, rest, whole)
        | false ↦ omega (arith, rest)
      ]

  offices_above : (n : ℕ) (fs : List Office) → Above n fs → Ascending fs → AllByRecursion (IsSoundOffice k staffed) fs
      → n ≤ 9999 → n + length fs ≤ 9999
  offices_above n [] above up all low = omega (arith, low)
  offices_above n (o ∷ fs) above up all low =
      let first = above.0 in
      let rest = offices_above o.number fs up.0 up.1 all.1 all.0.number.1 in
      omega (arith, first, rest)

  offices_few : (fs : List Office) → Ascending fs → AllByRecursion (IsSoundOffice k staffed) fs → length fs ≤ 9999
  offices_few [] up all = omega arith
  offices_few (o ∷ fs) up all =
      let rest = offices_above o.number fs up.0 up.1 all.1 all.0.number.1 in
      let some = all.0.number.0 in
      omega (arith, rest, some)

pub arrears_few : (o : ℕ) (i : Institution) → IsSound i → sum_by (λ (l : OfficeLine). l.loans) (arrears_seen o i)
    ≤ 10 ^ 10
arrears_few o i sound =
    let lines = lines_few i.catalogue (is_staff i.offices) (λ (x : ℕ). is_at_or_below (parent_of i.offices) x o)
    i.offices sound.each in
    let offices = offices_few i.catalogue (is_staff i.offices) i.offices sound.tree.ascending sound.each in
    omega (arith, lines, offices)

-- so are those that a caller is told
abbrev shown : List OfficeLine → Result Reply Fault
shown lines = Ok (ArrearsShown lines)

few_permitted : (c : Caller) (i : Institution) (lines : List OfficeLine) (staff : Option Staff) → IsSound i
    → reply_in (where_permitted c SeenArrears (On_all_seen list_arrears) staff i) ≡ Ok (ArrearsShown lines)
    → sum_by (λ (l : OfficeLine). l.loans) lines ≤ 10 ^ 10
few_permitted c i lines None sound e = absurd (let never : reply_in (Err F2) ≡ Ok (ArrearsShown lines) = e in cc)
few_permitted c i lines (Some staff) sound e = go (meets (need SeenArrears) staff.role c.office) e
  where
    go : (b : Bool) → reply_in (cond b (carried_out c (On_all_seen list_arrears) i) (Err F3)) ≡ Ok (ArrearsShown lines)
        → sum_by (λ (l : OfficeLine). l.loans) lines ≤ 10 ^ 10
    go true told =
        let both : shown (arrears_seen c.office i) ≡ shown lines = told in
        let same : arrears_seen c.office i ≡ lines = cc in
        subst (λ (ls : List OfficeLine). sum_by (λ (l : OfficeLine). l.loans) ls ≤ 10 ^ 10) same
        (arrears_few c.office i sound)
    go false told = absurd (let never : reply_in (Err F3) ≡ Ok (ArrearsShown lines) = told in cc)

pub told_few : (caller : Option Caller) (received : Received) (i : Institution) (lines : List OfficeLine) → IsSound i
    → reply (record { caller = caller; request = SeenArrears; received = received }) i ≡ Ok (ArrearsShown lines)
    → sum_by (λ (l : OfficeLine). l.loans) lines ≤ 10 ^ 10
told_few None received i lines sound e = absurd (let never : reply_in (Err F2) ≡ Ok (ArrearsShown lines) = e in cc)
told_few (Some c) received i lines sound e = few_permitted c i lines (staff_at i c) sound e
