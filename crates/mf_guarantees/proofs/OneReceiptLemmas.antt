-- A receipt with which a repayment was taken stands on just one entry of its office.
use Rattle.std.proofs.Common.{◌≡◌, ◌≢◌, ◌≤◌, ◌+◌, ℕ, Bool, true, false, cond, List, [], ◌∷◌, Option, Some, None, inl}
use Rattle.std.proofs.Common.{inr, refl, sym, ap, ◌∙◌, subst, arith}
use Rattle.std.specs.Prelude.{is_some}
use Rattle.std.specs.List.{AllByRecursion, count_by}
use Rattle.std.specs.Str.{bytes_eq}
use Rattle.std.proofs.lemmas.List.Sums.{sum_by-cons}
use Rattle.std.proofs.lemmas.Slice.Eq.{bytes_eq-Decides}
use Rattle.mf_office.specs.declared.account.Account.{Account}
use Rattle.mf_model.specs.declared.request.LoanRequest.TheVariants.{Repay}
use Rattle.mf_model.specs.declared.request.Repayment.{Repayment}
use Rattle.mf_model.specs.declared.request.Request.TheVariants as request
use Rattle.mf_model.specs.Institution.{Institution, Change, Office, office_at}
use Rattle.mf_model.specs.Receipts.{AreApart, Use, first_use, uses_from}
use Rattle.mf_model.specs.Run.{Line, change_of_line, last, next}
use Rattle.mf_model.specs.Sound.{AreInRange, IsSound, is_staff}
use Rattle.mf_model.specs.Store.{rows_at, rows_of, use_at}
use Rattle.mf_model.proofs.Lasting.{known_last}
use Rattle.mf_model.proofs.SoundLemmas.{found_sound, last_sound, next_sound}
use Rattle.mf_guarantees.specs.Sheets.{times_entered}
use Rattle.mf_guarantees.proofs.ReceiptSteps.{Enters, line_enters, told_so}
use Rattle.mf_guarantees.proofs.SheetLemmas.{IsTaken, none_taken, own_use, taken_cases}

-- ---- of receipts that are apart each is there at most once

abbrev is_of : List ℕ → Use → Bool
is_of r u = bytes_eq u.receipt r

abbrev times : List ℕ → List Use → ℕ
times r us = count_by (is_of r) us

abbrev counted : Bool → ℕ
counted b = cond b 1 0

one_more : (r : List ℕ) (u : Use) (us : List Use) → times r (u ∷ us) ≡ counted (is_of r u) + times r us
one_more r u us = sum_by-cons (λ v. counted (is_of r v)) u us

none_like : (r : List ℕ) (u : Use) (us : List Use) → u.receipt ≡ r
    → AllByRecursion (λ (v : Use). u.receipt ≢ v.receipt) us → times r us ≡ 0
none_like r u [] same all = refl
none_like r u (v ∷ us) same all = one_more r v us ∙ go (is_of r v) refl ∙ none_like r u us same all.1
  where
    go : (b : Bool) → is_of r v ≡ b → counted b + times r us ≡ times r us
    go true is = absurd (all.0 (same ∙ sym ((bytes_eq-Decides v.receipt r).0 is)))
    go false is = let none : 0 + times r us ≡ times r us = omega arith in none

at_most_once : (r : List ℕ) (us : List Use) → AreApart us → times r us ≤ 1
at_most_once r [] apart = omega arith
at_most_once r (u ∷ us) apart =
    go (is_of r u) refl (one_more r u us) (at_most_once r us apart.1)
  where
    go : (b : Bool) → is_of r u ≡ b → times r (u ∷ us) ≡ counted (is_of r u) + times r us → times r us ≤ 1
        → times r (u ∷ us) ≤ 1
    go true is more rest =
        let one : counted (is_of r u) ≡ 1 = ap counted is in
        let none = none_like r u us ((bytes_eq-Decides u.receipt r).0 is) apart.0 in
        omega (arith, more, one, none)
    go false is more rest =
        let none : counted (is_of r u) ≡ 0 = ap counted is in
        omega (arith, more, none, rest)

at_least_once : (r : List ℕ) (us : List Use) (u : Use) → first_use r us ≡ Some u → 1 ≤ times r us
at_least_once r [] u used = absurd (cc)
at_least_once r (v ∷ us) u used =
    go (is_of r v) refl used (one_more r v us) (at_least_once r us u)
  where
    go : (b : Bool) → is_of r v ≡ b → cond b (Some v) (first_use r us) ≡ Some u
        → times r (v ∷ us) ≡ counted (is_of r v) + times r us → (first_use r us ≡ Some u → 1 ≤ times r us)
        → 1 ≤ times r (v ∷ us)
    go true is used more rest =
        let one : counted (is_of r v) ≡ 1 = ap counted is in
        omega (arith, more, one)
    go false is used more rest =
        let some = rest used in
        omega (arith, more, some)

apart_in : (x : ℕ) (i : Institution) → IsSound i → AreApart (uses_from 1 (rows_at x i).loans)
apart_in x i s = go (office_at x i.offices) refl
  where
    go : (o : Option Office) → office_at x i.offices ≡ o → AreApart (uses_from 1 (rows_of o).loans)
    go None e = tt
    go (Some f) e = (found_sound i.catalogue (is_staff i.offices) x i.offices f s.each e).rows.receipts

-- ---- a receipt with which a repayment was taken is known

record IsUsed (x : ℕ) (r : List ℕ) (i : Institution) : Type 0 where
  used : Use
  is : use_at x r i ≡ Some used

used_last : (x : ℕ) (r : List ℕ) (ls : List Line) (i : Institution) → IsSound i → AreInRange ls → IsUsed x r i
    → IsUsed x r (last ls i)
used_last x r ls i s range u = record { used = u.used; is = known_last ls i s range x r u.used u.is }

used_once_told : (loan : Account) (asked : Repayment) (r : List ℕ) (l : Line) (i : Institution)
    → l.call.request ≡ request.Loan loan (Repay asked) → asked.receipt ≡ Some r
    → is_some (change_of_line l i) ≡ true → IsUsed loan.office r (next l i)
used_once_told loan asked r l i is has changed =
    elim (line_enters l i (λ changes. record {
      loan = loan;
      repayment = asked;
      receipt = r;
      request_is = is;
      receipt_is = has;
    })) [
      | inl none ↦ absurd (nothing (change_of_line l i) none changed)
      | inr w ↦ entered w
    ]
  where
    nothing : (o : Option Change) → o ≡ None → is_some o ≡ true → ⊥
    nothing None none some = cc
    nothing (Some c) none some = cc

    entered : Enters l i → IsUsed loan.office r (next l i)
    entered w =
        let both : request.Loan w.loan (Repay w.asked) ≡ request.Loan loan (Repay asked) = sym w.request_is ∙ is in
        let loan_is : w.loan ≡ loan = cc in
        let asked_is : w.asked ≡ asked = cc in
        let receipts : Some w.receipt ≡ Some r =
        sym w.receipt_is ∙ ap (λ (a : Repayment). a.receipt) asked_is ∙ has in
        let receipt_is : w.receipt ≡ r = cc in
        subst (λ (a : Account). IsUsed a.office r (next l i)) loan_is
        (subst (λ (t : List ℕ). IsUsed w.loan.office t (next l i)) receipt_is
        (record { used = _; is = own_use l i w }))

taken_used : (loan : Account) (asked : Repayment) (r : List ℕ) (ls : List Line) (i : Institution) → IsSound i
    → AreInRange ls → asked.receipt ≡ Some r → IsTaken loan asked ls i → IsUsed loan.office r (last ls i)
taken_used loan asked r [] i s range has taken = absurd (none_taken loan asked i taken)
taken_used loan asked r (l ∷ ls) i s range has taken =
    elim (taken_cases l ls i (request.Loan loan (Repay asked)) taken) [
      | inl here ↦ elim (told_so l i loan asked r here.1 has here.0) [
        | inl known ↦
            used_last loan.office r (l ∷ ls) i s range (record { used = known.used; is = known.used_is })
        | inr new ↦
            used_last loan.office r ls (next l i) (next_sound l i s range.0) range.1
            (used_once_told loan asked r l i here.1 has new.1)
      ]
      | inr more ↦ taken_used loan asked r ls (next l i) (next_sound l i s range.0) range.1 has more
    ]

pub taken_once : (i : Institution) (ls : List Line) (loan : Account) (asked : Repayment) (r : List ℕ) → IsSound i
    → AreInRange ls → IsTaken loan asked ls i → asked.receipt ≡ Some r
    → times_entered loan.office r (last ls i) ≡ 1
taken_once i ls loan asked r s range taken has =
    let u = taken_used loan asked r ls i s range has taken in
    let us : List Use = uses_from 1 (rows_at loan.office (last ls i)).loans in
    let least = at_least_once r us u.used u.is in
    let most = at_most_once r us (apart_in loan.office (last ls i) (last_sound ls i s range)) in
    omega (arith, least, most)
