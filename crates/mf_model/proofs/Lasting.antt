-- What lasts over whole runs: the terms of products, the accounts of loans, and the receipts that are known.
use Rattle.std.proofs.Common.{◌≡◌, ℕ, Bool, true, false, cond, List, [], ◌∷◌, Option, Some, None, inl, inr, refl, sym}
use Rattle.std.proofs.Common.{ap, ◌∙◌}
use Rattle.std.specs.Prelude.{is_some, option_map}
use Rattle.mf_office.specs.declared.account.Account.{Account}
use Rattle.mf_model.specs.Calls.{Call}
use Rattle.mf_model.specs.Institution.{Institution, Office, Rows, Ledger, office_at, with_rows, with_office, new_office}
use Rattle.mf_model.specs.Institution.{Change, Catalogue_becomes, Rows_become, Office_added, after, after_line}
use Rattle.mf_model.specs.Institution.{item_numbered}
use Rattle.mf_model.specs.Tree.{is_there, Fits}
use Rattle.mf_catalog.specs.declared.terms.Terms.{Terms}
use Rattle.mf_model.specs.Accounts.{terms_in}
use Rattle.mf_account.specs.Loan.{DisbursedLoan, IsSoundDisbursed, status_of_loan}
use Rattle.mf_model.specs.Stages.{disbursed_on, stage_number}
use Rattle.mf_model.specs.Store.{rows_of, rows_at, ledger_at, account_of, use_at}
use Rattle.std.proofs.lemmas.Bool.{cases_eq}
use Rattle.mf_model.specs.Accounts.{account_in, running_from, of_account, status_in}
use Rattle.mf_model.specs.Receipts.{Use, uses_from, first_use}
use Rattle.mf_model.specs.Desk.{plan, change_in, outcome}
use Rattle.mf_model.specs.Run.{Line, next, last, noted_of}
use Rattle.mf_model.specs.Sound.{IsSoundLoan, is_staff, IsSound, IsInRange, AreInRange}
use Rattle.mf_model.proofs.Steps.{known_line}
use Rattle.mf_model.proofs.Confined.{others_stay, old_stay}
use Rattle.mf_model.proofs.StaffLemmas.{rows_found}
use Rattle.mf_model.proofs.AccountLemmas.{IsRunning, account_is, account_sound, account_there, status_first}
use Rattle.mf_model.proofs.Growing.{Grows, grows_self, all_at}
use Rattle.mf_model.proofs.SoundLemmas.{KeepsUsesOf, IsSoundChange, found_sound, by_sound, next_sound}

-- what a change leaves: the terms of products, and the receipts that are known
pub change_grows : (change : Change) (i : Institution) → IsSoundChange i change
    → Grows i.catalogue (after change i).catalogue
change_grows (Catalogue_becomes catalogue) i c = c.1
change_grows (Rows_become x rows) i c = grows_self i.catalogue
change_grows (Office_added number parent name) i c = grows_self i.catalogue

accepted_change : (call : Call) (i : Institution) (change : Change) → IsSound i → IsInRange call.request
    → change_in (outcome call i) ≡ Some change → IsSoundChange i change
accepted_change call i change s r h = by_sound call.caller call.request i change s r h
    (known_line call.caller call.request (plan call.request) i change s.tree refl h).made_is

next_grows : (l : Line) (i : Institution) → IsSound i → IsInRange l.call.request
    → Grows i.catalogue (next l i).catalogue
next_grows l i s r = step l.given_up (change_in (outcome l.call i)) refl
  where
    step : (g : Bool) (c : Option Change) → change_in (outcome l.call i) ≡ c
        → Grows i.catalogue (after_line (noted_of l.call i) (cond g None c) i).catalogue
    step true c e = grows_self i.catalogue
    step false None e = grows_self i.catalogue
    step false (Some change) e = change_grows change i (accepted_change l.call i change s r e)

pub terms_last : (ls : List Line) (i : Institution) → IsSound i → AreInRange ls → (n : ℕ) (t : Terms)
    → terms_in i.catalogue n ≡ Some t → terms_in (last ls i).catalogue n ≡ Some t
terms_last [] i s r n t h = h
terms_last (l ∷ ls) i s r n t h =
    terms_last ls (next l i) (next_sound l i s r.0) r.1 n t ((next_grows l i s r.0).terms n t h)

pub account_last : (ls : List Line) (i : Institution) → IsSound i → AreInRange ls → (l : Ledger) (a : DisbursedLoan)
    → account_in i.catalogue l ≡ Some a → account_in (last ls i).catalogue l ≡ Some a
account_last ls i s r l a h =
    let is : IsRunning i.catalogue l a = account_is i.catalogue l a h in
    ap (λ d. running_from l.loan l.entries d (terms_in (last ls i).catalogue l.loan.product)) is.day_is
    ∙ ap (running_from l.loan l.entries (Some is.day)) (terms_last ls i s r l.loan.product is.terms is.terms_is)
    ∙ ap Some is.account_is

-- a receipt that an office knows it knows afterwards
abbrev pub known_in : List ℕ → Option Office → Option Use
known_in receipt f = first_use receipt (uses_from 1 (rows_of f).loans)

known_found : (x y : ℕ) (rows : Rows) (fs : List Office) (receipt : List ℕ) (u : Use) → KeepsUsesOf x rows fs
    → known_in receipt (office_at y fs) ≡ Some u → known_in receipt (office_at y (with_rows x rows fs)) ≡ Some u
known_found x y rows fs receipt u keeps h =
    elim (cases_eq y x) [
      | inl is ↦
          ap (λ z. known_in receipt (office_at z (with_rows x rows fs))) is ∙ ap (known_in receipt)
          (rows_found x rows fs)
          ∙ at (office_at x fs) refl (ap (λ z. known_in receipt (office_at z fs)) (sym is) ∙ h)
      | inr other ↦ ap (known_in receipt) (others_stay x y rows fs other) ∙ h
    ]
  where
    at : (o : Option Office) → office_at x fs ≡ o → known_in receipt o ≡ Some u
        → known_in receipt (option_map (λ (f : Office). record f { rows = rows }) o) ≡ Some u
    at None e h = absurd (cc)
    at (Some f) e h = (keeps f e).stays receipt u h

known_with_office : (new : Office) (y : ℕ) (fs : List Office) (receipt : List ℕ) (u : Use) → is_there fs new.number
    ≡ false → known_in receipt (office_at y fs) ≡ Some u → known_in receipt (office_at y (with_office new fs)) ≡ Some u
known_with_office new y fs receipt u free h =
    elim (cases_eq y new.number) [
      | inl is ↦ absurd (none (office_at new.number fs) free (ap (λ z. known_in receipt (office_at z fs)) (sym is) ∙ h))
      | inr other ↦ ap (known_in receipt) (old_stay new y fs other) ∙ h
    ]
  where
    none : (o : Option Office) → is_some o ≡ false → known_in receipt o ≡ Some u → ⊥
    none None e h = cc
    none (Some f) e h = cc

known_after : (change : Change) (i : Institution) (x : ℕ) (receipt : List ℕ) (u : Use) → Fits change i.offices
    → IsSoundChange i change → use_at x receipt i ≡ Some u → use_at x receipt (after change i) ≡ Some u
known_after (Catalogue_becomes catalogue) i x receipt u fit c h = h
known_after (Rows_become y rows) i x receipt u fit c h = known_found y x rows i.offices receipt u c.2 h
known_after (Office_added number parent name) i x receipt u fit c h =
    known_with_office (new_office number parent name) x i.offices receipt u fit.free h

next_known : (l : Line) (i : Institution) (x : ℕ) (receipt : List ℕ) (u : Use) → IsSound i → IsInRange l.call.request
    → use_at x receipt i ≡ Some u → use_at x receipt (next l i) ≡ Some u
next_known l i x receipt u s r h = step l.given_up (change_in (outcome l.call i)) refl
  where
    step : (g : Bool) (c : Option Change) → change_in (outcome l.call i) ≡ c
        → use_at x receipt (after_line (noted_of l.call i) (cond g None c) i) ≡ Some u
    step true c e = h
    step false None e = h
    step false (Some change) e =
        known_after change i x receipt u (known_line l.call.caller l.call.request (plan l.call.request) i change s.tree
        refl e).fits (accepted_change l.call i change s r e) h

pub known_last : (ls : List Line) (i : Institution) → IsSound i → AreInRange ls → (x : ℕ) (receipt : List ℕ) (u : Use)
    → use_at x receipt i ≡ Some u → use_at x receipt (last ls i) ≡ Some u
known_last [] i s r x receipt u h = h
known_last (l ∷ ls) i s r x receipt u h =
    known_last ls (next l i) (next_sound l i s r.0) r.1 x receipt u (next_known l i x receipt u s r.0 h)

-- the account of a loan of a sound institution
pub loan_of : (i : Institution) (loan : Account) (l : Ledger) → IsSound i → ledger_at loan i ≡ Some l
    → IsSoundLoan i.catalogue (is_staff i.offices) (rows_at loan.office i).clients l
loan_of i loan l s h = at (office_at loan.office i.offices) refl h
  where
    at : (o : Option Office) → office_at loan.office i.offices ≡ o → item_numbered (rows_of o).loans loan.number
        ≡ Some l → IsSoundLoan i.catalogue (is_staff i.offices) (rows_of o).clients l
    at None e h = absurd (all_at (λ (x : Ledger). ⊥) [] loan.number l tt h)
    at (Some f) e h =
        let is = (found_sound i.catalogue (is_staff i.offices) loan.office i.offices f s.each e).rows in
        all_at (IsSoundLoan i.catalogue (is_staff i.offices) f.rows.clients) f.rows.loans loan.number l is.loans h

pub account_of_loan : (i : Institution) (loan : Account) (a : DisbursedLoan) → IsSound i
    → account_of i.catalogue (ledger_at loan i) ≡ Some a → IsSoundDisbursed a
account_of_loan i loan a s h = at (ledger_at loan i) refl h
  where
    at : (o : Option Ledger) → ledger_at loan i ≡ o → account_of i.catalogue o ≡ Some a → IsSoundDisbursed a
    at None e h = absurd (cc)
    at (Some l) e h = account_sound i.catalogue (is_staff i.offices) (rows_at loan.office i).clients l a s.catalogue
        (loan_of i loan l s e) h

pub loan_has_account : (i : Institution) (loan : Account) (l : Ledger) (day : ℕ) → IsSound i → ledger_at loan i ≡ Some l
    → disbursed_on l.loan.stage ≡ Some day → (a : DisbursedLoan) × (account_of i.catalogue (ledger_at loan i) ≡ Some a)
loan_has_account i loan l day s e d =
    let there = account_there i.catalogue l day d (loan_of i loan l s e).product in
    (there.0, ap (account_of i.catalogue) e ∙ there.1)

-- a loan without entries is at 300
pub first_status : (i : Institution) (loan : Account) (l : Ledger) (day : ℕ) → IsSound i → ledger_at loan i ≡ Some l
    → disbursed_on l.loan.stage ≡ Some day → l.entries ≡ [] → status_in i.catalogue l ≡ 300
first_status i loan l day s e d none =
    let there = account_there i.catalogue l day d (loan_of i loan l s e).product in
    let a = there.0 in
    let has : account_of i.catalogue (ledger_at loan i) ≡ Some there.0 = ap (account_of i.catalogue) e ∙ there.1 in
    let same : there.0.entries ≡ l.entries =
    ap (λ (x : DisbursedLoan). x.entries) (sym (account_is i.catalogue l there.0 there.1).account_is) in
    ap (of_account (stage_number l.loan.stage) status_of_loan) there.1
    ∙ status_first there.0 (account_of_loan i loan there.0 s has) (same ∙ none)
