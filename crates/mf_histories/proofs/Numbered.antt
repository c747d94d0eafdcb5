-- The entries of the loans of an office, by number.
use Rattle.std.proofs.Common.{◌≡◌, ◌≢◌, ℕ, zero, suc, ◌-◌, Bool, true, false, cond, List, [], ◌∷◌, ◌++◌, Option, Some}
use Rattle.std.proofs.Common.{None, inl, inr, refl, sym, ap, ◌∙◌, arith}
use Rattle.std.specs.Prelude.{◌==◌, nat_lt, is_some, option_map, slice_get}
use Rattle.std.proofs.lemmas.Bool.{cases_eq}
use Rattle.std.proofs.lemmas.Bool.Decides.{nat_tests}
use Rattle.mf_office.specs.declared.account.Account.{Account}
use Rattle.mf_account.specs.declared.entry.Entry.{Entry}
use Rattle.mf_model.specs.Institution.{Institution, Office, Rows, Ledger, office_at, with_rows, with_office, new_office}
use Rattle.mf_model.specs.Institution.{Rows_become, Office_added, after, item_numbered, with_numbered}
use Rattle.mf_model.specs.Store.{rows_of}
use Rattle.mf_model.specs.Tree.{is_there}
use Rattle.mf_model.proofs.Confined.{others_stay, old_stay}
use Rattle.mf_model.proofs.Growing.{numbered_suc}
use Rattle.mf_model.proofs.StaffLemmas.{rows_found}
use Rattle.mf_histories.specs.Histories.{entries_of_ledger, entries_of_loan}

-- a change of the thing of one number
below_first : {X : Type 0} (i : ℕ) (change : X → X) (x : X) (xs : List X) → with_numbered (suc (suc i)) change (x ∷ xs)
    ≡ x ∷ with_numbered (suc i) change xs
below_first i change x xs =
    let other : (suc (suc i) == 1) ≡ false = grind (arith, nat_tests) in
    let less : suc (suc i) - 1 ≡ suc i = omega arith in
    ap (λ b. cond b (change x ∷ xs) (x ∷ with_numbered (suc (suc i) - 1) change xs)) other
    ∙ ap (λ n. x ∷ with_numbered n change xs) less

changed_at : {X : Type 0} (i : ℕ) (change : X → X) (xs : List X) (x : X) → slice_get xs i ≡ Some x
    → slice_get (with_numbered (suc i) change xs) i ≡ Some (change x)
changed_at i change [] x h = absurd (cc)
changed_at zero change (y ∷ ys) x h = let same : y ≡ x = cc in ap (λ z. Some (change z)) same
changed_at (suc i) change (y ∷ ys) x h = ap (λ l. slice_get l (suc i)) (below_first i change y ys)
    ∙ changed_at i change ys x h

others_kept : {X : Type 0} (i j : ℕ) (change : X → X) (xs : List X) → j ≢ i
    → slice_get (with_numbered (suc i) change xs) j ≡ slice_get xs j
others_kept i j change [] other = refl
others_kept zero zero change (y ∷ ys) other = absurd (other refl)
others_kept zero (suc j) change (y ∷ ys) other = refl
others_kept (suc i) zero change (y ∷ ys) other = ap (λ l. slice_get l zero) (below_first i change y ys)
others_kept (suc i) (suc j) change (y ∷ ys) other = ap (λ l. slice_get l (suc j)) (below_first i change y ys)
    ∙ others_kept i j change ys (λ e. other (ap suc e))

pub numbered_changed : {X : Type 0} (n : ℕ) (change : X → X) (xs : List X) (x : X) → item_numbered xs n ≡ Some x
    → item_numbered (with_numbered n change xs) n ≡ Some (change x)
numbered_changed zero change xs x h = absurd (cc)
numbered_changed (suc i) change xs x h = numbered_suc (with_numbered (suc i) change xs) i
    ∙ changed_at i change xs x (sym (numbered_suc xs i) ∙ h)

pub numbered_kept : {X : Type 0} (n m : ℕ) (change : X → X) (xs : List X) (x : X) → item_numbered xs n ≡ Some x → m ≢ n
    → item_numbered (with_numbered n change xs) m ≡ item_numbered xs m
numbered_kept zero m change xs x h other = absurd (cc)
numbered_kept (suc i) zero change xs x h other = refl
numbered_kept (suc i) (suc j) change xs x h other =
    numbered_suc (with_numbered (suc i) change xs) j ∙ others_kept i j change xs (λ e. other (ap suc e))
    ∙ sym (numbered_suc xs j)

-- a loan more, which has no entries
slice_push : (xs : List Ledger) (new : Ledger) (j : ℕ) → new.entries ≡ []
    → entries_of_ledger (slice_get (xs ++ new ∷ []) j)
    ≡ entries_of_ledger (slice_get xs j)
slice_push [] new zero none = none
slice_push [] new (suc j) none = refl
slice_push (x ∷ xs) new zero none = refl
slice_push (x ∷ xs) new (suc j) none = slice_push xs new j none

pub numbered_push : (xs : List Ledger) (new : Ledger) (n : ℕ) → new.entries ≡ []
    → entries_of_ledger (item_numbered (xs ++ new ∷ []) n) ≡ entries_of_ledger (item_numbered xs n)
numbered_push xs new zero none = refl
numbered_push xs new (suc j) none = ap entries_of_ledger (numbered_suc (xs ++ new ∷ []) j) ∙ slice_push xs new j none
    ∙ sym (ap entries_of_ledger (numbered_suc xs j))

-- the entries of a loan of an office
abbrev pub entries_in : Option Office → ℕ → List Entry
entries_in f n = entries_of_ledger (item_numbered (rows_of f).loans n)

pub entries_here : (i : Institution) (x : ℕ) (rows : Rows) (f : Office) (a : Account) → office_at x i.offices ≡ Some f
    → a.office ≡ x → entries_of_loan a (after (Rows_become x rows) i)
    ≡ entries_of_ledger (item_numbered rows.loans a.number)
entries_here i x rows f a there here =
    ap (λ y. entries_in (office_at y (with_rows x rows i.offices)) a.number) here
    ∙ ap (λ o. entries_in o a.number) (rows_found x rows i.offices)
    ∙ ap (λ o. entries_in (option_map (λ (g : Office). record g { rows = rows }) o) a.number) there

pub entries_elsewhere : (i : Institution) (x : ℕ) (rows : Rows) (a : Account) → a.office ≢ x
    → entries_of_loan a (after (Rows_become x rows) i) ≡ entries_of_loan a i
entries_elsewhere i x rows a other = ap (λ o. entries_in o a.number) (others_stay x a.office rows i.offices other)

pub entries_before : (i : Institution) (x : ℕ) (f : Office) (a : Account) → office_at x i.offices ≡ Some f
    → a.office ≡ x → entries_of_loan a i ≡ entries_of_ledger (item_numbered f.rows.loans a.number)
entries_before i x f a there here = ap (λ y. entries_in (office_at y i.offices) a.number) here
    ∙ ap (λ o. entries_in o a.number) there

-- a new office has no loans
new_there : (new : Office) (fs : List Office) → is_there fs new.number ≡ false
    → office_at new.number (with_office new fs) ≡ Some new
new_there new [] free = let own : (new.number == new.number) ≡ true =
    grind (arith, nat_tests) in ap (λ d. cond d (Some new) None) own
new_there new (f ∷ fs) free =
    either (nat_lt new.number f.number) (f.number == new.number) refl free (λ h. new_there new fs h)
  where
    own : (new.number == new.number) ≡ true
    own = grind (arith, nat_tests)

    either : (b c : Bool) → (f.number == new.number) ≡ c → is_some (cond c (Some f) (office_at new.number fs)) ≡ false
        → (is_there fs new.number ≡ false → office_at new.number (with_office new fs) ≡ Some new)
        → office_at new.number (cond b (new ∷ f ∷ fs) (f ∷ with_office new fs)) ≡ Some new
    either true c e free rest = ap (λ d. cond d (Some new) (office_at new.number (f ∷ fs))) own
    either false true e free rest = absurd (cc)
    either false false e free rest = ap (λ d. cond d (Some f) (office_at new.number (with_office new fs))) e ∙ rest free

no_slice : (n : ℕ) → entries_of_ledger (slice_get [] n) ≡ []
no_slice zero = refl
no_slice (suc n) = refl

no_loans : (n : ℕ) → entries_of_ledger (item_numbered [] n) ≡ []
no_loans zero = refl
no_loans (suc n) = ap entries_of_ledger (numbered_suc [] n) ∙ no_slice n

no_entries : (o : Option Office) (n : ℕ) → is_some o ≡ false → entries_in o n ≡ []
no_entries None n free = no_loans n
no_entries (Some f) n free = absurd (cc)

pub entries_with_office : (i : Institution) (number parent : ℕ) (name : List ℕ) (a : Account)
    → is_there i.offices number ≡ false → entries_of_loan a (after (Office_added number parent name) i)
    ≡ entries_of_loan a i
entries_with_office i number parent name a free =
    elim (cases_eq a.office number) [
      | inl here ↦
          ap (λ y. entries_in (office_at y (with_office (new_office number parent name) i.offices)) a.number) here
          ∙ ap (λ o. entries_in o a.number) (new_there (new_office number parent name) i.offices free)
          ∙ no_loans a.number
          ∙ sym (ap (λ y. entries_in (office_at y i.offices) a.number) here ∙ no_entries (office_at number i.offices)
          a.number free)
      | inr other ↦ ap (λ o. entries_in o a.number) (old_stay (new_office number parent name) a.office i.offices other)
    ]
