-- Who is there stays there.
use Rattle.std.proofs.Common.{◌≡◌, ◌<◌, ◌≤◌, ◌-◌, ℕ, zero, suc, Bool, true, false, cond, List, [], ◌∷◌, length}
use Rattle.std.proofs.Common.{slice_get, Option, Some, None, inl, inr, refl, sym, ap, ◌∙◌, subst, arith, true≢false}
use Rattle.std.specs.Prelude.{◌==◌, is_some, option_map}
use Rattle.std.specs.List.{AllByRecursion}
use Rattle.std.proofs.lemmas.Bool.{cases_eq}
use Rattle.std.proofs.lemmas.Bool.Decides.{nat_tests}
use Rattle.mf_office.specs.Numbers.{IsNumberUpTo}
use Rattle.mf_office.specs.Texts.{IsCaller}
use Rattle.mf_office.specs.declared.caller.Caller.{Caller}
use Rattle.mf_model.specs.Institution.{Catalogue, Office, Rows, item_numbered, office_at, with_rows, with_office}
use Rattle.mf_model.specs.Tree.{is_there}
use Rattle.mf_model.specs.Sound.{IsSoundOffice, is_staff}
use Rattle.mf_model.proofs.Confined.{others_stay, old_stay}
use Rattle.mf_model.proofs.Growing.{StaffGrows}

-- whoever was a member of staff by one list of rows is one by another
abbrev pub KeepsStaff : Rows → Rows → Type 0
KeepsStaff old new = (n : ℕ) → is_some (item_numbered old.staff n) ≡ true → is_some (item_numbered new.staff n) ≡ true

abbrev pub KeepsStaffOf : ℕ → Rows → List Office → Type 0
KeepsStaffOf x rows fs = (f : Office) → office_at x fs ≡ Some f → KeepsStaff f.rows rows

abbrev in_office : ℕ → Option Office → Bool
in_office n o = is_some (elim o [ None ↦ None | Some f ↦ item_numbered f.rows.staff n ])

pub rows_found : (x : ℕ) (rows : Rows) (fs : List Office) → office_at x (with_rows x rows fs)
    ≡ option_map (λ (f : Office). record f { rows = rows }) (office_at x fs)
rows_found x rows [] = refl
rows_found x rows (f ∷ fs) = either (f.number == x) (rows_found x rows fs)
  where
    either : (b : Bool) → office_at x (with_rows x rows fs) ≡ option_map (λ (g : Office). record g { rows = rows })
        (office_at x fs) → cond b (Some (record f { rows = cond b rows f.rows })) (office_at x (with_rows x rows fs))
        ≡ option_map (λ (g : Office). record g { rows = rows }) (cond b (Some f) (office_at x fs))
    either true rest = refl
    either false rest = rest

pub staff_with_rows : (x : ℕ) (rows : Rows) (fs : List Office) → KeepsStaffOf x rows fs → StaffGrows (is_staff fs)
    (is_staff (with_rows x rows fs))
staff_with_rows x rows fs keeps c h =
    elim (cases_eq c.office x) [
      | inl is ↦
          let here : in_office c.staff (office_at x fs) ≡ true = ap (λ y. in_office c.staff (office_at y fs)) (sym is)
          ∙ h in
          ap (λ y. in_office c.staff (office_at y (with_rows x rows fs))) is ∙ ap (in_office c.staff)
          (rows_found x rows fs) ∙ at (office_at x fs) refl here
      | inr other ↦ ap (in_office c.staff) (others_stay x c.office rows fs other) ∙ h
    ]
  where
    at : (o : Option Office) → office_at x fs ≡ o → in_office c.staff o ≡ true
        → in_office c.staff (option_map (λ (f : Office). record f { rows = rows }) o) ≡ true
    at None e h = absurd (cc)
    at (Some f) e h = keeps f e c.staff h

pub staff_with_office : (new : Office) (fs : List Office) → is_there fs new.number ≡ false → StaffGrows (is_staff fs)
    (is_staff (with_office new fs))
staff_with_office new fs free c h =
    elim (cases_eq c.office new.number) [
      | inl is ↦ absurd (none (office_at new.number fs) free (ap (λ y. in_office c.staff (office_at y fs)) (sym is)
          ∙ h))
      | inr other ↦ ap (in_office c.staff) (old_stay new c.office fs other) ∙ h
    ]
  where
    none : (o : Option Office) → is_some o ≡ false → in_office c.staff o ≡ true → ⊥
    none None e h = cc
    none (Some f) e h = cc

-- whoever is a member of staff has a number of an office and a staff number in range
placed : {A : Type 0} (xs : List A) (d : ℕ) → is_some (slice_get xs d) ≡ true → d < length xs
placed [] d h = absurd (true≢false (sym h))
placed (x ∷ xs) zero h = omega arith
placed (x ∷ xs) (suc d) h = let more : d < length xs = placed xs d h in omega (arith, more)

has_number : {A : Type 0} (xs : List A) (n limit : ℕ) → length xs ≤ limit → is_some (item_numbered xs n) ≡ true
    → IsNumberUpTo limit n
has_number xs n limit few h = go (n == 0) refl h
  where
    go : (b : Bool) → (n == 0) ≡ b → is_some (cond b None (slice_get xs (n - 1))) ≡ true → IsNumberUpTo limit n
    go true e h = absurd (true≢false (sym h))
    go false e h =
        let some : 1 ≤ n = grind (arith, nat_tests) in
        let low : n - 1 < length xs = placed xs (n - 1) h in
        (some, omega (arith, some, low, few))

pub staff_are_callers : (k : Catalogue) (s : Caller → Bool) (fs : List Office) → AllByRecursion (IsSoundOffice k s) fs
    → (c : Caller) → is_staff fs c ≡ true → IsCaller c
staff_are_callers k s [] all c there = absurd (true≢false (sym there))
staff_are_callers k s (f ∷ fs) all c there = go (f.number == c.office) refl there (staff_are_callers k s fs all.1 c)
  where
    go : (b : Bool) → (f.number == c.office) ≡ b → is_some (elim (cond b (Some f) (office_at c.office fs)) [
      | None ↦ None
      | Some g ↦ item_numbered g.rows.staff c.staff
    ]) ≡ true → (is_staff fs c ≡ true → IsCaller c) → IsCaller c
    go true e there more =
        let same : f.number ≡ c.office = grind (arith, nat_tests) in
        (subst (IsNumberUpTo 9999) same all.0.number, has_number f.rows.staff c.staff 9999 all.0.rows.staff_limit there)
    go false e there more = more there
