-- What soundness says of the rows of an office, and which of its numbers are there.
use Rattle.std.proofs.Common.{◌≡◌, ◌<◌, ◌≤◌, ◌-◌, ℕ, zero, suc, Bool, true, false, cond, List, [], ◌∷◌, length}
use Rattle.std.proofs.Common.{slice_get, Option, None, Some, refl, sym, ap, ◌∙◌, subst, arith, ◌==◌, IsTrue, ◌↔◌, ◌≢◌}
use Rattle.std.proofs.Common.{true≢false}
use Rattle.std.specs.Option.{is_some, option_map}
use Rattle.std.specs.List.{AllByRecursion}
use Rattle.mf_office.specs.declared.caller.Caller.{Caller}
use Rattle.mf_model.specs.Institution.{Catalogue, Office, office_at, item_numbered, Rows, with_rows}
use Rattle.mf_model.specs.Sound.{IsSoundOffice, IsSoundRows}
use Rattle.mf_model.specs.Store.{rows_of}
use Rattle.mf_model.specs.Tree.{is_there}
use Rattle.mf_model.proofs.StaffLemmas.{rows_found}

placed : {A : Type 0} (xs : List A) (d : ℕ) → (IsTrue (is_some (slice_get xs d)) → d < length xs)
    × (d < length xs → IsTrue (is_some (slice_get xs d)))
placed [] d = ((λ h. absurd (Rattle.std.proofs.Common.true≢false (sym h))), (λ h. absurd (omega arith)))
placed (x ∷ xs) zero = ((λ h. omega arith), (λ h. refl))
placed (x ∷ xs) (suc d) = let more =
    placed xs d in ((λ h. let low = more.0 h in omega arith), (λ h. more.1 (omega arith)))

pub has_number : {A : Type 0} (xs : List A) (n : ℕ) → IsTrue (is_some (item_numbered xs n))
    ↔ ((1 ≤ n) × (n ≤ length xs))
has_number xs zero =
    ((λ h. absurd (Rattle.std.proofs.Common.true≢false (sym h))), (λ h. absurd (let low = h.0 in omega arith)))
has_number xs (suc n) =
    let same = Rattle.mf_store_values.proofs.FlatLemmas.numbered-suc xs n in
    let at = placed xs n in (
      (λ h. (omega arith, (let low = at.0 (subst (λ o. IsTrue (is_some o)) same h) in omega arith))),
      (λ h. subst (λ o. IsTrue (is_some o)) (sym same) (at.1 (let most = h.1 in omega arith))),
    )

pub office_sound : (k : Catalogue) (s : Caller → Bool) (x : ℕ) (fs : List Office) → AllByRecursion (IsSoundOffice k s)
    fs → IsSoundRows k s (rows_of (office_at x fs))
office_sound k s x [] all = record {
  staff_limit = omega arith;
  staff_names = tt;
  client_limit = omega arith;
  client_names = tt;
  loan_limit = omega arith;
  loans = tt;
  receipts = tt;
}
office_sound k s x (f ∷ fs) all = go (f.number == x) (office_sound k s x fs all.1)
  where
    go : (b : Bool) → IsSoundRows k s (rows_of (office_at x fs))
        → IsSoundRows k s (rows_of (cond b (Some f) (office_at x fs)))
    go true more = all.0.rows
    go false more = more

pub own_rows : (x : ℕ) (new : Rows) (fs : List Office) → is_there fs x ≡ true
    → rows_of (office_at x (with_rows x new fs)) ≡ new
own_rows x new fs there = ap rows_of (rows_found x new fs) ∙ go (office_at x fs) there
  where
    go : (o : Option Office) → is_some o ≡ true → rows_of (option_map (λ (f : Office). record f { rows = new }) o) ≡ new
    go None h = absurd (true≢false (sym h))
    go (Some f) h = refl
