-- An effect reads the request, the catalogue and its target alone, and changes its target alone.
use Rattle.std.proofs.Common.{◌≡◌, ◌≢◌, ℕ, Bool, true, false, cond, List, [], ◌∷◌, Option, Some, None, Ok, Err, refl}
use Rattle.std.proofs.Common.{sym, ap, ◌∙◌, arith}
use Rattle.std.specs.Prelude.{◌==◌, Result}
use Rattle.std.proofs.lemmas.Bool.Decides.{nat_tests}
use Rattle.mf_base.specs.declared.fault.Fault.{Fault}
use Rattle.mf_office.specs.declared.caller.Caller.{Caller}
use Rattle.mf_model.specs.Calls.{Call}
use Rattle.mf_model.specs.Institution.{Institution, Catalogue, Office, Rows, office_at, with_rows, with_office}
use Rattle.mf_model.specs.Institution.{Catalogue_becomes, Rows_become, Office_added, newly_made}
use Rattle.mf_model.specs.Tree.{IsTree}
use Rattle.mf_model.specs.Desk.{Plan, On_catalogue, On_office, On_all_seen, On_new_office, plan, of_catalogue}
use Rattle.mf_model.specs.Desk.{in_office, change_in, plan_effect, sender_effect, effect}
use Rattle.mf_model.proofs.Within.{below_self}
use Rattle.mf_model.proofs.Steps.{in_office_change, catalogue_change}

rows_of_one : (x y : ℕ) (r s : Rows) → Rows_become x r ≡ Rows_become y s → x ≡ y
rows_of_one x y r s e = cc

reads_rows : (c : Caller) (p : Plan) (i j : Institution) (x : ℕ) (rows : Rows) → plan_effect c p i
    ≡ Some (Rows_become x rows) → i.catalogue ≡ j.catalogue → office_at x i.offices ≡ office_at x j.offices
    → plan_effect c p j ≡ Some (Rows_become x rows)
reads_rows c (On_catalogue act) i j x rows h k f = absurd (let is = catalogue_change (act i.catalogue)
    (Rows_become x rows) h in let e : Rows_become x rows ≡ Catalogue_becomes is.0 = is.1 in cc)
reads_rows c (On_office y act) i j x rows h k f =
    let is = in_office_change y (act c) i.catalogue (office_at y i.offices) (Rows_become x rows) h in
    let same : x ≡ y = rows_of_one x y rows is.0 is.1 in
    ap (λ m. change_in (in_office y (act c) m (office_at y j.offices))) (sym k)
    ∙ ap (λ g. change_in (in_office y (act c) i.catalogue g)) (ap (λ z. office_at z j.offices) (sym same) ∙ sym f
    ∙ ap (λ z. office_at z i.offices) same)
    ∙ h
reads_rows c (On_all_seen read) i j x rows h k f = absurd (cc)
reads_rows c (On_new_office number parent name) i j x rows h k f = absurd (cc)

pub effect_reads : (call : Call) (i j : Institution) (x : ℕ) (rows : Rows) → effect call i ≡ Some (Rows_become x rows)
    → i.catalogue ≡ j.catalogue → office_at x i.offices ≡ office_at x j.offices → effect call j
    ≡ Some (Rows_become x rows)
effect_reads call i j x rows h k f = step call.caller (plan call.request) h
  where
    step : (caller : Option Caller) (p : Result Plan Fault) → sender_effect caller p i ≡ Some (Rows_become x rows)
        → sender_effect caller p j ≡ Some (Rows_become x rows)
    step caller (Err e) h = absurd (cc)
    step None (Ok p) h = absurd (cc)
    step (Some c) (Ok p) h = reads_rows c p i j x rows h k f

pub others_stay : (x y : ℕ) (rows : Rows) (fs : List Office) → y ≢ x → office_at y (with_rows x rows fs)
    ≡ office_at y fs
others_stay x y rows [] ne = refl
others_stay x y rows (f ∷ fs) ne = grind (arith, nat_tests, others_stay x y rows fs ne)

reads_catalogue : (c : Caller) (p : Plan) (i j : Institution) (k : Catalogue) → plan_effect c p i
    ≡ Some (Catalogue_becomes k) → i.catalogue ≡ j.catalogue → plan_effect c p j ≡ Some (Catalogue_becomes k)
reads_catalogue c (On_catalogue act) i j k h e = ap (λ m. change_in (of_catalogue (act m))) (sym e) ∙ h
reads_catalogue c (On_office y act) i j k h e = absurd (let is = in_office_change y (act c) i.catalogue (office_at y
    i.offices) (Catalogue_becomes k) h in let never : Catalogue_becomes k ≡ Rows_become y is.0 = is.1 in cc)
reads_catalogue c (On_all_seen read) i j k h e = absurd (cc)
reads_catalogue c (On_new_office number parent name) i j k h e = absurd (cc)

pub effect_reads_catalogue : (call : Call) (i j : Institution) (k : Catalogue) → effect call i
    ≡ Some (Catalogue_becomes k) → i.catalogue ≡ j.catalogue → effect call j ≡ Some (Catalogue_becomes k)
effect_reads_catalogue call i j k h e = step call.caller (plan call.request) h
  where
    step : (caller : Option Caller) (p : Result Plan Fault) → sender_effect caller p i ≡ Some (Catalogue_becomes k)
        → sender_effect caller p j ≡ Some (Catalogue_becomes k)
    step caller (Err e) h = absurd (cc)
    step None (Ok p) h = absurd (cc)
    step (Some c) (Ok p) h = reads_catalogue c p i j k h e

reads_nothing : (c : Caller) (p : Plan) (i j : Institution) (number parent : ℕ) (name : List ℕ) → plan_effect c p i
    ≡ Some (Office_added number parent name) → plan_effect c p j ≡ Some (Office_added number parent name)
reads_nothing c (On_catalogue act) i j number parent name h = absurd (let is = catalogue_change (act i.catalogue)
    (Office_added number parent name) h in let never : Office_added number parent name ≡ Catalogue_becomes is.0 =
    is.1 in cc)
reads_nothing c (On_office y act) i j number parent name h = absurd (let is = in_office_change y (act c) i.catalogue
    (office_at y i.offices) (Office_added number parent name) h in let never : Office_added number parent name
    ≡ Rows_become y is.0 = is.1 in cc)
reads_nothing c (On_all_seen read) i j number parent name h = absurd (cc)
reads_nothing c (On_new_office m p n) i j number parent name h = h

pub effect_reads_nothing : (call : Call) (i j : Institution) (number parent : ℕ) (name : List ℕ) → effect call i
    ≡ Some (Office_added number parent name) → effect call j ≡ Some (Office_added number parent name)
effect_reads_nothing call i j number parent name h = step call.caller (plan call.request) h
  where
    step : (caller : Option Caller) (p : Result Plan Fault) → sender_effect caller p i
        ≡ Some (Office_added number parent name) → sender_effect caller p j ≡ Some (Office_added number parent name)
    step caller (Err e) h = absurd (cc)
    step None (Ok p) h = absurd (cc)
    step (Some c) (Ok p) h = reads_nothing c p i j number parent name h

pub old_stay : (new : Office) (y : ℕ) (fs : List Office) → y ≢ new.number → office_at y (with_office new fs)
    ≡ office_at y fs
old_stay new y [] ne = grind (arith, nat_tests)
old_stay new y (f ∷ fs) ne = grind (arith, nat_tests, old_stay new y fs ne)

no_parent : (b : Bool) (p : ℕ) → cond {A = Option ℕ} b None None ≡ Some p → ⊥
no_parent true p h = cc
no_parent false p h = cc

pub IsTree_new : (day : ℕ) → IsTree (newly_made day).offices
IsTree_new day = record {
  ascending = (tt, tt);
  head = refl;
  head_there = refl;
  parents_there = λ x p e. absurd (no_parent (1 == x) p e);
  all_below = λ x there. let is : x ≡ 1 = grind (arith, nat_tests) in rw is (below_self (newly_made day).offices 1);
}
