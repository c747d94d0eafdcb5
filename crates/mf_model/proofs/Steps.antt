-- What is known of a change that a request makes.
use Rattle.std.proofs.Common.{◌≡◌, ℕ, Bool, true, false, cond, List, Option, Some, None, Ok, Err, refl, sym, ap, ◌∙◌}
use Rattle.std.proofs.Common.{subst, arith}
use Rattle.std.specs.Prelude.{◌&&◌, not, Result}
use Rattle.std.proofs.lemmas.Bool.Decides.{nat_tests}
use Rattle.mf_base.specs.declared.fault.Fault.{Fault}
use Rattle.mf_base.specs.declared.fault.Fault.TheVariants.{F3, F4, F16, F18}
use Rattle.mf_office.specs.declared.caller.Caller.{Caller}
use Rattle.mf_model.specs.declared.request.Request.{Request}
use Rattle.mf_model.specs.Institution.{Institution, Catalogue, Office, Rows, Staff, office_at, with_office, new_office}
use Rattle.mf_model.specs.Institution.{Change, Catalogue_becomes, Rows_become, Office_added}
use Rattle.mf_model.specs.Tree.{parent_of, is_there, seen_by, view, touches, IsTree, Fits}
use Rattle.mf_office.specs.Tree.{is_within, is_at_or_below}
use Rattle.mf_model.specs.declared.reply.Reply.{Reply}
use Rattle.mf_model.specs.declared.reply.Reply.TheVariants.{OfficeMade}
use Rattle.mf_model.specs.Desk.{Plan, On_catalogue, On_office, On_all_seen, On_new_office, plan, need, meets, Outcome}
use Rattle.mf_model.specs.Desk.{of_catalogue, of_office, of_reading, in_office, carried_out, staff_at, where_permitted}
use Rattle.mf_model.specs.Desk.{sent_by, change_in, plan_effect, sender_effect}
use Rattle.mf_model.specs.Run.{is_of}
use Rattle.mf_model.proofs.Offices.{office_at_kept}
use Rattle.mf_model.proofs.Within.{below_with_rows, new_below}
use Rattle.mf_model.proofs.Views.{head_alone, offices_need_the_head, closed, apart}

-- a catalogue's change is one, and an office's is its own
pub catalogue_change : (r : Result (Reply × Option Catalogue) Fault) (change : Change) → change_in (of_catalogue r)
    ≡ Some change → (c : Catalogue) × (change ≡ Catalogue_becomes c)
catalogue_change (Err e) change h = absurd (cc)
catalogue_change (Ok (s, None)) change h = absurd (cc)
catalogue_change (Ok (s, Some c)) change h = (c, cc)

office_change : (x : ℕ) (r : Result (Reply × Option Rows) Fault) (change : Change) → change_in (of_office x r)
    ≡ Some change → (rows : Rows) × (change ≡ Rows_become x rows)
office_change x (Err e) change h = absurd (cc)
office_change x (Ok (s, None)) change h = absurd (cc)
office_change x (Ok (s, Some rows)) change h = (rows, cc)

pub in_office_change : (x : ℕ) (act : Catalogue → Office → Result (Reply × Option Rows) Fault) (c : Catalogue)
    (f : Option Office) (change : Change) → change_in (in_office x act c f) ≡ Some change → (rows : Rows)
    × (change ≡ Rows_become x rows)
in_office_change x act c None change h = absurd (cc)
in_office_change x act c (Some f) change h = office_change x (act c f) change h

no_change : (r : Result Reply Fault) (change : Change) → change_in (of_reading r) ≡ Some change → ⊥
no_change (Err e) change h = cc
no_change (Ok s) change h = cc

-- what is known of a change that a caller of office o makes
pub record Known (o : ℕ) (c : Caller) (p : Plan) (i : Institution) (change : Change) : Type 0 where
  pub made_is : plan_effect c p i ≡ Some change
  pub fits : Fits change i.offices
  pub touching : touches o i change ≡ true

known_catalogue : (o : ℕ) (c : Caller) (p : Plan) (i : Institution) (change : Change) → plan_effect c p i ≡ Some change
    → (k : Catalogue) × (change ≡ Catalogue_becomes k) → Known o c p i change
known_catalogue o c p i change h is = record {
  made_is = h;
  fits = subst (λ (x : Change). Fits x i.offices) (sym is.1) tt;
  touching = ap (touches o i) is.1;
}

known_rows : (o x : ℕ) (c : Caller) (p : Plan) (i : Institution) (change : Change) → plan_effect c p i ≡ Some change
    → is_at_or_below (parent_of i.offices) x o ≡ true → (rows : Rows) × (change ≡ Rows_become x rows)
    → Known o c p i change
known_rows o x c p i change h b is = record {
  made_is = h;
  fits = subst (λ (y : Change). Fits y i.offices) (sym is.1) tt;
  touching = ap (touches o i) is.1 ∙ below_with_rows x is.0 i.offices x o ∙ b;
}

known_office : (o x : ℕ) (c : Caller) (act : Caller → Catalogue → Office → Result (Reply × Option Rows) Fault)
    (i : Institution) (change : Change) (b : Bool) → is_at_or_below (parent_of i.offices) x o ≡ b
    → change_in (in_office x (act c) i.catalogue (cond b (office_at x i.offices) None)) ≡ Some change
    → Known o c (On_office x act) i change
known_office o x c act i change true e h = known_rows o x c (On_office x act) i change h e (in_office_change x (act c)
    i.catalogue (office_at x i.offices) change h)
known_office o x c act i change false e h = absurd (cc)

new_office_change : (o number parent : ℕ) (name : List ℕ) (there below taken near : Bool) (change : Change)
    → change_in (cond (not (there && below)) (Err F4)
    (cond taken (Err F16) (cond near (Ok (OfficeMade number, Some (Office_added number parent name))) (Err F18))))
    ≡ Some change → (there ≡ true) × (below ≡ true) × (taken ≡ false) × (near ≡ true)
    × (Office_added number parent name ≡ change)
new_office_change o number parent name true true false true change h = (refl, refl, refl, refl, cc)
new_office_change o number parent name true true false false change h = absurd (cc)
new_office_change o number parent name true true true near change h = absurd (cc)
new_office_change o number parent name true false taken near change h = absurd (cc)
new_office_change o number parent name false below taken near change h = absurd (cc)

pub known : (c : Caller) (p : Plan) (i : Institution) (change : Change) → IsTree i.offices
    → ((number parent : ℕ) (name : List ℕ) → p ≡ On_new_office number parent name → c.office ≡ 1)
    → change_in (carried_out c p i) ≡ Some change → Known c.office c p i change
known c (On_catalogue act) i change t head h =
    known_catalogue c.office c (On_catalogue act) i change h (catalogue_change (act i.catalogue) change h)
known c (On_office x act) i change t head h =
    known_office c.office x c act i change (is_at_or_below (parent_of i.offices) x c.office) refl h
known c (On_all_seen read) i change t head h =
    absurd (no_change (read i.catalogue (seen_by c.office i.offices)) change h)
known c (On_new_office number parent name) i change t head h =
    let fs = i.offices in
    let f = new_office_change c.office number parent name (is_there fs parent) (is_at_or_below (parent_of fs) parent
    c.office) (is_there fs number) (is_within 4 (parent_of fs) parent 1) change h in
    let new = new_office number parent name in
    let below : is_at_or_below (parent_of (with_office new fs)) number 1 ≡ true =
    new_below new parent fs 1 f.2 (closed fs number t f.2) refl (apart fs parent number f.0 f.2) f.3 in
    record {
      made_is = ap Some f.4;
      fits = subst (λ (x : Change). Fits x fs) f.4 (record { free = f.2; parent_there = f.0; room = f.3 });
      touching = ap (touches c.office i) (sym f.4) ∙ subst (λ (x : ℕ). is_at_or_below (parent_of (with_office new fs))
          number x ≡ true) (sym (head number parent name refl)) below;
    }

-- a change that touches o is read off o's view
pub made_view : (o : ℕ) (c : Caller) (p : Plan) (i : Institution) (change : Change) → plan_effect c p i ≡ Some change
    → touches o i change ≡ true → plan_effect c p (view o i) ≡ Some change
made_view o c (On_catalogue act) i change h t = h
made_view o c (On_office x act) i change h t =
    let is = in_office_change x (act c) i.catalogue (office_at x i.offices) change h in
    let b : is_at_or_below (parent_of i.offices) x o ≡ true =
    sym (below_with_rows x is.0 i.offices x o) ∙ sym (ap (touches o i) is.1) ∙ t in
    ap (λ f. change_in (in_office x (act c) i.catalogue f)) (office_at_kept (λ z. is_at_or_below (parent_of i.offices) z
    o) i.offices x ∙ ap (λ a. cond a (office_at x i.offices) None) b) ∙ h
made_view o c (On_all_seen read) i change h t = h
made_view o c (On_new_office number parent name) i change h t = h

-- the same of a line
pub record KnownLine (caller : Option Caller) (p : Result Plan Fault) (i : Institution) (change : Change) : Type 0 where
  pub made_is : sender_effect caller p i ≡ Some change
  pub fits : Fits change i.offices
  pub touching : (o : ℕ) → is_of o caller ≡ true → touches o i change ≡ true

permitted_change : (b : Bool) (r : Outcome) (change : Change) → change_in (cond b r (Err F3)) ≡ Some change → (b ≡ true)
    × (change_in r ≡ Some change)
permitted_change true r change h = (refl, h)
permitted_change false r change h = absurd (cc)

known_permitted : (c : Caller) (request : Request) (p : Plan) (s : Option Staff) (i : Institution) (change : Change)
    → IsTree i.offices → plan request ≡ Ok p → change_in (where_permitted c request p s i) ≡ Some change
    → KnownLine (Some c) (Ok p) i change
known_permitted c request p None i change t e h = absurd (cc)
known_permitted c request p (Some staff) i change t e h =
    let m = permitted_change (meets (need request) staff.role c.office) (carried_out c p i) change h in
    let head = λ (number parent : ℕ) (name : List ℕ) (is : p ≡ On_new_office number parent name). head_alone
    (need request) staff.role c.office (offices_need_the_head request number parent name (e ∙ ap Ok is)) m.0 in
    let k : Known c.office c p i change = known c p i change t head m.1 in
    record {
      made_is = k.made_is;
      fits = k.fits;
      touching = λ o own. let same : c.office ≡ o =
          grind (arith, nat_tests) in subst (λ (x : ℕ). touches x i change ≡ true) same k.touching;
    }

pub known_line : (caller : Option Caller) (request : Request) (p : Result Plan Fault) (i : Institution)
    (change : Change) → IsTree i.offices → plan request ≡ p → change_in (sent_by caller request p i) ≡ Some change
    → KnownLine caller p i change
known_line caller request (Err e) i change t is h = absurd (cc)
known_line None request (Ok p) i change t is h = absurd (cc)
known_line (Some c) request (Ok p) i change t is h = known_permitted c request p (staff_at i c) i change t is h

pub effect_view : (o : ℕ) (caller : Option Caller) (p : Result Plan Fault) (i : Institution) (change : Change)
    → sender_effect caller p i ≡ Some change → touches o i change ≡ true → sender_effect caller p (view o i)
    ≡ Some change
effect_view o caller (Err e) i change h t = absurd (cc)
effect_view o None (Ok p) i change h t = absurd (cc)
effect_view o (Some c) (Ok p) i change h t = made_view o c p i change h t
