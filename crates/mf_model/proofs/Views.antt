-- A view is read as the institution is, and a change commutes with the view or leaves it.
use Rattle.std.proofs.Common.{◌≡◌, ◌≢◌, ℕ, Bool, true, false, cond, List, Option, Some, None, Ok, Err, refl, sym, ap}
use Rattle.std.proofs.Common.{◌∙◌, subst, arith}
use Rattle.std.specs.Prelude.{◌==◌, Result}
use Rattle.std.proofs.lemmas.Bool.Decides.{nat_tests}
use Rattle.mf_office.specs.declared.staff.Role.{Role}
use Rattle.mf_office.specs.declared.staff.Role.TheVariants.{Teller, Officer, Manager}
use Rattle.mf_base.specs.declared.fault.Fault.{Fault}
use Rattle.mf_office.specs.declared.caller.Caller.{Caller}
use Rattle.mf_model.specs.Calls.{Call}
use Rattle.mf_model.specs.declared.request.Request.{Request}
use Rattle.mf_model.specs.declared.request.Request.TheVariants.{NewOffice}
use Rattle.mf_model.specs.Institution.{Institution, Office, Rows, Staff, office_at, with_rows, with_office, new_office}
use Rattle.mf_model.specs.Institution.{Change, Catalogue_becomes, Rows_become, Office_added, after, item_numbered}
use Rattle.mf_model.specs.Tree.{parent_of, offices_where, is_there, seen_by, seen_office, view, touches, IsTree, Fits}
use Rattle.mf_office.specs.Tree.{is_within, is_at_or_below}
use Rattle.mf_model.specs.Desk.{Plan, On_catalogue, On_office, On_all_seen, On_new_office, plan, need, Need, A_teller}
use Rattle.mf_model.specs.Desk.{An_officer, A_manager, The_head, meets, of_reading, in_office, add_office, carried_out}
use Rattle.mf_model.specs.Desk.{staff_at, where_permitted, sent_by, outcome}
use Rattle.mf_model.specs.Run.{is_of}
use Rattle.mf_model.proofs.Offices.{office_at_kept, kept_agree, kept_all, kept_twice, parent_of_with_rows}
use Rattle.mf_model.proofs.Offices.{is_there_with_rows, Ascending_with_rows, kept_with_rows, with_rows_unseen}
use Rattle.mf_model.proofs.Offices.{parent_of_with_office, is_there_with_office, kept_with_office}
use Rattle.mf_model.proofs.Offices.{Ascending_with_office}
use Rattle.mf_model.proofs.Within.{below_self, below_seen, below_with_rows, below_with_office, new_below}

-- reading
cond_twice : {A : Type 0} (b : Bool) (x y : A) → cond b (cond b x y) y ≡ cond b x y
cond_twice true x y = refl
cond_twice false x y = refl

pub seen_office_view : (o x : ℕ) (i : Institution) → seen_office o x (view o i) ≡ seen_office o x i
seen_office_view o x i =
    ap (λ b. cond b (office_at x (seen_by o i.offices)) None) (below_seen o i.offices x)
    ∙ ap (λ f. cond (is_at_or_below (parent_of i.offices) x o) f None)
    (office_at_kept (λ z. is_at_or_below (parent_of i.offices) z o) i.offices x)
    ∙ cond_twice (is_at_or_below (parent_of i.offices) x o) (office_at x i.offices) None

pub seen_twice : (o : ℕ) (fs : List Office) → seen_by o (seen_by o fs) ≡ seen_by o fs
seen_twice o fs = kept_twice (λ x. is_at_or_below (parent_of fs) x o) (λ x. is_at_or_below (parent_of (seen_by o fs)) x
    o) fs (below_seen o fs)

pub seen_by_head : (o : ℕ) (fs : List Office) → IsTree fs → o ≡ 1 → seen_by o fs ≡ fs
seen_by_head o fs t e = kept_all (λ x. is_at_or_below (parent_of fs) x o) fs (λ x there.
    subst (λ (h : ℕ). is_at_or_below (parent_of fs) x h ≡ true) (sym e) (t.all_below x there))

pub staff_at_view : (o : ℕ) (i : Institution) (c : Caller) → c.office ≡ o → staff_at (view o i) c ≡ staff_at i c
staff_at_view o i c e =
    let b : is_at_or_below (parent_of i.offices) c.office o ≡ true = rw e (below_self i.offices o) in
    ap (elim [ None ↦ None | Some f ↦ item_numbered f.rows.staff c.staff ])
    (office_at_kept (λ z. is_at_or_below (parent_of i.offices) z o) i.offices c.office
    ∙ ap (λ a. cond a (office_at c.office i.offices) None) b)

pub carried_out_view : (c : Caller) (p : Plan) (i : Institution) → IsTree i.offices
    → ((number parent : ℕ) (name : List ℕ) → p ≡ On_new_office number parent name → c.office ≡ 1)
    → carried_out c p (view c.office i) ≡ carried_out c p i
carried_out_view c (On_catalogue act) i t head = refl
carried_out_view c (On_office x act) i t head = ap (in_office x (act c) i.catalogue) (seen_office_view c.office x i)
carried_out_view c (On_all_seen read) i t head =
    ap (λ fs. of_reading (read i.catalogue fs)) (seen_twice c.office i.offices)
carried_out_view c (On_new_office number parent name) i t head =
    ap (add_office c.office number parent name) (seen_by_head c.office i.offices t (head number parent name refl))

-- only the head may add an office
pub head_alone : (n : Need) (role : Role) (o : ℕ) → n ≡ The_head → meets n role o ≡ true → o ≡ 1
head_alone A_teller role o e h = cc
head_alone An_officer role o e h = cc
head_alone A_manager role o e h = cc
head_alone The_head Teller o e h = cc
head_alone The_head Officer o e h = cc
head_alone The_head Manager o e h = grind (arith, nat_tests)

pub offices_need_the_head : (request : Request) (number parent : ℕ) (name : List ℕ) → plan request
    ≡ Ok (On_new_office number parent name) → need request ≡ The_head
offices_need_the_head (NewOffice a b c) number parent name h = refl
offices_need_the_head _ number parent name h = cc

cond_where : {A : Type 0} (b : Bool) (x y z : A) → (b ≡ true → x ≡ y) → cond b x z ≡ cond b y z
cond_where true x y z h = h refl
cond_where false x y z h = refl

permitted_view : (c : Caller) (request : Request) (p : Plan) (s : Option Staff) (i : Institution) → IsTree i.offices
    → plan request ≡ Ok p → where_permitted c request p s (view c.office i) ≡ where_permitted c request p s i
permitted_view c request p None i t e = refl
permitted_view c request p (Some staff) i t e =
    cond_where (meets (need request) staff.role c.office) (carried_out c p (view c.office i)) (carried_out c p i) _
    (λ m.
    carried_out_view c p i t (λ number parent name is. head_alone (need request) staff.role c.office
    (offices_need_the_head request number parent name (e ∙ ap Ok is)) m))

sent_by_view : (o : ℕ) (caller : Option Caller) (request : Request) (p : Result Plan Fault) (i : Institution)
    → IsTree i.offices → is_of o caller ≡ true → plan request ≡ p → sent_by caller request p (view o i)
    ≡ sent_by caller request p i
sent_by_view o caller request (Err f) i t own e = refl
sent_by_view o None request (Ok p) i t own e = refl
sent_by_view o (Some c) request (Ok p) i t own e =
    let is : c.office ≡ o = grind (arith, nat_tests) in
    ap (λ s. where_permitted c request p s (view o i)) (staff_at_view o i c is)
    ∙ subst (λ (x : ℕ). where_permitted c request p (staff_at i c) (view x i) ≡ where_permitted c request p
    (staff_at i c) i) is (permitted_view c request p (staff_at i c) i t e)

-- what a caller of office o is answered, and what the request changes, is read off o's view
pub outcome_view : (o : ℕ) (call : Call) (i : Institution) → IsTree i.offices → is_of o call.caller ≡ true
    → outcome call (view o i) ≡ outcome call i
outcome_view o call i t own = sent_by_view o call.caller call.request (plan call.request) i t own refl

-- writing
with_rows_seen : (p : ℕ → Bool) (x : ℕ) (r : Rows) (fs : List Office) (b : Bool) → p x ≡ b
    → with_rows x r (offices_where p fs) ≡ cond b (with_rows x r (offices_where p fs)) (offices_where p fs)
with_rows_seen p x r fs true e = refl
with_rows_seen p x r fs false e = with_rows_unseen p x r fs e

pub closed : (fs : List Office) (n : ℕ) → IsTree fs → is_there fs n ≡ false → (z p : ℕ) → parent_of fs z ≡ Some p
    → p ≢ n
closed fs n t h z p e is = let there : is_there fs p ≡ true = t.parents_there z p e in cc

pub apart : (fs : List Office) (x n : ℕ) → is_there fs x ≡ true → is_there fs n ≡ false → x ≢ n
apart fs x n a b e = cc

record_cond : (b : Bool) (i : Institution) (fs gs : List Office) → record i { offices = cond b fs gs }
    ≡ cond b (record i { offices = fs }) (record i { offices = gs })
record_cond true i fs gs = refl
record_cond false i fs gs = refl

pub view_after : (o : ℕ) (change : Change) (i : Institution) → IsTree i.offices → Fits change i.offices
    → view o (after change i) ≡ cond (touches o i change) (after change (view o i)) (view o i)
view_after o (Catalogue_becomes catalogue) i t fit = refl
view_after o (Rows_become x rows) i t fit =
    let fs = i.offices in
    let now : offices_where (λ z. is_at_or_below (parent_of (with_rows x rows fs)) z o) (with_rows x rows fs)
    ≡ offices_where (λ z. is_at_or_below (parent_of fs) z o) (with_rows x rows fs) =
    kept_agree (λ z. is_at_or_below (parent_of (with_rows x rows fs)) z o) (λ z. is_at_or_below (parent_of fs) z o)
    (with_rows x rows fs) (λ z there. below_with_rows x rows fs z o) in
    ap (λ gs. record (view o i) { offices = gs })
    (now ∙ kept_with_rows (λ z. is_at_or_below (parent_of fs) z o) x rows fs
    ∙ with_rows_seen (λ z. is_at_or_below (parent_of fs) z o) x rows fs
    (is_at_or_below (parent_of (with_rows x rows fs)) x o) (sym (below_with_rows x rows fs x o)))
    ∙ record_cond (is_at_or_below (parent_of (with_rows x rows fs)) x o) (view o i) (with_rows x rows (seen_by o fs))
    (seen_by o fs)
view_after o (Office_added number parent name) i t fit =
    let fs = i.offices in
    let new = new_office number parent name in
    let old : offices_where (λ z. is_at_or_below (parent_of (with_office new fs)) z o) fs ≡ seen_by o fs =
    kept_agree (λ z. is_at_or_below (parent_of (with_office new fs)) z o) (λ z. is_at_or_below (parent_of fs) z o)
    fs (λ z there. below_with_office new fs z o fit.free (closed fs number t fit.free)
    (apart fs z number there fit.free)) in
    ap (λ gs. record (view o i) { offices = gs })
    (kept_with_office (λ z. is_at_or_below (parent_of (with_office new fs)) z o) new fs t.ascending
    ∙ ap (λ gs. cond (is_at_or_below (parent_of (with_office new fs)) number o) (with_office new gs) gs) old)
    ∙ record_cond (is_at_or_below (parent_of (with_office new fs)) number o) (view o i) (with_office new (seen_by o fs))
    (seen_by o fs)

parents_there_after : (new : Office) (p : ℕ) (fs : List Office) → IsTree fs → is_there fs new.number ≡ false
    → new.parent ≡ Some p → is_there fs p ≡ true → (z q : ℕ) → parent_of (with_office new fs) z ≡ Some q
    → is_there (with_office new fs) q ≡ true
parents_there_after new p fs t h e there z q is =
    elim (new.number == z) as (λ b. cond b new.parent (parent_of fs z) ≡ Some q → is_there (with_office new fs) q
    ≡ true) [
      | true ↦ λ up. let same : p ≡ q = cc in let q_there : is_there fs q ≡ true =
          subst (λ (x : ℕ). is_there fs x ≡ true) same there in stays q q_there
      | false ↦ λ up. stays q (t.parents_there z q up)
    ] (sym (parent_of_with_office new fs z h) ∙ is)
  where
    stays : (x : ℕ) → is_there fs x ≡ true → is_there (with_office new fs) x ≡ true
    stays x a = is_there_with_office new fs x h ∙ ap (cond (new.number == x) true) a ∙ either (new.number == x)
      where
        either : (b : Bool) → cond b true true ≡ true
        either true = refl
        either false = refl

all_below_after : (new : Office) (p : ℕ) (fs : List Office) → IsTree fs → is_there fs new.number ≡ false
    → new.parent ≡ Some p → is_there fs p ≡ true → is_within 4 (parent_of fs) p 1 ≡ true → (x : ℕ) (b : Bool)
    → (new.number == x) ≡ b → is_there (with_office new fs) x ≡ true → is_at_or_below (parent_of (with_office new fs)) x
    1 ≡ true
all_below_after new p fs t h e there within x true is a =
    let same : new.number ≡ x = grind (arith, nat_tests) in
    subst (λ (z : ℕ). is_at_or_below (parent_of (with_office new fs)) z 1 ≡ true) same
    (new_below new p fs 1 h (closed fs new.number t h) e (apart fs p new.number there h) within)
all_below_after new p fs t h e there within x false is a =
    let ne : x ≢ new.number = grind (arith, nat_tests) in
    below_with_office new fs x 1 h (closed fs new.number t h) ne
    ∙ t.all_below x (ap (λ b. cond b true (is_there fs x)) (sym is) ∙ sym (is_there_with_office new fs x h) ∙ a)

-- the tree stays one
pub IsTree_after : (change : Change) (i : Institution) → IsTree i.offices → Fits change i.offices
    → IsTree (after change i).offices
IsTree_after (Catalogue_becomes catalogue) i t fit = t
IsTree_after (Rows_become x rows) i t fit =
    let fs = i.offices in
    record {
      ascending = Ascending_with_rows x rows fs t.ascending;
      head = parent_of_with_rows x rows fs 1 ∙ t.head;
      head_there = is_there_with_rows x rows fs 1 ∙ t.head_there;
      parents_there =
          λ z p e. is_there_with_rows x rows fs p ∙ t.parents_there z p (sym (parent_of_with_rows x rows fs z) ∙ e);
      all_below = λ z there. below_with_rows x rows fs z 1 ∙ t.all_below z (sym (is_there_with_rows x rows fs z)
          ∙ there);
    }
IsTree_after (Office_added number parent name) i t fit =
    let fs = i.offices in
    let new = new_office number parent name in
    let ne : 1 ≢ number = apart fs 1 number t.head_there fit.free in
    let head_after : parent_of (with_office new fs) 1 ≡ None =
    grind (arith, nat_tests, parent_of_with_office new fs 1 fit.free, t.head) in
    record {
      ascending = Ascending_with_office new fs fit.free t.ascending;
      head = head_after;
      head_there = grind (arith, nat_tests, is_there_with_office new fs 1 fit.free, t.head_there);
      parents_there = parents_there_after new parent fs t fit.free refl fit.parent_there;
      all_below = λ x. all_below_after new parent fs t fit.free refl fit.parent_there fit.room x (number == x) refl;
    }
