-- The receipts of an office, when its loans change.
use Rattle.std.proofs.Common.{◌≡◌, ◌≢◌, ℕ, zero, suc, ◌+◌, ◌-◌, Bool, true, false, cond, List, [], ◌∷◌, ◌++◌, Option}
use Rattle.std.proofs.Common.{Some, None, inl, inr, refl, sym, ap, ◌∙◌, subst, append_assoc}
use Rattle.std.specs.Prelude.{◌⊎◌, ◌==◌}
use Rattle.std.specs.List.{AllByRecursion}
use Rattle.std.specs.Str.{bytes_eq}
use Rattle.std.proofs.lemmas.List.{append-nil}
use Rattle.std.proofs.lemmas.Slice.Eq.{bytes_eq-Decides}
use Rattle.mf_account.specs.declared.entry.Entry.{Entry}
use Rattle.mf_account.specs.Standing.{with_mark}
use Rattle.mf_model.specs.declared.loan.Loan.{Loan}
use Rattle.mf_model.specs.Institution.{Ledger, with_numbered}
use Rattle.mf_model.specs.Receipts.{Use, use_by, use_of, uses_in, uses_from, first_use, used_before, AreApart}
use Rattle.mf_model.specs.Loans.{with_new_entry}

-- a change that leaves the receipts of each loan leaves those of all
pub uses_with : (n m : ℕ) (change : Ledger → Ledger) (ls : List Ledger) → ((l : Ledger) (k : ℕ)
    → uses_in k (change l).entries ≡ uses_in k l.entries) → uses_from m (with_numbered n change ls) ≡ uses_from m ls
uses_with n m change [] same = refl
uses_with n m change (l ∷ ls) same = either (n == 1) (uses_with (n - 1) (m + 1) change ls same)
  where
    either : (b : Bool) → uses_from (m + 1) (with_numbered (n - 1) change ls) ≡ uses_from (m + 1) ls
        → uses_from m (cond b (change l ∷ ls) (l ∷ with_numbered (n - 1) change ls)) ≡ uses_from m (l ∷ ls)
    either true rest = ap (λ us. us ++ uses_from (m + 1) ls) (same l m)
    either false rest = ap (λ us. uses_in m l.entries ++ us) rest

-- a reversed entry carries its receipt still
use_marked : (receipt : Option (List ℕ)) (m : ℕ) (e : Entry) → use_of receipt m (record e { reversed = true })
    ≡ use_of receipt m e
use_marked None m e = refl
use_marked (Some r) m e = refl

pub uses_marked : (m at : ℕ) (es : List Entry) → uses_in m (with_mark es at true) ≡ uses_in m es
uses_marked m at [] = refl
uses_marked m zero (e ∷ es) = ap (λ us. us ++ uses_in m es) (use_marked e.receipt m e)
uses_marked m (suc at) (e ∷ es) = ap (λ us. use_of e.receipt m e ++ us) (uses_marked m at es)

-- a new loan has none
pub uses_push : (m : ℕ) (loan : Loan) (ls : List Ledger) → uses_from m (ls ++ record { loan = loan; entries = [] } ∷ [])
    ≡ uses_from m ls
uses_push m loan [] = refl
uses_push m loan (l ∷ ls) = ap (λ us. uses_in m l.entries ++ us) (uses_push (m + 1) loan ls)

pub uses_in_push : (m : ℕ) (e : Entry) (es : List Entry) → uses_in m (es ++ e ∷ []) ≡ uses_in m es
    ++ use_of e.receipt m e
uses_in_push m e [] = append-nil (use_of e.receipt m e)
uses_in_push m e (x ∷ es) = ap (λ us. use_of x.receipt m x ++ us) (uses_in_push m e es)
    ∙ sym (append_assoc (use_of x.receipt m x) (uses_in m es) (use_of e.receipt m e))

-- a list with more put into it
pub record IsPut (old new more : List Use) : Type 0 where
  pub before : List Use
  pub after : List Use
  pub old_is : old ≡ before ++ after
  pub new_is : new ≡ before ++ (more ++ after)

-- the receipt of the entry, or none where there is no such loan
pub record IsEntered (e : Entry) (old new : List Use) : Type 0 where
  pub number : ℕ
  pub more : List Use
  pub put : IsPut old new more
  pub more_is : (more ≡ []) ⊎ (more ≡ use_of e.receipt number e)

pub uses_entered : (n m : ℕ) (e : Entry) (ls : List Ledger) → IsEntered e (uses_from m ls)
    (uses_from m (with_numbered n (with_new_entry e) ls))
uses_entered n m e [] = record {
  number = m;
  more = [];
  put = record { before = []; after = []; old_is = refl; new_is = refl };
  more_is = inl refl;
}
uses_entered n m e (l ∷ ls) = either (n == 1) (uses_entered (n - 1) (m + 1) e ls)
  where
    either : (b : Bool) → IsEntered e (uses_from (m + 1) ls)
        (uses_from (m + 1) (with_numbered (n - 1) (with_new_entry e) ls)) → IsEntered e (uses_from m (l ∷ ls))
        (uses_from m (cond b (with_new_entry e l ∷ ls) (l ∷ with_numbered (n - 1) (with_new_entry e) ls)))
    either true rest = record {
      number = m;
      more = use_of e.receipt m e;
      put = record {
        before = uses_in m l.entries;
        after = uses_from (m + 1) ls;
        old_is = refl;
        new_is = ap (λ us. us ++ uses_from (m + 1) ls) (uses_in_push m e l.entries) ∙ append_assoc (uses_in m l.entries)
            (use_of e.receipt m e) (uses_from (m + 1) ls);
      };
      more_is = inr refl;
    }
    either false rest = record {
      number = rest.number;
      more = rest.more;
      put = record {
        before = uses_in m l.entries ++ rest.put.before;
        after = rest.put.after;
        old_is = ap (λ us. uses_in m l.entries ++ us) rest.put.old_is
            ∙ sym (append_assoc (uses_in m l.entries) rest.put.before rest.put.after);
        new_is = ap (λ us. uses_in m l.entries ++ us) rest.put.new_is
            ∙ sym (append_assoc (uses_in m l.entries) rest.put.before (rest.more ++ rest.put.after));
      };
      more_is = rest.more_is;
    }

-- a receipt that was not used stands apart
not_this : (r : List ℕ) (v : Use) (rest : List Use) → first_use r (v ∷ rest) ≡ None → (v.receipt ≢ r)
    × (first_use r rest ≡ None)
not_this r v rest h = either (bytes_eq v.receipt r) refl h
  where
    either : (b : Bool) → bytes_eq v.receipt r ≡ b → cond b (Some v) (first_use r rest) ≡ None → (v.receipt ≢ r)
        × (first_use r rest ≡ None)
    either true e h = absurd (cc)
    either false e h = (λ same. let yes = (bytes_eq-Decides v.receipt r).1 same in cc, h)

apart_all : (u : Use) (us : List Use) → first_use u.receipt us ≡ None → AllByRecursion (λ (v : Use). u.receipt
    ≢ v.receipt) us
apart_all u [] h = tt
apart_all u (v ∷ us) h = let n = not_this u.receipt v us h in (λ same. n.0 (sym same), apart_all u us n.1)

all_put : (P : Use → Type 0) (xs ys : List Use) (u : Use) → AllByRecursion P (xs ++ ys) → P u
    → AllByRecursion P (xs ++ u ∷ ys)
all_put P [] ys u a p = (p, a)
all_put P (x ∷ xs) ys u a p = (a.0, all_put P xs ys u a.1 p)

apart_put : (xs ys : List Use) (u : Use) → first_use u.receipt (xs ++ ys) ≡ None → AreApart (xs ++ ys)
    → AreApart (xs ++ u ∷ ys)
apart_put [] ys u h a = (apart_all u ys h, a)
apart_put (x ∷ xs) ys u h a =
    let n = not_this u.receipt x (xs ++ ys) h in
    (all_put (λ (v : Use). x.receipt ≢ v.receipt) xs ys u a.0 n.0, apart_put xs ys u n.1 a.1)

apart_more : (receipt : Option (List ℕ)) (loan : ℕ) (e : Entry) (xs ys : List Use) → used_before receipt (xs ++ ys)
    ≡ None → AreApart (xs ++ ys) → AreApart (xs ++ (use_of receipt loan e ++ ys))
apart_more None loan e xs ys h a = a
apart_more (Some r) loan e xs ys h a = apart_put xs ys (record { receipt = r; by = use_by loan e }) h a

pub apart_entered : (n : ℕ) (e : Entry) (ls : List Ledger) → used_before e.receipt (uses_from 1 ls) ≡ None
    → AreApart (uses_from 1 ls) → AreApart (uses_from 1 (with_numbered n (with_new_entry e) ls))
apart_entered n e ls h a =
    let s = uses_entered n 1 e ls in
    let xs = s.put.before in
    let ys = s.put.after in
    let free : used_before e.receipt (xs ++ ys) ≡ None = ap (used_before e.receipt) (sym s.put.old_is) ∙ h in
    let apart : AreApart (xs ++ ys) = subst AreApart s.put.old_is a in
    subst AreApart (sym s.put.new_is) (
    elim s.more_is [
      | inl is ↦ subst (λ us. AreApart (xs ++ (us ++ ys))) (sym is) apart
      | inr is ↦ subst (λ us. AreApart (xs ++ (us ++ ys))) (sym is) (apart_more e.receipt s.number e xs ys free apart)
    ]
    )

-- a receipt that is known stays known
pub record KnownStay (old new : List Use) : Type 0 where
  pub stays : (r : List ℕ) (u : Use) → first_use r old ≡ Some u → first_use r new ≡ Some u

put_keeps : (xs ys : List Use) (v : Use) (r : List ℕ) (u : Use) → first_use v.receipt (xs ++ ys) ≡ None
    → first_use r (xs ++ ys) ≡ Some u → first_use r (xs ++ v ∷ ys) ≡ Some u
put_keeps [] ys v r u free h = either (bytes_eq v.receipt r) refl
  where
    either : (b : Bool) → bytes_eq v.receipt r ≡ b → cond b (Some v) (first_use r ys) ≡ Some u
    either true e = absurd (let same : v.receipt ≡ r = (bytes_eq-Decides v.receipt r).0 e in let none : first_use r ys
        ≡ None = ap (λ t. first_use t ys) (sym same) ∙ free in cc)
    either false e = h
put_keeps (x ∷ xs) ys v r u free h =
    either (bytes_eq x.receipt r) h (put_keeps xs ys v r u (not_this v.receipt x (xs ++ ys) free).1)
  where
    either : (b : Bool) → cond b (Some x) (first_use r (xs ++ ys)) ≡ Some u → (first_use r (xs ++ ys) ≡ Some u
        → first_use r (xs ++ v ∷ ys) ≡ Some u) → cond b (Some x) (first_use r (xs ++ v ∷ ys)) ≡ Some u
    either true h rest = h
    either false h rest = rest h

more_keeps : (receipt : Option (List ℕ)) (loan : ℕ) (e : Entry) (xs ys : List Use) (r : List ℕ) (u : Use)
    → used_before receipt (xs ++ ys) ≡ None → first_use r (xs ++ ys) ≡ Some u
    → first_use r (xs ++ (use_of receipt loan e ++ ys)) ≡ Some u
more_keeps None loan e xs ys r u free h = h
more_keeps (Some t) loan e xs ys r u free h = put_keeps xs ys (record { receipt = t; by = use_by loan e }) r u free h

pub known_entered : (n : ℕ) (e : Entry) (ls : List Ledger) → used_before e.receipt (uses_from 1 ls) ≡ None
    → KnownStay (uses_from 1 ls) (uses_from 1 (with_numbered n (with_new_entry e) ls))
known_entered n e ls free = record {
  stays = λ r u h.
      let s = uses_entered n 1 e ls in
      let xs = s.put.before in
      let ys = s.put.after in
      let none : used_before e.receipt (xs ++ ys) ≡ None = ap (used_before e.receipt) (sym s.put.old_is) ∙ free in
      let was : first_use r (xs ++ ys) ≡ Some u = ap (first_use r) (sym s.put.old_is) ∙ h in
      ap (first_use r) s.put.new_is ∙ (
      elim s.more_is [
        | inl is ↦ ap (λ us. first_use r (xs ++ (us ++ ys))) is ∙ was
        | inr is ↦ ap (λ us. first_use r (xs ++ (us ++ ys))) is ∙ more_keeps e.receipt s.number e xs ys r u none was
      ]
      );
}

pub known_same : (old new : List Use) → new ≡ old → KnownStay old new
known_same old new e = record { stays = λ r u h. ap (first_use r) e ∙ h }
