-- Lists of which nothing is gone.
use Rattle.std.proofs.Common.{◌≡◌, ℕ, zero, suc, ◌-◌, Bool, true, false, cond, List, [], ◌∷◌, ◌++◌, Some}
use Rattle.std.proofs.Common.{refl, ap, ◌∙◌, arith}
use Rattle.std.specs.Prelude.{◌==◌, slice_get}
use Rattle.mf_account.specs.declared.entry.Entry.{Entry}
use Rattle.mf_account.specs.Standing.{with_mark}
use Rattle.mf_model.specs.declared.loan.Loan.{Loan}
use Rattle.mf_model.specs.Institution.{Institution, Catalogue, ListedProduct, Ledger, Rows, Office}
use Rattle.mf_model.specs.Institution.{with_numbered}
use Rattle.mf_guarantees.specs.Kept.{Remain, IsSame, IsSameEntry, IsSameLoan, IsSameProduct, RowsRemain, OfficeRemains}
use Rattle.mf_guarantees.specs.Kept.{CatalogueRemains, AllRemains}

-- the same list, one thing more, and one after the other
pub remain_self : {A : Type 0} (R : A → A → Type 0) → ((x : A) → R x x) → (xs : List A) → Remain R xs xs
remain_self R same xs = λ i x h. (x, h, same x)

push_at : {A : Type 0} (xs : List A) (y : A) (i : ℕ) (x : A) → slice_get xs i ≡ Some x
    → slice_get (xs ++ y ∷ []) i ≡ Some x
push_at [] y i x h = absurd (cc)
push_at (z ∷ zs) y zero x h = h
push_at (z ∷ zs) y (suc i) x h = push_at zs y i x h

pub remain_push : {A : Type 0} (R : A → A → Type 0) → ((x : A) → R x x) → (xs : List A) (y : A)
    → Remain R xs (xs ++ y ∷ [])
remain_push R same xs y = λ i x h. (x, push_at xs y i x h, same x)

pub remain_then : {A : Type 0} (R : A → A → Type 0) → ((x y z : A) → R x y → R y z → R x z) → (xs ys zs : List A)
    → Remain R xs ys → Remain R ys zs → Remain R xs zs
remain_then R chain xs ys zs first next = λ i x h.
    let y = first i x h in
    let z = next i y.0 y.1 in
    (z.0, z.1, chain x y.0 z.0 y.2 z.2)

-- one thing is changed
numbered_at : {A : Type 0} (R : A → A → Type 0) → ((x : A) → R x x) → (n : ℕ) (change : A → A)
    → ((x : A) → R x (change x))
    → (xs : List A) (i : ℕ) (x : A) → slice_get xs i ≡ Some x
    → (y : A) × (slice_get (with_numbered n change xs) i ≡ Some y) × R x y
numbered_at R same n change becomes [] i x h = absurd (cc)
numbered_at R same n change becomes (y ∷ ys) i x h =
    step (n == 1) i h (λ j. numbered_at R same (n - 1) change becomes ys j x)
  where
    step : (b : Bool) (i : ℕ) → slice_get (y ∷ ys) i ≡ Some x
        → ((j : ℕ) → slice_get ys j ≡ Some x
        → (z : _) × (slice_get (with_numbered (n - 1) change ys) j ≡ Some z) × R x z)
        → (z : _) × (slice_get (cond b (change y ∷ ys) (y ∷ with_numbered (n - 1) change ys)) i ≡ Some z) × R x z
    step true zero h rest = let is : y ≡ x = cc in (change x, ap (λ z. Some (change z)) is, becomes x)
    step true (suc i) h rest = (x, h, same x)
    step false zero h rest = (x, h, same x)
    step false (suc i) h rest = rest i h

pub remain_numbered : {A : Type 0} (R : A → A → Type 0) → ((x : A) → R x x) → (n : ℕ) (change : A → A)
    → ((x : A) → R x (change x)) → (xs : List A) → Remain R xs (with_numbered n change xs)
remain_numbered R same n change becomes xs = numbered_at R same n change becomes xs

-- entries
pub same_entry : (e : Entry) → IsSameEntry e e
same_entry e = record { members = refl; reversal = λ h. h }

then_entry : (a b c : Entry) → IsSameEntry a b → IsSameEntry b c → IsSameEntry a c
then_entry a b c first next = record {
  members = ap (λ (x : Entry). record x { reversed = c.reversed }) first.members ∙ next.members;
  reversal = λ h. next.reversal (first.reversal h);
}

mark_at : (es : List Entry) (i j : ℕ) (x : Entry) → slice_get es j ≡ Some x
    → (y : Entry) × (slice_get (with_mark es i true) j ≡ Some y) × IsSameEntry x y
mark_at [] i j x h = absurd (cc)
mark_at (e ∷ es) zero zero x h = let is : e ≡ x = cc in (
  record x { reversed = true },
  ap (λ (z : Entry). Some (record z { reversed = true })) is,
  record { members = refl; reversal = λ h. refl },
)
mark_at (e ∷ es) zero (suc j) x h = (x, h, same_entry x)
mark_at (e ∷ es) (suc i) zero x h = (x, h, same_entry x)
mark_at (e ∷ es) (suc i) (suc j) x h = mark_at es i j x h

pub entries_marked : (es : List Entry) (i : ℕ) → Remain IsSameEntry es (with_mark es i true)
entries_marked es i = mark_at es i

-- loans
pub same_loan : (l : Ledger) → IsSameLoan l l
same_loan l = record { members = refl; entries = remain_self IsSameEntry same_entry l.entries }

then_loan : (a b c : Ledger) → IsSameLoan a b → IsSameLoan b c → IsSameLoan a c
then_loan a b c first next = record {
  members = ap (λ (x : Loan). record x { stage = c.loan.stage }) first.members ∙ next.members;
  entries = remain_then IsSameEntry then_entry a.entries b.entries c.entries first.entries next.entries;
}

-- products
pub same_product : (p : ListedProduct) → IsSameProduct p p
same_product p = record { members = refl; retirement = λ h. h }

then_product : (a b c : ListedProduct) → IsSameProduct a b → IsSameProduct b c → IsSameProduct a c
then_product a b c first next = record {
  members = ap (λ (x : ListedProduct). record x { retired = c.retired }) first.members ∙ next.members;
  retirement = λ h. next.retirement (first.retirement h);
}

-- rows, offices, the catalogue and all
then_same : {A : Type 0} (x y z : A) → IsSame x y → IsSame y z → IsSame x z
then_same x y z first next = first ∙ next

pub rows_self : (rows : Rows) → RowsRemain rows rows
rows_self rows = record {
  staff = remain_self IsSame (λ x. refl) rows.staff;
  clients = remain_self IsSame (λ x. refl) rows.clients;
  loans = remain_self IsSameLoan same_loan rows.loans;
}

rows_then : (a b c : Rows) → RowsRemain a b → RowsRemain b c → RowsRemain a c
rows_then a b c first next = record {
  staff = remain_then IsSame then_same a.staff b.staff c.staff first.staff next.staff;
  clients = remain_then IsSame then_same a.clients b.clients c.clients first.clients next.clients;
  loans = remain_then IsSameLoan then_loan a.loans b.loans c.loans first.loans next.loans;
}

pub office_self : (f : Office) → OfficeRemains f f
office_self f = record { number = refl; parent = refl; name = refl; rows = rows_self f.rows }

office_then : (f g h : Office) → OfficeRemains f g → OfficeRemains g h → OfficeRemains f h
office_then f g h first next = record {
  number = first.number ∙ next.number;
  parent = first.parent ∙ next.parent;
  name = first.name ∙ next.name;
  rows = rows_then f.rows g.rows h.rows first.rows next.rows;
}

pub catalogue_self : (k : Catalogue) → CatalogueRemains k k
catalogue_self k = record {
  day = omega arith;
  charges = remain_self IsSame (λ x. refl) k.charges;
  products = remain_self IsSameProduct same_product k.products;
}

catalogue_then : (k l m : Catalogue) → CatalogueRemains k l → CatalogueRemains l m → CatalogueRemains k m
catalogue_then k l m first next = record {
  day = let a = first.day in let b = next.day in omega (arith, a, b);
  charges = remain_then IsSame then_same k.charges l.charges m.charges first.charges next.charges;
  products = remain_then IsSameProduct then_product k.products l.products m.products first.products next.products;
}

pub all_self : (i : Institution) → AllRemains i i
all_self i = record { catalogue = catalogue_self i.catalogue; offices = λ x f h. (f, h, office_self f) }

pub all_then : (i j k : Institution) → AllRemains i j → AllRemains j k → AllRemains i k
all_then i j k first next = record {
  catalogue = catalogue_then i.catalogue j.catalogue k.catalogue first.catalogue next.catalogue;
  offices = λ x f h.
      let g = first.offices x f h in
      let l = next.offices x g.0 g.1 in
      (l.0, l.1, office_then f g.0 l.0 g.2 l.2);
}
