-- What stays true of charges, products and loans when the catalogue or a list of rows grows.
use Rattle.std.proofs.Common.{◌≡◌, ℕ, zero, suc, ◌-◌, ◌≤◌, Bool, true, false, cond, List, [], ◌∷◌, ◌++◌, length, Option}
use Rattle.std.proofs.Common.{Some, None, refl, sym, ap, ◌∙◌, subst, arith, length-append}
use Rattle.std.specs.Prelude.{◌&&◌, ◌==◌, nat_lt, is_some, option_map, slice_get}
use Rattle.std.specs.List.{AllByRecursion}
use Rattle.std.proofs.lemmas.Bool.Decides.{nat_tests}
use Rattle.mf_catalog.specs.declared.charge.ChargeDef.{ChargeDef}
use Rattle.mf_catalog.specs.declared.charge.ChargeKind.{ChargeKind}
use Rattle.mf_catalog.specs.declared.charge.ChargeKind.TheVariants.{Disbursement, Instalment, Overdue}
use Rattle.mf_catalog.specs.declared.product.Product.{Product}
use Rattle.mf_catalog.specs.declared.product.ProductMembers.{ProductMembers}
use Rattle.mf_catalog.specs.Product.{has_kind, is_of_kind, kinds_right, limits_agree, is_consistent, allows, charge_of}
use Rattle.mf_catalog.specs.Product.{terms_of}
use Rattle.mf_catalog.specs.declared.terms.Terms.{Terms}
use Rattle.mf_account.specs.declared.entry.Entry.{Entry}
use Rattle.mf_office.specs.declared.caller.Caller.{Caller}
use Rattle.mf_model.specs.declared.loan.Stage.{Stage}
use Rattle.mf_model.specs.declared.loan.Stage.TheVariants.{Submitted, Approved, Disbursed, Withdrawn, Rejected}
use Rattle.mf_model.specs.Stages.{disbursed_on}
use Rattle.mf_model.specs.Accounts.{terms_in}
use Rattle.mf_model.specs.Institution.{Catalogue, ListedCharge, ListedProduct, Office, Rows, Ledger, item_numbered}
use Rattle.mf_model.specs.Institution.{with_numbered}
use Rattle.mf_model.specs.Institution.{charge_def, product_of, charge_in, product_in}
use Rattle.mf_model.specs.Sound.{IsSoundLoan, IsStageBy, IsEntryBy, AreEntriesBy, IsSoundRows, IsSoundOffice}
use Rattle.mf_model.specs.Sound.{IsSoundOffer, lends}

pub all_push : {X : Type 0} (P : X → Type 0) (xs : List X) (y : X) → AllByRecursion P xs → P y
    → AllByRecursion P (xs ++ y ∷ [])
all_push P [] y a p = (p, tt)
all_push P (x ∷ xs) y a p = (a.0, all_push P xs y a.1 p)

pub all_map : {X : Type 0} (P Q : X → Type 0) (xs : List X) → ((x : X) → P x → Q x) → AllByRecursion P xs
    → AllByRecursion Q xs
all_map P Q [] f a = tt
all_map P Q (x ∷ xs) f a = (f x a.0, all_map P Q xs f a.1)

pub all_with : {X : Type 0} (P : X → Type 0) (n : ℕ) (change : X → X) (xs : List X) → ((x : X) → P x → P (change x))
    → AllByRecursion P xs → AllByRecursion P (with_numbered n change xs)
all_with P n change [] f a = tt
all_with P n change (x ∷ xs) f a = either (n == 1) (all_with P (n - 1) change xs f a.1)
  where
    either : (b : Bool) → AllByRecursion P (with_numbered (n - 1) change xs)
        → AllByRecursion P (cond b (change x ∷ xs) (x ∷ with_numbered (n - 1) change xs))
    either true rest = (f x a.0, a.1)
    either false rest = (a.0, rest)

pub length_push : {X : Type 0} (xs : List X) (y : X) (limit : ℕ) → nat_lt (length xs) limit ≡ true
    → length (xs ++ y ∷ []) ≤ limit
length_push xs y limit h = grind (arith, nat_tests, length-append xs (y ∷ []))

pub length_with : {X : Type 0} (n : ℕ) (change : X → X) (xs : List X) → length (with_numbered n change xs) ≡ length xs
length_with n change [] = refl
length_with n change (x ∷ xs) = either (n == 1) (length_with (n - 1) change xs)
  where
    either : (b : Bool) → length (with_numbered (n - 1) change xs) ≡ length xs
        → length (cond b (change x ∷ xs) (x ∷ with_numbered (n - 1) change xs)) ≡ suc (length xs)
    either true rest = refl
    either false rest = ap suc rest

-- a thing keeps its number when another is added at the end
slice_push : {X : Type 0} (xs : List X) (y : X) (i : ℕ) (x : X) → slice_get xs i ≡ Some x → slice_get (xs ++ y ∷ []) i
    ≡ Some x
slice_push [] y i x h = absurd (cc)
slice_push (z ∷ xs) y zero x h = h
slice_push (z ∷ xs) y (suc i) x h = slice_push xs y i x h

pub numbered_push : {X : Type 0} (xs : List X) (y : X) (n : ℕ) (x : X) → item_numbered xs n ≡ Some x
    → item_numbered (xs ++ y ∷ []) n ≡ Some x
numbered_push xs y n x h = either (n == 0) h
  where
    either : (b : Bool) → cond b None (slice_get xs (n - 1)) ≡ Some x → cond b None (slice_get (xs ++ y ∷ []) (n - 1))
        ≡ Some x
    either true h = absurd (cc)
    either false h = slice_push xs y (n - 1) x h

pub there_push : {X : Type 0} (xs : List X) (y : X) (n : ℕ) → is_some (item_numbered xs n) ≡ true
    → is_some (item_numbered (xs ++ y ∷ []) n) ≡ true
there_push {X = X} xs y n h = found (item_numbered xs n) refl h
  where
    found : (o : Option X) → item_numbered xs n ≡ o → is_some o ≡ true → is_some (item_numbered (xs ++ y ∷ []) n) ≡ true
    found None e h = absurd (cc)
    found (Some x) e h = ap is_some (numbered_push xs y n x e)

-- what a change of one thing leaves of each
slice_with : {X Y : Type 0} (g : X → Y) (n : ℕ) (change : X → X) (xs : List X) → ((x : X) → g (change x) ≡ g x)
    → (i : ℕ) → option_map g (slice_get (with_numbered n change xs) i) ≡ option_map g (slice_get xs i)
slice_with g n change [] same i = refl
slice_with g n change (x ∷ xs) same i = either (n == 1) i (slice_with g (n - 1) change xs same)
  where
    either : (b : Bool) (i : ℕ) → ((j : ℕ) → option_map g (slice_get (with_numbered (n - 1) change xs) j)
        ≡ option_map g (slice_get xs j))
        → option_map g (slice_get (cond b (change x ∷ xs) (x ∷ with_numbered (n - 1) change xs)) i)
        ≡ option_map g (slice_get (x ∷ xs) i)
    either true zero rest = ap Some (same x)
    either true (suc i) rest = refl
    either false zero rest = refl
    either false (suc i) rest = rest i

pub numbered_with : {X Y : Type 0} (g : X → Y) (n : ℕ) (change : X → X) (xs : List X) → ((x : X) → g (change x) ≡ g x)
    → (m : ℕ) → option_map g (item_numbered (with_numbered n change xs) m) ≡ option_map g (item_numbered xs m)
numbered_with g n change xs same m = either (m == 0)
  where
    either : (b : Bool) → option_map g (cond b None (slice_get (with_numbered n change xs) (m - 1)))
        ≡ option_map g (cond b None (slice_get xs (m - 1)))
    either true = refl
    either false = slice_with g n change xs same (m - 1)

-- products stay consistent when charges are added
pub and_left : (a b : Bool) → (a && b) ≡ true → a ≡ true
and_left true b h = refl
and_left false b h = absurd (cc)

pub and_right : (a b : Bool) → (a && b) ≡ true → b ≡ true
and_right true b h = h
and_right false b h = absurd (cc)

and_both : (a b : Bool) → a ≡ true → b ≡ true → (a && b) ≡ true
and_both true b h k = k
and_both false b h k = absurd (cc)

kind_grows : (a b : ℕ → Option ChargeDef) (kind : ChargeKind) (named : Option ℕ) → ((n : ℕ) (c : ChargeDef)
    → a n ≡ Some c → b n ≡ Some c) → is_of_kind a kind named ≡ true → is_of_kind b kind named ≡ true
kind_grows a b kind None grows h = refl
kind_grows a b kind (Some n) grows h = found (a n) refl h
  where
    found : (o : Option ChargeDef) → a n ≡ o → has_kind kind o ≡ true → has_kind kind (b n) ≡ true
    found None e h = absurd (cc)
    found (Some c) e h = ap (has_kind kind) (grows n c e) ∙ h

pub consistent_grows : (a b : ℕ → Option ChargeDef) (p : ProductMembers) → ((n : ℕ) (c : ChargeDef) → a n ≡ Some c
    → b n ≡ Some c) → is_consistent a p ≡ true → is_consistent b p ≡ true
consistent_grows a b p grows h =
    let kinds : kinds_right a p ≡ true = and_right (limits_agree p) (kinds_right a p) h in
    let later = and_right (is_of_kind a Disbursement p.disbursement_charge) _ kinds in
    and_both (limits_agree p) (kinds_right b p) (and_left (limits_agree p) (kinds_right a p) h)
    (and_both _ _ (kind_grows a b Disbursement p.disbursement_charge grows
    (and_left (is_of_kind a Disbursement p.disbursement_charge) _ kinds))
    (and_both _ _ (kind_grows a b Instalment p.instalment_charge grows
    (and_left (is_of_kind a Instalment p.instalment_charge) _ later))
    (kind_grows a b Overdue p.overdue_charge grows (and_right (is_of_kind a Instalment p.instalment_charge) _ later))))

-- a charge keeps its number when another is added
pub charge_stays : (charges : List ListedCharge) (c : ListedCharge) (n : ℕ) (d : ChargeDef) → option_map (charge_def n)
    (item_numbered charges n) ≡ Some d → option_map (charge_def n) (item_numbered (charges ++ c ∷ []) n) ≡ Some d
charge_stays charges c n d h = found (item_numbered charges n) refl h
  where
    found : (o : Option ListedCharge) → item_numbered charges n ≡ o → option_map (charge_def n) o ≡ Some d
        → option_map (charge_def n) (item_numbered (charges ++ c ∷ []) n) ≡ Some d
    found None e h = absurd (cc)
    found (Some x) e h = ap (option_map (charge_def n)) (numbered_push charges c n x e) ∙ h

-- the day is no earlier, what was lent may still stand, and each product gives the terms that it gave
pub record Grows (k l : Catalogue) : Type 0 where
  pub day : k.day ≤ l.day
  pub products : (n principal periods : ℕ) → lends (product_in k n) principal periods ≡ true
      → lends (product_in l n) principal periods ≡ true
  pub terms : (n : ℕ) (t : Terms) → terms_in k n ≡ Some t → terms_in l n ≡ Some t

pub grows_self : (k : Catalogue) → Grows k k
grows_self k = record { day = omega arith; products = λ n principal periods h. h; terms = λ n t h. h }

-- whoever was there is there
abbrev pub StaffGrows : (Caller → Bool) → (Caller → Bool) → Type 0
StaffGrows s t = (c : Caller) → s c ≡ true → t c ≡ true

stage_grows : (a b : ℕ) (s : Stage) → a ≤ b → IsStageBy a s → IsStageBy b s
stage_grows a b Submitted h s = tt
stage_grows a b (Approved day) h s = omega arith
stage_grows a b (Disbursed approved day) h s = let late = s.1 in (s.0, omega (arith, late, h))
stage_grows a b Withdrawn h s = tt
stage_grows a b Rejected h s = tt

entry_grows : (a b : ℕ) (s t : Caller → Bool) (e : Entry) → a ≤ b → StaffGrows s t → IsEntryBy a s e → IsEntryBy b t e
entry_grows a b s t e h g i = let late = i.day in record {
  day = omega (arith, late, h);
  staff = g e.staff i.staff;
  receipt = i.receipt;
}

entries_grow : (a b : ℕ) (s t : Caller → Bool) (periods : ℕ) (day : Option ℕ) (es : List Entry) → a ≤ b → StaffGrows s t
    → AreEntriesBy a s periods day es → AreEntriesBy b t periods day es
entries_grow a b s t periods None es h g i = i
entries_grow a b s t periods (Some day) es h g i = record {
  lawful = i.lawful;
  each = all_map (IsEntryBy a s)
      (IsEntryBy b t) es (λ e. entry_grows a b s t e h g) i.each;
}

loan_grows : (k l : Catalogue) (s t : Caller → Bool) (clients : List (List ℕ)) (x : Ledger) → Grows k l → StaffGrows s t
    → IsSoundLoan k s clients x → IsSoundLoan l t clients x
loan_grows k l s t clients x g w i = record {
  client = i.client;
  product = g.products x.loan.product x.loan.principal x.loan.periods i.product;
  stage = stage_grows k.day l.day x.loan.stage g.day i.stage;
  entries = entries_grow k.day l.day s t x.loan.periods (disbursed_on x.loan.stage) x.entries g.day w i.entries;
}

pub rows_grow : (k l : Catalogue) (s t : Caller → Bool) (rows : Rows) → Grows k l → StaffGrows s t
    → IsSoundRows k s rows → IsSoundRows l t rows
rows_grow k l s t rows g w i = record {
  staff_limit = i.staff_limit;
  staff_names = i.staff_names;
  client_limit = i.client_limit;
  client_names = i.client_names;
  loan_limit = i.loan_limit;
  loans = all_map (IsSoundLoan k s rows.clients) (IsSoundLoan l t rows.clients) rows.loans
      (λ x. loan_grows k l s t rows.clients x g w) i.loans;
  receipts = i.receipts;
}

office_grows : (k l : Catalogue) (s t : Caller → Bool) → Grows k l → StaffGrows s t → (f : Office) → IsSoundOffice k s f
    → IsSoundOffice l t f
office_grows k l s t g w f i = record { number = i.number; name = i.name; rows = rows_grow k l s t f.rows g w i.rows }

pub offices_grow : (k l : Catalogue) (s t : Caller → Bool) (fs : List Office) → Grows k l → StaffGrows s t
    → AllByRecursion (IsSoundOffice k s) fs → AllByRecursion (IsSoundOffice l t) fs
offices_grow k l s t fs g w a = all_map (IsSoundOffice k s) (IsSoundOffice l t) fs (office_grows k l s t g w) a

-- whether a product lends is read off its members
abbrev members_lend : ℕ → ℕ → Option ProductMembers → Bool
members_lend principal periods None = false
members_lend principal periods (Some p) = allows p principal periods

pub lends_by_members : (n m principal periods : ℕ) (a b : Option ListedProduct)
    → option_map (λ (p : ListedProduct). p.members) a
    ≡ option_map (λ (p : ListedProduct). p.members) b → lends (option_map (product_of n) a) principal periods
    ≡ lends (option_map (product_of m) b) principal periods
lends_by_members n m principal periods None None e = refl
lends_by_members n m principal periods None (Some q) e = absurd (cc)
lends_by_members n m principal periods (Some p) None e = absurd (cc)
lends_by_members n m principal periods (Some p) (Some q) e = ap (members_lend principal periods) e

-- the thing of a number, and a change of it alone
pub numbered_suc : {X : Type 0} (xs : List X) (n : ℕ) → item_numbered xs (suc n) ≡ slice_get xs n
numbered_suc xs n =
    let some : (suc n == 0) ≡ false = grind (arith, nat_tests) in
    let less : suc n - 1 ≡ n = omega arith in
    ap (λ b. cond b None (slice_get xs (suc n - 1))) some ∙ ap (slice_get xs) less

all_slice : {X : Type 0} (P : X → Type 0) (xs : List X) (i : ℕ) (x : X) → AllByRecursion P xs → slice_get xs i ≡ Some x
    → P x
all_slice P [] i x a h = absurd (cc)
all_slice P (y ∷ ys) zero x a h = let same : y ≡ x = cc in subst P same a.0
all_slice P (y ∷ ys) (suc i) x a h = all_slice P ys i x a.1 h

pub all_at : {X : Type 0} (P : X → Type 0) (xs : List X) (n : ℕ) (x : X) → AllByRecursion P xs → item_numbered xs n
    ≡ Some x → P x
all_at P xs zero x a h = absurd (cc)
all_at P xs (suc n) x a h = all_slice P xs n x a (sym (numbered_suc xs n) ∙ h)

numbered_rest : {X : Type 0} (y : X) (ys : List X) (n : ℕ) (x : X) → item_numbered (y ∷ ys) n ≡ Some x
    → (n == 1) ≡ false → item_numbered ys (n - 1) ≡ Some x
numbered_rest y ys zero x h e = absurd (cc)
numbered_rest y ys (suc zero) x h e = absurd (cc)
numbered_rest y ys (suc (suc m)) x h e =
    let less : suc (suc m) - 1 ≡ suc m = omega arith in
    ap (item_numbered ys) less ∙ numbered_suc ys m ∙ sym (numbered_suc (y ∷ ys) (suc m)) ∙ h

pub all_with_at : {X : Type 0} (P : X → Type 0) (n : ℕ) (change : X → X) (xs : List X) (x : X) → item_numbered xs n
    ≡ Some x → P (change x) → AllByRecursion P xs → AllByRecursion P (with_numbered n change xs)
all_with_at P n change [] x h p a = tt
all_with_at P n change (y ∷ ys) x h p a =
    either (n == 1) refl (λ e. all_with_at P (n - 1) change ys x (numbered_rest y ys n x h e) p a.1)
  where
    either : (b : Bool) → (n == 1) ≡ b → ((n == 1) ≡ false → AllByRecursion P (with_numbered (n - 1) change ys))
        → AllByRecursion P (cond b (change y ∷ ys) (y ∷ with_numbered (n - 1) change ys))
    either true e rest =
        let one : n ≡ 1 = grind (arith, nat_tests) in
        let here : item_numbered (y ∷ ys) 1 ≡ Some x = ap (item_numbered (y ∷ ys)) (sym one) ∙ h in
        let same : x ≡ y = cc in
        (subst (λ z. P (change z)) same p, a.1)
    either false e rest = (a.0, rest e)

-- two changes that make the same of the thing of a number
pub with_same_at : {X : Type 0} (n : ℕ) (f g : X → X) (xs : List X) (x : X) → item_numbered xs n ≡ Some x → f x ≡ g x
    → with_numbered n f xs ≡ with_numbered n g xs
with_same_at n f g [] x h same = refl
with_same_at n f g (y ∷ ys) x h same =
    either (n == 1) refl (λ e. with_same_at n' f g ys x (numbered_rest y ys n x h e) same)
  where
    n' : ℕ
    n' = n - 1

    either : (b : Bool) → (n == 1) ≡ b → ((n == 1) ≡ false → with_numbered (n - 1) f ys ≡ with_numbered (n - 1) g ys)
        → cond b (f y ∷ ys) (y ∷ with_numbered (n - 1) f ys) ≡ cond b (g y ∷ ys) (y ∷ with_numbered (n - 1) g ys)
    either true e rest =
        let one : n ≡ 1 = grind (arith, nat_tests) in
        let here : item_numbered (y ∷ ys) 1 ≡ Some x = ap (item_numbered (y ∷ ys)) (sym one) ∙ h in
        let is : x ≡ y = cc in
        ap (λ z. z ∷ ys) (subst (λ z. f z ≡ g z) is same)
    either false e rest = ap (λ zs. y ∷ zs) (rest e)

-- the terms of a product are read off its members, and off the charges that these name
charge_same : (a b : ℕ → Option ChargeDef) (kind : ChargeKind) (named : Option ℕ) → ((n : ℕ) (c : ChargeDef)
    → a n ≡ Some c → b n ≡ Some c) → is_of_kind a kind named ≡ true → charge_of b named ≡ charge_of a named
charge_same a b kind None grows h = refl
charge_same a b kind (Some n) grows h = found (a n) refl h
  where
    found : (o : Option ChargeDef) → a n ≡ o → has_kind kind o ≡ true → b n ≡ a n
    found None e h = absurd (cc)
    found (Some c) e h = grows n c e ∙ sym e

pub terms_same : (a b : ℕ → Option ChargeDef) (p : ProductMembers) → ((n : ℕ) (c : ChargeDef) → a n ≡ Some c
    → b n ≡ Some c) → is_consistent a p ≡ true → terms_of b p ≡ terms_of a p
terms_same a b p grows h =
    let kinds : kinds_right a p ≡ true = and_right (limits_agree p) (kinds_right a p) h in
    let later = and_right (is_of_kind a Disbursement p.disbursement_charge) _ kinds in
    let one : charge_of b p.disbursement_charge ≡ charge_of a p.disbursement_charge = charge_same a b Disbursement
    p.disbursement_charge grows (and_left (is_of_kind a Disbursement p.disbursement_charge) _ kinds) in
    let two : charge_of b p.instalment_charge ≡ charge_of a p.instalment_charge = charge_same a b Instalment
    p.instalment_charge grows (and_left (is_of_kind a Instalment p.instalment_charge) _ later) in
    let three : charge_of b p.overdue_charge ≡ charge_of a p.overdue_charge = charge_same a b Overdue p.overdue_charge
    grows (and_right (is_of_kind a Instalment p.instalment_charge) _ later) in
    ap (λ (c : Option ChargeDef). record (terms_of b p) { disbursement = c }) one
    ∙ ap (λ (c : Option ChargeDef). record (terms_of b p) {
      disbursement = charge_of a p.disbursement_charge;
      instalment = c;
    }) two
    ∙ ap (λ (c : Option ChargeDef). record (terms_of b p) {
      disbursement = charge_of a p.disbursement_charge;
      instalment = charge_of a p.instalment_charge;
      overdue = c;
    }) three

pub members_give : (charges : ℕ → Option ChargeDef) (n : ℕ) (o : Option ListedProduct)
    → option_map (λ (p : Product). terms_of charges p.members) (option_map (product_of n) o)
    ≡ option_map (terms_of charges) (option_map (λ (p : ListedProduct). p.members) o)
members_give charges n None = refl
members_give charges n (Some p) = refl

-- one more product
pub terms_push : (k : Catalogue) (p : ListedProduct) (n : ℕ) (t : Terms) → terms_in k n ≡ Some t
    → terms_in (record k { products = k.products ++ p ∷ [] }) n ≡ Some t
terms_push k p n t h = found (item_numbered k.products n) refl h
  where
    found : (o : Option ListedProduct) → item_numbered k.products n ≡ o
        → option_map (λ (q : Product). terms_of (charge_in k) q.members) (option_map (product_of n) o) ≡ Some t
        → option_map (λ (q : Product). terms_of (charge_in k) q.members) (option_map (product_of n)
        (item_numbered (k.products ++ p ∷ []) n)) ≡ Some t
    found None e h = absurd (cc)
    found (Some q) e h = ap (λ (o : Option ListedProduct). option_map
        (λ (r : Product). terms_of (charge_in k) r.members)
        (option_map (product_of n) o)) (numbered_push k.products p n q e) ∙ h

-- other products with the same members
pub terms_with : (k : Catalogue) (products : List ListedProduct) (n : ℕ) (t : Terms)
    → option_map (λ (p : ListedProduct). p.members)
    (item_numbered products n) ≡ option_map (λ (p : ListedProduct). p.members) (item_numbered k.products n)
    → terms_in k n
    ≡ Some t → terms_in (record k { products = products }) n ≡ Some t
terms_with k products n t same h =
    members_give (charge_in k) n (item_numbered products n) ∙ ap (option_map (terms_of (charge_in k))) same
    ∙ sym (members_give (charge_in k) n (item_numbered k.products n)) ∙ h

-- one more charge, where the products are sound
pub terms_charge : (k : Catalogue) (c : ListedCharge) (n : ℕ) (t : Terms) → AllByRecursion (IsSoundOffer (charge_in k))
    k.products → terms_in k n ≡ Some t → terms_in (record k { charges = k.charges ++ c ∷ [] }) n ≡ Some t
terms_charge k c n t s h = found (item_numbered k.products n) refl h
  where
    l : Catalogue
    l = record k { charges = k.charges ++ c ∷ [] }

    found : (o : Option ListedProduct) → item_numbered k.products n ≡ o
        → option_map (λ (q : Product). terms_of (charge_in k) q.members) (option_map (product_of n) o) ≡ Some t
        → option_map (λ (q : Product). terms_of (charge_in l) q.members) (option_map (product_of n)
        (item_numbered k.products n)) ≡ Some t
    found None e h = absurd (cc)
    found (Some q) e h =
        ap (λ (o : Option ListedProduct). option_map (λ (r : Product). terms_of (charge_in l) r.members)
        (option_map (product_of n) o)) e
        ∙ ap Some (terms_same (charge_in k) (charge_in l) q.members (λ m d. charge_stays k.charges c m d)
        (all_at (IsSoundOffer (charge_in k)) k.products n q s e).consistent)
        ∙ h
