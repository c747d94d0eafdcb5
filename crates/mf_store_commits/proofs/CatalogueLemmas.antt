-- Commits of the catalogue: from the writes to the change, and which rows the writes ask for.
use Rattle.std.proofs.Common.{◌≡◌, ◌+◌, ℕ, List, true, false, [], ◌∷◌, length, Some, refl, ap, ◌∙◌, None, arith, suc}
use Rattle.std.proofs.Common.{find}
use Rattle.std.proofs.lemmas.Option.{slice_get_past}
use Rattle.std.specs.Option.{option_map}
use Rattle.mf_base.specs.DayText.{day_text}
use Rattle.mf_catalog.specs.declared.product.ProductMembers.{ProductMembers}
use Rattle.mf_model.proofs.Growing.{numbered_with, terms_charge, terms_push, terms_with}
use Rattle.mf_model.specs.Catalogue.{day_set, charge_added, product_added, product_retired}
use Rattle.mf_model.specs.Institution.{Institution, Catalogue, ListedCharge, ListedProduct, item_numbered}
use Rattle.mf_model.specs.Sound.{IsSound, is_staff}
use Rattle.mf_model.specs.Store.{after_commit}
use Rattle.mf_model.specs.declared.commit.Commit.TheVariants.{SetDay, AddCharge, AddProduct, RetireProduct}
use Rattle.mf_store_sql.specs.Writes.{AllFit, after_all}
use Rattle.mf_store_schema.specs.Rows.{by_charge, by_product, is_row_of_product}
use Rattle.mf_store_schema.specs.Writes.{FitsLists, after_write}
use Rattle.mf_store_schema.specs.declared.charges.ChargeRow.{ChargeRow}
use Rattle.mf_store_schema.specs.declared.meta.MetaRow.{MetaRow}
use Rattle.mf_store_schema.specs.declared.products.ProductRow.{ProductRow}
use Rattle.mf_store_schema.specs.declared.writes.StoreWrite.{StoreWrite}
use Rattle.mf_store_schema.specs.declared.writes.StoreWrite.TheVariants.{PutMeta, PutCharge, PutProduct}
use Rattle.mf_store_values.proofs.BlockLemmas.{numbered-suc}
use Rattle.mf_store_values.proofs.FlatLemmas.{put_listed, put_listed_last, find_listed}
use Rattle.mf_store_values.specs.Flat.{meta_on, tables_of, charge_as, product_as, instalment_in, share_in}
use Rattle.mf_store_values.specs.Flat.{instalments_kept, shares_kept}
use Rattle.mf_store_commits.proofs.AccountCommitLemmas.{TermsStand, rows_stand}
use Rattle.mf_store_commits.specs.Becoming.{Becomes}
use Rattle.mf_store_commits.specs.Suiting.{AllSuit}
use Rattle.mf_store_schema.specs.declared.writes.StoreWrite.TheVariants as write

-- no account changes as the catalogue grows, where products give the terms that they gave
grown : (writes : List StoreWrite) (h : Catalogue) (i : Institution) → IsSound i → IsSound (record i { catalogue = h })
    → TermsStand i.catalogue h → AllFit after_write FitsLists writes (Some (tables_of i))
    → after_all after_write writes (Some (tables_of i)) ≡ Some (record (tables_of (record i { catalogue = h })) {
      instalments = (tables_of i).instalments;
      shares = (tables_of i).shares;
    }) → Becomes writes i (record i { catalogue = h })
grown writes h i before sound stand fits is = record {
  sound = sound;
  fits = fits;
  is = is ∙ (λ t. Some (record (tables_of (record i { catalogue = h })) {
    instalments = rows_stand instalment_in instalments_kept i.catalogue h (is_staff i.offices) i.offices stand
        before.each t;
    shares = rows_stand share_in shares_kept i.catalogue h (is_staff i.offices) i.offices stand before.each t;
  }));
}

pub day_becomes : (day : ℕ) (i : Institution) (m : MetaRow) → IsSound i → IsSound (after_commit (SetDay day) i)
    → m.one ≡ 1 → m.schema ≡ 2 → m.day ≡ day_text day → Becomes (PutMeta m ∷ []) i (after_commit (SetDay day) i)
day_becomes day i m before sound one schema text =
    let is : m ≡ meta_on day = λ k. record { one = one k; schema = schema k; day = text k } in
    rw is (grown (PutMeta _ ∷ []) (day_set day i.catalogue) i before sound (λ n t given. given) (refl, tt) refl)

pub charge_becomes : (c : ListedCharge) (i : Institution) (x : ChargeRow) → IsSound i
    → IsSound (after_commit (AddCharge c.name c.kind c.calc c.value) i) → x ≡ charge_as (length i.catalogue.charges + 1)
    c
    → Becomes (PutCharge x ∷ []) i (after_commit (AddCharge c.name c.kind c.calc c.value) i)
charge_becomes c i x before sound is =
    let charges = put_listed_last charge_as by_charge (λ n m a b. refl) c i.catalogue.charges in
    rw is (grown (PutCharge _ ∷ []) (charge_added c i.catalogue) i before sound
    (λ n t given. terms_charge i.catalogue c n t before.catalogue.products given) (refl, tt)
    (λ k. Some (record (tables_of i) { charges = charges k })))

pub product_becomes : (members : ProductMembers) (i : Institution) (x : ProductRow) → IsSound i
    → IsSound (after_commit (AddProduct members) i) → x ≡ product_as (length i.catalogue.products + 1)
    (record { members = members; retired = false })
    → Becomes (write.AddProduct x ∷ []) i (after_commit (AddProduct members) i)
product_becomes members i x before sound is =
    let new : ListedProduct = record { members = members; retired = false } in
    let products = put_listed_last product_as by_product (λ n m a b. refl) new i.catalogue.products in
    rw is (grown (write.AddProduct _ ∷ []) (product_added members i.catalogue) i before sound
    (terms_push i.catalogue new) (refl, tt) (λ k. Some (record (tables_of i) { products = products k })))

pub retired_becomes : (n : ℕ) (p : ListedProduct) (i : Institution) (x : ProductRow) → IsSound i
    → IsSound (after_commit (RetireProduct n) i) → item_numbered i.catalogue.products n ≡ Some p
    → x ≡ product_as n (record p { retired = true })
    → Becomes (PutProduct x ∷ []) i (after_commit (RetireProduct n) i)
retired_becomes n p i x before sound there is =
    let change : ListedProduct → ListedProduct = λ o. record o { retired = true } in
    let products = put_listed product_as by_product (λ n m a b. refl) change p n i.catalogue.products there in
    rw is (grown (PutProduct _ ∷ []) (product_retired n i.catalogue) i before sound (λ m t given. terms_with i.catalogue
    (product_retired n i.catalogue).products m t (numbered_with (λ (p : ListedProduct). p.members) n change
    i.catalogue.products (λ p. refl) m) given) (refl, tt) (λ k. Some (record (tables_of i) { products = products k })))

-- ---- the writes suit the rows that are there

-- none has the next number
pub none_next : {A : Type 0} (xs : List A) → item_numbered xs (length xs + 1) ≡ None
none_next xs = ap (item_numbered xs) (let next : length xs + 1 ≡ suc (length xs) = omega arith in next)
    ∙ numbered-suc xs (length xs) ∙ slice_get_past xs (length xs) (omega arith)

product_found : (n : ℕ) (i : Institution) → find (is_row_of_product n) (tables_of i).products
    ≡ option_map (product_as n) (item_numbered i.catalogue.products n)
product_found n i = find_listed product_as is_row_of_product (λ k m a. refl) n i.catalogue.products

-- a new product
pub product_suits : (now : ListedProduct) (i : Institution) (r : ProductRow)
    → r ≡ product_as (length i.catalogue.products + 1)
    now → AllSuit (write.AddProduct r ∷ []) (tables_of i)
product_suits now i r is =
    rw is (rw (product_found (length i.catalogue.products + 1) i, none_next i.catalogue.products), tt)

-- one that is retired
pub retired_suits : (n : ℕ) (p now : ListedProduct) (i : Institution) (r : ProductRow)
    → item_numbered i.catalogue.products n
    ≡ Some p → r ≡ product_as n now → AllSuit (PutProduct r ∷ []) (tables_of i)
retired_suits n p now i r there is = rw is (rw (product_found n i, there), tt)
