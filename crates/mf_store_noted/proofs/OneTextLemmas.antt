-- One text of an upgraded institution, one day and one list of rows for each table.
use Rattle.std.proofs.Common.{◌≡◌, ◌∙◌, ◌++◌, ◌∷◌, ◌<◌, ◌^◌, [], ℕ, List, ap, ap₂, append_assoc, append-nil, arith}
use Rattle.std.proofs.Common.{◌≢◌, ◌⊎◌, inl, inr, Option, None, Some, codes, drop, flat_map, get_or, length, map}
use Rattle.std.proofs.Common.{Bool, false, refl, suc, sym, take, true, true≢false, zero}
use Rattle.std.specs.Int.{w64, cast_signed, cast_unsigned, from_be_bytes}
use Rattle.std.specs.List.{AllByRecursion}
use Rattle.std.proofs.Math.Facts.{Fits-of_z, to_z-of_z}
use Rattle.std.proofs.Math.Seq.{take-append_seam, drop-append_seam}
use Rattle.std.proofs.lemmas.List.{append_cancel_left, length-map}
use Rattle.std.proofs.lemmas.Bool.{cases_eq}
use Rattle.std.proofs.lemmas.Nat.{from_be_bytes-to_be_bytes_8}
use Rattle.sqlite.specs.Order.{Row}
use Rattle.sqlite.specs.declared.types.Value.{Value}
use Rattle.sqlite.specs.declared.types.Value.TheVariants.{Null, Int, Text, Real, Blob}
use Rattle.mf_journal.specs.Chain.{IsCollision, number_text, bytes_text}
use Rattle.mf_store_schema.specs.Rows.{Lists, meta_row, office_row, staff_row, client_row, charge_row, product_row}
use Rattle.mf_store_schema.specs.Rows.{loan_row, entry_row, receipt_row, instalment_row, share_row}
use Rattle.mf_store_schema.specs.Once.{meta_once, office_once, staff_once, client_once, charge_once, product_once}
use Rattle.mf_store_schema.specs.Once.{loan_once, entry_once, receipt_once, instalment_once, share_once}
use Rattle.mf_store_schema.specs.declared.meta.MetaRow.{MetaRow}
use Rattle.mf_store_schema.specs.declared.offices.OfficeRow.{OfficeRow}
use Rattle.mf_store_schema.specs.declared.staff.StaffRow.{StaffRow}
use Rattle.mf_store_schema.specs.declared.clients.ClientRow.{ClientRow}
use Rattle.mf_store_schema.specs.declared.charges.ChargeRow.{ChargeRow}
use Rattle.mf_store_schema.specs.declared.products.ProductRow.{ProductRow}
use Rattle.mf_store_schema.specs.declared.loans.LoanRow.{LoanRow}
use Rattle.mf_store_schema.specs.declared.entries.EntryRow.{EntryRow}
use Rattle.mf_store_schema.specs.declared.receipts.ReceiptRow.{ReceiptRow}
use Rattle.mf_store_schema.specs.declared.instalments.InstalmentRow.{InstalmentRow}
use Rattle.mf_store_schema.specs.declared.shares.ShareRow.{ShareRow}
use Rattle.mf_store_sql.specs.Values.{or_null, or_text}
use Rattle.mf_store_noted.specs.Fitting.{FitsRows, FitsTables, FitsValue}
use Rattle.mf_store_noted.specs.Upgrading.{row_text, table_text, tables_text, upgrading, upgrading_text, value_text}

-- two texts that are cut at one length
cut : (a b c d : List ℕ) → length a ≡ length c → a ++ b ≡ c ++ d → (a ≡ c) × (b ≡ d)
cut a b c d size e = (
  sym (take-append_seam a b) ∙ ap (take (length a)) e ∙ ap (λ n. take n (c ++ d)) size ∙ take-append_seam c d,
  sym (drop-append_seam a b) ∙ ap (drop (length a)) e ∙ ap (λ n. drop n (c ++ d)) size ∙ drop-append_seam c d,
)

one_number : (a b : ℕ) (r s : List ℕ) → a < 2 ^ 64 → b < 2 ^ 64 → number_text a ++ r ≡ number_text b ++ s
    → (a ≡ b) × (r ≡ s)
one_number a b r s small low e =
    let parts = cut (number_text a) r (number_text b) s refl e in (
      sym (from_be_bytes-to_be_bytes_8 a small) ∙ ap (from_be_bytes w64) parts.0 ∙ from_be_bytes-to_be_bytes_8 b low,
      parts.1,
    )

one_bytes : (a b r s : List ℕ) → length a < 2 ^ 64 → length b < 2 ^ 64 → bytes_text a ++ r ≡ bytes_text b ++ s
    → (a ≡ b) × (r ≡ s)
one_bytes a b r s small low e =
    let apart = sym (append_assoc (number_text (length a)) a r) ∙ e ∙ append_assoc (number_text (length b)) b s in
    let sizes = one_number (length a) (length b) (a ++ r) (b ++ s) small low apart in
    cut a r b s sizes.0 sizes.1

one_kind : (k j : ℕ) (r s : List ℕ) → k ∷ r ≡ j ∷ s → (k ≡ j) × (r ≡ s)
one_kind k j r s e = (ap (λ l. get_or l 0 0) e, ap (drop 1) e)

-- a value of the kinds that the tables have
abbrev IsTold : Value → Type 0
IsTold Null = Unit {0}
IsTold (Int n) = Unit {0}
IsTold (Text t) = Unit {0}
IsTold (Real x) = ⊥
IsTold (Blob b) = ⊥

null_told : (n : Option ℕ) → IsTold (or_null n)
null_told None = tt
null_told (Some n) = tt

text_told : (t : Option (List ℕ)) → IsTold (or_text t)
text_told None = tt
text_told (Some t) = tt

one_value : (v w : Value) (r s : List ℕ) → IsTold v → IsTold w → FitsValue v → FitsValue w
    → value_text v ++ r ≡ value_text w ++ s → (v ≡ w) × (r ≡ s)
one_value Null Null r s p q x y e = (refl, (one_kind 0 0 r s e).1)
one_value Null (Int b) r s p q x y e = absurd (omega (arith, (one_kind 0 1 _ _ e).0))
one_value Null (Text t) r s p q x y e = absurd (omega (arith, (one_kind 0 2 _ _ e).0))
one_value (Int a) Null r s p q x y e = absurd (omega (arith, (one_kind 1 0 _ _ e).0))
one_value (Int a) (Int b) r s p q x y e =
    let parts = one_number (cast_unsigned w64 a) (cast_unsigned w64 b) r s (Fits-of_z x).fits (Fits-of_z y).fits
    (one_kind 1 1 _ _ e).1 in
    (ap Int (sym (to_z-of_z x) ∙ ap (cast_signed w64) parts.0 ∙ to_z-of_z y), parts.1)
one_value (Int a) (Text t) r s p q x y e = absurd (omega (arith, (one_kind 1 2 _ _ e).0))
one_value (Text t) Null r s p q x y e = absurd (omega (arith, (one_kind 2 0 _ _ e).0))
one_value (Text t) (Int b) r s p q x y e = absurd (omega (arith, (one_kind 2 1 _ _ e).0))
one_value (Text t) (Text u) r s p q x y e =
    let parts = one_bytes t u r s x y (one_kind 2 2 _ _ e).1 in (ap Text parts.0, parts.1)
one_value (Real a) w r s p q x y e = absurd p
one_value (Blob a) w r s p q x y e = absurd p
one_value v (Real b) r s p q x y e = absurd q
one_value v (Blob b) r s p q x y e = absurd q

one_row : (a b : Row) (r s : List ℕ) → length a ≡ length b → AllByRecursion IsTold a → AllByRecursion IsTold b
    → AllByRecursion FitsValue a → AllByRecursion FitsValue b → row_text a ++ r ≡ row_text b ++ s → (a ≡ b) × (r ≡ s)
one_row [] [] r s wide p q x y e = (refl, e)
one_row [] (w ∷ b) r s wide p q x y e = absurd (omega (arith, wide))
one_row (v ∷ a) [] r s wide p q x y e = absurd (omega (arith, wide))
one_row (v ∷ a) (w ∷ b) r s wide p q x y e =
    let apart = sym (append_assoc (value_text v) (row_text a) r) ∙ e ∙ append_assoc (value_text w) (row_text b) s in
    let first = one_value v w (row_text a ++ r) (row_text b ++ s) p.0 q.0 x.0 y.0 apart in
    let rest = one_row a b r s (omega (arith, wide)) p.1 q.1 x.1 y.1 first.1 in
    (ap₂ (λ u us. u ∷ us) first.0 rest.0, rest.1)

module _ {X : Type 0} (stored : X → Row) (n : ℕ) (wide : (x : X) → length (stored x) ≡ n)
    (once : (x y : X) → stored x ≡ stored y → x ≡ y) (are : (x : X) → AllByRecursion IsTold (stored x)) where
  abbrev Fit : List X → Type 0
  Fit xs = AllByRecursion (λ (row : Row). AllByRecursion FitsValue row) (map stored xs)

  abbrev told : List X → List ℕ
  told xs = flat_map row_text (map stored xs)

  one_list : (xs ys : List X) (r s : List ℕ) → length xs ≡ length ys → Fit xs → Fit ys → told xs ++ r ≡ told ys ++ s
      → (xs ≡ ys) × (r ≡ s)
  one_list [] [] r s many fit fits e = (refl, e)
  one_list [] (y ∷ ys) r s many fit fits e = absurd (omega (arith, many))
  one_list (x ∷ xs) [] r s many fit fits e = absurd (omega (arith, many))
  one_list (x ∷ xs) (y ∷ ys) r s many fit fits e =
      let apart = sym (append_assoc (row_text (stored x)) (told xs) r) ∙ e
      ∙ append_assoc (row_text (stored y)) (told ys) s in
      let first = one_row (stored x) (stored y) (told xs ++ r) (told ys ++ s) (wide x ∙ sym (wide y)) (are x) (are y)
      fit.0 fits.0 apart in
      let rest = one_list xs ys r s (omega (arith, many)) fit.1 fits.1 first.1 in
      (ap₂ (λ z zs. z ∷ zs) (once x y first.0) rest.0, rest.1)

  one_table : (xs ys : List X) (r s : List ℕ) → FitsRows (map stored xs) → FitsRows (map stored ys)
      → table_text (map stored xs) ++ r ≡ table_text (map stored ys) ++ s → (xs ≡ ys) × (r ≡ s)
  one_table xs ys r s fit fits e =
      let count = length (map stored xs) in
      let total = length (map stored ys) in
      let apart = sym (append_assoc (number_text count) (told xs) r) ∙ e
      ∙ append_assoc (number_text total) (told ys) s in
      let counts = one_number count total (told xs ++ r) (told ys ++ s) fit.count fits.count apart in
      one_list xs ys r s (sym (length-map xs stored) ∙ counts.0 ∙ length-map ys stored) fit.values fits.values
      counts.1

  last_table : (xs ys : List X) → FitsRows (map stored xs) → FitsRows (map stored ys)
      → table_text (map stored xs) ≡ table_text (map stored ys) → xs ≡ ys
  last_table xs ys fit fits e = (one_table xs ys [] [] fit fits (append-nil (table_text (map stored xs)) ∙ e
      ∙ sym (append-nil (table_text (map stored ys))))).0

-- each value of a row is of these kinds, as a test
abbrev all_told : Row → Bool
all_told [] = true
all_told (Null ∷ row) = all_told row
all_told (Int n ∷ row) = all_told row
all_told (Text t ∷ row) = all_told row
all_told (Real x ∷ row) = false
all_told (Blob b ∷ row) = false

-- so are a row's values where the first are by the test, and then the others
told_after : (n : ℕ) (row : Row) → all_told (take n row) ≡ true → AllByRecursion IsTold (drop n row)
    → AllByRecursion IsTold row
told_after zero row first rest = rest
told_after (suc n) [] first rest = tt
told_after (suc n) (Null ∷ row) first rest = (tt, told_after n row first rest)
told_after (suc n) (Int i ∷ row) first rest = (tt, told_after n row first rest)
told_after (suc n) (Text t ∷ row) first rest = (tt, told_after n row first rest)
told_after (suc n) (Real x ∷ row) first rest = absurd (true≢false (sym first))
told_after (suc n) (Blob b ∷ row) first rest = absurd (true≢false (sym first))

meta_told : (x : MetaRow) → AllByRecursion IsTold (meta_row x)
meta_told x = told_after 3 (meta_row x) refl tt

office_told : (x : OfficeRow) → AllByRecursion IsTold (office_row x)
office_told x = told_after 1 (office_row x) refl (null_told x.parent, (tt, (tt, tt)))

staff_told : (x : StaffRow) → AllByRecursion IsTold (staff_row x)
staff_told x = told_after 4 (staff_row x) refl tt

client_told : (x : ClientRow) → AllByRecursion IsTold (client_row x)
client_told x = told_after 3 (client_row x) refl tt

charge_told : (x : ChargeRow) → AllByRecursion IsTold (charge_row x)
charge_told x = told_after 5 (charge_row x) refl tt

product_told : (x : ProductRow) → AllByRecursion IsTold (product_row x)
product_told x = told_after 13 (product_row x) refl
    (null_told x.disbursement_charge, (null_told x.instalment_charge, (null_told x.overdue_charge, (tt, tt))))

loan_told : (x : LoanRow) → AllByRecursion IsTold (loan_row x)
loan_told x = told_after 7 (loan_row x) refl (text_told x.approved, (text_told x.disbursed, tt))

entry_told : (x : EntryRow) → AllByRecursion IsTold (entry_row x)
entry_told x = told_after 8 (entry_row x) refl (text_told x.receipt, (tt, (tt, tt)))

receipt_told : (x : ReceiptRow) → AllByRecursion IsTold (receipt_row x)
receipt_told x = told_after 4 (receipt_row x) refl tt

instalment_told : (x : InstalmentRow) → AllByRecursion IsTold (instalment_row x)
instalment_told x = told_after 20 (instalment_row x) refl tt

share_told : (x : ShareRow) → AllByRecursion IsTold (share_row x)
share_told x = told_after 8 (share_row x) refl tt

one_lists : (a b : Lists) → FitsTables a → FitsTables b → a.journal ≡ b.journal → tables_text a ≡ tables_text b → a
    ≡ b
one_lists a b x y journal e =
    let meta = one_table meta_row 3 (λ _. refl) meta_once meta_told a.meta b.meta _ _ x.meta y.meta e in
    let offices = one_table office_row 4 (λ _. refl) office_once office_told a.offices b.offices _ _ x.offices
    y.offices meta.1 in
    let staff = one_table staff_row 4 (λ _. refl) staff_once staff_told a.staff b.staff _ _ x.staff y.staff
    offices.1 in
    let clients = one_table client_row 3 (λ _. refl) client_once client_told a.clients b.clients _ _ x.clients
    y.clients staff.1 in
    let charges = one_table charge_row 5 (λ _. refl) charge_once charge_told a.charges b.charges _ _ x.charges
    y.charges clients.1 in
    let products = one_table product_row 17 (λ _. refl) product_once product_told a.products b.products _ _
    x.products y.products charges.1 in
    let loans = one_table loan_row 9 (λ _. refl) loan_once loan_told a.loans b.loans _ _ x.loans y.loans products.1 in
    let entries = one_table entry_row 11 (λ _. refl) entry_once entry_told a.entries b.entries _ _ x.entries
    y.entries loans.1 in
    let receipts = one_table receipt_row 4 (λ _. refl) receipt_once receipt_told a.receipts b.receipts _ _
    x.receipts y.receipts entries.1 in
    let instalments = one_table instalment_row 20 (λ _. refl) instalment_once instalment_told a.instalments
    b.instalments _ _ x.instalments y.instalments receipts.1 in
    let shares = last_table share_row 8 (λ _. refl) share_once share_told a.shares b.shares x.shares y.shares
    instalments.1 in
    λ k. record {
      meta = meta.0 k;
      offices = offices.0 k;
      staff = staff.0 k;
      clients = clients.0 k;
      charges = charges.0 k;
      products = products.0 k;
      loans = loans.0 k;
      entries = entries.0 k;
      receipts = receipts.0 k;
      instalments = instalments.0 k;
      shares = shares k;
      journal = journal k;
    }

pub one_upgrading_text : (day today : ℕ) (a b : Lists) → day < 2 ^ 64 → today < 2 ^ 64 → FitsTables a → FitsTables b
    → a.journal ≡ b.journal → upgrading_text day a ≡ upgrading_text today b → (day ≡ today) × (a ≡ b)
one_upgrading_text day today a b few less x y journal e =
    let rest = append_cancel_left (codes "microloan upgraded") _ _ e in
    let parts = one_number day today (tables_text a) (tables_text b) few less rest in
    (parts.0, one_lists a b x y journal parts.1)

same_or_not : (xs ys : List ℕ) → (xs ≡ ys) ⊎ (xs ≢ ys)
same_or_not [] [] = inl refl
same_or_not [] (y ∷ ys) = inr (λ e. cc)
same_or_not (x ∷ xs) [] = inr (λ e. cc)
same_or_not (x ∷ xs) (y ∷ ys) = elim (cases_eq x y) [
  | inl first ↦ elim (same_or_not xs ys) [
    | inl rest ↦ inl (ap (λ z. z ∷ xs) first ∙ ap (λ zs. y ∷ zs) rest)
    | inr apart ↦ inr (λ e. let rest : xs ≡ ys = cc in apart rest)
  ]
  | inr apart ↦ inr (λ e. let first : x ≡ y = cc in apart first)
]

pub one_upgrading : (day today : ℕ) (a b : Lists) → day < 2 ^ 64 → today < 2 ^ 64 → FitsTables a → FitsTables b
    → a.journal ≡ b.journal → (upgrading day a).chain ≡ (upgrading today b).chain
    → ((day ≡ today) × (a ≡ b)) ⊎ ((s : List ℕ) × (t : List ℕ) × IsCollision s t)
one_upgrading day today a b few less x y journal e =
    elim (same_or_not (upgrading_text day a) (upgrading_text today b)) [
      | inl text ↦ inl (one_upgrading_text day today a b few less x y journal text)
      | inr apart ↦ inr (upgrading_text day a, upgrading_text today b, record { apart = apart; same = e })
    ]
