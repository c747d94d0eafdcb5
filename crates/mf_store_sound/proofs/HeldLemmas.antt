-- The rows of a sound institution are ones that records can hold: numbers of 32 bits, and texts in UTF-8.
use Rattle.std.proofs.Common.{◌≡◌, ◌≤◌, ◌<◌, ◌+◌, ◌^◌, ◌/◌, ◌%◌, ◌==◌, inl, inr, pos, nat_le, ℕ, ℤ, zero, suc, Bool}
use Rattle.std.proofs.Common.{true, false, List, [], ◌∷◌, ◌++◌, map, length, slice_get, Option, Some, None, refl}
use Rattle.std.proofs.Common.{sym, ap, ◌∙◌, subst, arith, true≢false, codes}
use Rattle.std.specs.Option.{option_map, is_some}
use Rattle.std.specs.Prelude.{IfSome}
use Rattle.std.specs.List.{AllByRecursion}
use Rattle.std.specs.Str.{IsAscii, IsUtf8}
use Rattle.std.specs.Fmt.{decimal}
use Rattle.std.proofs.lemmas.Bool.{and_parts}
use Rattle.std.proofs.lemmas.Bool.Decides.{nat_tests}
use Rattle.std.proofs.lemmas.Fmt.{IsAscii-decimal}
use Rattle.std.proofs.lemmas.List.{length-map}
use Rattle.std.proofs.lemmas.List.Elements.{All-from_recursion, recursion_from_All}
use Rattle.std.proofs.lemmas.Option.{slice_get_within}
use Rattle.std.proofs.lemmas.Str.{IsUtf8-append, IsUtf8-from_ascii}
use Rattle.std.proofs.lemmas.Str.Ascii.{IsAscii-from_all}
use Rattle.sqlite_keyed.proofs.ListLemmas.{all-append, all_map, all_weaker, all-slice_get}
use Rattle.sqlite.specs.declared.types.Value.TheVariants.{Int, Text as Words}
use Rattle.mf_base.specs.Calendar.{date_of}
use Rattle.mf_base.specs.Choices.{frequency_number}
use Rattle.mf_base.specs.DayText.{two_digits, date_text, day_text, last_day, last_entered_day}
use Rattle.mf_base.specs.declared.day.Freq.{Freq}
use Rattle.mf_base.specs.declared.day.Freq.TheVariants.{Weeks, Months}
use Rattle.mf_base.proofs.CalendarLemmas.{IsDate-date_of}
use Rattle.mf_base.proofs.DayTextLemmas.{IsShort-date, year-date_of, date_text-day}
use Rattle.mf_catalog.specs.Names.{kind_number, calc_number, method_number, strategy_number}
use Rattle.mf_catalog.specs.declared.charge.ChargeKind.{ChargeKind}
use Rattle.mf_catalog.specs.declared.charge.ChargeKind.TheVariants.{Disbursement, Instalment, Overdue, DueDate}
use Rattle.mf_catalog.specs.declared.charge.Calc.{Calc}
use Rattle.mf_catalog.specs.declared.charge.Calc.TheVariants as calc
use Rattle.mf_catalog.specs.declared.terms.Method.{Method}
use Rattle.mf_catalog.specs.declared.terms.Method.TheVariants as method
use Rattle.mf_catalog.specs.declared.terms.StrategyName.{StrategyName}
use Rattle.mf_catalog.specs.declared.terms.StrategyName.TheVariants.{MifosStandard, PrincipalFirst, InterestFirst}
use Rattle.mf_catalog.specs.declared.terms.StrategyName.TheVariants.{DueFirst}
use Rattle.mf_catalog.specs.Limits.{longest_step}
use Rattle.mf_catalog.specs.Product.{has_kind, is_of_kind}
use Rattle.mf_office.specs.Keys.{key_within, key_of, key_under}
use Rattle.mf_office.specs.Roles.{role_number}
use Rattle.mf_office.specs.Texts.{IsCaller}
use Rattle.mf_office.specs.Written.{caller_text}
use Rattle.mf_office.specs.declared.caller.Caller.{Caller}
use Rattle.mf_office.specs.declared.staff.Role.{Role}
use Rattle.mf_office.specs.declared.staff.Role.TheVariants.{Teller, Officer, Manager}
use Rattle.mf_account.specs.Loan.{IsEntry, HasColumns}
use Rattle.mf_account.specs.Standing.{entry_at}
use Rattle.mf_account.specs.declared.entry.Entry.{Entry}
use Rattle.mf_account.specs.declared.entry.Kind.{Kind}
use Rattle.mf_account.specs.declared.entry.Kind.TheVariants as kind
use Rattle.mf_alloc.specs.declared.row.Portion.{Portion}
use Rattle.mf_alloc.specs.declared.row.Portion.TheVariants as portion
use Rattle.mf_model.specs.Institution.{Institution, Catalogue, ListedCharge, Ledger, ListedProduct, Office, Rows, Staff}
use Rattle.mf_model.specs.Institution.{item_numbered, charge_def, charge_in, product_of, product_in}
use Rattle.mf_account.specs.Receipts.{IsReceipt}
use Rattle.mf_account.proofs.ReceiptLemmas.{receipt_is_text}
use Rattle.mf_model.specs.Receipts.{uses_from, uses_in, use_of}
use Rattle.mf_model.specs.Sound.{IsSound, IsSoundOffice, IsSoundCatalogue, IsSoundCharge, IsSoundOffer, IsSoundLoan}
use Rattle.mf_model.specs.Sound.{IsStageBy, IsName, IsEntryBy, AreEntriesBy, lends, is_staff}
use Rattle.mf_model.specs.Stages.{stage_number, disbursed_on}
use Rattle.mf_model.specs.Tree.{parent_of, Above, Ascending}
use Rattle.mf_model.specs.declared.loan.Loan.{Loan}
use Rattle.mf_model.specs.declared.loan.Stage.{Stage}
use Rattle.mf_model.specs.declared.loan.Stage.TheVariants.{Submitted, Approved, Disbursed, Withdrawn, Rejected}
use Rattle.mf_store_sql.specs.Values.{or_null, or_text}
use Rattle.mf_store_schema.specs.Tables as table
use Rattle.mf_store_sql.specs.Columns.{Number, Amount, Text, MaybeNumber, MaybeText}
use Rattle.mf_store_schema.specs.Fields.{CanHold, HasFields}
use Rattle.mf_store_schema.specs.Rows.{by_receipt, meta_row, office_row, staff_row, client_row, charge_row}
use Rattle.mf_store_schema.specs.Rows.{product_row, loan_row, entry_row, receipt_row}
use Rattle.mf_store_schema.specs.declared.offices.OfficeRow.{OfficeRow}
use Rattle.mf_store_schema.specs.declared.staff.StaffRow.{StaffRow}
use Rattle.mf_store_schema.specs.declared.clients.ClientRow.{ClientRow}
use Rattle.mf_store_schema.specs.declared.charges.ChargeRow.{ChargeRow}
use Rattle.mf_store_schema.specs.declared.products.ProductRow.{ProductRow}
use Rattle.mf_store_schema.specs.declared.loans.LoanRow.{LoanRow}
use Rattle.mf_store_schema.specs.declared.entries.EntryRow.{EntryRow}
use Rattle.mf_store_schema.specs.declared.receipts.ReceiptRow.{ReceiptRow}
use Rattle.mf_store_values.specs.Flat.{numbered_from, all_rows, schema_number, tables_of, office_under, client_in}
use Rattle.mf_store_values.specs.Flat.{staff_in, charge_as, product_as, loan_in, entry_in, entry_kind_number}
use Rattle.mf_store_values.specs.Flat.{portion_number, flag_number, approval_text, disbursal_text, loans_of}
use Rattle.mf_store_values.specs.Flat.{rows_of_loans, rows_by_loan, own_entries, entry_rows}
use Rattle.mf_store_values.specs.ReceiptRows.{receipt_in, receipts_carried}
use Rattle.mf_store_sound.specs.Held.{CanHoldRows}
use Rattle.mf_store_sound.specs.Schemas.{tables_under}
use Rattle.mf_store_sound.proofs.NestedLemmas.{◌also◌}
use Rattle.mf_store_sound.proofs.StoredLemmas.{all_parts}
use Rattle.mf_model.proofs.SoundLemmas.{sound_tree}
use Rattle.mf_model.proofs.StaffLemmas.{staff_are_callers}
use Rattle.mf_store_values.proofs.FlatLemmas.{numbered-suc}
use Rattle.mf_store_values.proofs.SoundLemmas.{has_number}
use Rattle.mf_store_values.proofs.SortedLemmas.{all_sorted}

-- ---- one column

pub is_number : (n : ℕ) → n < 2 ^ 32 → CanHold Number (Int (pos n))
is_number n low = (n, refl, low)

pub is_amount : (n : ℤ) → CanHold Amount (Int n)
is_amount n = (n, refl)

pub is_text : (t : List ℕ) → IsUtf8 t → CanHold Text (Words t)
is_text t utf8 = (t, refl, utf8)

may_be_number : (o : Option ℕ) → IfSome o (λ n. n < 2 ^ 32) → CanHold MaybeNumber (or_null o)
may_be_number None low = inl refl
may_be_number (Some n) low = inr (n, refl, low)

may_be_text : (o : Option (List ℕ)) → IfSome o IsUtf8 → CanHold MaybeText (or_text o)
may_be_text None utf8 = inl refl
may_be_text (Some t) utf8 = inr (t, refl, utf8)

-- ---- rows of one kind

module _ {A R : Type 0} (P : A → Type 0) (H : R → Type 0) where
  -- values that are numbered up to a limit
  pub numbered_held : (limit : ℕ) (make : ℕ → A → R) → ((n : ℕ) (a : A) → n ≤ limit → P a → H (make n a)) → (n : ℕ)
      (xs : List A) → n + length xs ≤ limit + 1 → AllByRecursion P xs → AllByRecursion H (numbered_from make n xs)
  numbered_held limit make held n [] most all = tt
  numbered_held limit make held n (x ∷ xs) most all =
      (held n x (omega arith) all.0, numbered_held limit make held (n + 1) xs (omega arith) all.1)

  -- the same office by office
  rows_held : (S : Office → Type 0) (limit : ℕ) (make : ℕ → ℕ → A → R) (of : Rows → List A)
      → ((x n : ℕ) (a : A) → x ≤ 9999 → n ≤ limit → P a → H (make x n a))
      → ((f : Office) → S f → (f.number ≤ 9999) × (length (of f.rows) ≤ limit) × AllByRecursion P (of f.rows))
      → (fs : List Office) → AllByRecursion S fs → AllByRecursion H (all_rows make of fs)
  rows_held S limit make of held each [] all = tt
  rows_held S limit make of held each (f ∷ fs) all =
      let its = each f all.0 in
      all-append H (numbered_from (make f.number) 1 (of f.rows)) (all_rows make of fs)
      (numbered_held limit (make f.number) (λ n a low p. held f.number n a its.0 low p) 1 (of f.rows)
      (let most = its.1 in omega arith) its.2) (rows_held S limit make of held each fs all.1)

-- what the loans have, where what each sound loan has is held
module _ {A R : Type 0} (make : ℕ → ℕ → A → R) (of : Ledger → List A) (H : R → Type 0) (k : Catalogue)
    (staffed : Caller → Bool) (held : (x m : ℕ) (clients : List (List ℕ)) (l : Ledger) → x ≤ 9999 → m ≤ 999999
    → IsSoundLoan k staffed clients l → AllByRecursion H (map (make x m) (of l))) where
  of_loans_held : (clients : List (List ℕ)) (x n : ℕ) (ls : List Ledger) → x ≤ 9999 → n + length ls ≤ 1000000
      → AllByRecursion (IsSoundLoan k staffed clients) ls → AllByRecursion H (rows_of_loans make of x n ls)
  of_loans_held clients x n [] low_x few all = tt
  of_loans_held clients x n (l ∷ ls) low_x few all =
      all-append H (map (make x n) (of l)) (rows_of_loans make of x (n + 1) ls) (held x n clients l low_x
      (omega (arith, few)) all.0) (of_loans_held clients x (n + 1) ls low_x (omega (arith, few)) all.1)

  pub by_loan_held : (fs : List Office) → AllByRecursion (IsSoundOffice k staffed) fs
      → AllByRecursion H (rows_by_loan make of fs)
  by_loan_held [] all = tt
  by_loan_held (f ∷ fs) all =
      all-append H (rows_of_loans make of f.number 1 f.rows.loans) (rows_by_loan make of fs)
      (of_loans_held f.rows.clients f.number 1 f.rows.loans all.0.number.1 (let most = all.0.rows.loan_limit in
      omega (arith, most)) all.0.rows.loans) (by_loan_held fs all.1)

abbrev HeldClient : ClientRow → Type 0
HeldClient x = HasFields (table.clients).columns (client_row x)

pub held_clients : (i : Institution) → IsSound i → CanHoldRows (table.clients).columns client_row (tables_of i).clients
held_clients i sound =
    all_map (HasFields (table.clients).columns) client_row (tables_of i).clients (rows_held IsName HeldClient
    (IsSoundOffice i.catalogue (is_staff i.offices)) 999999 client_in (λ rows. rows.clients)
    (λ x n a low_x low_n name. record {
      width = refl;
      values = is_number x (omega arith) also is_number n (omega arith) also is_text a name.text also tt;
    })
    (λ f is. (is.number.1, is.rows.client_limit, is.rows.client_names)) i.offices sound.each)

-- ---- texts

low_bytes : (bs : List ℕ) → AllByRecursion (λ (b : ℕ). b < 128) bs → IsAscii bs
low_bytes bs all = IsAscii-from_all bs (All-from_recursion (λ (b : ℕ). b < 128) bs all)

digits_low : (n : ℕ) → n < 100 → AllByRecursion (λ (b : ℕ). b < 128) (two_digits n)
digits_low n h = (omega (arith, h), (omega arith, tt))

-- a day whose year has four digits
pub day_utf8 : (day : ℕ) → day ≤ last_day → IsUtf8 (day_text day)
day_utf8 day h =
    let date = date_of day in
    let short = IsShort-date date (IsDate-date_of day) (year-date_of day h) in
    let low = λ (b : ℕ). b < 128 in
    let years = digits_low (date.year / 100) (let y = year-date_of day h in omega (arith, y)) in
    let year = digits_low (date.year % 100) (omega arith) in
    let month = digits_low date.month (let m = (IsDate-date_of day).last_month in omega (arith, m)) in
    let its_day = digits_low date.day (let d = short.day in omega (arith, d)) in
    let after_month : AllByRecursion low (45 ∷ two_digits date.day) = (omega arith, its_day) in
    let from_month = all-append low (two_digits date.month) (45 ∷ two_digits date.day) month after_month in
    let after_year : AllByRecursion low (45 ∷ (two_digits date.month ++ 45 ∷ two_digits date.day)) =
    (omega arith, from_month) in
    let from_year = all-append low (two_digits (date.year % 100))
    (45 ∷ (two_digits date.month ++ 45 ∷ two_digits date.day)) year after_year in
    let bytes : AllByRecursion low (date_text date) = all-append low (two_digits (date.year / 100))
    (two_digits (date.year % 100) ++ 45 ∷ (two_digits date.month ++ 45 ∷ two_digits date.day)) years from_year in
    subst IsUtf8 (sym (date_text-day day)) (IsUtf8-from_ascii (date_text date) (low_bytes (date_text date) bytes))

-- and one that was entered
pub entered_utf8 : (day : ℕ) → day ≤ last_entered_day → IsUtf8 (day_text day)
entered_utf8 day h = day_utf8 day (omega (arith, h))

key_utf8 : (n : ℕ) (parents : ℕ → Option ℕ) → ((x p : ℕ) → parents x ≡ Some p → p ≤ 9999) → (x : ℕ) → x ≤ 9999
    → IsUtf8 (key_within n parents x)
unfolding key_within
key_utf8 zero parents low x h = IsUtf8-from_ascii (codes ".") (low_bytes (codes ".") (omega arith, tt))
key_utf8 (suc n) parents low x h = go (parents x) refl (key_utf8 n parents low)
  where
    go : (o : Option ℕ) → parents x ≡ o → ((p : ℕ) → p ≤ 9999 → IsUtf8 (key_within n parents p))
        → IsUtf8 (key_under o (λ p. key_within n parents p) x)
    go None e above = IsUtf8-from_ascii (codes ".") (low_bytes (codes ".") (omega arith, tt))
    go (Some p) e above =
        IsUtf8-append (key_within n parents p) _ (above p (low x p e))
        (IsUtf8-append (decimal x) _ (IsUtf8-from_ascii (decimal x) (IsAscii-decimal x (omega (arith, h))))
        (IsUtf8-from_ascii (codes ".") (low_bytes (codes ".") (omega arith, tt))))

own_skip : (f : Office) (whole gs : List Office) → Above f.number gs → AllByRecursion (λ (g : Office). parent_of whole
    g.number ≡ g.parent) gs → AllByRecursion (λ (g : Office). parent_of (f ∷ whole) g.number ≡ g.parent) gs
own_skip f whole [] above all = tt
own_skip f whole (g ∷ gs) above all = (
  let low = above.0 in let apart : (f.number == g.number) ≡ false = grind (
    arith,
    nat_tests,
  ) in rw apart all.0,
  own_skip f whole gs above.1 all.1,
)

own_parents : (fs : List Office) → Ascending fs → AllByRecursion (λ (f : Office). parent_of fs f.number ≡ f.parent) fs
own_parents [] up = tt
own_parents (f ∷ fs) up = (
  let itself : (f.number == f.number) ≡ true = grind (arith, nat_tests) in rw itself,
  own_skip f fs fs up.0 (own_parents fs up.1),
)

-- ---- the other tables

pub held_meta_under : (schema : ℕ) → schema < 2 ^ 32 → (i : Institution) → IsSound i → CanHoldRows (table.meta).columns
    meta_row (tables_under schema i).meta
held_meta_under schema low i sound = (
  record {
    width = refl;
    values = is_number 1 (omega arith) also is_number schema low
        also is_text (day_text i.catalogue.day) (entered_utf8 i.catalogue.day sound.catalogue.day) also tt;
  },
  tt,
)

pub held_meta : (i : Institution) → IsSound i → CanHoldRows (table.meta).columns meta_row (tables_of i).meta
held_meta = held_meta_under schema_number (omega arith)

abbrev HeldStaff : StaffRow → Type 0
HeldStaff x = HasFields (table.staff).columns (staff_row x)

pub held_staff : (i : Institution) → IsSound i → CanHoldRows (table.staff).columns staff_row (tables_of i).staff
held_staff i sound =
    all_map (HasFields (table.staff).columns) staff_row (tables_of i).staff
    (rows_held (λ (s : Staff). IsName s.name) HeldStaff (IsSoundOffice i.catalogue (is_staff i.offices)) 9999
    staff_in (λ rows. rows.staff) (λ x n s low_x low_n name. record {
      width = refl;
      values = is_number x (omega arith) also is_number n (omega arith) also is_text s.name name.text
          also is_number (role_number s.role) (role_low s.role) also tt;
    })
    (λ f is. (is.number.1, is.rows.staff_limit, is.rows.staff_names)) i.offices sound.each)
  where
    role_low : (r : Role) → role_number r < 2 ^ 32
    role_low Teller = omega arith
    role_low Officer = omega arith
    role_low Manager = omega arith

abbrev HeldOffice : OfficeRow → Type 0
HeldOffice x = HasFields (table.offices).columns (office_row x)

pub held_offices : (i : Institution) → IsSound i → CanHoldRows (table.offices).columns office_row (tables_of i).offices
unfolding key_of
held_offices i sound = all_map (HasFields (table.offices).columns) office_row (tables_of i).offices
    (each i.offices sound.each (own_parents i.offices sound.tree.ascending))
  where
    up : (x p : ℕ) → parent_of i.offices x ≡ Some p → p ≤ 9999
    up x p e = ((sound_tree i sound).numbered p (sound.tree.parents_there x p e)).1

    parent_low : (o : Option ℕ) (x : ℕ) → parent_of i.offices x ≡ o → IfSome o (λ n. n < 2 ^ 32)
    parent_low None x e = tt
    parent_low (Some p) x e = let most = up x p e in omega arith

    each : (fs : List Office) → AllByRecursion (IsSoundOffice i.catalogue (is_staff i.offices)) fs
        → AllByRecursion (λ (f : Office). parent_of i.offices f.number ≡ f.parent) fs
        → AllByRecursion HeldOffice (map (office_under (parent_of i.offices)) fs)
    each [] all own = tt
    each (f ∷ fs) all own = (
      record {
        width = refl;
        values = is_number f.number (let most = all.0.number.1 in omega arith)
            also may_be_number f.parent (parent_low f.parent f.number own.0)
            also is_text _ (key_utf8 5 (parent_of i.offices) up f.number all.0.number.1)
            also is_text f.name all.0.name.text also tt;
      },
      each fs all.1 own.1,
    )

abbrev HeldCharge : ChargeRow → Type 0
HeldCharge x = HasFields (table.charges).columns (charge_row x)

pub held_charges : (i : Institution) → IsSound i → CanHoldRows (table.charges).columns charge_row (tables_of i).charges
held_charges i sound =
    all_map (HasFields (table.charges).columns) charge_row (tables_of i).charges
    (numbered_held IsSoundCharge HeldCharge 999 charge_as
    (λ n c low is. record {
      width = refl;
      values = is_number n (omega arith) also is_text c.name is.name.text
          also is_number (kind_number c.kind) (kind_low c.kind) also is_number (calc_number c.calc) (calc_low c.calc)
          also is_amount (pos c.value) also tt;
    })
    1 i.catalogue.charges (let most = sound.catalogue.charge_limit in omega arith) sound.catalogue.charges)
  where
    kind_low : (k : ChargeKind) → kind_number k < 2 ^ 32
    kind_low Disbursement = omega arith
    kind_low Instalment = omega arith
    kind_low Overdue = omega arith
    kind_low DueDate = omega arith

    calc_low : (c : Calc) → calc_number c < 2 ^ 32
    calc_low calc.Flat = omega arith
    calc_low calc.OfAmount = omega arith
    calc_low calc.OfInterest = omega arith
    calc_low calc.OfBoth = omega arith

-- a charge that is named is there
charge_low : (k : Catalogue) → length k.charges ≤ 999 → (kind : ChargeKind) (o : Option ℕ)
    → is_of_kind (charge_in k) kind o ≡ true → IfSome o (λ n. n < 2 ^ 32)
charge_low k most kind None h = tt
charge_low k most kind (Some n) h = go (item_numbered k.charges n) refl h
  where
    go : (o : Option ListedCharge) → item_numbered k.charges n ≡ o → has_kind kind (option_map (charge_def n) o) ≡ true
        → n < 2 ^ 32
    go None e h = absurd (true≢false (sym h))
    go (Some c) e h = let low = ((has_number k.charges n).0 (ap is_some e)).1 in omega (arith, low, most)

flag_low : (b : Bool) → flag_number b < 2 ^ 32
flag_low false = omega arith
flag_low true = omega arith

abbrev HeldProduct : ProductRow → Type 0
HeldProduct x = HasFields (table.products).columns (product_row x)

product_held : (k : Catalogue) → IsSoundCatalogue k → (n : ℕ) (p : ListedProduct) → n ≤ 999
    → IsSoundOffer (charge_in k) p
    → HeldProduct (product_as n p)
product_held k sound n p low is =
    let m = is.members.limits in
    let kinds = (and_parts _ _ is.consistent).1 in
    let first = and_parts _ _ kinds in
    let others = and_parts _ _ first.1 in
    let most = sound.charge_limit in
    record {
      width = refl;
      values = is_number n (omega arith) also is_text p.members.name is.members.name.text
          also is_number (method_number p.members.method) (method_low p.members.method)
          also is_number p.members.rate (let h = m.rate in omega arith)
          also is_number (frequency_number p.members.freq) (frequency_low p.members.freq)
          also is_number p.members.every (let h = m.longest_step in let s = step_low p.members.freq in omega arith)
          also is_number p.members.principal_grace (let h = m.principal_grace in omega arith)
          also is_number p.members.interest_grace (let h = m.interest_grace in omega arith)
          also is_amount (pos p.members.min_principal) also is_amount (pos p.members.max_principal)
          also is_number p.members.min_periods (let h = m.most_min_periods in omega arith)
          also is_number p.members.max_periods (let h = m.most_max_periods in omega arith)
          also is_number (strategy_number p.members.strategy) (strategy_low p.members.strategy)
          also may_be_number p.members.disbursement_charge (charge_low k most Disbursement
          p.members.disbursement_charge first.0)
          also may_be_number p.members.instalment_charge (charge_low k most Instalment p.members.instalment_charge
          others.0)
          also may_be_number p.members.overdue_charge (charge_low k most Overdue p.members.overdue_charge others.1)
          also is_number (flag_number p.retired) (flag_low p.retired) also tt;
    }
  where
    method_low : (m : Method) → method_number m < 2 ^ 32
    method_low method.Flat = omega arith
    method_low method.EqualPrincipal = omega arith
    method_low method.Fixed = omega arith

    frequency_low : (f : Freq) → frequency_number f < 2 ^ 32
    frequency_low Weeks = omega arith
    frequency_low Months = omega arith

    step_low : (f : Freq) → longest_step f ≤ 52
    step_low Weeks = omega arith
    step_low Months = omega arith

    strategy_low : (s : StrategyName) → strategy_number s < 2 ^ 32
    strategy_low MifosStandard = omega arith
    strategy_low PrincipalFirst = omega arith
    strategy_low InterestFirst = omega arith
    strategy_low DueFirst = omega arith

pub held_products : (i : Institution) → IsSound i → CanHoldRows (table.products).columns product_row
    (tables_of i).products
held_products i sound =
    all_map (HasFields (table.products).columns) product_row (tables_of i).products (numbered_held
    (IsSoundOffer (charge_in i.catalogue)) HeldProduct 999 product_as (product_held i.catalogue sound.catalogue)
    1 i.catalogue.products (let most = sound.catalogue.product_limit in omega arith) sound.catalogue.products)

-- a product that lends has a number, and bounds the periods
lends_low : (k : Catalogue) → IsSoundCatalogue k → (n principal periods : ℕ) → lends (product_in k n) principal periods
    ≡ true → (n < 2 ^ 32) × (periods < 2 ^ 32)
lends_low k sound zero principal periods h = absurd (true≢false (sym h))
lends_low k sound (suc n) principal periods h = go (slice_get k.products n) refl
    (subst (λ o. lends (option_map (product_of (suc n)) o) principal periods ≡ true) (numbered-suc k.products n) h)
  where
    go : (o : Option ListedProduct) → slice_get k.products n ≡ o
        → lends (option_map (product_of (suc n)) o) principal periods
        ≡ true → (suc n < 2 ^ 32) × (periods < 2 ^ 32)
    go None e h = absurd (true≢false (sym h))
    go (Some p) e h =
        let within = slice_get_within k.products n p e in
        let limit = sound.product_limit in
        let bound = (all-slice_get (IsSoundOffer (charge_in k)) k.products n p e
        sound.products).members.limits.most_max_periods in
        let last : nat_le periods p.members.max_periods ≡ true = (and_parts _ _ (and_parts _ _ h).1).1 in (
          omega (arith, within, limit),
          (let low : periods ≤ p.members.max_periods = grind (arith, nat_tests) in
              omega (arith, low, bound)),
        )

-- ---- loans

abbrev HeldLoan : LoanRow → Type 0
HeldLoan x = HasFields (table.loans).columns (loan_row x)

abbrev IsLow : ℕ → Loan → Type 0
IsLow today l = (l.client < 2 ^ 32) × (l.product < 2 ^ 32) × (l.periods < 2 ^ 32) × IsStageBy today l.stage

loan_low : (k : Catalogue) → IsSoundCatalogue k → (staffed : Caller → Bool) (clients : List (List ℕ)) → length clients
    ≤ 999999 → (l : Ledger) → IsSoundLoan k staffed clients l → IsLow k.day l.loan
loan_low k sound staffed clients most l is =
    let low = ((has_number clients l.loan.client).0 is.client).1 in
    let lent = lends_low k sound l.loan.product l.loan.principal l.loan.periods is.product in
    (omega (arith, low, most), lent.0, lent.1, is.stage)

stage_low : (s : Stage) → stage_number s < 2 ^ 32
stage_low Submitted = omega arith
stage_low (Approved day) = omega arith
stage_low (Disbursed approved day) = omega arith
stage_low Withdrawn = omega arith
stage_low Rejected = omega arith

approved_utf8 : (today : ℕ) → today ≤ last_entered_day → (s : Stage) → IsStageBy today s
    → IfSome (approval_text s) IsUtf8
approved_utf8 today last Submitted by = tt
approved_utf8 today last (Approved day) by = entered_utf8 day (omega (arith, by, last))
approved_utf8 today last (Disbursed approved day) by = let before = by.0 in let after =
    by.1 in entered_utf8 approved (omega (arith, before, after, last))
approved_utf8 today last Withdrawn by = tt
approved_utf8 today last Rejected by = tt

disbursed_utf8 : (today : ℕ) → today ≤ last_entered_day → (s : Stage) → IsStageBy today s
    → IfSome (disbursal_text s) IsUtf8
disbursed_utf8 today last Submitted by = tt
disbursed_utf8 today last (Approved day) by = tt
disbursed_utf8 today last (Disbursed approved day) by = let after = by.1 in entered_utf8 day (omega
    (arith, after, last))
disbursed_utf8 today last Withdrawn by = tt
disbursed_utf8 today last Rejected by = tt

loan_held : (today : ℕ) → today ≤ last_entered_day → (x n : ℕ) (l : Loan) → x ≤ 9999 → n ≤ 999999 → IsLow today l
    → HeldLoan (loan_in x n l)
loan_held today last x n l low_x low_n is =
    record {
      width = refl;
      values = is_number x (omega arith) also is_number n (omega arith) also is_number l.client is.0
          also is_number l.product is.1 also is_amount (pos l.principal) also is_number l.periods is.2
          also is_number (stage_number l.stage) (stage_low l.stage)
          also may_be_text (approval_text l.stage) (approved_utf8 today last l.stage is.3)
          also may_be_text (disbursal_text l.stage) (disbursed_utf8 today last l.stage is.3) also tt;
    }

pub held_loans : (i : Institution) → IsSound i → CanHoldRows (table.loans).columns loan_row (tables_of i).loans
held_loans i sound =
    let k = i.catalogue in
    let staffed = is_staff i.offices in
    all_map (HasFields (table.loans).columns) loan_row (tables_of i).loans (rows_held (IsLow k.day) HeldLoan
    (IsSoundOffice k staffed) 999999 loan_in loans_of (loan_held k.day sound.catalogue.day)
    (λ f is. (
      is.number.1,
      subst (λ n. n ≤ 999999) (sym (length-map f.rows.loans (λ (l : Ledger). l.loan))) is.rows.loan_limit,
      all_map (IsLow k.day) (λ (l : Ledger). l.loan) f.rows.loans (all_weaker (IsSoundLoan k staffed f.rows.clients)
          (λ (l : Ledger). IsLow k.day l.loan) (loan_low k sound.catalogue staffed f.rows.clients is.rows.client_limit)
          f.rows.loans is.rows.loans),
    )) i.offices sound.each)

-- ---- entries

-- each has the number of its place, the first of which is this
abbrev pub AreNumberedFrom : ℕ → List Entry → Type 0
AreNumberedFrom n [] = Unit {0}
AreNumberedFrom n (e ∷ es) = (e.seq ≡ n) × AreNumberedFrom (n + 1) es

pub numbers_by_place : (n : ℕ) (es : List Entry) → ((i : ℕ) → i < length es → (entry_at es i).seq ≡ i + n)
    → AreNumberedFrom n es
numbers_by_place n [] h = tt
numbers_by_place n (e ∷ es) h = (
  h 0 (omega arith) ∙ omega arith,
  numbers_by_place (n + 1) es (λ i low. h (suc i)
      (omega (arith, low)) ∙ omega arith),
)

abbrev HeldEntry : EntryRow → Type 0
HeldEntry x = HasFields (table.entries).columns (entry_row x)

kind_low : (k : Kind) → entry_kind_number k < 2 ^ 32
kind_low kind.Repay = omega arith
kind_low kind.Fee = omega arith
kind_low kind.Penalty = omega arith
kind_low kind.Waive = omega arith
kind_low kind.WriteOff = omega arith
kind_low kind.Refund = omega arith

pub portion_low : (p : Portion) → portion_number p < 2 ^ 32
portion_low portion.Penalty = omega arith
portion_low portion.Fee = omega arith
portion_low portion.Interest = omega arith
portion_low portion.Principal = omega arith

instalment_low : (k : Kind) (n : ℕ) (e : Entry) → n < 2 ^ 32 → HasColumns k n e → e.instalment < 2 ^ 32
instalment_low kind.Repay n e low h = let none = h.2 in omega (arith, none)
instalment_low kind.Fee n e low h = let most = h.3 in omega (arith, most, low)
instalment_low kind.Penalty n e low h = let most = h.3 in omega (arith, most, low)
instalment_low kind.Waive n e low h = let most = h.2 in omega (arith, most, low)
instalment_low kind.WriteOff n e low h = let none = h.1 in omega (arith, none)
instalment_low kind.Refund n e low h = let none = h.1 in omega (arith, none)

receipt_utf8 : (o : Option (List ℕ)) → IfSome o IsReceipt → IfSome o IsUtf8
receipt_utf8 None is = tt
receipt_utf8 (Some t) is = receipt_is_text t is

caller_utf8 : (c : Caller) → IsCaller c → IsUtf8 (caller_text c.office c.staff)
caller_utf8 c is =
    let office = is.0.1 in
    let staff = is.1.1 in
    IsUtf8-append (decimal c.office) _ (IsUtf8-from_ascii (decimal c.office)
    (IsAscii-decimal c.office (omega (arith, office))))
    (IsUtf8-append (codes "/") _ (IsUtf8-from_ascii (codes "/") (low_bytes (codes "/") (omega arith, tt)))
    (IsUtf8-from_ascii (decimal c.staff) (IsAscii-decimal c.staff (omega (arith, staff)))))

module _ (today : ℕ) (last : today ≤ last_entered_day) (staffed : Caller → Bool) (callers : (c : Caller)
    → staffed c ≡ true → IsCaller c) where
  entry_held : (x m periods day : ℕ) (e : Entry) → x ≤ 9999 → m ≤ 999999 → periods < 2 ^ 32 → e.seq ≤ 9999
      → IsEntry periods day e → IsEntryBy today staffed e → HeldEntry (entry_in x m e)
  entry_held x m periods day e low_x low_m low seq is by =
      record {
        width = refl;
        values = is_number x (omega arith) also is_number m (omega arith) also is_number e.seq (omega arith)
            also is_number (entry_kind_number e.kind) (kind_low e.kind)
            also is_text (day_text e.day) (entered_utf8 e.day (let then = by.day in omega (arith, then, last)))
            also is_amount (pos e.amount) also is_number e.instalment (instalment_low e.kind periods e low is.columns)
            also is_number (portion_number e.portion) (portion_low e.portion)
            also may_be_text e.receipt (receipt_utf8 e.receipt by.receipt)
            also is_text (caller_text e.staff.office e.staff.staff) (caller_utf8 e.staff (callers e.staff by.staff))
            also is_number (flag_number e.reversed) (flag_low e.reversed) also tt;
      }

  entries_held : (x m periods day n : ℕ) (es : List Entry) → x ≤ 9999 → m ≤ 999999 → periods < 2 ^ 32 → n + length es
      ≤ 10000 → AreNumberedFrom n es → AllByRecursion (IsEntry periods day) es
      → AllByRecursion (IsEntryBy today staffed) es
      → AllByRecursion HeldEntry (map (entry_in x m) es)
  entries_held x m periods day n [] low_x low_m low few own are by = tt
  entries_held x m periods day n (e ∷ es) low_x low_m low few own are by = (
    entry_held x m periods day e low_x low_m low (let number = own.0 in omega (arith, number, few)) are.0 by.0,
    entries_held x m periods day (n + 1) es low_x low_m low (omega (arith, few)) own.1 are.1 by.1,
  )

  of_loan_held : (x m periods : ℕ) (o : Option ℕ) (es : List Entry) → x ≤ 9999 → m ≤ 999999 → periods < 2 ^ 32
      → AreEntriesBy today staffed periods o es → AllByRecursion HeldEntry (map (entry_in x m) es)
  of_loan_held x m periods None es low_x low_m low none =
      subst (λ l. AllByRecursion HeldEntry (map (entry_in x m) l)) (sym none) tt
  of_loan_held x m periods (Some day) es low_x low_m low are =
      entries_held x m periods day 1 es low_x low_m low (let few = are.lawful.few in omega (arith, few))
      (numbers_by_place 1 es are.lawful.numbers) (recursion_from_All (IsEntry periods day) es are.lawful.each)
      are.each

-- the rows of all entries
entry_rows_held : (i : Institution) → IsSound i → AllByRecursion HeldEntry (tables_of i).entries
entry_rows_held i sound =
    let k = i.catalogue in
    let staffed = is_staff i.offices in
    by_loan_held entry_in own_entries HeldEntry k staffed (λ x m clients l low_x low_m is.
    of_loan_held k.day sound.catalogue.day staffed (staff_are_callers k staffed i.offices sound.each) x m l.loan.periods
    (disbursed_on l.loan.stage) l.entries low_x low_m (lends_low k sound.catalogue l.loan.product l.loan.principal
    l.loan.periods is.product).1 is.entries) i.offices sound.each

pub held_entries : (i : Institution) → IsSound i → CanHoldRows (table.entries).columns entry_row (tables_of i).entries
held_entries i sound =
    all_map (HasFields (table.entries).columns) entry_row (tables_of i).entries (entry_rows_held i sound)

-- ---- receipts, held where the rows of their entries are

abbrev HeldReceipt : ReceiptRow → Type 0
HeldReceipt x = HasFields (table.receipts).columns (receipt_row x)

receipt_held : (x m : ℕ) (e : Entry) → HeldEntry (entry_in x m e)
    → AllByRecursion (λ u. HeldReceipt (receipt_in x u)) (use_of e.receipt m e)
receipt_held x m e held = go e.receipt held.values.1.1.1.1.1.1.1.1.0
  where
    go : (o : Option (List ℕ)) → CanHold MaybeText (or_text o)
        → AllByRecursion (λ u. HeldReceipt (receipt_in x u)) (use_of o m e)
    go None may = tt
    go (Some t) (inl none) = absurd (cc)
    go (Some t) (inr text) = (
      record {
        width = refl;
        values = held.values.0 also text also held.values.1.0 also held.values.1.1.0 also tt;
      },
      tt,
    )

uses_held : (x m : ℕ) (es : List Entry) → AllByRecursion HeldEntry (map (entry_in x m) es)
    → AllByRecursion (λ u. HeldReceipt (receipt_in x u)) (uses_in m es)
uses_held x m [] held = tt
uses_held x m (e ∷ es) held = all-append (λ u. HeldReceipt (receipt_in x u)) (use_of e.receipt m e) (uses_in m es)
    (receipt_held x m e held.0) (uses_held x m es held.1)

uses_of_loans : (x n : ℕ) (ls : List Ledger) → AllByRecursion HeldEntry (rows_of_loans entry_in own_entries x n ls)
    → AllByRecursion (λ u. HeldReceipt (receipt_in x u)) (uses_from n ls)
uses_of_loans x n [] held = tt
uses_of_loans x n (l ∷ ls) held =
    let parts = all_parts HeldEntry (map (entry_in x n) l.entries) (rows_of_loans entry_in own_entries x (n + 1) ls)
    held in
    all-append (λ u. HeldReceipt (receipt_in x u)) (uses_in n l.entries) (uses_from (n + 1) ls)
    (uses_held x n l.entries parts.0) (uses_of_loans x (n + 1) ls parts.1)

carried_held : (fs : List Office) → AllByRecursion HeldEntry (entry_rows fs)
    → AllByRecursion HeldReceipt (receipts_carried fs)
carried_held [] held = tt
carried_held (f ∷ fs) held =
    let parts = all_parts HeldEntry (rows_of_loans entry_in own_entries f.number 1 f.rows.loans) (entry_rows fs)
    held in
    all-append HeldReceipt (map (receipt_in f.number) (uses_from 1 f.rows.loans)) (receipts_carried fs)
    (all_map HeldReceipt (receipt_in f.number) (uses_from 1 f.rows.loans)
    (uses_of_loans f.number 1 f.rows.loans parts.0)) (carried_held fs parts.1)

pub held_receipts : (i : Institution) → IsSound i → CanHoldRows (table.receipts).columns receipt_row
    (tables_of i).receipts
held_receipts i sound = all_map (HasFields (table.receipts).columns) receipt_row (tables_of i).receipts
    (all_sorted by_receipt HeldReceipt (receipts_carried i.offices)
    (carried_held i.offices (entry_rows_held i sound)))
