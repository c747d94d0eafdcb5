-- Tables in whose rows nothing is found are those of a sound institution, but for the rows of accounts.
use Rattle.std.proofs.Common.{◌≡◌, ◌≤◌, ◌+◌, ◌==◌, ◌∙◌, ◌&&◌, ℕ, true, List, [], ◌∷◌}
use Rattle.std.proofs.Common.{length, Some, None, sym, subst, ap, arith, inl, inr, nat_cmp}
use Rattle.std.proofs.Common.{eqb-true, Equal}
use Rattle.std.specs.List.{AllByRecursion, Contains, list_all}
use Rattle.std.specs.Ordering.{ordering_then}
use Rattle.std.proofs.lemmas.Bool.Decides.{nat_tests}
use Rattle.std.proofs.lemmas.List.{get_or_default}
use Rattle.sqlite_keyed.proofs.ListLemmas.{all_both, all_weaker, test_from_all}
use Rattle.mf_base.specs.DayText.{last_entered_day}
use Rattle.mf_office.specs.Numbers.{IsNumberUpTo}
use Rattle.mf_office.specs.Texts.{IsCaller}
use Rattle.mf_office.specs.declared.caller.Caller.{Caller}
use Rattle.mf_model.specs.Institution.{Office}
use Rattle.mf_model.specs.Sound.{IsSoundCharge, is_staff}
use Rattle.mf_model.specs.Tree.{Ascending}
use Rattle.mf_store_schema.specs.Rows.{Lists}
use Rattle.mf_store_schema.specs.Versions.{number_of}
use Rattle.mf_store_schema.specs.declared.entries.EntryRow.{EntryRow}
use Rattle.mf_store_schema.specs.declared.offices.OfficeRow.{OfficeRow}
use Rattle.mf_store_schema.specs.declared.staff.StaffRow.{StaffRow}
use Rattle.mf_store_schema.specs.declared.versions.Version.{Version}
use Rattle.mf_store_schema.proofs.OrderLemmas.{by_entry_total}
use Rattle.mf_store_values.specs.Flat.{all_rows, charge_as, staff_in}
use Rattle.mf_store_values.specs.ReceiptRows.{AreReceiptsOf, receipt_of}
use Rattle.mf_store_sound.specs.Callers.{is_by_staff, is_named_staff}
use Rattle.mf_store_sound.specs.Offices.{AreOfficeRows, IsOfficeRow}
use Rattle.mf_store_sound.specs.Schemas.{meta_under}
use Rattle.mf_store_sound.specs.Sound.{AreUnder}
use Rattle.mf_store_sound.specs.Stored.{AllFrom, IsRowOf}
use Rattle.mf_store_sound.proofs.OfficeTreeLemmas.{KeysLaw, offices_from_rows}
use Rattle.mf_store_sound.proofs.SoundLemmas.{under_is}
use Rattle.mf_store_sound.proofs.StaffLemmas.{found_staff}
use Rattle.mf_store_audit.specs.Catalogue.{BreaksMeta, BreaksCharge, BreaksProduct}
use Rattle.mf_store_audit.specs.Entries.{is_own_loan, is_staff_named, AreListed, BreaksEntry, BreaksReceipt}
use Rattle.mf_store_audit.specs.Findings.{IsToday, found_in_rows}
use Rattle.mf_store_audit.specs.Kinds.{charge_flaws, client_flaws, entry_flaws, loan_flaws, meta_flaws, office_flaws}
use Rattle.mf_store_audit.specs.Kinds.{product_flaws, receipt_flaws, staff_flaws}
use Rattle.mf_store_audit.specs.Loans.{BreaksLoan}
use Rattle.mf_store_audit.specs.Offices.{is_office, BreaksClient, BreaksOffice, BreaksStaff}
use Rattle.mf_store_audit.specs.Places.{AreInTurn}
use Rattle.mf_store_audit.specs.declared.finding.Finding.TheVariants as finding
use Rattle.mf_audit_laws.proofs.CatalogueLemmas.{AreOffers, charges_are, meta_is, offers_under, products_are}
use Rattle.mf_audit_laws.proofs.EntryLemmas.{AreEntryRows, IsEntered, entries_are}
use Rattle.mf_audit_laws.proofs.FoundLemmas.{none_found, none_of_each}
use Rattle.mf_audit_laws.proofs.LoanLemmas.{AreLoanRows, IsLoanRow, loans_are}
use Rattle.mf_audit_laws.proofs.MemberLemmas.{any_there, both_equal, each_at, each_within}
use Rattle.mf_audit_laws.proofs.NextLemmas.{AreStarted, AreChained, IsLinked}
use Rattle.mf_audit_laws.proofs.OfficeLemmas.{AreClientRows, AreStaffRows, IsClientRow, IsStaffRow, clients_are}
use Rattle.mf_audit_laws.proofs.OfficeLemmas.{office_rows_are, staff_are}
use Rattle.mf_audit_laws.proofs.PartLemmas.{AreLeft, parts_left}
use Rattle.mf_audit_laws.proofs.ReceiptLemmas.{receipts_are}

-- ---- the members of staff that rows name

module _ {R : Type 0} (owner number : R → ℕ) where
  some_linked : (x n : ℕ) (r : R) → IsLinked owner number x n r → 1 ≤ number r
  some_linked x n r (inl h) = let next : number r ≡ n + 1 = h.1 in omega (arith, next)
  some_linked x n r (inr h) = let first : number r ≡ 1 = h.1 in omega (arith, first)

  some_chained : (x n : ℕ) (rows : List R) → AreChained owner number x n rows
      → AllByRecursion (λ r. 1 ≤ number r) rows
  some_chained x n [] chain = tt
  some_chained x n (r ∷ rs) chain = (some_linked x n r chain.0, some_chained (owner r) (number r) rs chain.1)

  -- numbers are from 1 on
  some_started : (rows : List R) → AreStarted owner number rows → AllByRecursion (λ r. 1 ≤ number r) rows
  some_started [] starts = tt
  some_started (r ∷ rs) starts =
      ((let first : number r ≡ 1 = starts.0 in omega (arith, first)), some_chained (owner r) (number r) rs starts.1)

-- a member of staff whom the rows have is a caller
in_range : (offices : List OfficeRow) (staff : List StaffRow) → AreOfficeRows offices → AreStaffRows offices staff
    → (c : Caller) → is_staff_named staff (Some c) ≡ true → IsCaller c
in_range offices staff tree rows c named =
    let found = any_there (λ (s : StaffRow). (s.office == c.office) && (s.number == c.staff)) staff named in
    let same = both_equal found.0.office c.office found.0.number c.staff found.2 in
    let its = each_at (IsStaffRow offices) staff found.0 rows.each found.1 in
    let some = each_at (λ (s : StaffRow). 1 ≤ s.number) staff found.0
    (some_started (λ (s : StaffRow). s.office) (λ s. s.number) staff rows.starts) found.1 in
    let office = any_there (λ (f : OfficeRow). f.number == found.0.office) offices its.there in
    let number : office.0.number ≡ c.office = eqb-true office.0.number found.0.office office.2 ∙ same.0 in
    let own = each_at (IsOfficeRow offices) offices office.0 tree.each office.1 in (
      subst (IsNumberUpTo 9999) number own.own.number,
      subst (IsNumberUpTo 9999) same.1 (some, its.within),
    )

tied : (a b c d : ℕ) → a ≡ b → c ≡ d → ordering_then (nat_cmp a b) (nat_cmp c d) ≡ Equal
tied a b c d p q = grind (arith, nat_tests)

-- and is one of any offices that have these rows
staff_there : (staff : List StaffRow) (fs : List Office) → Ascending fs
    → all_rows staff_in (λ own. own.staff) fs ≡ staff → (c : Caller) → is_staff_named staff (Some c) ≡ true
    → is_staff fs c ≡ true
staff_there staff fs up are c named =
    let found = any_there (λ (s : StaffRow). (s.office == c.office) && (s.number == c.staff)) staff named in
    let same = both_equal found.0.office c.office found.0.number c.staff found.2 in
    sym (found_staff c.office c.staff fs up staff are found.1.0 found.1.1
    (λ d. subst (λ (s : StaffRow). ordering_then (nat_cmp s.office c.office) (nat_cmp s.number c.staff) ≡ Equal)
    (sym (get_or_default staff found.1.0 d found.0 found.1.1 ∙ found.1.2))
    (tied found.0.office c.office found.0.number c.staff same.0 same.1)))

-- ---- the rows of offices

module _ (today : ℕ) (t : Lists) (staff : AreStaffRows t.offices t.staff) (clients : AreClientRows t.offices t.clients)
    (loans : AreLoanRows today t.offices t.clients t.products t.loans)
    (entries : AreEntryRows today t.loans t.staff t.receipts t.entries) where
  office_there : (row : EntryRow) → IsEntered today t.loans t.staff t.receipts t.entries row
      → is_office t.offices row.office ≡ true
  office_there row h =
      let found = any_there (is_own_loan row) t.loans h.lent in
      let same = both_equal found.0.office row.office found.0.number row.loan found.2 in
      let its = each_at (IsLoanRow today t.offices t.clients t.products) t.loans found.0 loans.each found.1 in
      subst (λ n. is_office t.offices n ≡ true) same.0 its.there

  all_left : AreLeft today t.offices t.products t.loans t.staff t.receipts t.entries t.offices t.staff t.clients
      t.loans t.entries
  all_left = record {
    staff_left = record {
      starts = staff.starts;
      there = all_weaker (IsStaffRow t.offices) _ (λ r h. h.there) t.staff staff.each;
      each = staff.each;
    };
    clients_left = record {
      starts = clients.starts;
      there = all_weaker (IsClientRow t.offices) _ (λ r h. h.there) t.clients clients.each;
      each = clients.each;
    };
    loans_left = record {
      starts = loans.starts;
      there = all_weaker (IsLoanRow today t.offices t.clients t.products) _ (λ r h. h.there) t.loans loans.each;
      each = all_both (IsLoanRow today t.offices t.clients t.products) (λ r. Contains t.loans r) _
          (λ r h at. (h.lent, h.within, at)) t.loans loans.each (each_within t.loans t.loans (λ q at. at));
    };
    entries_left = record {
      starts = entries.starts;
      there = all_weaker (IsEntered today t.loans t.staff t.receipts t.entries) _ office_there t.entries entries.each;
      each = all_both (IsEntered today t.loans t.staff t.receipts t.entries) (λ r. Contains t.entries r) _
          (λ r h at. (h, at)) t.entries entries.each (each_within t.entries t.entries (λ q at. at));
    };
    clients_there = all_weaker (IsLoanRow today t.offices t.clients t.products) _ (λ r h. h.client) t.loans loans.each;
    lent = all_weaker (IsEntered today t.loans t.staff t.receipts t.entries) _ (λ r h. h.lent) t.entries entries.each;
  }

  -- each entry was entered by somebody who is there
  all_by_staff : (fs : List Office) → Ascending fs → all_rows staff_in (λ own. own.staff) fs ≡ t.staff
      → list_all (is_by_staff fs) t.entries ≡ true
  all_by_staff fs up are = test_from_all (is_by_staff fs) t.entries
      (all_weaker (IsEntered today t.loans t.staff t.receipts t.entries) _
      (λ row h. ap (is_named_staff fs) h.names ∙ staff_there t.staff fs up are h.entry.staff h.named) t.entries
      entries.each)

  -- the rows of all tables but those of accounts
  all_under : (schema : ℕ) → KeysLaw → today ≤ last_entered_day → meta_under schema today ∷ [] ≡ t.meta
      → (length t.charges ≤ 999) × AllFrom (IsRowOf charge_as IsSoundCharge) 1 t.charges
      → AreOffers t.charges t.products → AreOfficeRows t.offices → AreReceiptsOf t.receipts t.entries
      → AreUnder schema t
  all_under schema law entered meta charges offers tree receipts =
      (under_is schema t today (AreReceiptsOf t.receipts t.entries) entered meta charges
      (λ of. offers_under of.0 t.charges t.products of.1 offers) (offices_from_rows t.offices law tree)
      (λ k day_is products_are up. parts_left today t.offices t.products t.loans t.staff t.receipts t.entries k day_is
      entered products_are t.offices t.staff t.clients t.loans t.entries up all_left) all_by_staff
      (λ r. r, λ r. r)).0 receipts

-- ---- where nothing is found

-- tables in whose rows nothing is found are those of a sound institution, but for the rows of accounts
pub none_broken : KeysLaw → (v : Version) (today : ℕ) (t : Lists) → IsToday (number_of v) t.meta today
    → AreInTurn (found_in_rows v today t) [] → ¬ ¬ AreUnder (number_of v) t
none_broken law v today t is found fails =
    let none = none_of_each (found_in_rows v today t) found in
    let meta = none_found meta_flaws (λ flaw before. BreaksMeta (number_of v) flaw) finding.Meta 0 None t.meta
    none.1.0 in
    let charge_rows = none_found charge_flaws BreaksCharge finding.Charge 0 None t.charges none.1.1.0 in
    let product_rows = none_found product_flaws (BreaksProduct t.charges) finding.Product 0 None t.products
    none.1.1.1.0 in
    let office_rows = none_found office_flaws (BreaksOffice t.offices) finding.Office 0 None t.offices
    none.1.1.1.1.1.0 in
    let staff_rows = none_found staff_flaws (BreaksStaff t.offices) finding.Staff 0 None t.staff
    none.1.1.1.1.1.1.0 in
    let client_rows = none_found client_flaws (BreaksClient t.offices) finding.Client 0 None t.clients
    none.1.1.1.1.1.1.1.0 in
    let loan_rows = none_found loan_flaws (BreaksLoan today t.offices t.clients t.products) finding.Loan 0 None t.loans
    none.1.1.1.1.1.1.1.1.0 in
    let entry_rows = none_found entry_flaws (BreaksEntry today t.loans t.staff t.receipts t.entries) finding.Entry 0
    None t.entries none.1.1.1.1.1.1.1.1.1.0 in
    let receipt_rows = none_found receipt_flaws (BreaksReceipt t.entries) finding.Receipt 0 None t.receipts
    none.1.1.1.1.1.1.1.1.1.1.0 in
    meta_is (number_of v) today t.meta is (sym none.0) meta (λ day.
    charges_are t.charges charge_rows (λ charges.
    products_are t.charges t.products product_rows (λ offers.
    office_rows_are t.offices (sym none.1.1.1.1.0) office_rows (λ tree.
    staff_are t.offices t.staff staff_rows (λ staff.
    clients_are t.offices t.clients client_rows (λ clients.
    loans_are today t.offices t.clients t.charges t.products t.loans offers loan_rows (λ loans.
    entries_are today t.loans t.staff t.receipts t.entries by_entry_total (in_range t.offices t.staff tree staff)
    entry_rows (λ entries.
    receipts_are t.receipts t.entries entries.rise
    (all_weaker (IsEntered today t.loans t.staff t.receipts t.entries)
    (λ (e : EntryRow). AreListed t.receipts (receipt_of e e.receipt)) (λ e h. h.listed) t.entries entries.each)
    receipt_rows (λ receipts.
    fails (all_under today t staff clients loans entries (number_of v) law day.0 day.1 charges offers tree
    receipts))))))))))
