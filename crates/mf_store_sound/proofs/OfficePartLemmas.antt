-- Rows of one office after another: apart and together.
use Rattle.std.proofs.Common.{◌≡◌, ◌↔◌, ◌<◌, ◌≤◌, ◌+◌, ◌∙◌, ℕ, List, [], ◌∷◌, ◌++◌, map, length, get_or, drop, refl}
use Rattle.std.proofs.Common.{sym, ap, subst, arith}
use Rattle.std.specs.List.{AllByRecursion}
use Rattle.std.proofs.lemmas.List.{take-append-drop, length-map}
use Rattle.sqlite_keyed.proofs.ListLemmas.{ascending_from_map}
use Rattle.mf_model.specs.Institution.{Catalogue, Ledger, Office, Rows, Staff}
use Rattle.mf_model.specs.Sound.{IsName}
use Rattle.mf_model.specs.Tree.{Above, Ascending}
use Rattle.mf_store_schema.specs.declared.clients.ClientRow.{ClientRow}
use Rattle.mf_store_schema.specs.declared.entries.EntryRow.{EntryRow}
use Rattle.mf_store_schema.specs.declared.loans.LoanRow.{LoanRow}
use Rattle.mf_store_schema.specs.declared.offices.OfficeRow.{OfficeRow}
use Rattle.mf_store_schema.specs.declared.staff.StaffRow.{StaffRow}
use Rattle.mf_store_values.specs.Flat.{numbered_from, all_rows, rows_of_loans, entry_rows, own_entries, loans_of}
use Rattle.mf_store_values.specs.Flat.{staff_in, client_in, loan_in, entry_in}
use Rattle.mf_store_values.specs.Parts.{own_count, own, later, office_of, bare}
use Rattle.mf_store_values.proofs.MadeLemmas.{at_row}
use Rattle.mf_store_values.proofs.PartLemmas.{own_of_first, later_of_first, own_of_office, later_of_office}
use Rattle.mf_store_sound.specs.Sound.{AreLoanParts, IsPlainRows, IsOfficePart, AreOfficeParts}
pub use Rattle.mf_store_sound.proofs.StoredLemmas.{length_numbered}
use Rattle.mf_store_sound.proofs.StoredLemmas.{AreRowsOf}

-- ---- what an office's part is made of

loans_counted : (x : ℕ) (ls : List Ledger) (loans : List LoanRow)
    → numbered_from (loan_in x) 1 (map (λ (l : Ledger). l.loan) ls) ≡ loans → length ls ≡ length loans
loans_counted x ls loans is = sym (length-map ls (λ (l : Ledger). l.loan))
    ∙ sym (length_numbered (loan_in x) 1 (map (λ (l : Ledger). l.loan) ls)) ∙ ap length is

module _ (k : Catalogue) (x : ℕ) (staff : List StaffRow) (clients : List ClientRow) (loans : List LoanRow)
    (entries : List EntryRow) where
  pub office_part : (B : Type 0) → AreRowsOf (staff_in x) (λ (s : Staff). IsName s.name) 9999 staff
      → AreRowsOf (client_in x) IsName 999999 clients → ((names : List (List ℕ)) → length names ≡ length clients → B
      ↔ ((length loans ≤ 999999) × AreLoanParts k names x 1 loans entries)) → B ↔ IsOfficePart k x staff clients loans
      entries
  office_part B s c l = (
    λ yes.
        let lent = (l c.values (sym (length_numbered (client_in x) 1 c.values) ∙ ap length c.rows_are)).0 yes in
        record {
          rows = record { staff = s.values; clients = c.values; loans = lent.1.ledgers };
          plain = record {
            staff_limit = s.few;
            staff_names = s.pass;
            client_limit = c.few;
            client_names = c.pass;
            loan_limit = omega (arith, loans_counted x lent.1.ledgers loans lent.1.loans_are, lent.0);
            loans = lent.1.each;
          };
          staff_are = s.rows_are;
          clients_are = c.rows_are;
          loans_are = lent.1.loans_are;
          entries_are = lent.1.entries_are;
        },
    λ part. (l part.rows.clients (sym (length_numbered (client_in x) 1 part.rows.clients)
        ∙ ap length part.clients_are)).1 (
          omega (arith, loans_counted x part.rows.loans loans part.loans_are, part.plain.loan_limit),
          record {
            ledgers = part.rows.loans;
            each = part.plain.loans;
            loans_are = part.loans_are;
            entries_are = part.entries_are;
          },
        ),
  )

-- ---- the rows of four tables, as one

abbrev of_staff : StaffRow → ℕ
of_staff r = r.office

abbrev pub of_client : ClientRow → ℕ
of_client r = r.office

abbrev pub of_loan : LoanRow → ℕ
of_loan r = r.office

abbrev pub of_entry : EntryRow → ℕ
of_entry r = r.office

-- rows of staff, clients, loans and entries
abbrev pub Four : Type 0
Four = List StaffRow × List ClientRow × List LoanRow × List EntryRow

-- those of one office
abbrev block : ℕ → Rows → Four
block x rows = (
  numbered_from (staff_in x) 1 rows.staff,
  numbered_from (client_in x) 1 rows.clients,
  numbered_from (loan_in x) 1 (loans_of rows),
  rows_of_loans entry_in own_entries x 1 rows.loans,
)

-- those of all
abbrev blocks : List Office → Four
blocks fs = (
  all_rows staff_in (λ own. own.staff) fs,
  all_rows client_in (λ own. own.clients) fs,
  all_rows loan_in loans_of fs,
  entry_rows fs,
)

-- the first ones, which are an office's, and the later ones
abbrev own_four : ℕ → Four → Four
own_four x t = (own of_staff x t.0, own of_client x t.1, own of_loan x t.2, own of_entry x t.3)

abbrev later_four : ℕ → Four → Four
later_four x t = (later of_staff x t.0, later of_client x t.1, later of_loan x t.2, later of_entry x t.3)

abbrev pub IsOwn : ℕ → Four → Four → Type 0
IsOwn x t first = (first.0 ≡ own of_staff x t.0) × (first.1 ≡ own of_client x t.1) × (first.2 ≡ own of_loan x t.2)
    × (first.3 ≡ own of_entry x t.3)

abbrev pub IsLater : ℕ → Four → Four → Type 0
IsLater x t more = (more.0 ≡ later of_staff x t.0) × (more.1 ≡ later of_client x t.1) × (more.2 ≡ later of_loan x t.2)
    × (more.3 ≡ later of_entry x t.3)

abbrev joined : Four → Four → Four
joined s t = (s.0 ++ t.0, s.1 ++ t.1, s.2 ++ t.2, s.3 ++ t.3)

whole_is : (x : ℕ) (t first more : Four) → IsOwn x t first → IsLater x t more → joined first more ≡ t
whole_is x t first more p q = λ i. (
  ((λ j. p.0 j ++ q.0 j) ∙ take-append-drop (own_count of_staff x t.0) t.0) i,
  ((λ j. p.1 j ++ q.1 j) ∙ take-append-drop (own_count of_client x t.1) t.1) i,
  ((λ j. p.2 j ++ q.2 j) ∙ take-append-drop (own_count of_loan x t.2) t.2) i,
  ((λ j. p.3 j ++ q.3 j) ∙ take-append-drop (own_count of_entry x t.3) t.3) i,
)

own_is : (f : Office) (fs : List Office) → Above f.number fs → own_four f.number (blocks (f ∷ fs)) ≡ block f.number
    f.rows
own_is f fs above = λ t. (
  own_of_first staff_in (λ own. own.staff) of_staff (λ x n b. refl) f fs above t,
  own_of_first client_in (λ own. own.clients) of_client (λ x n b. refl) f fs above t,
  own_of_first loan_in loans_of of_loan (λ x n b. refl) f fs above t,
  own_of_office entry_in own_entries of_entry (λ x n b. refl) f fs above t,
)

later_is : (f : Office) (fs : List Office) → Above f.number fs → later_four f.number (blocks (f ∷ fs)) ≡ blocks fs
later_is f fs above = λ t. (
  later_of_first staff_in (λ own. own.staff) of_staff (λ x n b. refl) f fs above t,
  later_of_first client_in (λ own. own.clients) of_client (λ x n b. refl) f fs above t,
  later_of_first loan_in loans_of of_loan (λ x n b. refl) f fs above t,
  later_of_office entry_in own_entries of_entry (λ x n b. refl) f fs above t,
)

-- ---- offices with their rows

module _ (k : Catalogue) where
  abbrev pub IsPart : ℕ → Four → Type 0
  IsPart x t = IsOfficePart k x t.0 t.1 t.2 t.3

  abbrev pub AreParts : List OfficeRow → Four → Type 0
  AreParts os t = AreOfficeParts k os t.0 t.1 t.2 t.3

  part_of : (x : ℕ) (t : Four) (rows : Rows) → IsPlainRows k rows → block x rows ≡ t → IsPart x t
  part_of x t rows plain are = record {
    rows = rows;
    plain = plain;
    staff_are = λ i. (are i).0;
    clients_are = λ i. (are i).1;
    loans_are = λ i. (are i).2;
    entries_are = λ i. (are i).3;
  }

  parts_of : (os : List OfficeRow) (t : Four) (fs : List Office) → map bare fs ≡ map office_of os
      → AllByRecursion (λ (f : Office). IsPlainRows k f.rows) fs → blocks fs ≡ t → AreParts os t
  parts_of os t fs theirs plain are = record {
    offices = fs;
    theirs = theirs;
    plain = plain;
    staff_are = λ i. (are i).0;
    clients_are = λ i. (are i).1;
    loans_are = λ i. (are i).2;
    entries_are = λ i. (are i).3;
  }

  part_is : (x : ℕ) (t : Four) (h : IsPart x t) → block x h.rows ≡ t
  part_is x t h = λ i. (h.staff_are i, h.clients_are i, h.loans_are i, h.entries_are i)

  parts_are : (os : List OfficeRow) (t : Four) (h : AreParts os t) → blocks h.offices ≡ t
  parts_are os t h = λ i. (h.staff_are i, h.clients_are i, h.loans_are i, h.entries_are i)

  -- no office has rows where there are none
  pub no_offices : (t : Four) → AreParts [] t ↔ ((t.0 ≡ []) × (t.1 ≡ []) × (t.2 ≡ []) × (t.3 ≡ []))
  no_offices t = (
    λ h. go h.offices h.theirs (parts_are [] t h),
    λ none. parts_of [] t [] refl tt (λ i. (sym none.0 i, sym none.1 i, sym none.2 i, sym none.3 i)),
  )
    where
      go : (fs : List Office) → map bare fs ≡ [] → blocks fs ≡ t → (t.0 ≡ []) × (t.1 ≡ []) × (t.2 ≡ []) × (t.3 ≡ [])
      go [] theirs are = (λ i. (sym are i).0, λ i. (sym are i).1, λ i. (sym are i).2, λ i. (sym are i).3)
      go (f ∷ fs) theirs are = absurd (cc)

  -- from the office at i on the rows are its own and those of the others
  module _ (offices : List OfficeRow) (i : ℕ) (o : OfficeRow) (h : i < length offices) (is : o ≡ get_or offices i o)
      (up : Ascending (map office_of (drop i offices))) where
    pub rising : Ascending (map office_of (o ∷ drop (i + 1) offices))
    rising = subst (λ (os : List OfficeRow). Ascending (map office_of os)) (at_row offices i o h is) up

    pub first_and_others : (t first more : Four) → IsOwn o.number t first → IsLater o.number t more
        → AreParts (o ∷ drop (i + 1) offices) t ↔ (IsPart o.number first × AreParts (drop (i + 1) offices) more)
    first_and_others t first more p q = (
      λ all. go all.offices all.theirs all.plain (parts_are (o ∷ drop (i + 1) offices) t all),
      λ both. parts_of (o ∷ drop (i + 1) offices) t
          (record { number = o.number; parent = o.parent; name = o.name; rows = both.0.rows } ∷ both.1.offices)
          (λ j. office_of o ∷ both.1.theirs j) (both.0.plain, both.1.plain)
          ((λ j. joined (part_is o.number first both.0 j) (parts_are (drop (i + 1) offices) more both.1 j))
          ∙ whole_is o.number t first more p q),
    )
      where
        go : (fs : List Office) → map bare fs ≡ office_of o ∷ map office_of (drop (i + 1) offices)
            → AllByRecursion (λ (f : Office). IsPlainRows k f.rows) fs → blocks fs ≡ t
            → IsPart o.number first × AreParts (drop (i + 1) offices) more
        go [] theirs plain are = absurd (cc)
        go (f ∷ fs) theirs plain are =
            let head : bare f ≡ office_of o = cc in
            let others : map bare fs ≡ map office_of (drop (i + 1) offices) = cc in
            let number : f.number ≡ o.number = ap (λ (g : Office). g.number) head in
            let above : Above f.number fs = (ascending_from_map (λ (f g : Office). f.number < g.number) bare (f ∷ fs)
            (subst Ascending (sym theirs) rising)).0 in
            subst (λ n. IsPart n first × AreParts (drop (i + 1) offices) more) number (
              part_of f.number first f.rows plain.0 (sym (own_is f fs above) ∙ (λ j. own_four (number j) (are j))
                  ∙ (λ j. (sym p.0 j, sym p.1 j, sym p.2 j, sym p.3 j))),
              parts_of (drop (i + 1) offices) more fs others plain.1 (sym (later_is f fs above)
                  ∙ (λ j. later_four (number j) (are j)) ∙ (λ j. (sym q.0 j, sym q.1 j, sym q.2 j, sym q.3 j))),
            )
