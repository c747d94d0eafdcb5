-- Rows of one loan after another, with those of their entries: apart and together.
use Rattle.std.proofs.Common.{◌≡◌, ◌↔◌, ◌+◌, ◌∙◌, ℕ, List, [], ◌∷◌, ◌++◌, map, Option, Some, None, refl, sym}
use Rattle.std.specs.List.{AllByRecursion}
use Rattle.std.proofs.lemmas.List.{take-append-drop}
use Rattle.mf_account.specs.declared.entry.Entry.{Entry}
use Rattle.mf_model.specs.Institution.{Catalogue, Ledger}
use Rattle.mf_model.specs.Sound.{IsStageBy}
use Rattle.mf_model.specs.Stages.{disbursed_on}
use Rattle.mf_model.specs.declared.loan.Loan.{Loan}
use Rattle.mf_store_schema.specs.declared.entries.EntryRow.{EntryRow}
use Rattle.mf_store_schema.specs.declared.loans.LoanRow.{LoanRow}
use Rattle.mf_store_values.specs.Flat.{numbered_from, loan_in, entry_in, own_entries, rows_of_loans}
use Rattle.mf_store_values.specs.Parts.{own_count, own, later}
use Rattle.mf_store_values.specs.Ledgers.{AreEntriesIn, IsPlainLoan, IsOwnLoan}
use Rattle.mf_store_values.proofs.PartLemmas.{own_of_loan, later_of_loan}
use Rattle.mf_store_sound.specs.Sound.{IsLoanPart, AreLoanParts}
use Rattle.mf_store_sound.specs.Stages.{AreEntriesOf}
use Rattle.mf_store_sound.specs.Stored.{IsRowOf}

abbrev pub loan_of : EntryRow → ℕ
loan_of r = r.loan

-- rows that are those of entries
entered : (today n x m : ℕ) (day : Option ℕ) (rows : List EntryRow) → AreEntriesOf today n day x m rows
    → (entries : List Entry) × AreEntriesIn today n day entries × (map (entry_in x m) entries ≡ rows)
entered today n x m None rows h = ([], refl, sym h)
entered today n x m (Some day) rows h = (h.entries, (h.lawful, h.each), h.rows_are)

entered_back : (today n x m : ℕ) (day : Option ℕ) (entries : List Entry) (rows : List EntryRow)
    → AreEntriesIn today n day entries → map (entry_in x m) entries ≡ rows → AreEntriesOf today n day x m rows
entered_back today n x m None entries rows h is = sym is ∙ (λ t. map (entry_in x m) (h t))
entered_back today n x m (Some day) entries rows h is =
    record { entries = entries; lawful = h.0; each = h.1; rows_are = is }

module _ (k : Catalogue) (names : List (List ℕ)) (x : ℕ) where
  pub loan_row_of : (n : ℕ) (row : LoanRow) (rows : List EntryRow) → IsLoanPart k names x n row rows
      → IsRowOf (loan_in x) (IsOwnLoan k names) n row
  loan_row_of n row rows h = record { value = h.ledger.loan; passes = h.plain.own; row_is = h.row_is }

  -- the loan's own row is one, and its entries' rows are theirs
  pub loan_part : (n : ℕ) (row : LoanRow) (rows : List EntryRow) (B : Type 0)
      → IsRowOf (loan_in x) (IsOwnLoan k names) n row
      → ((l : Loan) → loan_in x n l ≡ row → IsStageBy k.day l.stage → B
      ↔ AreEntriesOf k.day l.periods (disbursed_on l.stage) x n rows) → B ↔ IsLoanPart k names x n row rows
  loan_part n row rows B h entries = (
    λ yes.
        let l = h.value in
        let of = entered k.day l.periods x n (disbursed_on l.stage) rows ((entries l h.row_is h.passes.stage).0 yes) in
        record {
          ledger = record { loan = l; entries = of.0 };
          plain = record { own = h.passes; entries = of.1 };
          row_is = h.row_is;
          entries_are = of.2;
        },
    λ part.
        let l = part.ledger.loan in
        (entries l part.row_is part.plain.own.stage).1 (entered_back k.day l.periods x n (disbursed_on l.stage)
        part.ledger.entries rows part.plain.entries part.entries_are),
  )

  -- there are no loans just where nothing is left
  pub no_loans : (n : ℕ) (rows : List EntryRow) → AreLoanParts k names x n [] rows ↔ (rows ≡ [])
  no_loans n rows = (
    λ h. go h.ledgers h.loans_are h.entries_are,
    λ none. record { ledgers = []; each = tt; loans_are = refl; entries_are = sym none },
  )
    where
      go : (ls : List Ledger) → numbered_from (loan_in x) n (map (λ (l : Ledger). l.loan) ls) ≡ []
          → rows_of_loans entry_in own_entries x n ls ≡ rows → rows ≡ []
      go [] e f = sym f
      go (l ∷ ls) e f = absurd (cc)

  module _ (n : ℕ) (r : LoanRow) (rs : List LoanRow) (rows first rest : List EntryRow) (own_is : first ≡ own loan_of n
      rows) (later_is : rest ≡ later loan_of n rows) where
    -- the rows are those of the first loan and of the others
    pub first_and_others : AreLoanParts k names x n (r ∷ rs) rows
        ↔ (IsLoanPart k names x n r first × AreLoanParts k names x (n + 1) rs rest)
    first_and_others = (
      λ all. go all.ledgers all.each all.loans_are all.entries_are,
      λ both. record {
        ledgers = both.0.ledger ∷ both.1.ledgers;
        each = (both.0.plain, both.1.each);
        loans_are = λ t. both.0.row_is t ∷ both.1.loans_are t;
        entries_are = (λ t. both.0.entries_are t ++ both.1.entries_are t) ∙ (λ t. own_is t ++ later_is t)
            ∙ take-append-drop (own_count loan_of n rows) rows;
      },
    )
      where
        go : (ls : List Ledger) → AllByRecursion (IsPlainLoan k names) ls → numbered_from (loan_in x) n
            (map (λ (l : Ledger). l.loan) ls) ≡ r ∷ rs → rows_of_loans entry_in own_entries x n ls ≡ rows
            → IsLoanPart k names x n r first × AreLoanParts k names x (n + 1) rs rest
        go [] each e f = absurd (cc)
        go (l ∷ ls) each e f = (
          record {
            ledger = l;
            plain = each.0;
            row_is = (let one : loan_in x n l.loan ≡ r = cc in one);
            entries_are = sym (own_of_loan entry_in own_entries loan_of (λ y m e. refl) x n l ls)
                ∙ (λ t. own loan_of n (f t)) ∙ sym own_is;
          },
          record {
            ledgers = ls;
            each = each.1;
            loans_are =
                (let more : numbered_from (loan_in x) (n + 1) (map (λ (l : Ledger). l.loan) ls) ≡ rs = cc in more);
            entries_are = sym (later_of_loan entry_in own_entries loan_of (λ y m e. refl) x n l ls)
                ∙ (λ t. later loan_of n (f t)) ∙ sym later_is;
          },
        )
