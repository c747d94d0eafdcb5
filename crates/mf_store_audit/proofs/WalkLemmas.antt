-- Sums that are made loan by loan, and office by office: those that are made and those still to be made are the whole.
use Rattle.std.proofs.Common.{◌≡◌, ◌+◌, ◌∙◌, ℕ, List, [], ◌∷◌, ◌++◌, map, length, refl, sym, ap}
use Rattle.std.specs.List.{AllByRecursion}
use Rattle.std.proofs.lemmas.List.{append-nil}
use Rattle.mf_model.specs.Institution.{Catalogue, Ledger, Office}
use Rattle.mf_model.specs.Tree.{Ascending}
use Rattle.mf_store_schema.specs.declared.clients.ClientRow.{ClientRow}
use Rattle.mf_store_schema.specs.declared.entries.EntryRow.{EntryRow}
use Rattle.mf_store_schema.specs.declared.loans.LoanRow.{LoanRow}
use Rattle.mf_store_schema.specs.declared.offices.OfficeRow.{OfficeRow}
use Rattle.mf_store_values.specs.Flat.{numbered_from, all_rows, entry_rows, rows_of_loans, own_entries, loans_of}
use Rattle.mf_store_values.specs.Flat.{client_in, loan_in, entry_in}
use Rattle.mf_store_values.specs.Ledgers.{IsPlainLoan}
use Rattle.mf_store_values.specs.Parts.{own, later, office_of, bare}
use Rattle.mf_store_values.proofs.MadeLemmas.{one_made}
use Rattle.mf_store_values.proofs.PartLemmas.{own_of_loan, later_of_loan, own_of_first, later_of_first, own_of_office}
use Rattle.mf_store_values.proofs.PartLemmas.{later_of_office}
use Rattle.mf_store_sound.proofs.LoanPartLemmas.{loan_of}
use Rattle.mf_store_sound.proofs.OfficePartLemmas.{length_numbered, of_client, of_loan, of_entry}
use Rattle.mf_store_audit.specs.declared.totals.OfficeSums.{OfficeSums}
use Rattle.mf_store_audit.specs.declared.totals.Sums.{Sums}
use Rattle.mf_store_audit.specs.OfficeSums.{IsPlain, AreRowsOfOffices}
use Rattle.mf_store_audit.specs.Sums.{sums_by_loan, sums_of_office, added}
use Rattle.mf_store_audit.proofs.AddedLemmas.{more_added, none_added}

-- ---- loans

-- what is left of an office's loans, and the sums of those before
pub record IsLeft (k : Catalogue) (x : ℕ) (whole : Sums) (loans : List LoanRow) (entries : List EntryRow)
    (so_far : Sums) : Type 0 where
  pub number : ℕ
  pub ls : List Ledger
  pub plain : AllByRecursion (IsPlain k) ls
  pub loans_are : numbered_from (loan_in x) number (map (λ (l : Ledger). l.loan) ls) ≡ loans
  pub entries_are : rows_of_loans entry_in own_entries x number ls ≡ entries
  pub whole_is : added so_far (sums_by_loan k 0 ls) ≡ whole

module _ (k : Catalogue) (x : ℕ) (whole : Sums) (rs : List LoanRow) (e fe le : List EntryRow) (s loan more : Sums) where
  -- what the code tells of a loan
  abbrev pub Tells : LoanRow → Type 0
  Tells r = (office number : ℕ) (names : List (List ℕ)) (l : Ledger) → IsPlainLoan k names l → loan_in office number
      l.loan ≡ r → map (entry_in office number) l.entries ≡ fe → loan ≡ sums_by_loan k 0 (l ∷ [])

  pub loan_more : (r : LoanRow) → fe ≡ own loan_of r.number e → le ≡ later loan_of r.number e → Tells r
      → more ≡ added s loan → IsLeft k x whole (r ∷ rs) e s → IsLeft k x whole rs le more
  loan_more r f g tells is h = go h.ls h.plain h.loans_are h.entries_are h.whole_is
    where
      go : (ls : List Ledger) → AllByRecursion (IsPlain k) ls → numbered_from (loan_in x) h.number
          (map (λ (l : Ledger). l.loan) ls) ≡ r ∷ rs → rows_of_loans entry_in own_entries x h.number ls ≡ e
          → added s (sums_by_loan k 0 ls) ≡ whole
          → IsLeft k x whole rs le more
      go [] p a b w = absurd (cc)
      go (l ∷ ls) p a b w =
          let first : loan_in x h.number l.loan ≡ r = cc in
          let others : numbered_from (loan_in x) (h.number + 1) (map (λ (m : Ledger). m.loan) ls) ≡ rs = cc in
          let number : h.number ≡ r.number = ap (λ (q : LoanRow). q.number) first in
          let own_are : map (entry_in x h.number) l.entries ≡ fe = sym (own_of_loan entry_in own_entries loan_of
          (λ y m a. refl) x h.number l ls) ∙ (λ t. own loan_of (number t) (b t)) ∙ sym f in
          let one : loan ≡ sums_by_loan k 0 (l ∷ []) = tells x h.number p.0.names l p.0.plain first own_are in
          record {
            number = h.number + 1;
            ls = ls;
            plain = p.1;
            loans_are = others;
            entries_are = sym (later_of_loan entry_in own_entries loan_of (λ y m a. refl) x h.number l ls)
                ∙ (λ t. later loan_of (number t) (b t)) ∙ sym g;
            whole_is = (λ t. added (is t) (sums_by_loan k 0 ls))
                ∙ (λ t. added (added s (one t)) (sums_by_loan k 0 ls))
                ∙ more_added k s l ls ∙ w;
          }

pub no_loan_left : (k : Catalogue) (x : ℕ) (whole : Sums) (e : List EntryRow) (s : Sums) → IsLeft k x whole [] e s
    → s ≡ whole
no_loan_left k x whole e s h = go h.ls h.loans_are h.whole_is
  where
    go : (ls : List Ledger) → numbered_from (loan_in x) h.number (map (λ (l : Ledger). l.loan) ls) ≡ []
        → added s (sums_by_loan k 0 ls) ≡ whole → s ≡ whole
    go [] a w = sym (none_added k s) ∙ w
    go (l ∷ ls) a w = absurd (cc)

-- ---- offices

-- what is left of the offices, and the sums of those before
pub record AreLeft (k : Catalogue) (whole : List OfficeSums) (offices : List OfficeRow) (clients : List ClientRow)
    (loans : List LoanRow) (entries : List EntryRow) (found : List OfficeSums) : Type 0 where
  pub fs : List Office
  pub rows : AreRowsOfOffices k offices clients loans entries fs
  pub whole_is : whole ≡ found ++ map (sums_of_office k) fs

module _ (k : Catalogue) (whole : List OfficeSums) (os : List OfficeRow) (c fc lc : List ClientRow)
    (l fl ll : List LoanRow) (e fe le : List EntryRow) (found more : List OfficeSums) (sums : Sums) where
  -- what the code tells of an office's loans
  abbrev pub TellsOffice : Type 0
  TellsOffice = (office : ℕ) (ls : List Ledger) → AllByRecursion (IsPlain k) ls
      → numbered_from (loan_in office) 1 (map (λ (m : Ledger). m.loan) ls) ≡ fl → rows_of_loans entry_in own_entries
      office 1 ls ≡ fe → sums ≡ sums_by_loan k (length fc) ls

  pub office_more : (o : OfficeRow) → fc ≡ own of_client o.number c → lc ≡ later of_client o.number c → fl ≡ own of_loan
      o.number l → ll ≡ later of_loan o.number l → fe ≡ own of_entry o.number e → le ≡ later of_entry o.number e
      → TellsOffice → more ≡ found ++ record { office = o.number; sums = sums } ∷ []
      → AreLeft k whole (o ∷ os) c l e found → AreLeft k whole os lc ll le more
  office_more o own_c later_c own_l later_l own_e later_e tells is h = go h.fs h.rows.ascending h.rows.theirs
      h.rows.plain h.rows.clients_are h.rows.loans_are h.rows.entries_are h.whole_is
    where
      go : (fs : List Office) → Ascending fs → map bare fs ≡ office_of o ∷ map office_of os
          → AllByRecursion (λ (f : Office). AllByRecursion (IsPlain k) f.rows.loans) fs
          → all_rows client_in (λ its. its.clients) fs ≡ c → all_rows loan_in loans_of fs ≡ l → entry_rows fs ≡ e
          → whole ≡ found ++ map (sums_of_office k) fs → AreLeft k whole os lc ll le more
      go [] up t p a b d w = absurd (cc)
      go (f ∷ fs) up t p a b d w =
          let head : bare f ≡ office_of o = cc in
          let others : map bare fs ≡ map office_of os = cc in
          let number : f.number ≡ o.number = ap (λ (g : Office). g.number) head in
          let clients : numbered_from (client_in f.number) 1 f.rows.clients ≡ fc = sym (own_of_first client_in (λ its.
          its.clients) of_client (λ x n i. refl) f fs up.0) ∙ (λ z. own of_client (number z) (a z)) ∙ sym own_c in
          let loans : numbered_from (loan_in f.number) 1 (loans_of f.rows) ≡ fl = sym (own_of_first loan_in loans_of
          of_loan (λ x n i. refl) f fs up.0) ∙ (λ z. own of_loan (number z) (b z)) ∙ sym own_l in
          let entries : rows_of_loans entry_in own_entries f.number 1 f.rows.loans ≡ fe = sym (own_of_office entry_in
          own_entries of_entry (λ x n i. refl) f fs up.0) ∙ (λ z. own of_entry (number z) (d z)) ∙ sym own_e in
          let count : length fc ≡ length f.rows.clients =
          ap length (sym clients) ∙ length_numbered (client_in f.number) 1 f.rows.clients in
          let told : sums ≡ sums_by_loan k (length fc) f.rows.loans = tells f.number f.rows.loans p.0 loans entries in
          let whole_sums : sums ≡ sums_by_loan k (length f.rows.clients) f.rows.loans =
          told ∙ (λ z. sums_by_loan k (count z) f.rows.loans) in
          record {
            fs = fs;
            rows = record {
              ascending = up.1;
              theirs = others;
              plain = p.1;
              clients_are = sym (later_of_first client_in (λ its. its.clients) of_client (λ x n i. refl) f fs up.0)
                  ∙ (λ z. later of_client (number z) (a z)) ∙ sym later_c;
              loans_are = sym (later_of_first loan_in loans_of of_loan (λ x n i. refl) f fs up.0)
                  ∙ (λ z. later of_loan (number z) (b z)) ∙ sym later_l;
              entries_are = sym (later_of_office entry_in own_entries of_entry (λ x n i. refl) f fs up.0)
                  ∙ (λ z. later of_entry (number z) (d z)) ∙ sym later_e;
            };
            whole_is = one_made whole found more (map (sums_of_office k) fs) (sums_of_office k f) w (is
                ∙ (λ z. found ++ record { office = sym number z; sums = whole_sums z } ∷ []));
          }

pub no_office_left : (k : Catalogue) (whole : List OfficeSums) (c : List ClientRow) (l : List LoanRow)
    (e : List EntryRow) (found : List OfficeSums) → AreLeft k whole [] c l e found → found ≡ whole
no_office_left k whole c l e found h = go h.fs h.rows.theirs h.whole_is
  where
    go : (fs : List Office) → map bare fs ≡ [] → whole ≡ found ++ map (sums_of_office k) fs → found ≡ whole
    go [] t w = sym (w ∙ append-nil found)
    go (f ∷ fs) t w = absurd (cc)
