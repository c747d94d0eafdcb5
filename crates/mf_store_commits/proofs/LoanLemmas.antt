-- Commits of loans: from the writes to the change, and which rows the writes ask for.
use Rattle.std.proofs.Common.{◌≡◌, ◌≤◌, ◌+◌, ◌-◌, ℕ, true, ◌==◌, List, [], ◌∷◌, ◌++◌, map, length, Option, None, Some}
use Rattle.std.proofs.Common.{refl, sym, ap, ◌∙◌, subst, arith, inl, inr, ◌<◌, find}
use Rattle.std.proofs.lemmas.Bool.{cases_Bool}
use Rattle.std.proofs.lemmas.List.{map-append, length-map}
use Rattle.std.proofs.lemmas.Option.{slice_get-map}
use Rattle.std.specs.Option.{option_map}
use Rattle.mf_office.specs.declared.account.Account.{Account}
use Rattle.mf_alloc.specs.Sums.{Instalment}
use Rattle.mf_account.specs.Change.{KeptAccount}
use Rattle.mf_account.specs.Standing.{entry_at, with_mark}
use Rattle.mf_account.specs.declared.entry.Entry.{Entry}
use Rattle.mf_model.proofs.Growing.{with_same_at}
use Rattle.mf_model.proofs.ReceiptLemmas.{uses_with, uses_marked, uses_push}
use Rattle.mf_model.specs.Desk.{loan_added, loan_staged}
use Rattle.mf_model.specs.Institution.{Institution, Ledger, Office, Rows, item_numbered, with_numbered, with_rows}
use Rattle.mf_model.specs.Loans.{loan_entered, with_stage, with_reversal, with_entries}
use Rattle.mf_model.specs.Receipts.{uses_from, AreApart}
use Rattle.mf_model.specs.Sound.{IsSound}
use Rattle.mf_model.specs.Stages.{disbursed_on}
use Rattle.mf_model.specs.Store.{after_commit, rows_at, ledger_at}
use Rattle.mf_model.specs.Tree.{is_there}
use Rattle.mf_model.specs.declared.commit.Commit.TheVariants.{AddLoan, SetStage, AddEntry, ReverseEntry}
use Rattle.mf_model.specs.declared.loan.Loan.{Loan}
use Rattle.mf_model.specs.declared.loan.Stage.{Stage}
use Rattle.sqlite_keyed.proofs.ListLemmas.{all-append}
use Rattle.mf_store_sql.specs.Keep.{put_item}
use Rattle.mf_store_sql.specs.Writes.{AllFit, after_all}
use Rattle.mf_store_schema.specs.Rows.{Lists, by_loan, by_entry, IsNew, IsThere, is_row_of_loan}
use Rattle.mf_store_schema.specs.Writes.{FitsLists, after_write}
use Rattle.mf_store_schema.specs.declared.entries.EntryRow.{EntryRow}
use Rattle.mf_store_schema.specs.declared.loans.LoanRow.{LoanRow}
use Rattle.mf_store_schema.specs.declared.receipts.ReceiptRow.{ReceiptRow}
use Rattle.mf_store_schema.specs.declared.writes.StoreWrite.{StoreWrite}
use Rattle.mf_store_values.proofs.FlatLemmas.{put_row_of, put_over_of, same_rows_of, find_row}
use Rattle.mf_store_values.proofs.LoanRowLemmas.{same_by_loan, one_more_loan, change_alone}
use Rattle.mf_store_values.specs.Flat.{tables_of, loan_in, loans_of, entry_in, entry_rows, own_entries, reversed_entry}
use Rattle.mf_store_values.specs.Flat.{instalment_in, share_in, instalments_kept, shares_kept, kept_of}
use Rattle.mf_store_values.specs.ReceiptRows.{receipt_rows, receipt_added, entry_added, receipt_in}
use Rattle.mf_store_commits.proofs.AccountCommitLemmas.{IsChanged, change_written, schedule_there, staged_shares}
use Rattle.mf_store_commits.proofs.AccountCommitLemmas.{none_before}
use Rattle.mf_store_commits.proofs.CatalogueLemmas.{none_next}
use Rattle.mf_store_commits.proofs.ChangedRowLemmas.{after_both, fit_both, all_fit, all_suit, change_plain}
use Rattle.mf_store_commits.proofs.ChangedRowLemmas.{schedule_plain, change_spares}
use Rattle.mf_store_commits.proofs.CommitLemmas.{loans_become}
use Rattle.mf_store_commits.proofs.EntryLemmas.{entry_by_number, number_free, number_there, AreEarlier, AreNumbered}
use Rattle.mf_store_commits.proofs.EntryLemmas.{PutsEntry, puts_last, puts_reversed, entry_put}
use Rattle.mf_store_commits.proofs.ReceiptRowLemmas.{receipt_free, receipt_found, same_receipts_of, no_receipt_put}
use Rattle.mf_store_commits.proofs.ReceiptRowLemmas.{receipt_put}
use Rattle.mf_store_commits.specs.Becoming.{Becomes, SpareMeta, spares_meta}
use Rattle.mf_store_commits.specs.ChangeWrites.{schedule_put, change_writes}
use Rattle.mf_store_commits.specs.Suiting.{Carries, AllSuit, Suits}
use Rattle.mf_store_schema.specs.declared.writes.StoreWrite.TheVariants as write

-- ---- loans without their entries

abbrev pub loan_of : Ledger → Loan
loan_of l = l.loan

pub numbered_loan : (ls : List Ledger) (n : ℕ) → item_numbered (map loan_of ls) n
    ≡ option_map loan_of (item_numbered ls n)
numbered_loan ls n = elim (cases_Bool (n == 0)) [ inl e ↦ rw e | inr e ↦ rw e (slice_get-map loan_of ls (n - 1)) ]

-- what is read off each thing, where one of them is changed
map_changed : {A B : Type 0} (g : A → B) (f : A → A) (h : B → B) → ((a : A) → g (f a) ≡ h (g a)) → (n : ℕ) (xs : List A)
    → map g (with_numbered n f xs) ≡ with_numbered n h (map g xs)
map_changed g f h is n [] = refl
map_changed g f h is n (x ∷ xs) = elim (cases_Bool (n == 1)) [
  | inl e ↦ rw e (ap (λ b. b ∷ map g xs) (is x))
  | inr e ↦ rw e (ap (λ rest. g x ∷ rest) (map_changed g f h is (n - 1) xs))
]

-- a change that changes nothing
none_changed : {A : Type 0} (n : ℕ) (xs : List A) → with_numbered n (λ x. x) xs ≡ xs
none_changed n [] = refl
none_changed n (x ∷ xs) = elim (cases_Bool (n == 1)) [
  | inl e ↦ rw e
  | inr e ↦ rw e (ap (λ rest. x ∷ rest) (none_changed (n - 1) xs))
]

-- ---- the commits

pub loan_becomes : (x : ℕ) (l : Loan) (i : Institution) (r : LoanRow) → IsSound i
    → IsSound (after_commit (AddLoan x l) i) → is_there i.offices x ≡ true → disbursed_on l.stage ≡ None → r
    ≡ loan_in x (length (rows_at x i).loans + 1) l → Becomes (write.AddLoan r ∷ []) i (after_commit (AddLoan x l) i)
loan_becomes x l i r before sound there none is =
    let loans = (rows_at x i).loans in
    let added : Ledger = record { loan = l; entries = [] } in
    let new = loan_added l (rows_at x i) in
    let up = before.tree.ascending in
    rw is (record {
      sound = sound;
      fits = (refl, tt);
      is = ap Some (loans_become x new i before refl refl
          (rw (← length-map loans loan_of) (put_row_of loan_in loans_of refl by_loan (λ x n y m a b. refl) x l new
          i.offices up there (map-append loan_of loans (added ∷ []))))
          (same_by_loan entry_in own_entries x new i.offices up (one_more_loan entry_in own_entries added loans refl))
          (same_receipts_of x new i.offices up (uses_push 1 l loans))
          (same_by_loan instalment_in (kept_of instalments_kept i.catalogue) x new i.offices up
          (one_more_loan instalment_in (kept_of instalments_kept i.catalogue) added loans
          (none_before instalments_kept i.catalogue added none)))
          (same_by_loan share_in (kept_of shares_kept i.catalogue) x new i.offices up
          (one_more_loan share_in (kept_of shares_kept i.catalogue) added loans
          (none_before shares_kept i.catalogue added none))));
    })

-- where a loan that was not disbursed comes to a stage, its row is put, and those of its instalments
module _ (account : Account) (stage : Stage) (l : Ledger) (i : Institution) (before : IsSound i)
    (there : ledger_at account i ≡ Some l) (none : disbursed_on l.loan.stage ≡ None) (without : l.entries ≡ []) where
  abbrev put_row : LoanRow
  put_row = loan_in account.office account.number (record l.loan { stage = stage })

  abbrev pub schedule : List StoreWrite
  schedule = schedule_put account.office account.number (kept_of instalments_kept i.catalogue (with_stage stage l))

  pub staged_becomes : IsSound (after_commit (SetStage account stage) i) → Becomes (write.PutLoan put_row ∷ schedule) i
      (after_commit (SetStage account stage) i)
  staged_becomes sound =
      let x = account.office in
      let n = account.number in
      let loans = (rows_at x i).loans in
      let new = loan_staged n stage (rows_at x i) in
      let up = before.tree.ascending in
      record {
        sound = sound;
        fits = (refl, all_fit schedule (schedule_plain x n _) _);
        is = schedule_there i.catalogue x n l stage new i.offices up there refl none without
            (record (tables_of i) { loans = put_item by_loan put_row (tables_of i).loans })
            ∙ ap Some (loans_become x new i before refl refl
            (put_over_of loan_in loans_of refl by_loan (λ x n y m a b. refl) (λ l. record l { stage = stage }) l.loan x
            n new i.offices up (numbered_loan loans n ∙ ap (option_map loan_of) there)
            (map_changed loan_of (with_stage stage) (λ l. record l { stage = stage }) (λ l. refl) n loans))
            (same_by_loan entry_in own_entries x new i.offices up
            (change_alone entry_in own_entries n (with_stage stage) loans (λ k. refl)))
            (same_receipts_of x new i.offices up (uses_with n 1 (with_stage stage) loans (λ l k. refl))) refl
            (staged_shares i.catalogue x n l stage new i.offices up there refl none without));
      }

-- ---- the writes of loans suit the rows that are there

loan_found : (x n : ℕ) (i : Institution) → IsSound i → find (is_row_of_loan x n) (tables_of i).loans
    ≡ option_map (loan_in x n) (option_map loan_of (item_numbered (rows_at x i).loans n))
loan_found x n i sound = find_row loan_in loans_of refl is_row_of_loan (λ x k y m a. refl) x n i.offices
    sound.tree.ascending
    ∙ ap (option_map (loan_in x n)) (numbered_loan (rows_at x i).loans n)

-- a new loan
pub loan_suits : (x : ℕ) (loan : Loan) (i : Institution) → IsSound i → (r : LoanRow)
    → r ≡ loan_in x (length (rows_at x i).loans + 1) loan → AllSuit (write.AddLoan r ∷ []) (tables_of i)
loan_suits x loan i sound r is =
    let loans = (rows_at x i).loans in
    rw is (rw (loan_found x (length loans + 1) i sound, none_next loans), tt)

-- a loan's stage
pub stage_suits : (loan : Account) (now : Loan) (l : Ledger) (i : Institution) → IsSound i → ledger_at loan i ≡ Some l
    → (numbered : List (ℕ × Instalment)) (r : LoanRow) → r ≡ loan_in loan.office loan.number now
    → AllSuit (write.PutLoan r ∷ schedule_put loan.office loan.number numbered) (tables_of i)
stage_suits loan now l i sound there numbered r is =
    let plain = schedule_plain loan.office loan.number numbered in
    rw is (rw (loan_found loan.office loan.number i sound, there), all_suit _ plain _)

-- ---- entries

-- what a change of a loan's entries leaves of the rows of its office
module _ (loan : Account) (account : KeptAccount) (l : Ledger) (i : Institution) (before : IsSound i)
    (there : ledger_at loan i
    ≡ Some l) (changed : IsChanged i.catalogue l account) where
  abbrev x : ℕ
  x = loan.office

  abbrev new : Rows
  new = loan_entered loan.number account.loan.entries (rows_at x i)

  abbrev now : List Office
  now = with_rows x new i.offices

  abbrev change : List StoreWrite
  change = change_writes x loan.number account

  -- writes that make these rows of entries and receipts, and then those of the change
  with_change : {e : List EntryRow} {q : List ReceiptRow} (writes : List StoreWrite)
      → IsSound (after_commit (AddEntry loan account) i) → AllFit after_write FitsLists writes (Some (tables_of i))
      → AllSuit writes (tables_of i) → SpareMeta writes
      → after_all after_write writes (Some (tables_of i)) ≡ Some (record (tables_of i) { entries = e; receipts = q })
      → e ≡ entry_rows now → q ≡ receipt_rows now → Carries (AddEntry loan account) (writes ++ change) i
  with_change {e} {q} writes sound fits suits spare first entries receipts =
      let lists : Lists = record (tables_of i) { entries = e; receipts = q } in
      let plain = change_plain x loan.number account in
      let up = before.tree.ascending in
      let loans = (rows_at x i).loans in
      record {
        becomes = record {
          sound = sound;
          fits = fit_both FitsLists writes change (Some (tables_of i)) fits (rw first (all_fit change plain lists));
          is = after_both writes change (Some (tables_of i)) ∙ ap (after_all after_write change) first
              ∙ change_written i.catalogue x loan.number l account changed new i.offices up there refl lists
              ∙ ap Some (loans_become x new i before refl refl (same_rows_of loan_in loans_of refl x new i.offices up
              (map_changed loan_of (with_entries account.loan.entries) (λ l. l) (λ l. refl) loan.number loans
              ∙ none_changed loan.number (map loan_of loans))) entries receipts refl refl);
        };
        spares = all-append (λ w. spares_meta w ≡ true) writes change spare (change_spares x loan.number account);
        suits = fit_both Suits writes change (Some (tables_of i)) suits (rw first (all_suit change plain lists));
      }

  -- ---- one entry more: its own row, and that of its receipt

  module _ (e : Entry) (sound : IsSound (after_commit (AddEntry loan account) i)) (are : account.loan.entries
      ≡ l.entries ++ e ∷ []) (early : AreEarlier e.seq l.entries) (apart : AreApart (uses_from 1 new.loans)) where
    abbrev row : EntryRow
    row = entry_in x loan.number e

    row_put : put_item by_entry row (tables_of i).entries ≡ entry_rows now
    row_put = entry_put x loan.number e account.loan.entries l new i.offices before.tree.ascending there refl
        (rw are (puts_last x loan.number e l.entries early))

    new_entry : IsNew by_entry row (tables_of i).entries
    new_entry = entry_by_number x loan.number e.seq l i before there ∙ number_free x loan.number e.seq l.entries early

    row_carries : (o : Option (List ℕ)) → e.receipt ≡ o
        → Carries (AddEntry loan account) ((write.AddEntry row ∷ receipt_added row o) ++ change) i
    row_carries None none =
        with_change (write.AddEntry row ∷ []) sound (refl, tt) (new_entry, tt) (refl, tt) refl row_put (no_receipt_put x
        loan.number e account.loan.entries l new i.offices before.tree.ascending there refl are none)
    row_carries (Some r) some =
        let up = before.tree.ascending in
        let new_receipt = receipt_found x r i before ∙ ap (option_map (receipt_in x)) (receipt_free x loan.number e
        account.loan.entries l new i.offices up there refl are r some apart) in
        with_change (write.AddEntry row ∷ receipt_added row (Some r)) sound (refl, (refl, tt))
        (new_entry, (new_receipt, tt)) (refl, (refl, tt)) refl row_put (receipt_put x loan.number e
        account.loan.entries l new i.offices up
        there refl are r some apart)

    pub entry_carries : (r : EntryRow) → r ≡ row → Carries (AddEntry loan account) (entry_added r ++ change) i
    entry_carries r is = subst (λ s. Carries (AddEntry loan account) (entry_added s ++ change) i) (sym is)
        (row_carries e.receipt refl)

  -- ---- a reversal: one entry's own row

  module _ (seq : ℕ) (sound : IsSound (after_commit (ReverseEntry loan seq account) i))
      (numbers : AreNumbered 0 l.entries) (first : 1 ≤ seq) (last : seq ≤ length l.entries)
      (marked : account.loan.entries ≡ with_mark l.entries (seq - 1) true) where
    abbrev entry : Entry
    entry = reversed_entry (entry_at l.entries (seq - 1))

    low : seq - 1 < length l.entries
    low = omega (arith, first, last)

    puts : PutsEntry x loan.number entry l.entries account.loan.entries
    puts = rw marked (puts_reversed x loan.number 0 (seq - 1) l.entries numbers low)

    here : IsThere by_entry (entry_in x loan.number entry) (tables_of i).entries
    here = rw (entry_by_number x loan.number entry.seq l i before there)
        (number_there x loan.number 0 (seq - 1) entry.seq l.entries numbers low (numbers (seq - 1) low))

    -- the receipts are as they were
    same_uses : uses_from 1 new.loans ≡ uses_from 1 (rows_at x i).loans
    same_uses =
        let ls = (rows_at x i).loans in
        ap (uses_from 1) (with_same_at loan.number (with_entries account.loan.entries) (with_reversal seq) ls l there
        (ap (λ es. with_entries es l) marked)) ∙ uses_with loan.number 1 (with_reversal seq) ls
        (λ l k. uses_marked k (seq - 1) l.entries)

    pub reversal_carries : (r : EntryRow) → r ≡ entry_in x loan.number entry
        → Carries (ReverseEntry loan seq account) (write.ChangeEntry r ∷ change) i
    reversal_carries r is =
        let made = with_change (write.ChangeEntry (entry_in x loan.number entry) ∷ []) sound (refl, tt) (here, tt)
        (refl, tt) refl
        (entry_put x loan.number entry account.loan.entries l new i.offices before.tree.ascending there refl puts)
        (same_receipts_of x new i.offices before.tree.ascending same_uses) in
        rw is (record { becomes = made.becomes; spares = made.spares; suits = made.suits })
