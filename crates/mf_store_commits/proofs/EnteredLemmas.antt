-- What soundness says of entries: who entered them, and their numbers.
use Rattle.std.proofs.Common.{◌≡◌, ◌≤◌, ◌+◌, ◌-◌, ℕ, zero, suc, Bool, true, List, [], ◌∷◌, ◌++◌, map, filter, length}
use Rattle.std.proofs.Common.{slice_get, Option, None, Some, refl, sym, ap, ◌∙◌, subst, arith, inl, inr}
use Rattle.std.proofs.lemmas.Bool.{cases_Bool}
use Rattle.std.proofs.lemmas.Bool.Decides.{nat_tests}
use Rattle.std.proofs.lemmas.List.{length-append, length-set, get_or-set_same}
use Rattle.std.proofs.lemmas.Option.{slice_get_within, slice_get-get_or}
use Rattle.std.specs.List.{AllByRecursion}
use Rattle.std.specs.Prelude.{set}
use Rattle.sqlite_keyed.proofs.ListLemmas.{map-map}
use Rattle.mf_base.specs.declared.fault.Fault.TheVariants.{F12}
use Rattle.mf_office.specs.Texts.{IsCaller}
use Rattle.mf_office.specs.declared.account.Account.{Account}
use Rattle.mf_office.specs.declared.caller.Caller.{Caller}
use Rattle.mf_account.specs.Change.{KeptAccount, IsChange, IsReplayed}
use Rattle.mf_account.specs.Loan.{DisbursedLoan}
use Rattle.mf_account.specs.Refusals.{is_instalment_number, reversal_refused}
use Rattle.mf_account.specs.Standing.{entry_at, with_mark}
use Rattle.mf_account.specs.declared.entry.Entry.{Entry}
use Rattle.mf_model.proofs.AccountLemmas.{account_is, account_sound}
use Rattle.mf_model.proofs.Growing.{all_map, all_at}
use Rattle.mf_model.proofs.StaffLemmas.{staff_are_callers}
use Rattle.mf_model.specs.Accounts.{account_in}
use Rattle.mf_model.specs.Institution.{Institution, Ledger, Rows, item_numbered, with_numbered, with_rows}
use Rattle.mf_model.specs.Loans.{with_entries, loan_entered}
use Rattle.mf_model.specs.Receipts.{uses_from, AreApart}
use Rattle.mf_model.specs.Sound.{IsSound, IsSoundLoan, IsSoundRows, IsEntryBy, AreEntriesBy, is_staff}
use Rattle.mf_model.specs.Stages.{disbursed_on}
use Rattle.mf_model.specs.Store.{after_commit, rows_at, ledger_at, account_of}
use Rattle.mf_model.specs.declared.commit.Commit.TheVariants.{AddEntry}
use Rattle.mf_store_schema.specs.Rows.{entry_row, is_entry_of}
use Rattle.mf_store_values.proofs.BlockLemmas.{numbered-suc, numbered_set, seen}
use Rattle.mf_store_values.proofs.SoundLemmas.{office_sound, own_rows}
use Rattle.mf_store_values.specs.Flat.{tables_of, ledger_entries, entry_in}
use Rattle.mf_store_commits.proofs.AccountCommitLemmas.{IsChanged, account_with}
use Rattle.mf_store_commits.proofs.EntryLemmas.{AreEarlier, AreNumbered, later_numbered, entries_shown}

-- ---- who entered them

-- each was entered by a member of staff of an office, by number
abbrev pub HaveCallers : List Entry → Type 0
HaveCallers entries = AllByRecursion (λ (e : Entry). IsCaller e.staff) entries

entered_callers : (today : ℕ) (s : Caller → Bool) (n : ℕ) (o : Option ℕ) (es : List Entry) → ((c : Caller) → s c ≡ true
    → IsCaller c) → AreEntriesBy today s n o es → HaveCallers es
entered_callers today s n None es staffed are = subst HaveCallers (sym are) tt
entered_callers today s n (Some day) es staffed are =
    all_map (IsEntryBy today s) (λ (e : Entry). IsCaller e.staff) es (λ e by. staffed e.staff by.staff) are.each

-- a loan of a sound institution
pub loan_sound : (loan : Account) (l : Ledger) (i : Institution) → IsSound i → ledger_at loan i ≡ Some l
    → IsSoundLoan i.catalogue (is_staff i.offices) (rows_at loan.office i).clients l
loan_sound loan l i sound there =
    let s = is_staff i.offices in
    let rows = rows_at loan.office i in
    all_at (IsSoundLoan i.catalogue s rows.clients) rows.loans loan.number l (office_sound i.catalogue s loan.office
    i.offices sound.each).loans there

-- the entries of one loan
pub loan_called : (x n : ℕ) (i : Institution) → IsSound i
    → HaveCallers (ledger_entries (item_numbered (rows_at x i).loans n))
loan_called x n i sound = go (item_numbered (rows_at x i).loans n) refl
  where
    go : (o : Option Ledger) → item_numbered (rows_at x i).loans n ≡ o → HaveCallers (ledger_entries o)
    go None e = tt
    go (Some l) e = entered_callers i.catalogue.day (is_staff i.offices) l.loan.periods (disbursed_on l.loan.stage)
        l.entries (staff_are_callers i.catalogue (is_staff i.offices) i.offices sound.each)
        (loan_sound (record { office = x; number = n }) l i sound e).entries

-- ---- their numbers

changed_numbered : (change : Ledger → Ledger) (l : Ledger) (n : ℕ) (ls : List Ledger) → item_numbered ls n ≡ Some l
    → item_numbered (with_numbered n change ls) n ≡ Some (change l)
changed_numbered change l zero ls at = absurd (let k : None ≡ Some l = at in cc)
changed_numbered change l (suc d) ls at =
    let found = sym (numbered-suc ls d) ∙ at in
    let low = slice_get_within ls d l found in
    let long = length-set ls d (change l) in
    numbered-suc (with_numbered (suc d) change ls) d ∙ ap (λ xs. slice_get xs d) (numbered_set change d l ls found)
    ∙ slice_get-get_or (set ls d (change l)) d l (omega (arith, low, long))
    ∙ ap Some (get_or-set_same ls d (change l) l low)

entries_numbered : (today : ℕ) (s : Caller → Bool) (n : ℕ) (o : Option ℕ) (es : List Entry)
    → AreEntriesBy today s n o es → AreNumbered 0 es
entries_numbered today s n None es are = subst (AreNumbered 0) (sym are) (λ i below. absurd (omega (arith, below)))
entries_numbered today s n (Some day) es are = λ i below. let number =
    are.lawful.numbers i below in omega (arith, number)

-- its entries are numbered from 1 on
pub loan_numbered : (loan : Account) (l : Ledger) (i : Institution) → IsSound i → ledger_at loan i ≡ Some l
    → AreNumbered 0 l.entries
loan_numbered loan l i sound there = entries_numbered i.catalogue.day (is_staff i.offices) l.loan.periods
    (disbursed_on l.loan.stage) l.entries (loan_sound loan l i sound there).entries

-- the last one's number is that of its place, and greater than the others
earlier : (n : ℕ) (es : List Entry) (e : Entry) → AreNumbered n (es ++ e ∷ [])
    → (e.seq ≡ n + length es + 1) × AreEarlier e.seq es
earlier n [] e h = (h 0 (omega arith), tt)
earlier n (d ∷ es) e h =
    let first = h 0 (omega arith) in
    let rest = earlier (n + 1) es e (later_numbered n d (es ++ e ∷ []) h) in
    let last = rest.0 in
    (omega (arith, last), (omega (arith, first, last), rest.1))

-- the staff after a change of a loan's entries
abbrev pub staff_after : Account → KeptAccount → Institution → Caller → Bool
staff_after loan account i =
    is_staff (with_rows loan.office (loan_entered loan.number account.loan.entries (rows_at loan.office i)) i.offices)

-- a loan that is not disbursed has no entries
pub no_entries : (loan : Account) (l : Ledger) (i : Institution) → IsSound i → ledger_at loan i ≡ Some l
    → disbursed_on l.loan.stage ≡ None → l.entries ≡ []
no_entries loan l i sound there none = rw none at ((loan_sound loan l i sound there).entries)

-- where the institution is sound after a change of a loan's entries
module _ (loan : Account) (account : KeptAccount) (l : Ledger) (i : Institution)
    (sound : IsSound (after_commit (AddEntry loan account) i)) (there : ledger_at loan i ≡ Some l) where
  abbrev new : Rows
  new = loan_entered loan.number account.loan.entries (rows_at loan.office i)

  abbrev staff : Caller → Bool
  staff = staff_after loan account i

  -- the rows of its office are sound
  rows_after : IsSoundRows i.catalogue staff new
  rows_after = subst (IsSoundRows i.catalogue staff) (own_rows loan.office new i.offices
      (seen (λ rows. rows.loans) refl (λ y m (k : Ledger). k.entries) loan.office loan.number l i.offices there))
      (office_sound i.catalogue staff loan.office (with_rows loan.office new i.offices) sound.each)

  -- and so is the loan with these entries
  loan_after : IsSoundLoan i.catalogue staff (rows_at loan.office i).clients (with_entries account.loan.entries l)
  loan_after =
      let change = with_entries account.loan.entries in
      all_at (IsSoundLoan i.catalogue staff (rows_at loan.office i).clients) new.loans loan.number (change l)
      rows_after.loans (changed_numbered change l loan.number (rows_at loan.office i).loans there)

  -- an entry that is one more has the greatest number
  pub entry_last : (e : Entry) → account.loan.entries ≡ l.entries ++ e ∷ [] → AreEarlier e.seq l.entries
  entry_last e are = (earlier 0 l.entries e (subst (AreNumbered 0) are (entries_numbered i.catalogue.day staff
      l.loan.periods (disbursed_on l.loan.stage) account.loan.entries loan_after.entries))).1

  -- no receipt stands twice in its office
  pub entry_apart : AreApart (uses_from 1 new.loans)
  entry_apart = rows_after.receipts

-- ---- what the tables show of one loan

pub loan_entries_shown : (x n : ℕ) (i : Institution) → IsSound i
    → map entry_row (filter (is_entry_of x n) (tables_of i).entries) ≡ map (λ (e : Entry). entry_row (entry_in x n e))
    (ledger_entries (item_numbered (rows_at x i).loans n))
loan_entries_shown x n i sound = ap (map entry_row) (entries_shown x n i.offices sound.tree.ascending)
    ∙ map-map entry_row (entry_in x n) (ledger_entries (item_numbered (rows_at x i).loans n))

-- ---- accounts that are handed on

-- the loan whose account this is, and its entries
pub record IsAccountOf (loan : Account) (a : DisbursedLoan) (i : Institution) : Type 0 where
  pub ledger : Ledger
  pub there : ledger_at loan i ≡ Some ledger
  pub account : account_in i.catalogue ledger ≡ Some a
  pub entries : a.entries ≡ ledger.entries

pub account_of_loan : (loan : Account) (a : DisbursedLoan) (i : Institution) → account_of i.catalogue (ledger_at loan i)
    ≡ Some a → IsAccountOf loan a i
account_of_loan loan a i h = go (ledger_at loan i) refl h
  where
    go : (o : Option Ledger) → ledger_at loan i ≡ o → account_of i.catalogue o ≡ Some a → IsAccountOf loan a i
    go None e h = absurd (let never : None ≡ Some a = h in cc)
    go (Some l) e h = record {
      ledger = l;
      there = e;
      account = h;
      entries = sym (ap (λ (r : DisbursedLoan). r.entries) (account_is i.catalogue l a h).account_is);
    }

-- an entry that may be reversed is there
pub reversal_there : (es : List Entry) (seq : ℕ) → reversal_refused es seq ≡ None → (1 ≤ seq) × (seq ≤ length es)
reversal_there es seq h = elim (cases_Bool (is_instalment_number (length es) seq)) [
  | inl e ↦ grind (arith, nat_tests)
  | inr e ↦ absurd (let never : Some F12 ≡ None = rw e at h in cc)
]

-- how many entries there are then
pub longer : (es after : List Entry) (e : Entry) → after ≡ es ++ e ∷ [] → length es ≤ length after
longer es after e is = omega (arith, length-append es (e ∷ []), ap length is)

pub as_long : (es after : List Entry) (seq : ℕ) → after ≡ with_mark es (seq - 1) true → length es ≤ length after
as_long es after seq is =
    omega (arith, length-set es (seq - 1) (record (entry_at es (seq - 1)) { reversed = true }), ap length is)

-- what the stored rows of its account become
pub handed_changed : (loan : Account) (account : KeptAccount) (before : DisbursedLoan) (i : Institution) → IsSound i
    → IsSound (after_commit (AddEntry loan account) i) → (of : IsAccountOf loan before i)
    → account.loan ≡ record before { entries = account.loan.entries } → length before.entries
    ≤ length account.loan.entries → IsReplayed account → IsChange before account.loan account.change
    → IsChanged i.catalogue of.ledger account
handed_changed loan account before i sound then of others more kept change =
    let k = i.catalogue in
    let clients = (rows_at loan.office i).clients in
    let now : account_in k (with_entries account.loan.entries of.ledger) ≡ Some account.loan =
    account_with k of.ledger before account.loan.entries of.account ∙ ap Some (sym others) in
    record {
      before = before;
      was = of.account;
      now = now;
      sound = account_sound k (is_staff i.offices) clients of.ledger before sound.catalogue
          (loan_sound loan of.ledger i sound of.there) of.account;
      then = account_sound k (staff_after loan account i) clients (with_entries account.loan.entries of.ledger)
          account.loan sound.catalogue (loan_after loan account of.ledger i then of.there) now;
      same = sym (ap (λ (r : DisbursedLoan). r.periods) others);
      more = more;
      kept = kept;
      change = change;
    }
