-- What is wrong with rows of entries, by the tests of their columns.
use Rattle.std.proofs.Common.{◌≡◌, ◌≢◌, ◌∙◌, ◌==◌, ℕ, Bool, true, false, List, IsTrue, refl, sym, ap, subst, arith}
use Rattle.std.proofs.Common.{Bor, Less, None, Option, Some, true≢false}
use Rattle.std.specs.Prelude.{◌||◌, not}
use Rattle.std.proofs.lemmas.Bool.Decides.{nat_tests}
use Rattle.std.specs.List.{Contains, list_any}
use Rattle.std.specs.Option.{IfSome, IsNone, option_copied}
use Rattle.std.proofs.lemmas.List.Folds.{list_any_at}
use Rattle.mf_account.specs.Kinds.{is_seal}
use Rattle.mf_account.specs.Standing.{is_before}
use Rattle.mf_account.specs.declared.entry.Entry.{Entry}
use Rattle.mf_store_values.specs.Flat.{entry_in}
use Rattle.mf_store_values.specs.Ledgers.{IsReadable}
use Rattle.mf_store_schema.specs.declared.entries.EntryRow.{EntryRow}
use Rattle.mf_store_schema.specs.Rows.{by_loan}
use Rattle.mf_store_schema.specs.declared.loans.LoanRow.{LoanRow}
use Rattle.mf_store_sound.specs.Held.{Rises}
use Rattle.mf_store_audit.specs.Entries.{IsNotLast, is_own_loan}
use Rattle.mf_store_audit.specs.Keys.{is_at}
use Rattle.mf_store_audit.proofs.DifferenceLemmas.{one_there}

-- the row is that of an entry
abbrev pub IsReadableRow : EntryRow → Type 0
IsReadableRow row = (e : Entry) × IsReadable e × (entry_in row.office row.loan e ≡ row)

-- ---- seals

none_passed : (a b c : Bool) → false ≡ (a || (b || c)) → (a ≡ false) × (b ≡ false) × (c ≡ false)
none_passed true b c e = absurd (true≢false (sym e))
none_passed false true c e = absurd (true≢false (sym e))
none_passed false false c e = (refl, refl, sym e)

pub not_past : (e f : Entry) (past : Bool) → f.seq ≢ e.seq → f.reversed ≡ false → is_before f e ≡ false
    → past ≡ (f.reversed || ((f.seq == e.seq) || is_before f e)) → IsTrue (not past)
not_past e f past apart stands later tells =
    let other : (f.seq == e.seq) ≡ false = grind (arith, nat_tests) in
    ap not (tells ∙ (λ t. stands t || (other t || later t)))

-- a row's entry stands, is another of the same loan, and does not come before an entry
abbrev pub Outlasts : EntryRow → EntryRow → Entry → Type 0
Outlasts row seal e = (f : Entry) × IsReadable f × (entry_in seal.office seal.loan f ≡ row) × (f.seq ≢ e.seq)
    × (f.reversed ≡ false) × (is_before f e ≡ false)

pub outlasts_by : (row seal : EntryRow) (past : Bool) → (row.office ≡ seal.office) × (row.loan ≡ seal.loan)
    → IsReadableRow row
    → ((x m : ℕ) (f e : Entry) → IsReadable f → entry_in x m f ≡ row → IsReadable e → entry_in x m e ≡ seal
    → past ≡ (f.reversed || ((f.seq == e.seq) || is_before f e)))
    → IsTrue (not past) → (e : Entry) → IsReadable e → entry_in seal.office seal.loan e ≡ seal → Outlasts row seal e
outlasts_by row seal true same r tells no_ e readable is = absurd (true≢false (sym no_))
outlasts_by row seal false same r tells no_ e readable is =
    let own : entry_in seal.office seal.loan r.0 ≡ row = (λ t. entry_in (sym same.0 t) (sym same.1 t) r.0) ∙ r.2 in
    let none = none_passed r.0.reversed (r.0.seq == e.seq) (is_before r.0 e)
    (tells seal.office seal.loan r.0 e r.1 own readable is) in
    let tested : (r.0.seq == e.seq) ≡ false = none.1 in
    let apart : r.0.seq ≢ e.seq = grind (arith, nat_tests) in
    (r.0, r.1, own, apart, none.0, none.2)

pub not_last : (rows : List EntryRow) (row other : EntryRow) → IsReadableRow row → ((x m : ℕ) (e : Entry)
    → entry_in x m e ≡ row → (is_seal e.kind ≡ true) × (e.reversed ≡ false)) → Contains rows other
    → ((e : Entry) → IsReadable e → entry_in row.office row.loan e ≡ row → Outlasts other row e) → IsNotLast rows row
not_last rows row other r standing there outlasts =
    let seal = standing row.office row.loan r.0 r.2 in
    let o = outlasts r.0 r.1 r.2 in
    record {
      seal = r.0;
      readable = r.1;
      seal_is = r.2;
      sealing = seal.0;
      stands = seal.1;
      other = o.0;
      other_readable = o.1;
      other_there = subst (λ (q : EntryRow). Contains rows q) (sym o.2) there;
      another = o.3;
      other_stands = o.4;
      not_before = o.5;
    }

-- entries of two rows, of which the one doesn't come before the other, which seals
abbrev pub CanOutlast : EntryRow → EntryRow → Type 0
CanOutlast row seal = (e : Entry) × (f : Entry) × IsReadable e × (entry_in seal.office seal.loan e ≡ seal)
    × IsReadable f × (entry_in seal.office seal.loan f ≡ row) × (f.seq ≢ e.seq) × (f.reversed ≡ false)
    × (is_before f e ≡ false)

-- an entry that is not the last is one that another one of its loan outlasts
pub outlasted : (rows around : List EntryRow) (row : EntryRow) → ((other : EntryRow) → Contains rows other
    → other.office ≡ row.office → other.loan ≡ row.loan → Contains around other)
    → ((other : EntryRow) → Contains around other → ¬ CanOutlast other row) → ¬ IsNotLast rows row
outlasted rows around row all none n =
    let other : EntryRow = entry_in row.office row.loan n.other in
    none other (all other n.other_there refl refl) (
      n.seal,
      n.other,
      n.readable,
      n.seal_is,
      n.other_readable,
      refl,
      n.another,
      n.other_stands,
      n.not_before,
    )

-- ---- the loan of an entry

module _ (row : EntryRow) where
  -- the row at the entry's loan's key
  abbrev pub is_loan : LoanRow → Bool
  is_loan = is_at (λ (l : LoanRow). (l.office, 0, l.number)) (row.office, 0, row.loan)

  not_before : (a b : LoanRow) → is_loan a ≡ true → is_own_loan row b ≡ true → by_loan a b ≢ Less
  not_before a b at own less = absurd (grind (arith, nat_tests))

  not_after : (a b : LoanRow) → is_loan a ≡ true → is_own_loan row b ≡ true → by_loan b a ≢ Less
  not_after a b at own less = absurd (grind (arith, nat_tests))

  -- a look-up by its key finds the one row of the loan, where rows rise
  pub one_loan : (loans : List LoanRow) (found : Option (Bor LoanRow)) (loan : LoanRow)
      → IfSome found (λ l. Contains loans l.now × (is_loan l.now ≡ true))
      → (IsNone found → list_any is_loan loans ≡ false) → Rises by_loan loans → Contains loans loan
      → is_own_loan row loan ≡ true → option_copied found ≡ Some loan
  one_loan loans (Some l) loan its none up there own =
      ap Some (one_there by_loan loans l.now loan up its.0 there (not_before l.now loan its.1 own)
      (not_after l.now loan its.1 own))
  one_loan loans None loan its none up there own =
      let is : is_loan loan ≡ true = grind (arith, nat_tests) in
      absurd (true≢false (sym (list_any_at is_loan loans there.0 loan there.1 (ap is_loan there.2 ∙ is))
      ∙ none refl))
