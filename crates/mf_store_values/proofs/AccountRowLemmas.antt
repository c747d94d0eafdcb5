-- Rows of the accounts of all loans, loan by loan.
use Rattle.std.proofs.Common.{◌≡◌, ◌≢◌, ◌↔◌, ◌≤◌, ◌∙◌, ◌&&◌, ℕ, Bool, true, false, List, [], ◌∷◌, ◌++◌, map, drop}
use Rattle.std.proofs.Common.{length, refl, sym, ap, subst, arith, ◌==◌}
use Rattle.std.specs.List.{AllByRecursion, prefix_len}
use Rattle.std.proofs.lemmas.Bool.Decides.{nat_tests}
use Rattle.std.proofs.lemmas.List.{append-nil, drop_all, take-append-drop}
use Rattle.sqlite_keyed.proofs.ListLemmas.{all-append, all-map}
use Rattle.mf_model.specs.Institution.{Catalogue, Ledger}
use Rattle.mf_store_schema.specs.declared.entries.EntryRow.{EntryRow}
use Rattle.mf_store_schema.specs.declared.instalments.InstalmentRow.{InstalmentRow}
use Rattle.mf_store_schema.specs.declared.loans.LoanRow.{LoanRow}
use Rattle.mf_store_schema.specs.declared.shares.ShareRow.{ShareRow}
use Rattle.mf_store_values.specs.Accounts.{account_instalments, account_shares, PlacedLoan, rows_of_placed}
use Rattle.mf_store_values.specs.Accounts.{row_of_placed}
use Rattle.mf_store_values.specs.Accounts.{is_of_loan}
use Rattle.mf_store_values.specs.Accounts.{first_rows, later_rows, IsOther, AreLoansOf, AreAccounts}
use Rattle.mf_store_values.specs.Flat.{loan_in, entry_in, instalment_in, share_in, own_entries}
use Rattle.mf_store_values.specs.Ledgers.{IsPlainLoan}
use Rattle.mf_store_values.proofs.MadeLemmas.{some_made}
use Rattle.mf_store_values.proofs.PartLemmas.{blocks}

both_same : (x n : ℕ) → ((x == x) && (n == n)) ≡ true
both_same x n = grind (arith, nat_tests)

not_both : (x n y m : ℕ) → (x ≡ y → n ≢ m) → ((y == x) && (m == n)) ≡ false
not_both x n y m h = grind (arith, nat_tests)

-- ---- the rows of a loan and of others, of one table
module _ {A R : Type 0} (make : ℕ → ℕ → A → R) (of : Ledger → List A) (office loan : R → ℕ)
    (its_office : (x n : ℕ) (a : A) → office (make x n a) ≡ x) (its_loan : (x n : ℕ) (a : A) → loan (make x n a) ≡ n)
  where
    of_others : (p : PlacedLoan) (ps : List PlacedLoan) → AllByRecursion (IsOther p) ps
        → AllByRecursion (λ r. is_of_loan office loan p.office p.number r ≡ false) (rows_of_placed make of ps)
    of_others p [] all = tt
    of_others p (q ∷ ps) all = all-append _ (map (make q.office q.number) (of q.ledger)) (rows_of_placed make of ps)
        (all-map _ (make q.office q.number) (λ a. rw (its_office, its_loan) (not_both p.office p.number q.office
        q.number all.0.same_office)) (of q.ledger)) (of_others p ps all.1)

    -- they are the loan's and then the others'
    apart : (p : PlacedLoan) (ps : List PlacedLoan) → AllByRecursion (IsOther p) ps → (rows : List R)
        → (rows_of_placed make of (p ∷ ps) ≡ rows) ↔ ((map (make p.office p.number) (of p.ledger)
        ≡ first_rows (is_of_loan office loan p.office p.number) rows)
        × (rows_of_placed make of ps ≡ later_rows (is_of_loan office loan p.office p.number) rows))
    apart p ps all rows =
        let test = is_of_loan office loan p.office p.number in
        let both = blocks test (map (make p.office p.number) (of p.ledger)) (rows_of_placed make of ps)
        (all-map _ (make p.office p.number) (λ a. rw (its_office, its_loan) (both_same p.office p.number))
        (of p.ledger)) (of_others p ps all) in (
          λ is. (sym both.0 ∙ ap (first_rows test) is, sym both.1 ∙ ap (later_rows test) is),
          λ are. (λ t. are.0 t ++ are.1 t) ∙ take-append-drop (prefix_len test rows) rows,
        )

abbrev pub is_entry : LoanRow → EntryRow → Bool
is_entry r = is_of_loan (λ (q : EntryRow). q.office) (λ (q : EntryRow). q.loan) r.office r.number

abbrev pub is_instalment : LoanRow → InstalmentRow → Bool
is_instalment r = is_of_loan (λ (q : InstalmentRow). q.office) (λ (q : InstalmentRow). q.loan) r.office r.number

abbrev pub is_share : LoanRow → ShareRow → Bool
is_share r = is_of_loan (λ (q : ShareRow). q.office) (λ (q : ShareRow). q.loan) r.office r.number

-- ---- the first of the loans that are left

-- loans are left of which this holds
abbrev pub IsLeft : Catalogue → (List PlacedLoan → Type 0) → List LoanRow → List EntryRow → Type 0
IsLeft k Q loans entries = (ps : List PlacedLoan) × AreLoansOf k loans entries ps × Q ps

-- the loan of a row
abbrev placed : LoanRow → Ledger → PlacedLoan
placed r l = record { office = r.office; number = r.number; ledger = l }

record IsNext (k : Catalogue) (Q : List PlacedLoan → Type 0) (r : LoanRow) (rs : List LoanRow)
    (entries : List EntryRow) : Type 0 where
  ledger : Ledger
  clients : List (List ℕ)
  ps : List PlacedLoan
  apart : AllByRecursion (IsOther (placed r ledger)) ps
  plain : IsPlainLoan k clients ledger
  row_is : loan_in r.office r.number ledger.loan ≡ r
  entries_are : map (entry_in r.office r.number) ledger.entries ≡ first_rows (is_entry r) entries
  next : AreLoansOf k rs (later_rows (is_entry r) entries) ps
  left : Q (placed r ledger ∷ ps)

next_of : (k : Catalogue) (Q : List PlacedLoan → Type 0) (r : LoanRow) (rs : List LoanRow) (entries : List EntryRow)
    → IsLeft k Q (r ∷ rs) entries → IsNext k Q r rs entries
next_of k Q r rs entries ([], are, left) = absurd (cc are.rows_are)
next_of k Q r rs entries (p ∷ ps, are, left) =
    let first : row_of_placed p ≡ r = cc are.rows_are in
    let more : map row_of_placed ps ≡ rs = cc are.rows_are in
    let both = (apart entry_in own_entries (λ (q : EntryRow). q.office) (λ (q : EntryRow). q.loan) (λ x n a. refl)
    (λ x n a. refl) p ps are.apart.0 entries).0 are.entries_are in
    subst (λ q. IsNext k Q q rs entries) first (record {
      ledger = p.ledger;
      clients = are.plain.0.clients;
      ps = ps;
      apart = are.apart.0;
      plain = are.plain.0.plain;
      row_is = refl;
      entries_are = both.0;
      next = record { apart = are.apart.1; plain = are.plain.1; rows_are = more; entries_are = both.1 };
      left = left;
    })

-- ---- rows that are held against those of the accounts

-- whether these are the rows decides it
abbrev pub Decides : Catalogue → Type 0 → List InstalmentRow → List ShareRow → List PlacedLoan → Type 0
Decides k W i s ps = W ↔ AreAccounts k ps i s

-- the rows of the account of a row's loan
abbrev pub AreOf : Catalogue → LoanRow → Ledger → List InstalmentRow → List ShareRow → Type 0
AreOf k r l i s = (map (instalment_in r.office r.number) (account_instalments k l) ≡ i)
    × (map (share_in r.office r.number) (account_shares k l) ≡ s)

-- what holds of the ledger of a row's loan, by the rows of its entries
abbrev pub OfLedger : Catalogue → LoanRow → List EntryRow → (Ledger → Type 0) → Type 0
OfLedger k r entries P = (names : List (List ℕ)) (l : Ledger) → IsPlainLoan k names l
    → loan_in r.office r.number l.loan ≡ r → map (entry_in r.office r.number) l.entries ≡ entries → P l

-- the rows of the accounts of a loan and of others are the loan's and then the others'
accounts : (k : Catalogue) (p : PlacedLoan) (ps : List PlacedLoan) → AllByRecursion (IsOther p) ps
    → (i : List InstalmentRow) (s : List ShareRow) → AreAccounts k (p ∷ ps) i s ↔ (AreOf k (row_of_placed p) p.ledger
    (first_rows (is_instalment (row_of_placed p)) i) (first_rows (is_share (row_of_placed p)) s)
    × AreAccounts k ps (later_rows (is_instalment (row_of_placed p)) i) (later_rows (is_share (row_of_placed p)) s))
accounts k p ps all i s =
    let a = apart instalment_in (account_instalments k) (λ (q : InstalmentRow). q.office)
    (λ (q : InstalmentRow). q.loan)
    (λ x n a. refl) (λ x n a. refl) p ps all i in
    let b = apart share_in (account_shares k) (λ (q : ShareRow). q.office) (λ (q : ShareRow). q.loan)
    (λ x n a. refl) (λ x n a. refl) p ps all s in (
      λ are. (let x = a.0 are.instalments_are in let y = b.0 are.shares_are in (
        (x.0, y.0),
        record { instalments_are = x.1; shares_are = y.1 },
      )),
      λ both. record {
        instalments_are = a.1 (both.0.0, both.1.instalments_are);
        shares_are = b.1 (both.0.1, both.1.shares_are);
      },
    )

module _ (k : Catalogue) (W B : Type 0) (r : LoanRow) (rs : List LoanRow) (e : List EntryRow) (i : List InstalmentRow)
    (s : List ShareRow) (tells : OfLedger k r (first_rows (is_entry r) e) (λ l. B ↔ AreOf k r l
    (first_rows (is_instalment r) i) (first_rows (is_share r) s))) (h : IsLeft k (Decides k W i s) (r ∷ rs) e) where
  pub passed : B → IsLeft k (Decides k W (later_rows (is_instalment r) i) (later_rows (is_share r) s)) rs
      (later_rows (is_entry r) e)
  passed told =
      let x = next_of k (Decides k W i s) r rs e h in
      let own = (tells x.clients x.ledger x.plain x.row_is x.entries_are).0 told in
      let all = accounts k (placed r x.ledger) x.ps x.apart i s in
      (x.ps, x.next, (λ w. (all.0 (x.left.0 w)).1, λ more. x.left.1 (all.1 (own, more))))

  pub refused : (B → ⊥) → W → ⊥
  refused not w =
      let x = next_of k (Decides k W i s) r rs e h in
      let all = accounts k (placed r x.ledger) x.ps x.apart i s in
      not ((tells x.clients x.ledger x.plain x.row_is x.entries_are).1 (all.0 (x.left.0 w)).0)

pub finished : (k : Catalogue) (W B : Type 0) (e : List EntryRow) (i : List InstalmentRow) (s : List ShareRow)
    → (B ↔ ((i ≡ []) × (s ≡ []))) → IsLeft k (Decides k W i s) [] e → B ↔ W
finished k W B e i s nothing ([], are, left) = (
  λ done. (let none = nothing.0 done in left.1 (record { instalments_are = sym none.0; shares_are = sym none.1 })),
  λ w. (let a = left.0 w in nothing.1 (sym a.instalments_are, sym a.shares_are)),
)
finished k W B e i s nothing (p ∷ ps, are, left) = absurd (cc are.rows_are)

pub at_end : (loans : List LoanRow) (i : ℕ) → length loans ≤ i → drop i loans ≡ []
at_end loans i h = drop_all i loans h

-- ---- rows that are made, loan by loan

-- these are made of the loans before
abbrev pub AreMade : Catalogue → List PlacedLoan → List InstalmentRow → List ShareRow → List PlacedLoan → Type 0
AreMade k whole i s ps =
    (rows_of_placed instalment_in (account_instalments k) whole
    ≡ i ++ rows_of_placed instalment_in (account_instalments k) ps)
    × (rows_of_placed share_in (account_shares k) whole ≡ s ++ rows_of_placed share_in (account_shares k) ps)

pub made_more : (k : Catalogue) (whole : List PlacedLoan) (r : LoanRow) (rs : List LoanRow) (e : List EntryRow)
    (i mi : List InstalmentRow) (s ms : List ShareRow) → OfLedger k r (first_rows (is_entry r) e) (λ l.
    (mi ≡ i ++ map (instalment_in r.office r.number) (account_instalments k l))
    × (ms ≡ s ++ map (share_in r.office r.number) (account_shares k l))) → IsLeft k (AreMade k whole i s) (r ∷ rs) e
    → IsLeft k (AreMade k whole mi ms) rs (later_rows (is_entry r) e)
made_more k whole r rs e i mi s ms adds h =
    let x = next_of k (AreMade k whole i s) r rs e h in
    let both = adds x.clients x.ledger x.plain x.row_is x.entries_are in
    (x.ps, x.next, (some_made _ i mi _ _ x.left.0 both.0, some_made _ s ms _ _ x.left.1 both.1))

pub made_whole : (k : Catalogue) (whole : List PlacedLoan) (e : List EntryRow) (i : List InstalmentRow)
    (s : List ShareRow) → IsLeft k (AreMade k whole i s) [] e → AreAccounts k whole i s
made_whole k whole e i s ([], are, made) =
    record { instalments_are = made.0 ∙ append-nil i; shares_are = made.1 ∙ append-nil s }
made_whole k whole e i s (p ∷ ps, are, made) = absurd (cc are.rows_are)
