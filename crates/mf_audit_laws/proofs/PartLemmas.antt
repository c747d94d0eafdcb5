-- Rows of staff, clients, loans and entries that keep all conditions, office by office and loan by loan.
use Rattle.std.proofs.Common.{◌≡◌, ◌≢◌, ◌<◌, ◌≤◌, ◌+◌, ◌-◌, ◌==◌, ◌∙◌, ◌&&◌, ◌||◌, ℕ, zero, suc, Bool, true}
use Rattle.std.proofs.Common.{false, cond, List, [], ◌∷◌, map, length, Option, Some, None, refl, sym, subst, ap}
use Rattle.std.proofs.Common.{arith, eqb-true, true≢false}
use Rattle.std.specs.Prelude.{option_map, slice_get}
use Rattle.std.specs.List.{AllByRecursion, Contains, list_any}
use Rattle.std.specs.Option.{is_some}
use Rattle.std.proofs.lemmas.Bool.{eq-eqb, ne_eqb}
use Rattle.std.proofs.lemmas.Bool.Decides.{nat_tests}
use Rattle.std.proofs.lemmas.List.{take-append-drop}
use Rattle.std.proofs.lemmas.List.Elements.{All-from_recursion}
use Rattle.std.proofs.lemmas.List.Folds.{list_any-append}
use Rattle.std.proofs.lemmas.Option.{slice_get-get_or}
use Rattle.sqlite_keyed.proofs.ListLemmas.{all_both, all_weaker, any_from_none}
use Rattle.sqlite_trees.proofs.ListLemmas.{all-get_or}
use Rattle.mf_base.specs.DayText.{last_entered_day, day_text}
use Rattle.mf_account.specs.Loan.{IsEntry, SealIsLast}
use Rattle.mf_account.specs.Standing.{entry_at, is_before}
use Rattle.mf_account.specs.declared.entry.Entry.{Entry}
use Rattle.mf_model.specs.Institution.{Catalogue, Staff, item_numbered}
use Rattle.mf_model.specs.Sound.{IsName, IsStageBy}
use Rattle.mf_model.specs.Stages.{disbursed_on}
use Rattle.mf_model.specs.Tree.{Above, Ascending}
use Rattle.mf_model.specs.declared.loan.Loan.{Loan}
use Rattle.mf_model.specs.declared.loan.Stage.{Stage}
use Rattle.mf_model.specs.declared.loan.Stage.TheVariants.{Submitted, Approved, Disbursed, Withdrawn, Rejected}
use Rattle.mf_store_schema.specs.declared.clients.ClientRow.{ClientRow}
use Rattle.mf_store_schema.specs.declared.entries.EntryRow.{EntryRow}
use Rattle.mf_store_schema.specs.declared.loans.LoanRow.{LoanRow}
use Rattle.mf_store_schema.specs.declared.offices.OfficeRow.{OfficeRow}
use Rattle.mf_store_schema.specs.declared.products.ProductRow.{ProductRow}
use Rattle.mf_store_schema.specs.declared.receipts.ReceiptRow.{ReceiptRow}
use Rattle.mf_store_schema.specs.declared.staff.StaffRow.{StaffRow}
use Rattle.mf_store_values.specs.Flat.{client_in, entry_in, loan_in, numbered_from, product_as, staff_in}
use Rattle.mf_store_values.specs.Ledgers.{IsEnteredBy, IsOwnLoan}
use Rattle.mf_store_values.specs.Parts.{office_of, own, own_count, later}
use Rattle.mf_store_sound.specs.Entries.{AreLoanEntries}
use Rattle.mf_store_sound.specs.Sound.{AreLoanParts, AreOfficeParts}
use Rattle.mf_store_sound.specs.Stages.{AreEntriesOf}
use Rattle.mf_store_sound.specs.Stored.{IsRowOf, AllFrom}
use Rattle.mf_store_sound.proofs.LoanPartLemmas as loan_parts
use Rattle.mf_store_sound.proofs.OfficePartLemmas as office_parts
use Rattle.mf_store_sound.proofs.StoredLemmas.{AreRowsOf, all_parts, values_of}
use Rattle.mf_store_audit.specs.Entries.{is_own_loan, IsNotLast}
use Rattle.mf_store_audit.specs.Loans.{is_client}
use Rattle.mf_store_audit.specs.Offices.{is_office}
use Rattle.mf_audit_laws.proofs.BlockLemmas.{Block, Chain, Starts, chain_from, later_above, later_starts, own_block}
use Rattle.mf_audit_laws.proofs.EntryLemmas.{IsEntered, columns_stand}
use Rattle.mf_audit_laws.proofs.LoanLemmas.{IsLent, lends_under}
use Rattle.mf_audit_laws.proofs.MemberLemmas.{any_there, both_equal, each_at}
use Rattle.mf_audit_laws.proofs.NextLemmas.{AreBlock, AreStarted, IsFirstRow, IsNext, block_chain}
use Rattle.mf_audit_laws.proofs.NextLemmas.{IsNextThere, block_numbers, chain_starts, first_next}
use Rattle.mf_audit_laws.proofs.NextLemmas.{first_there, place_of}
use Rattle.mf_audit_laws.proofs.OfficeLemmas.{IsClientRow, IsStaffRow}
use Rattle.mf_audit_laws.proofs.WalkLemmas.{few, from_both, from_weaker, less_one, no_greater, some_limit}

-- ---- numbers

first_is : (a b : ℕ) → a ≡ b → a ≡ 0 + b
first_is a b e = omega (arith, e)

next_is : (a i b : ℕ) → a ≡ i + (b + 1) → a ≡ suc i + b
next_is a i b e = omega (arith, e)

below_tail : (i n : ℕ) → suc i < suc n → i < n
below_tail i n h = omega (arith, h)

some_first : (n : ℕ) → 0 < suc n
some_first n = omega arith

within_count : (a b c d : ℕ) → a ≡ b → a + 1 ≤ 1 + c → d ≡ c → b ≤ d
within_count a b c d e h f = omega (arith, e, h, f)

apart_numbers : (a n b : ℕ) → a ≡ n → n < b → a ≢ b
apart_numbers a n b e low same = omega (arith, e, low, same)

day_within : (a b c d : ℕ) → a ≤ b → b ≡ c → c ≤ d → a ≤ d
day_within a b c d h e k = omega (arith, h, e, k)

same_place : (i j a b : ℕ) → a ≡ i + 1 → b ≡ j + 1 → b ≡ a → i ≡ j
same_place i j a b e f same = omega (arith, e, f, same)

-- ---- rows split by their owners

-- what holds of rows holds of those of an owner, and of the others
split_each : {R : Type 0} (P : R → Type 0) (owner : R → ℕ) (x : ℕ) (rows : List R) → AllByRecursion P rows
    → AllByRecursion P (own owner x rows) × AllByRecursion P (later owner x rows)
split_each P owner x rows each = all_parts P (own owner x rows) (later owner x rows)
    (subst (AllByRecursion P) (sym (take-append-drop (own_count owner x rows) rows)) each)

-- a test that only an owner's rows pass is passed among these, or only others' among the others
any_own : {R : Type 0} (p : R → Bool) (owner : R → ℕ) (x : ℕ) (rows : List R)
    → AllByRecursion (λ r. p r ≡ false) (later owner x rows) → list_any p rows ≡ true
    → list_any p (own owner x rows) ≡ true
any_own p owner x rows none any =
    go (list_any p (own owner x rows)) (list_any p (later owner x rows)) (any_from_none p (later owner x rows) none)
    (sym (list_any-append p (own owner x rows) (later owner x rows))
    ∙ ap (list_any p) (take-append-drop (own_count owner x rows) rows) ∙ any)
  where
    go : (a b : Bool) → b ≡ false → (a || b) ≡ true → a ≡ true
    go true b e f = refl
    go false b e f = absurd (true≢false (sym f ∙ e))

any_later : {R : Type 0} (p : R → Bool) (owner : R → ℕ) (x : ℕ) (rows : List R)
    → AllByRecursion (λ r. p r ≡ false) (own owner x rows) → list_any p rows ≡ true
    → list_any p (later owner x rows) ≡ true
any_later p owner x rows none any =
    (λ t. sym (any_from_none p (own owner x rows) none) t || list_any p (later owner x rows))
    ∙ sym (list_any-append p (own owner x rows) (later owner x rows))
    ∙ ap (list_any p) (take-append-drop (own_count owner x rows) rows) ∙ any

-- ---- offices that are there

office_above : (x n : ℕ) (os : List OfficeRow) → Above x (map office_of os) → is_office os n ≡ true → x < n
office_above x n os up there =
    let found = any_there (λ (f : OfficeRow). f.number == n) os there in
    let number : found.0.number ≡ n = eqb-true found.0.number n found.2 in
    subst (λ m. x < m) number (each_at (λ (f : OfficeRow). x < f.number) os found.0 (above_each os up) found.1)
  where
    above_each : (fs : List OfficeRow) → Above x (map office_of fs)
        → AllByRecursion (λ (f : OfficeRow). x < f.number) fs
    above_each [] up = tt
    above_each (f ∷ fs) up = (up.0, above_each fs up.1)

module _ (o : OfficeRow) (os : List OfficeRow) (up : Above o.number (map office_of os)) where
  at_least : (n : ℕ) → is_office (o ∷ os) n ≡ true → o.number ≤ n
  at_least n there = go (o.number == n) refl
    where
      go : (b : Bool) → (o.number == n) ≡ b → o.number ≤ n
      go true e = let same : o.number ≡ n = grind (arith, nat_tests) in omega (arith, same)
      go false e =
          let low : o.number < n = office_above o.number n os up ((λ t. sym e t || is_office os n) ∙ there) in
          omega (arith, low)

  other_there : (n : ℕ) → o.number < n → is_office (o ∷ os) n ≡ true → is_office os n ≡ true
  other_there n low there =
      let apart : (o.number == n) ≡ false = ne_eqb o.number n (λ same. omega (arith, low, same)) in
      (λ t. sym apart t || is_office os n) ∙ there

-- ---- a table's rows that are left

module _ {R S : Type 0} (office : R → ℕ) (state : R → S) (Next : S → R → Type 0) (First : R → Type 0) (start : S)
    (first : (r : R) → First r → Next start r) (D : R → Type 0) where
  -- rows of these offices, which start one
  pub record Left (os : List OfficeRow) (rows : List R) : Type 0 where
    pub starts : Starts office state Next First rows
    pub there : AllByRecursion (λ r. is_office os (office r) ≡ true) rows
    pub each : AllByRecursion D rows

  none_left : (rows : List R) → Left [] rows → rows ≡ []
  none_left [] h = refl
  none_left (r ∷ rs) h = absurd (true≢false (sym h.there.0))

  module _ (o : OfficeRow) (os : List OfficeRow) (up : Above o.number (map office_of os)) (rows : List R)
      (h : Left (o ∷ os) rows) where
    left_chain : Chain office state Next First o.number start rows
    left_chain = chain_from office state Next First o.number start first rows h.starts
        (all_weaker (λ r. is_office (o ∷ os) (office r) ≡ true) (λ r. o.number ≤ office r)
        (λ r is. at_least o os up (office r) is) rows h.there)

    left_block : Block office state Next First o.number start (own office o.number rows)
    left_block = own_block office state Next First o.number start rows left_chain

    left_above : AllByRecursion (λ r. o.number < office r) (later office o.number rows)
    left_above = later_above office state Next First o.number start rows left_chain

    left_own : AllByRecursion D (own office o.number rows)
    left_own = (split_each D office o.number rows h.each).0

    left_later : Left os (later office o.number rows)
    left_later = record {
      starts = later_starts office state Next First o.number start rows left_chain;
      there = all_both (λ r. o.number < office r) (λ r. is_office (o ∷ os) (office r) ≡ true)
          (λ r. is_office os (office r) ≡ true) (λ r low is. other_there o os up (office r) low is)
          (later office o.number rows) left_above
          (split_each (λ r. is_office (o ∷ os) (office r) ≡ true) office o.number rows h.there).1;
      each = (split_each D office o.number rows h.each).1;
    }

-- ---- the rows of one office in a table that is numbered within offices

module _ {A R : Type 0} (make : ℕ → ℕ → A → R) (Passes : A → Type 0) (office number : R → ℕ) (limit : ℕ) where
  block_rows : (x : ℕ) (rows : List R) → AreBlock office number x 0 rows
      → AllByRecursion (λ r. (number r ≤ limit) × IsRowOf (make (office r)) Passes (number r) r) rows
      → (length rows ≤ limit) × AllFrom (IsRowOf (make x) Passes) 1 rows
  block_rows x rows block each =
      let under = from_both (λ m r. (office r ≡ x) × (number r ≡ m)) (λ m r. (m ≤ limit) × IsRowOf (make x) Passes m r)
      (λ r. (number r ≤ limit) × IsRowOf (make (office r)) Passes (number r) r)
      (λ m r is has. subst (λ k. (k ≤ limit) × IsRowOf (make x) Passes k r) is.1
      (has.0, subst (λ y. IsRowOf (make y) Passes (number r) r) is.0 has.1)) 1 rows
      (block_numbers office number x 0 rows block) each in
      let count : length rows + 1 ≤ limit + 1 = few limit 1 rows
      (from_weaker (λ m r. (m ≤ limit) × IsRowOf (make x) Passes m r) (λ m r. m ≤ limit) (λ m r h. h.0) 1 rows under)
      (some_limit limit) in (
        less_one (length rows) limit count,
        from_weaker (λ m r. (m ≤ limit) × IsRowOf (make x) Passes m r) (IsRowOf (make x) Passes) (λ m r h. h.1) 1 rows
            under,
      )

  block_values : (x : ℕ) (rows : List R) → AreBlock office number x 0 rows
      → AllByRecursion (λ r. (number r ≤ limit) × IsRowOf (make (office r)) Passes (number r) r) rows
      → AreRowsOf (make x) Passes limit rows
  block_values x rows block each = values_of (make x) Passes limit rows (block_rows x rows block each)

-- rows that are numbered from n on have numbers from n on
from_least : {R : Type 0} (P : R → Type 0) (number : R → ℕ) (n : ℕ) (rows : List R)
    → AllFrom (λ m r. P r × (number r ≡ m)) n rows
    → AllByRecursion (λ r. (n ≤ number r) × (number r + 1 ≤ n + length rows)) rows
from_least P number n [] all = tt
from_least P number n (r ∷ rs) all =
    let is : number r ≡ n = all.0.1 in (
      (omega (arith, is), omega (arith, is)),
      all_weaker (λ q. (n + 1 ≤ number q) × (number q + 1 ≤ (n + 1) + length rs))
          (λ q. (n ≤ number q) × (number q + 1 ≤ n + length (r ∷ rs)))
          (λ q h. (
            (let low : n + 1 ≤ number q = h.0 in omega (arith, low)),
            (let high : number q + 1 ≤ (n + 1) + length rs = h.1 in omega (arith, high)),
          )) rs (from_least P number (n + 1) rs all.1),
    )

-- a number from 1 to the length of a list names one of it
numbered_there : {A : Type 0} (xs : List A) (n : ℕ) → 1 ≤ n → n ≤ length xs → is_some (item_numbered xs n) ≡ true
numbered_there [] n low high = absurd (omega (arith, low, high))
numbered_there (x ∷ xs) n low high = go (n == 0) refl
  where
    go : (b : Bool) → (n == 0) ≡ b → is_some (cond b None (slice_get (x ∷ xs) (n - 1))) ≡ true
    go true e = let none : n ≡ 0 = grind (arith, nat_tests) in absurd (omega (arith, none, low))
    go false e = ap is_some (slice_get-get_or (x ∷ xs) (n - 1) x (omega (arith, low, high)))

-- ---- the entries of one loan

module _ (today : ℕ) (loans : List LoanRow) (staff : List StaffRow) (receipts : List ReceiptRow)
    (entries : List EntryRow) (x : ℕ) where
  -- an entry's row of the office
  record IsOfOffice (own_loans : List LoanRow) (row : EntryRow) : Type 0 where
    office : row.office ≡ x
    lent : list_any (is_own_loan row) own_loans ≡ true
    entered : IsEntered today loans staff receipts entries row
    there : Contains entries row

  module _ (n : ℕ) (r : LoanRow) (there : Contains loans r) (office_is : r.office ≡ x) (number_is : r.number ≡ n)
      (day : ℕ)
      (entered_day : day ≤ last_entered_day) (disbursed : r.disbursed ≡ Some (day_text day)) where
    -- what is told of an entry of the loan beside its number
    record IsGot (e : Entry) : Type 0 where
      lawful : IsEntry r.periods day e
      by : IsEnteredBy today e
      last : ¬ IsNotLast entries (entry_in x n e)
      row_there : Contains entries (entry_in x n e)

    record AreGot (first : ℕ) (rows : List EntryRow) : Type 0 where
      values : List Entry
      numbers : (i : ℕ) → i < length values → (entry_at values i).seq ≡ i + first
      count : length values ≡ length rows
      each : AllByRecursion IsGot values
      rows_are : map (entry_in x n) values ≡ rows

    own_loan : (row : EntryRow) → row.office ≡ x → row.loan ≡ n → is_own_loan row r ≡ true
    own_loan row office loan =
        let a = eq-eqb r.office row.office (office_is ∙ sym office) in
        let b = eq-eqb r.number row.loan (number_is ∙ sym loan) in λ t. a t && b t

    got : (own_loans : List LoanRow) (row : EntryRow) → row.loan ≡ n → IsOfOffice own_loans row
        → (e : Entry) × IsGot e × (entry_in x n e ≡ row)
    got own_loans row loan_is h =
        let e = h.entered.entry in
        let mine = own_loan row h.office loan_is in
        let row_is : entry_in x n e ≡ row =
        (λ t. entry_in (sym h.office t) (sym loan_is t) e) ∙ h.entered.row_is in (
          e,
          record {
            lawful = record {
              from = no_greater day e.day (λ less. h.entered.on_time (record {
                loan = r;
                there = there;
                own = mine;
                holds = (e.day, day, entered_day, ap (λ (q : EntryRow). q.day) h.entered.row_is, disbursed, less);
              }));
              columns = columns_stand e.kind r.periods e (λ wrong. h.entered.columns (record {
                loan = r;
                there = there;
                own = mine;
                holds = record {
                  entry = e;
                  readable = h.entered.readable;
                  row_is = h.entered.row_is;
                  wrong = wrong;
                };
              }));
            };
            by = record {
              readable = h.entered.readable;
              entered = h.entered.entered;
              receipt = h.entered.receipt;
            };
            last = subst (λ (q : EntryRow). ¬ IsNotLast entries q) (sym row_is) h.entered.last;
            row_there = subst (Contains entries) (sym row_is) h.there;
          },
          row_is,
        )

    gather : (own_loans : List LoanRow) (first : ℕ) (rows : List EntryRow)
        → AllFrom (λ m (row : EntryRow). (row.loan ≡ n) × (row.seq ≡ m)) first rows
        → AllByRecursion (IsOfOffice own_loans) rows → AreGot first rows
    gather own_loans first [] numbers each = record {
      values = [];
      numbers = λ i below. absurd (omega (arith, below));
      count = refl;
      each = tt;
      rows_are = refl;
    }
    gather own_loans first (row ∷ rows) numbers each =
        let h = got own_loans row numbers.0.0 each.0 in
        let more = gather own_loans (first + 1) rows numbers.1 each.1 in
        let seq : h.0.seq ≡ first = ap (λ (q : EntryRow). q.seq) h.2 ∙ numbers.0.1 in
        record {
          values = h.0 ∷ more.values;
          numbers = elim [
            | zero ↦ λ below. first_is h.0.seq first seq
            | suc i ↦ λ below. next_is (entry_at more.values i).seq i first
                (more.numbers i (below_tail i (length more.values) below))
          ];
          count = ap suc more.count;
          each = (h.1, more.each);
          rows_are = λ t. h.2 t ∷ more.rows_are t;
        }

    got_last : (rows : List EntryRow) (h : AreGot 1 rows) → SealIsLast h.values
    got_last rows h i j below_i below_j apart stands_i stands_j seal =
        go (is_before (entry_at h.values j) (entry_at h.values i)) refl
      where
        go : (b : Bool) → is_before (entry_at h.values j) (entry_at h.values i) ≡ b
            → is_before (entry_at h.values j) (entry_at h.values i) ≡ true
        go true e = e
        go false e =
            let at_i : IsGot (entry_at h.values i) = all-get_or IsGot h.values i _ h.each below_i in
            let at_j : IsGot (entry_at h.values j) = all-get_or IsGot h.values j _ h.each below_j in
            absurd (at_i.last (record {
              seal = entry_at h.values i;
              readable = at_i.by.readable;
              seal_is = refl;
              sealing = seal;
              stands = stands_i;
              other = entry_at h.values j;
              other_readable = at_j.by.readable;
              other_there = at_j.row_there;
              another = λ same. apart (same_place i j (entry_at h.values i).seq (entry_at h.values j).seq
                  (h.numbers i below_i) (h.numbers j below_j) same);
              other_stands = stands_j;
              not_before = e;
            }))

    entries_of : (own_loans : List LoanRow) (rows : List EntryRow) → length rows ≤ 9999
        → AllFrom (λ m (row : EntryRow). (row.loan ≡ n) × (row.seq ≡ m)) 1 rows
        → AllByRecursion (IsOfOffice own_loans) rows → AreLoanEntries today day r.periods x n rows
    entries_of own_loans rows most numbers each =
        let h = gather own_loans 1 rows numbers each in
        record {
          entries = h.values;
          lawful = record {
            numbers = h.numbers;
            few = subst (λ m. m ≤ 9999) (sym h.count) most;
            each = All-from_recursion (IsEntry r.periods day) h.values
                (all_weaker IsGot (IsEntry r.periods day) (λ e g. g.lawful) h.values h.each);
            seal_last = got_last rows h;
          };
          each = all_weaker IsGot (IsEnteredBy today) (λ e g. g.by) h.values h.each;
          rows_are = h.rows_are;
        }

-- ---- the loans of one office

stage_day : (today : ℕ) (s : Stage) (day : ℕ) → IsStageBy today s → disbursed_on s ≡ Some day → day ≤ today
stage_day today Submitted day h e = absurd (cc)
stage_day today (Approved approved) day h e = absurd (cc)
stage_day today (Disbursed approved d) day h e =
    let same : d ≡ day = cc in subst (λ n. n ≤ today) same h.1
stage_day today Withdrawn day h e = absurd (cc)
stage_day today Rejected day h e = absurd (cc)

module _ (today : ℕ) (loans : List LoanRow) (staff : List StaffRow) (receipts : List ReceiptRow)
    (entries : List EntryRow) (products : List ProductRow) (k : Catalogue) (day_is : k.day ≡ today)
    (entered_day : today ≤ last_entered_day) (products_are : numbered_from product_as 1 k.products ≡ products)
    (names : List (List ℕ)) (x : ℕ) where
  -- a loan's row of the office, whose client is one of these
  record IsOwnRow (row : LoanRow) : Type 0 where
    lent : IsLent today products row
    client : is_some (item_numbered names row.client) ≡ true
    there : Contains loans row

  own_row : (n : ℕ) (row : LoanRow) → row.office ≡ x → row.number ≡ n → IsOwnRow row
      → IsRowOf (loan_in x) (IsOwnLoan k names) n row
  own_row n row office number h = record {
    value = h.lent.loan;
    passes = record {
      client = subst (λ c. is_some (item_numbered names c) ≡ true) (sym (ap (λ (r : LoanRow). r.client) h.lent.row_is))
          h.client;
      product = lends_under today k products products_are row h.lent;
      stage = subst (λ d. IsStageBy d h.lent.loan.stage) (sym day_is) h.lent.stage;
    };
    row_is = (λ t. loan_in (sym office t) (sym number t) h.lent.loan) ∙ h.lent.row_is;
  }

  -- no loan's entries are more than the limit
  few_entries : (own_loans : List LoanRow) (n : ℕ) (rows : List EntryRow)
      → AllFrom (λ m (row : EntryRow). (row.loan ≡ n) × (row.seq ≡ m)) 1 rows
      → AllByRecursion (IsOfOffice today loans staff receipts entries x own_loans) rows → length rows ≤ 9999
  few_entries own_loans n rows numbers each =
      let count : length rows + 1 ≤ 9999 + 1 = few 9999 1 rows
      (from_both (λ m (row : EntryRow). (row.loan ≡ n) × (row.seq ≡ m)) (λ m row. m ≤ 9999)
      (IsOfOffice today loans staff receipts entries x own_loans)
      (λ m row is h. subst (λ c. c ≤ 9999) is.1 h.entered.within) 1 rows numbers each) (some_limit 9999) in
      less_one (length rows) 9999 count

  entries_there : (own_loans : List LoanRow) (n : ℕ) (row : LoanRow) → row.office ≡ x → row.number ≡ n
      → Contains loans row → (rows : List EntryRow)
      → AllFrom (λ m (e : EntryRow). (e.loan ≡ n) × (e.seq ≡ m)) 1 rows
      → AllByRecursion (IsOfOffice today loans staff receipts entries x own_loans) rows → (l : Loan)
      → loan_in x n l ≡ row → IsStageBy k.day l.stage → AreEntriesOf k.day l.periods (disbursed_on l.stage) x n rows
  entries_there own_loans n row office number there rows numbers each l is by =
      go (disbursed_on l.stage) refl (sym (ap (λ (r : LoanRow). r.disbursed) is))
    where
      none : row.disbursed ≡ None → (es : List EntryRow)
          → AllFrom (λ m (e : EntryRow). (e.loan ≡ n) × (e.seq ≡ m)) 1 es
          → AllByRecursion (IsOfOffice today loans staff receipts entries x own_loans) es → es ≡ []
      none undisbursed [] numbers each = refl
      none undisbursed (e ∷ es) numbers each = absurd (each.0.entered.disbursed (record {
        loan = row;
        there = there;
        own = (
            let a = eq-eqb row.office e.office (office ∙ sym each.0.office) in
            let b = eq-eqb row.number e.loan (number ∙ sym numbers.0.0) in
            λ t. a t && b t
            );
        holds = undisbursed;
      }))

      go : (o : Option ℕ) → disbursed_on l.stage ≡ o → row.disbursed ≡ option_map day_text o
          → AreEntriesOf k.day l.periods o x n rows
      go None e disbursed = none disbursed rows numbers each
      go (Some day) e disbursed =
          let low : day ≤ k.day = stage_day k.day l.stage day by e in
          let periods : row.periods ≡ l.periods = sym (ap (λ (r : LoanRow). r.periods) is) in
          subst (λ d. AreLoanEntries d day l.periods x n rows) (sym day_is)
          (subst (λ p. AreLoanEntries today day p x n rows) periods
          (entries_of today loans staff receipts entries x n row there office number day
          (day_within day k.day today last_entered_day low day_is entered_day) disbursed own_loans rows
          (few_entries own_loans n rows numbers each)
          numbers each))

  loans_parts : (n : ℕ) (own_loans : List LoanRow) (rows : List EntryRow)
      → AllFrom (λ m (r : LoanRow). (r.office ≡ x) × (r.number ≡ m)) n own_loans
      → AllByRecursion IsOwnRow own_loans
      → AreStarted (λ (e : EntryRow). e.loan) (λ e. e.seq) rows
      → AllByRecursion (IsOfOffice today loans staff receipts entries x own_loans) rows
      → AreLoanParts k names x n own_loans rows
  loans_parts n [] rows numbers own_rows starts each = (loan_parts.no_loans k names x n rows).1 (empty rows each)
    where
      empty : (es : List EntryRow) → AllByRecursion (IsOfOffice today loans staff receipts entries x []) es → es ≡ []
      empty [] each = refl
      empty (e ∷ es) each = absurd (true≢false (sym each.0.lent))
  loans_parts n (r ∷ rs) rows numbers own_rows starts each =
      let loan = λ (e : EntryRow). e.loan in
      let seq = λ (e : EntryRow). e.seq in
      let chain = chain_from loan seq (IsNext loan seq) (IsFirstRow loan seq) n 0 (first_next loan seq) rows starts
      (all_weaker (IsOfOffice today loans staff receipts entries x (r ∷ rs)) (λ e. n ≤ e.loan) loan_from rows each) in
      let block = own_block loan seq (IsNext loan seq) (IsFirstRow loan seq) n 0 rows chain in
      let above = later_above loan seq (IsNext loan seq) (IsFirstRow loan seq) n 0 rows chain in
      let parts = split_each (IsOfOffice today loans staff receipts entries x (r ∷ rs)) loan n rows each in
      let entry_numbers = block_numbers loan seq n 0 (own loan n rows) block in
      let part = (loan_parts.loan_part k names x n r (own loan n rows) (Unit {0})
      (own_row n r numbers.0.0 numbers.0.1 own_rows.0)
      (λ l is by. (
        λ yes. entries_there (r ∷ rs) n r numbers.0.0 numbers.0.1 own_rows.0.there (own loan n rows) entry_numbers
            parts.0 l is by,
        λ are. tt,
      ))).0 tt in
      (loan_parts.first_and_others k names x n r rs rows (own loan n rows) (later loan n rows) refl refl).1 (
        part,
        loans_parts (n + 1) rs (later loan n rows) numbers.1 own_rows.1
            (later_starts loan seq (IsNext loan seq) (IsFirstRow loan seq) n 0 rows chain)
            (all_both (λ (e : EntryRow). n < e.loan) (IsOfOffice today loans staff receipts entries x (r ∷ rs))
            (IsOfOffice today loans staff receipts entries x rs) other (later loan n rows) above parts.1),
      )
    where
      loan_is : (e : EntryRow) (l : LoanRow) → is_own_loan e l ≡ true → l.number ≡ e.loan
      loan_is e l own = (both_equal l.office e.office l.number e.loan own).1

      loan_from : (e : EntryRow) → IsOfOffice today loans staff receipts entries x (r ∷ rs) e → n ≤ e.loan
      loan_from e h =
          let found = any_there (is_own_loan e) (r ∷ rs) h.lent in
          let least = each_at (λ (q : LoanRow). (n ≤ q.number) × (q.number + 1 ≤ n + length (r ∷ rs))) (r ∷ rs) found.0
          (from_least (λ (q : LoanRow). q.office ≡ x) (λ q. q.number) n (r ∷ rs) numbers) found.1 in
          subst (λ m. n ≤ m) (loan_is e found.0 found.2) least.0

      no_first : (a b c : Bool) → b ≡ false → ((a && b) || c) ≡ true → c ≡ true
      no_first true b c e any = (λ t. sym e t || c) ∙ any
      no_first false b c e any = any

      other : (e : EntryRow) → n < e.loan → IsOfOffice today loans staff receipts entries x (r ∷ rs) e
          → IsOfOffice today loans staff receipts entries x rs e
      other e low h =
          let number : r.number ≡ n = numbers.0.1 in
          let apart : (r.number == e.loan) ≡ false =
          ne_eqb r.number e.loan (apart_numbers r.number n e.loan number low) in
          record {
            office = h.office;
            lent = no_first (r.office == e.office) (r.number == e.loan) (list_any (is_own_loan e) rs) apart h.lent;
            entered = h.entered;
            there = h.there;
          }

-- ---- office by office

-- rows of a block have its owner
block_owner : {R S : Type 0} (owner : R → ℕ) (state : R → S) (Next : S → R → Type 0) (First : R → Type 0) (x : ℕ)
    (s : S) (rows : List R) → Block owner state Next First x s rows → AllByRecursion (λ r. owner r ≡ x) rows
block_owner owner state Next First x s [] block = tt
block_owner owner state Next First x s (r ∷ rs) block =
    (block.0.0, block_owner owner state Next First x (state r) rs block.1)

-- a test that asks for another office fails
and_apart : (a b : ℕ) (c : Bool) → a ≢ b → ((a == b) && c) ≡ false
and_apart a b c apart = λ t. ne_eqb a b apart t && c

abbrev staff_owner : StaffRow → ℕ
staff_owner r = r.office

abbrev staff_number : StaffRow → ℕ
staff_number r = r.number

abbrev client_owner : ClientRow → ℕ
client_owner r = r.office

abbrev client_number : ClientRow → ℕ
client_number r = r.number

abbrev loan_owner : LoanRow → ℕ
loan_owner r = r.office

abbrev loan_number : LoanRow → ℕ
loan_number r = r.number

abbrev entry_owner : EntryRow → ℕ
entry_owner r = r.office

abbrev entry_loan : EntryRow → ℕ
entry_loan r = r.loan

abbrev entry_seq : EntryRow → ℕ
entry_seq r = r.seq

-- a loan's client is one of its office's
client_fits : (c : List ClientRow) (x : ℕ) (row : LoanRow) → row.office ≡ x
    → AllFrom (λ m (q : ClientRow). (q.office ≡ x) × (q.number ≡ m)) 1 (own client_owner x c)
    → AllByRecursion (λ (q : ClientRow). x < q.office) (later client_owner x c)
    → is_client c row.office row.client ≡ true → (names : List (List ℕ))
    → length names ≡ length (own client_owner x c) → is_some (item_numbered names row.client) ≡ true
client_fits c x row office numbers above there names count =
    let p = λ (q : ClientRow). (q.office == row.office) && (q.number == row.client) in
    let none = all_weaker (λ (q : ClientRow). x < q.office) (λ (q : ClientRow). p q ≡ false)
    (λ q low. and_apart q.office row.office (q.number == row.client)
    (λ same. (let less : x < q.office = low in omega (arith, less, same, office)))) (later client_owner x c) above in
    let found = any_there p (own client_owner x c) (any_own p client_owner x c none there) in
    let least = each_at (λ (q : ClientRow). (1 ≤ q.number) × (q.number + 1 ≤ 1 + length (own client_owner x c)))
    (own client_owner x c) found.0 (from_least (λ (q : ClientRow). q.office ≡ x) client_number 1
    (own client_owner x c) numbers) found.1 in
    let low : 1 ≤ found.0.number = least.0 in
    let high : found.0.number + 1 ≤ 1 + length (own client_owner x c) = least.1 in
    let same : found.0.number ≡ row.client =
    (both_equal found.0.office row.office found.0.number row.client found.2).1 in
    numbered_there names row.client (subst (λ m. 1 ≤ m) same low)
    (within_count found.0.number row.client (length (own client_owner x c)) (length names) same high count)

client_later : (c : List ClientRow) (x : ℕ) (row : LoanRow) → x < row.office
    → AllByRecursion (λ (q : ClientRow). q.office ≡ x) (own client_owner x c)
    → is_client c row.office row.client ≡ true → is_client (later client_owner x c) row.office row.client ≡ true
client_later c x row low owned there =
    any_later (λ (q : ClientRow). (q.office == row.office) && (q.number == row.client)) client_owner x c
    (all_weaker (λ (q : ClientRow). q.office ≡ x) _ (λ q is. and_apart q.office row.office (q.number == row.client)
    (λ same. omega (arith, is, same, low))) (own client_owner x c) owned) there

-- an entry's loan is one of its office's
loan_fits : (l : List LoanRow) (x : ℕ) (row : EntryRow) → row.office ≡ x
    → AllByRecursion (λ (q : LoanRow). x < q.office) (later loan_owner x l) → list_any (is_own_loan row) l ≡ true
    → list_any (is_own_loan row) (own loan_owner x l) ≡ true
loan_fits l x row office above there =
    any_own (is_own_loan row) loan_owner x l (all_weaker (λ (q : LoanRow). x < q.office) _
    (λ q low. and_apart q.office row.office (q.number == row.loan)
    (λ same. (let less : x < q.office = low in omega (arith, less, same, office)))) (later loan_owner x l) above) there

loan_later : (l : List LoanRow) (x : ℕ) (row : EntryRow) → x < row.office
    → AllByRecursion (λ (q : LoanRow). q.office ≡ x) (own loan_owner x l) → list_any (is_own_loan row) l ≡ true
    → list_any (is_own_loan row) (later loan_owner x l) ≡ true
loan_later l x row low owned there =
    any_later (is_own_loan row) loan_owner x l (all_weaker (λ (q : LoanRow). q.office ≡ x) _
    (λ q is. and_apart q.office row.office (q.number == row.loan) (λ same. omega (arith, is, same, low)))
    (own loan_owner x l) owned) there

-- tables whose rows are numbered within offices
module _ {R : Type 0} (office number : R → ℕ) (D : R → Type 0) where
  abbrev PairLeft : List OfficeRow → List R → Type 0
  PairLeft = Left office number (IsNext office number) (IsFirstRow office number) 0 (first_next office number) D

  module _ (o : OfficeRow) (os : List OfficeRow) (up : Above o.number (map office_of os)) (rows : List R)
      (h : PairLeft (o ∷ os) rows) where
    pair_block : AreBlock office number o.number 0 (own office o.number rows)
    pair_block = left_block office number (IsNext office number) (IsFirstRow office number) 0
        (first_next office number) D o os up rows h

    pair_numbers : AllFrom (λ m r. (office r ≡ o.number) × (number r ≡ m)) 1 (own office o.number rows)
    pair_numbers = block_numbers office number o.number 0 (own office o.number rows) pair_block

    pair_owned : AllByRecursion (λ r. office r ≡ o.number) (own office o.number rows)
    pair_owned = block_owner office number (IsNext office number) (IsFirstRow office number) o.number 0
        (own office o.number rows) pair_block

    pair_above : AllByRecursion (λ r. o.number < office r) (later office o.number rows)
    pair_above = left_above office number (IsNext office number) (IsFirstRow office number) 0
        (first_next office number) D o os up rows h

    pair_own : AllByRecursion D (own office o.number rows)
    pair_own = left_own office number (IsNext office number) (IsFirstRow office number) 0
        (first_next office number) D o os up rows h

    pair_later : PairLeft os (later office o.number rows)
    pair_later = left_later office number (IsNext office number) (IsFirstRow office number) 0
        (first_next office number) D o os up rows h

module _ (today : ℕ) (offices : List OfficeRow) (products : List ProductRow) (loans : List LoanRow)
    (staff : List StaffRow) (receipts : List ReceiptRow) (entries : List EntryRow) where
  abbrev IsLoanThere : LoanRow → Type 0
  IsLoanThere row = IsLent today products row × (row.number ≤ 999999) × Contains loans row

  abbrev IsEntryThere : EntryRow → Type 0
  IsEntryThere row = IsEntered today loans staff receipts entries row × Contains entries row

  abbrev EntriesLeft : List OfficeRow → List EntryRow → Type 0
  EntriesLeft = Left entry_owner (place_of entry_owner entry_loan entry_seq)
      (IsNextThere entry_owner entry_loan entry_seq) (IsFirstRow entry_loan entry_seq) (0, 0)
      (first_there entry_owner entry_loan entry_seq) IsEntryThere

  -- the rows of these offices in four tables
  pub record AreLeft (os : List OfficeRow) (s : List StaffRow) (c : List ClientRow) (l : List LoanRow)
      (e : List EntryRow) : Type 0 where
    pub staff_left : PairLeft staff_owner staff_number (IsStaffRow offices) os s
    pub clients_left : PairLeft client_owner client_number (IsClientRow offices) os c
    pub loans_left : PairLeft loan_owner loan_number IsLoanThere os l
    pub entries_left : EntriesLeft os e
    pub clients_there : AllByRecursion (λ (row : LoanRow). is_client c row.office row.client ≡ true) l
    pub lent : AllByRecursion (λ (row : EntryRow). list_any (is_own_loan row) l ≡ true) e

  module _ (o : OfficeRow) (os : List OfficeRow) (up : Above o.number (map office_of os)) (s : List StaffRow)
      (c : List ClientRow) (l : List LoanRow) (e : List EntryRow) (h : AreLeft (o ∷ os) s c l e) where
    entries_block : Block entry_owner (place_of entry_owner entry_loan entry_seq)
        (IsNextThere entry_owner entry_loan entry_seq) (IsFirstRow entry_loan entry_seq) o.number (0, 0)
        (own entry_owner o.number e)
    entries_block = left_block entry_owner (place_of entry_owner entry_loan entry_seq)
        (IsNextThere entry_owner entry_loan entry_seq) (IsFirstRow entry_loan entry_seq) (0, 0)
        (first_there entry_owner entry_loan entry_seq) IsEntryThere o os up e h.entries_left

    entries_above : AllByRecursion (λ r. o.number < entry_owner r) (later entry_owner o.number e)
    entries_above = left_above entry_owner (place_of entry_owner entry_loan entry_seq)
        (IsNextThere entry_owner entry_loan entry_seq) (IsFirstRow entry_loan entry_seq) (0, 0)
        (first_there entry_owner entry_loan entry_seq) IsEntryThere o os up e h.entries_left

    entries_own : AllByRecursion IsEntryThere (own entry_owner o.number e)
    entries_own = left_own entry_owner (place_of entry_owner entry_loan entry_seq)
        (IsNextThere entry_owner entry_loan entry_seq) (IsFirstRow entry_loan entry_seq) (0, 0)
        (first_there entry_owner entry_loan entry_seq) IsEntryThere o os up e h.entries_left

    entries_later : EntriesLeft os (later entry_owner o.number e)
    entries_later = left_later entry_owner (place_of entry_owner entry_loan entry_seq)
        (IsNextThere entry_owner entry_loan entry_seq) (IsFirstRow entry_loan entry_seq) (0, 0)
        (first_there entry_owner entry_loan entry_seq) IsEntryThere o os up e h.entries_left

    -- what is left for the other offices
    others_left : AreLeft os (later staff_owner o.number s) (later client_owner o.number c)
        (later loan_owner o.number l) (later entry_owner o.number e)
    others_left = record {
      staff_left = pair_later staff_owner staff_number (IsStaffRow offices) o os up s h.staff_left;
      clients_left = pair_later client_owner client_number (IsClientRow offices) o os up c h.clients_left;
      loans_left = pair_later loan_owner loan_number IsLoanThere o os up l h.loans_left;
      entries_left = entries_later;
      clients_there = all_both (λ (row : LoanRow). o.number < row.office)
          (λ (row : LoanRow). is_client c row.office row.client ≡ true) _
          (λ row low there. client_later c o.number row low
          (pair_owned client_owner client_number (IsClientRow offices) o os up c h.clients_left) there)
          (later loan_owner o.number l) (pair_above loan_owner loan_number IsLoanThere o os up l h.loans_left)
          (split_each (λ (row : LoanRow). is_client c row.office row.client ≡ true) loan_owner o.number l
          h.clients_there).1;
      lent = all_both (λ (row : EntryRow). o.number < row.office)
          (λ (row : EntryRow). list_any (is_own_loan row) l ≡ true) _
          (λ row low there. loan_later l o.number row low
          (pair_owned loan_owner loan_number IsLoanThere o os up l h.loans_left) there)
          (later entry_owner o.number e) entries_above
          (split_each (λ (row : EntryRow). list_any (is_own_loan row) l ≡ true) entry_owner o.number e h.lent).1;
    }

    -- the office's own rows
    module _ (k : Catalogue) (day_is : k.day ≡ today) (entered_day : today ≤ last_entered_day)
        (products_are : numbered_from product_as 1 k.products ≡ products) where
      own_staff : AreRowsOf (staff_in o.number) (λ (q : Staff). IsName q.name) 9999 (own staff_owner o.number s)
      own_staff = block_values staff_in (λ (q : Staff). IsName q.name) staff_owner staff_number 9999 o.number
          (own staff_owner o.number s) (pair_block staff_owner staff_number (IsStaffRow offices) o os up s h.staff_left)
          (all_weaker (IsStaffRow offices) _ (λ r is. (is.within, is.is_row)) (own staff_owner o.number s)
          (pair_own staff_owner staff_number (IsStaffRow offices) o os up s h.staff_left))

      own_clients : AreRowsOf (client_in o.number) IsName 999999 (own client_owner o.number c)
      own_clients = block_values client_in IsName client_owner client_number 999999 o.number
          (own client_owner o.number c)
          (pair_block client_owner client_number (IsClientRow offices) o os up c h.clients_left)
          (all_weaker (IsClientRow offices) _ (λ r is. (is.within, is.is_row)) (own client_owner o.number c)
          (pair_own client_owner client_number (IsClientRow offices) o os up c h.clients_left))

      loan_numbers : AllFrom (λ m (r : LoanRow). (r.office ≡ o.number) × (r.number ≡ m)) 1 (own loan_owner o.number l)
      loan_numbers = pair_numbers loan_owner loan_number IsLoanThere o os up l h.loans_left

      few_loans : length (own loan_owner o.number l) ≤ 999999
      few_loans =
          let count : length (own loan_owner o.number l) + 1 ≤ 999999 + 1 = few 999999 1 (own loan_owner o.number l)
          (from_both (λ m (r : LoanRow). (r.office ≡ o.number) × (r.number ≡ m)) (λ m r. m ≤ 999999) IsLoanThere
          (λ m r is has. subst (λ n. n ≤ 999999) is.1 has.1) 1 (own loan_owner o.number l) loan_numbers
          (pair_own loan_owner loan_number IsLoanThere o os up l h.loans_left)) (some_limit 999999) in
          less_one (length (own loan_owner o.number l)) 999999 count

      own_rows : (names : List (List ℕ)) → length names ≡ length (own client_owner o.number c)
          → AllByRecursion (IsOwnRow today loans staff receipts entries products k day_is entered_day products_are names
          o.number) (own loan_owner o.number l)
      own_rows names count = all_both IsLoanThere (λ (row : LoanRow). (row.office ≡ o.number)
          × (is_client c row.office row.client ≡ true)) _
          (λ row has is. record {
            lent = has.0;
            client = client_fits c o.number row is.0
                (pair_numbers client_owner client_number (IsClientRow offices) o os up c h.clients_left)
                (pair_above client_owner client_number (IsClientRow offices) o os up c h.clients_left) is.1 names count;
            there = has.2;
          }) (own loan_owner o.number l) (pair_own loan_owner loan_number IsLoanThere o os up l h.loans_left)
          (all_both (λ (row : LoanRow). row.office ≡ o.number)
          (λ (row : LoanRow). is_client c row.office row.client ≡ true) _ (λ row a b. (a, b))
          (own loan_owner o.number l) (pair_owned loan_owner loan_number IsLoanThere o os up l h.loans_left)
          (split_each (λ (row : LoanRow). is_client c row.office row.client ≡ true) loan_owner o.number l
          h.clients_there).0)

      own_entries : AllByRecursion (IsOfOffice today loans staff receipts entries o.number (own loan_owner o.number l))
          (own entry_owner o.number e)
      own_entries = all_both IsEntryThere (λ (row : EntryRow). (row.office ≡ o.number)
          × (list_any (is_own_loan row) l ≡ true)) _
          (λ row has is. record {
            office = is.0;
            lent = loan_fits l o.number row is.0
                (pair_above loan_owner loan_number IsLoanThere o os up l h.loans_left) is.1;
            entered = has.0;
            there = has.1;
          }) (own entry_owner o.number e) entries_own
          (all_both (λ (row : EntryRow). row.office ≡ o.number)
          (λ (row : EntryRow). list_any (is_own_loan row) l ≡ true) _ (λ row a b. (a, b))
          (own entry_owner o.number e)
          (block_chain entry_owner entry_loan entry_seq o.number 0 0 (own entry_owner o.number e) entries_block).1
          (split_each (λ (row : EntryRow). list_any (is_own_loan row) l ≡ true) entry_owner o.number e h.lent).0)

      part : office_parts.IsPart k o.number (
        own staff_owner o.number s,
        own client_owner o.number c,
        own loan_owner o.number l,
        own entry_owner o.number e,
      )
      part = (office_parts.office_part k o.number (own staff_owner o.number s) (own client_owner o.number c)
          (own loan_owner o.number l) (own entry_owner o.number e) (Unit {0}) own_staff own_clients
          (λ names count. (
            λ yes. (
              few_loans,
              loans_parts today loans staff receipts entries products k day_is entered_day products_are names o.number 1
                  (own loan_owner o.number l) (own entry_owner o.number e) loan_numbers (own_rows names count)
                  (chain_starts entry_loan entry_seq 0 (own entry_owner o.number e)
                  (block_chain entry_owner entry_loan entry_seq o.number 0 0 (own entry_owner o.number e)
                  entries_block).0) own_entries,
            ),
            λ are. tt,
          ))).0 tt

  module _ (k : Catalogue) (day_is : k.day ≡ today) (entered_day : today ≤ last_entered_day)
      (products_are : numbered_from product_as 1 k.products ≡ products) where
    -- rows that are left of a list of offices are those of these offices
    pub parts_left : (os : List OfficeRow) (s : List StaffRow) (c : List ClientRow) (l : List LoanRow)
        (e : List EntryRow) → Ascending (map office_of os) → AreLeft os s c l e → AreOfficeParts k os s c l e
    parts_left [] s c l e up h = (office_parts.no_offices k (s, c, l, e)).1 (
      none_left staff_owner staff_number (IsNext staff_owner staff_number) (IsFirstRow staff_owner staff_number) 0
          (first_next staff_owner staff_number) (IsStaffRow offices) s h.staff_left,
      none_left client_owner client_number (IsNext client_owner client_number) (IsFirstRow client_owner client_number) 0
          (first_next client_owner client_number) (IsClientRow offices) c h.clients_left,
      none_left loan_owner loan_number (IsNext loan_owner loan_number) (IsFirstRow loan_owner loan_number) 0
          (first_next loan_owner loan_number) IsLoanThere l h.loans_left,
      none_left entry_owner (place_of entry_owner entry_loan entry_seq) (IsNextThere entry_owner entry_loan entry_seq)
          (IsFirstRow entry_loan entry_seq) (0, 0) (first_there entry_owner entry_loan entry_seq) IsEntryThere e
          h.entries_left,
    )
    parts_left (o ∷ os) s c l e up h =
        (office_parts.first_and_others k (o ∷ os) 0 o (some_first (length os)) refl up (s, c, l, e) (
          own staff_owner o.number s,
          own client_owner o.number c,
          own loan_owner o.number l,
          own entry_owner o.number e,
        ) (
          later staff_owner o.number s,
          later client_owner o.number c,
          later loan_owner o.number l,
          later entry_owner o.number e,
        ) (refl, refl, refl, refl) (refl, refl, refl, refl)).1 (
          part o os up.0 s c l e h k day_is entered_day products_are,
          parts_left os (later staff_owner o.number s) (later client_owner o.number c) (later loan_owner o.number l)
              (later entry_owner o.number e) up.1 (others_left o os up.0 s c l e h),
        )
