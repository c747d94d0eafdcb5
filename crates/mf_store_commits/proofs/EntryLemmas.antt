-- The rows of entries: those of one loan, one by its number, one entry more, and one reversed.
use Rattle.std.proofs.Common.{◌≡◌, ◌<◌, ◌≤◌, ◌+◌, ◌-◌, ℕ, zero, suc, true, List, [], ◌∷◌, ◌++◌, map, filter, length}
use Rattle.std.proofs.Common.{Some, refl, sym, ap, ◌∙◌, arith, Less, Greater, nat_cmp, Bool, false, cond, ◌&&◌}
use Rattle.std.proofs.Common.{find, None, IsSome, Ordering, is_eq, inl, inr}
use Rattle.std.proofs.lemmas.Bool.{cases_Bool}
use Rattle.std.proofs.lemmas.Bool.Decides.{nat_tests}
use Rattle.std.proofs.lemmas.List.{map-append, length-append, append-nil}
use Rattle.std.specs.List.{AllByRecursion}
use Rattle.std.specs.Ordering.{ordering_then}
use Rattle.sqlite_keyed.proofs.ListLemmas.{all_map, all_weaker}
use Rattle.mf_account.specs.Standing.{entry_at, with_mark}
use Rattle.mf_account.specs.declared.entry.Entry.{Entry}
use Rattle.mf_model.specs.Institution.{Ledger, Office, Rows, office_at, with_rows, item_numbered, with_numbered}
use Rattle.mf_model.specs.Institution.{Institution}
use Rattle.mf_model.specs.Loans.{with_entries}
use Rattle.mf_model.specs.Sound.{IsSound}
use Rattle.mf_model.specs.Store.{rows_of, rows_at}
use Rattle.mf_model.specs.Tree.{Ascending}
use Rattle.mf_store_sql.specs.Keep.{put_item}
use Rattle.mf_store_schema.specs.Rows.{by_entry, is_entry_of, is_row_of_entry}
use Rattle.mf_store_schema.specs.declared.entries.EntryRow.{EntryRow}
use Rattle.mf_store_values.proofs.LoanRowLemmas.{loan_shown, rows_around}
use Rattle.mf_store_values.proofs.PutLemmas.{put_past, put_over, put_past_all, put_around}
use Rattle.mf_store_values.specs.Flat.{entry_in, own_entries, entry_rows, ledger_entries, reversed_entry, tables_of}
use Rattle.mf_store_commits.proofs.StepLemmas.{then_assoc, own_key}

-- the rows of a loan are those of its entries
pub entries_shown : (x n : ℕ) (fs : List Office) → Ascending fs → filter (is_entry_of x n) (entry_rows fs)
    ≡ map (entry_in x n) (ledger_entries (item_numbered (rows_of (office_at x fs)).loans n))
entries_shown x n fs up = loan_shown entry_in own_entries is_entry_of (λ x n y m e. refl) x n fs up

-- ---- one row put among those of its loan

-- a row put makes the one list of a loan's entries of the other
abbrev pub PutsEntry : ℕ → ℕ → Entry → List Entry → List Entry → Type 0
PutsEntry x n e old new = put_item by_entry (entry_in x n e) (map (entry_in x n) old) ≡ map (entry_in x n) new

-- each of these entries has a smaller number
abbrev pub AreEarlier : ℕ → List Entry → Type 0
AreEarlier seq entries = AllByRecursion (λ (e : Entry). e.seq < seq) entries

earlier_rows : (x n : ℕ) (e : Entry) (es : List Entry) → AreEarlier e.seq es
    → AllByRecursion (λ r. by_entry (entry_in x n e) r ≡ Greater) (map (entry_in x n) es)
earlier_rows x n e es early = all_map (λ r. by_entry (entry_in x n e) r ≡ Greater) (entry_in x n) es
    (all_weaker (λ (d : Entry). d.seq < e.seq) (λ d. by_entry (entry_in x n e) (entry_in x n d) ≡ Greater)
    (λ d low. own_key x n (nat_cmp e.seq d.seq) ∙ grind (arith, nat_tests, low)) es early)

-- one more entry
pub puts_last : (x n : ℕ) (e : Entry) (es : List Entry) → AreEarlier e.seq es → PutsEntry x n e es (es ++ e ∷ [])
puts_last x n e es early =
    ap (put_item by_entry (entry_in x n e)) (sym (append-nil (map (entry_in x n) es)))
    ∙ put_past_all by_entry (entry_in x n e) (map (entry_in x n) es) [] (earlier_rows x n e es early)
    ∙ sym (map-append (entry_in x n) es (e ∷ []))

-- numbered from n + 1 on
abbrev pub AreNumbered : ℕ → List Entry → Type 0
AreNumbered n es = (i : ℕ) → i < length es → (entry_at es i).seq ≡ n + i + 1

pub later_numbered : (n : ℕ) (e : Entry) (es : List Entry) → AreNumbered n (e ∷ es) → AreNumbered (n + 1) es
later_numbered n e es are = λ i below. let next = are (suc i) (omega (arith, below)) in omega (arith, next)

later_rows : (x n m : ℕ) (e : Entry) (es : List Entry) → e.seq ≤ m → AreNumbered m es
    → AllByRecursion (λ r. by_entry (entry_in x n e) r ≡ Less) (map (entry_in x n) es)
later_rows x n m e [] low are = tt
later_rows x n m e (d ∷ es) low are = let first = are 0 (omega arith) in (
  own_key x n (nat_cmp e.seq d.seq) ∙ grind (arith, nat_tests, first, low),
  later_rows x n (m + 1) e es (omega (arith, low)) (later_numbered m d es are),
)

-- one of them reversed
pub puts_reversed : (x n m k : ℕ) (es : List Entry) → AreNumbered m es → k < length es
    → PutsEntry x n (reversed_entry (entry_at es k)) es (with_mark es k true)
puts_reversed x n m k [] are low = absurd (omega (arith, low))
puts_reversed x n m zero (e ∷ es) are low =
    let first = are 0 (omega arith) in
    put_over by_entry (entry_in x n (reversed_entry e)) (entry_in x n e) (map (entry_in x n) es)
    (own_key x n (nat_cmp e.seq e.seq) ∙ grind (arith, nat_tests))
    (later_rows x n (m + 1) (reversed_entry e) es (omega (arith, first)) (later_numbered m e es are))
puts_reversed x n m (suc k) (e ∷ es) are low =
    let first = are 0 (omega arith) in
    let this = are (suc k) low in
    put_past by_entry (entry_in x n (reversed_entry (entry_at es k))) (entry_in x n e) (map (entry_in x n) es)
    (own_key x n (nat_cmp (entry_at es k).seq e.seq) ∙ grind (arith, nat_tests, first, this))
    ∙ ap (λ rows. entry_in x n e ∷ rows) (puts_reversed x n (m + 1) k es (later_numbered m e es are)
    (omega (arith, low)))

-- the entry that was reversed
pub marked_entry : (es : List Entry) (k : ℕ) → k < length es → entry_at (with_mark es k true) k
    ≡ reversed_entry (entry_at es k)
marked_entry [] k low = absurd (omega (arith, low))
marked_entry (e ∷ es) zero low = refl
marked_entry (e ∷ es) (suc k) low = marked_entry es k (omega (arith, low))

-- the last of them
pub last_entry : (es : List Entry) (e : Entry) → entry_at (es ++ e ∷ []) (length (es ++ e ∷ []) - 1) ≡ e
last_entry es e = let long = length-append es (e ∷ []) in ap (entry_at (es ++ e ∷ [])) (omega (arith, long)) ∙ at_end es
  where
    at_end : (ds : List Entry) → entry_at (ds ++ e ∷ []) (length ds) ≡ e
    at_end [] = refl
    at_end (d ∷ ds) = at_end ds

-- a row put among all, where one loan of an office has other entries
pub entry_put : (x n : ℕ) (e : Entry) (es : List Entry) (l : Ledger) (new : Rows) (fs : List Office) → Ascending fs
    → item_numbered (rows_of (office_at x fs)).loans n ≡ Some l → new.loans ≡ with_numbered n (with_entries es)
    (rows_of (office_at x fs)).loans → PutsEntry x n e l.entries es
    → put_item by_entry (entry_in x n e) (entry_rows fs) ≡ entry_rows (with_rows x new fs)
entry_put x n e es l new fs up at is puts =
    let cut = λ (s : EntryRow). then_assoc (nat_cmp x s.office) (nat_cmp n s.loan) (nat_cmp e.seq s.seq) in
    put_around by_entry (entry_in x n e) (λ s h. cut s ∙ ap (λ o. ordering_then o (nat_cmp e.seq s.seq)) h)
    (λ s h. cut s ∙ ap (λ o. ordering_then o (nat_cmp e.seq s.seq)) h)
    (rows_around entry_in own_entries (λ x n s. ordering_then (nat_cmp x s.office) (nat_cmp n s.loan))
    (λ x n y m a. refl) x n (with_entries es) l new fs up at is) puts

-- ---- the row of an entry by its number, among the rows of all entries

find_filtered : {A : Type 0} (p q r : A → Bool) → ((x : A) → r x ≡ (p x && q x)) → (xs : List A)
    → find r xs ≡ find q (filter p xs)
find_filtered p q r is [] = refl
find_filtered p q r is (x ∷ xs) = elim (cases_Bool (p x)) [
  | inl e ↦ rw (is x, e) (ap (λ o. cond (q x) (Some x) o) (find_filtered p q r is xs))
  | inr e ↦ rw (is x, e) (find_filtered p q r is xs)
]

three : (a b c : Ordering) → is_eq (ordering_then a (ordering_then b c)) ≡ (is_eq (ordering_then a b) && is_eq c)
three a b c = grind (arith, nat_tests)

pub other_number : (s t : ℕ) → t < s → is_eq (nat_cmp s t) ≡ false
other_number s t h = grind (arith, nat_tests)

pub same_number : (s t : ℕ) → t ≡ s → is_eq (nat_cmp s t) ≡ true
same_number s t h = grind (arith, nat_tests)

abbrev pub has_seq : ℕ → EntryRow → Bool
has_seq s row = is_eq (nat_cmp s row.seq)

-- it is found among the rows of its loan
pub entry_by_number : (x n s : ℕ) (l : Ledger) (i : Institution) → IsSound i → item_numbered (rows_at x i).loans n
    ≡ Some l → find (is_row_of_entry x n s) (tables_of i).entries ≡ find (has_seq s) (map (entry_in x n) l.entries)
entry_by_number x n s l i sound there =
    find_filtered (is_entry_of x n) (has_seq s) (is_row_of_entry x n s)
    (λ y. three (nat_cmp x y.office) (nat_cmp n y.loan)
    (nat_cmp s y.seq)) (tables_of i).entries
    ∙ ap (find (has_seq s)) (entries_shown x n i.offices sound.tree.ascending
    ∙ ap (λ o. map (entry_in x n) (ledger_entries o)) there)

-- a number that is greater than all is free
pub number_free : (x n s : ℕ) (es : List Entry) → AreEarlier s es → find (has_seq s) (map (entry_in x n) es) ≡ None
number_free x n s [] early = refl
number_free x n s (d ∷ es) early = rw (other_number s d.seq early.0) (number_free x n s es early.1)

-- one of those that there are is not
pub number_there : (x n m k s : ℕ) (es : List Entry) → AreNumbered m es → k < length es → s ≡ m + k + 1
    → IsSome (find (has_seq s) (map (entry_in x n) es))
number_there x n m k s [] are low is = absurd (omega (arith, low))
number_there x n m zero s (d ∷ es) are low is =
    let first = are 0 (omega arith) in
    rw (same_number s d.seq (omega (arith, first, is)))
number_there x n m (suc k) s (d ∷ es) are low is =
    let first = are 0 (omega arith) in
    rw (other_number s d.seq (omega (arith, first, is)))
    (number_there x n (m + 1) k s es (later_numbered m d es are) (omega (arith, low)) (omega (arith, is)))
