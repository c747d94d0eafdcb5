-- An office's line as it grows, an instalment at a time, and what it comes to.
use Rattle.std.proofs.Common.{◌≡◌, ◌<◌, ◌+◌, ℕ, List, [], ◌∷◌, ◌++◌, map, take, length, length-append}
use Rattle.std.proofs.Common.{refl, sym, ap, ◌∙◌, subst, arith}
use Rattle.std.specs.List.{AllByRecursion, flat_map}
use Rattle.std.proofs.lemmas.Bool.{eq-eqb, ne_eqb}
use Rattle.std.proofs.lemmas.List.{append-nil, append_assoc, length-map, get_or_at, take_all, take_at, take-map}
use Rattle.std.proofs.lemmas.List.Elements.{All-from_recursion, recursion_from_All, All-take}
use Rattle.sqlite_keyed.proofs.ListLemmas.{map-flat_map, map-map, all-flat_map, all_map, all_weaker}
use Rattle.sqlite.specs.Order.{Row}
use Rattle.mf_alloc.specs.Sums.{Instalment, IsWhole}
use Rattle.mf_arrears.specs.Line.{AgedLoan, OfficeLine, line_of_loans}
use Rattle.mf_arrears.specs.Folding.{LoanSoFar, aged_by, nothing_of, Progress, step, IsSoFar}
use Rattle.mf_arrears.proofs.FoldLemmas.{aged_same}
use Rattle.mf_store_schema.specs.Rows.{instalment_row}
use Rattle.mf_store_values.specs.Flat.{instalment_in}
use Rattle.mf_store_values.specs.Arrears.{NumberedLoan, AreAbove, AreWholeLoans, rows_of_office}
use Rattle.mf_store_values.specs.Arrears.{aged_rows, aged_loans, IsLineOf}
use Rattle.mf_store_values.specs.Folding.{IsReadAs}
use Rattle.mf_store_values.proofs.ReadLemmas.{row_at}

-- ---- all instalments of an office, in turn

-- an instalment with its number, and that of its loan
abbrev pub Item : Type 0
Item = ℕ × (ℕ × Instalment)

abbrev pub run : ℕ → Progress → List Item → Progress
run today p [] = p
run today p (x ∷ xs) = run today (step today p (x.0, x.1.1)) xs

abbrev pub start : Progress
start = record { counted = []; loan = 0; rows = [] }

-- the row of an instalment: office
abbrev pub item_row : ℕ → Item → Row
item_row office x = instalment_row (instalment_in office x.0 x.1)

run_append : (today : ℕ) (p : Progress) (xs ys : List Item) → run today p (xs ++ ys) ≡ run today (run today p xs) ys
run_append today p [] ys = refl
run_append today p (x ∷ xs) ys = run_append today (step today p (x.0, x.1.1)) xs ys

-- the loans that are counted once the last is ended
abbrev done : ℕ → Progress → List AgedLoan
done today p = p.counted ++ aged_rows today p.rows

abbrev pub own : ℕ → List (ℕ × Instalment) → List Item
own n xs = map (λ x. (n, x)) xs

abbrev pub placed : List NumberedLoan → List Item
placed ls = flat_map (λ l. own l.0 l.1) ls

abbrev pub sums_in : List (ℕ × Instalment) → List Instalment
sums_in xs = map (λ item. item.1) xs

-- the loan that an instalment more begins, which ends the one before
abbrev pub next_loan : ℕ → Progress → ℕ → Instalment → Progress
next_loan today p n row = record { counted = p.counted ++ aged_rows today p.rows; loan = n; rows = row ∷ [] }

pub lower : (m n : ℕ) (ls : List NumberedLoan) → m < n → AreAbove n ls → AreAbove m ls
lower m n [] low up = tt
lower m n (l ∷ ls) low up = (omega (arith, low, up.0), up.1)

-- the rest of the loan that is read, and then loan by loan
run_loans : (today : ℕ) (p : Progress) (xs : List (ℕ × Instalment)) (ls : List NumberedLoan) → AreAbove p.loan ls
    → done today (run today p (own p.loan xs ++ placed ls))
    ≡ p.counted ++ (aged_rows today (p.rows ++ sums_in xs) ++ aged_loans today ls)
run_loans today p [] [] up = simp append-nil
run_loans today p (x ∷ xs) ls up =
    let more : Progress = record p { rows = p.rows ++ x.1 ∷ [] } in
    let next : step today p (p.loan, x.1) ≡ more = rw (eq-eqb p.loan p.loan refl) in
    ap (λ q. done today (run today q (own p.loan xs ++ placed ls))) next ∙ run_loans today more xs ls up
    ∙ ap (λ rows. p.counted ++ (aged_rows today rows ++ aged_loans today ls)) (append_assoc p.rows (x.1 ∷ [])
    (sums_in xs))
run_loans today p [] ((n, []) ∷ ls) up = run_loans today p [] ls (lower p.loan n ls up.0 up.1)
run_loans today p [] ((n, x ∷ xs) ∷ ls) up =
    let next : step today p (n, x.1) ≡ next_loan today p n x.1 =
    rw (ne_eqb n p.loan (λ same. omega (arith, up.0, same))) in
    ap (λ q. done today (run today q (own n xs ++ placed ls))) next
    ∙ run_loans today (next_loan today p n x.1) xs ls up.1
    ∙ append_assoc p.counted (aged_rows today p.rows) (aged_rows today (x.1 ∷ sums_in xs) ++ aged_loans today ls)
    ∙ ap (λ rows. p.counted ++ (aged_rows today rows ++ (aged_rows today (x.1 ∷ sums_in xs) ++ aged_loans today ls)))
    (sym (append-nil p.rows))

pub placed_rows : (office : ℕ) (ls : List NumberedLoan) → map (item_row office) (placed ls) ≡ map instalment_row
    (rows_of_office office ls)
placed_rows office ls = simp (map-flat_map, map-map)

abbrev pub AreWholeItems : List Item → Type 0
AreWholeItems xs = AllByRecursion (λ x. IsWhole x.1.1) xs

pub placed_whole : (ls : List NumberedLoan) → AreWholeLoans ls → AreWholeItems (placed ls)
placed_whole ls all = all-flat_map (λ (x : Item). IsWhole x.1.1) (λ l. own l.0 l.1) ls
    (all_weaker (λ (l : NumberedLoan). AllByRecursion (λ item. IsWhole item.1) l.1) _ (λ l whole.
    all_map (λ (x : Item). IsWhole x.1.1) (λ x. (l.0, x)) l.1 whole) ls all)

-- ---- the rows that were taken

-- what was taken makes of a new line this line, and of a loan what is read of it
pub record Tells (today : ℕ) (taken : List Row) (empty : OfficeLine) (read : LoanSoFar) (line : OfficeLine) : Type 0
  where
    pub all : (office : ℕ) (items : List Item) → AreWholeItems items → taken ≡ map (item_row office) items
        → empty ≡ line_of_loans office [] → IsSoFar office (run today start items) read line

-- nothing is taken yet
pub tells_none : (today : ℕ) (line : OfficeLine) (read : LoanSoFar) → read ≡ nothing_of 0
    → Tells today [] line read line
tells_none today line read is = record { all = λ office items whole are new. none office items are new }
  where
    none : (office : ℕ) (items : List Item) → [] ≡ map (item_row office) items → line ≡ line_of_loans office []
        → IsSoFar office (run today start items) read line
    none office [] are new = rw is (record { loan = refl; principal = refl; due = refl; line_is = new })
    none office items are new = absurd (cc)

-- rows of instalments, of which some are taken
pub told : (today office : ℕ) (taken rest : List Row) (all : List Item) (empty : OfficeLine) (read : LoanSoFar)
    (line : OfficeLine)
    → AreWholeItems all → taken ++ rest ≡ map (item_row office) all → Tells today taken empty read line
    → empty ≡ line_of_loans office [] → IsSoFar office (run today start (take (length taken) all)) read line
told today office taken rest all empty read line whole are tells is_new =
    tells.all office (take (length taken) all) (recursion_from_All _ (take (length taken) all)
    (All-take (λ (x : Item). IsWhole x.1.1) (length taken) all (All-from_recursion _ all whole)))
    (sym (take_at taken rest (length taken) refl) ∙ ap (take (length taken)) are
    ∙ take-map (item_row office) (length taken) all) is_new

-- one row more
pub run_more : (today office : ℕ) (taken rest : List Row) (row : Row) (found : ℕ × Instalment) (all : List Item)
    → AreWholeItems all → taken ++ (row ∷ rest) ≡ map (item_row office) all → IsReadAs row found
    → run today start (take (length taken + 1) all) ≡ step today (run today start (take (length taken) all)) found
run_more today office taken rest row found all whole are reads =
    let at = row_at (λ (x : Item). IsWhole x.1.1) (item_row office) all (taken ++ (row ∷ rest)) (length taken) row are
    whole (let both = length-append taken (row ∷ rest) in omega (arith, both))
    (sym (get_or_at taken row rest row (length taken) refl)) in
    ap (run today start) at.more ∙ run_append today start (take (length taken) all) (at.value ∷ [])
    ∙ ap (step today (run today start (take (length taken) all))) (sym (reads office at.value.0 at.value.1.0
    at.value.1.1 at.holds at.row_is))

pub tells_more : (today : ℕ) (taken : List Row) (row : Row) (found : ℕ × Instalment) (empty : OfficeLine)
    (old new : LoanSoFar)
    (line after : OfficeLine) → IsReadAs row found
    → ((office : ℕ) (p : Progress) → IsSoFar office p old line → IsSoFar office (step today p found) new after)
    → Tells today taken empty old line → Tells today (taken ++ row ∷ []) empty new after
tells_more today taken row found empty old new line after reads takes tells = record {
  all = λ office items whole are is_new.
      let many = sym (length-append taken (row ∷ [])) ∙ ap length are ∙ length-map items (item_row office) in
      let before = told today office taken (row ∷ []) items empty old line whole are tells is_new in
      subst (λ l. IsSoFar office (run today start l) new after)
      (take_all (length taken + 1) items (omega (arith, many)))
      (rw (run_more today office taken [] row found items whole are reads) (takes office _ before));
}

-- the last loan is counted
pub tells_line : (today : ℕ) (taken : List Row) (empty : OfficeLine) (read : LoanSoFar) (line after : OfficeLine)
    → ((x : ℕ) (loans : List AgedLoan) → line ≡ line_of_loans x loans
    → after ≡ line_of_loans x (loans ++ aged_by today read.principal read.due))
    → Tells today taken empty read line → IsLineOf today taken empty after
tells_line today taken empty read line after added tells office loans up whole are is_new =
    let at = tells.all office (placed loans) (placed_whole loans whole) (are ∙ sym (placed_rows office loans)) is_new in
    let p = run today start (placed loans) in
    let closed : aged_by today read.principal read.due ≡ aged_rows today p.rows =
    (λ t. aged_by today (at.principal t) (at.due t)) ∙ aged_same today p.rows in
    added office p.counted at.line_is ∙ ap (λ l. line_of_loans office (p.counted ++ l)) closed ∙ ap
    (line_of_loans office)
    (run_loans today start [] loans up)
