-- An office's line as it grows, an instalment at a time.
use Rattle.std.proofs.Common.{◌≡◌, ◌≢◌, ◌+◌, ◌==◌, ℕ, Bool, true, false, cond, ◌||◌, List, [], ◌∷◌, ◌++◌, map, filter}
use Rattle.std.proofs.Common.{fold, Option, None, Some, refl, sym, ap, ◌∙◌, arith, pos}
use Rattle.std.specs.List.{list_any}
use Rattle.std.specs.Option.{is_some}
use Rattle.std.proofs.lemmas.Bool.Decides.{nat_tests}
use Rattle.std.proofs.lemmas.List.{map-append, append-nil}
use Rattle.std.proofs.lemmas.List.Elements.{filter-append}
use Rattle.std.proofs.lemmas.List.Sums.{fold-append, sum_by_push}
use Rattle.mf_alloc.specs.Sums.{Instalment, open_at, is_open}
use Rattle.mf_arrears.specs.Ageing.{earlier, earliest_due, days_since}
use Rattle.mf_arrears.specs.Line.{AgedLoan, OfficeLine, line_of_loans}
use Rattle.mf_arrears.specs.Folding.{LoanSoFar, open_principal, aged_rows, aged_by, nothing_of, with_row, Progress}
use Rattle.mf_arrears.specs.Folding.{step, IsSoFar}

-- ---- one loan

abbrev due_of : Instalment → ℕ
due_of row = row.due

-- the earliest due day with one instalment more
due_more : (rows : List Instalment) (row : Instalment) → earliest_due (rows ++ row ∷ []) ≡ cond (is_open row)
    (earlier (earliest_due rows) row.due) (earliest_due rows)
due_more rows row = ap (λ l. fold earlier None (map due_of l)) (filter-append is_open rows (row ∷ []))
    ∙ go (is_open row)
  where
    go : (b : Bool) → fold earlier None (map due_of (filter is_open rows ++ cond b (row ∷ []) []))
        ≡ cond b (earlier (earliest_due rows) row.due) (earliest_due rows)
    go true = ap (fold earlier None) (map-append due_of (filter is_open rows) (row ∷ []))
        ∙ fold-append earlier None (map due_of (filter is_open rows)) (row.due ∷ [])
    go false = ap (λ l. fold earlier None (map due_of l)) (append-nil (filter is_open rows))

-- there is a due day where something is outstanding
some_due : (o : Option ℕ) (rows : List Instalment) → is_some (fold earlier o (map due_of (filter is_open rows)))
    ≡ (is_some o || list_any is_open rows)
some_due None [] = refl
some_due (Some d) [] = refl
some_due o (row ∷ rows) = go (is_open row) (some_due (earlier o row.due) rows ∙ now_some o row.due) (some_due o rows)
  where
    now_some : (o : Option ℕ) (d : ℕ) → (is_some (earlier o d) || list_any is_open rows) ≡ (is_some o || true)
    now_some None d = refl
    now_some (Some e) d = refl

    go : (b : Bool) → is_some (fold earlier (earlier o row.due) (map due_of (filter is_open rows)))
        ≡ (is_some o || true) → is_some (fold earlier o (map due_of (filter is_open rows)))
        ≡ (is_some o || list_any is_open rows)
        → is_some (fold earlier o (map due_of (cond b (row ∷ filter is_open rows) (filter is_open rows))))
        ≡ (is_some o || (b || list_any is_open rows))
    go true counted left = counted
    go false counted left = left

-- a loan is told by its earliest due day
pub aged_same : (today : ℕ) (rows : List Instalment) → aged_by today (open_principal rows) (earliest_due rows)
    ≡ aged_rows today rows
aged_same today rows = split (earliest_due rows) (some_due None rows)
  where
    aged_on : Option ℕ → List AgedLoan
    aged_on o = record { principal = open_principal rows; days = pos (days_since today o) } ∷ []

    split : (o : Option ℕ) → is_some o ≡ list_any is_open rows → aged_by today (open_principal rows) o
        ≡ cond (list_any is_open rows) (aged_on o) []
    split None e = ap (λ b. cond b (aged_on None) []) e
    split (Some d) e = ap (λ b. cond b (aged_on (Some d)) []) e

-- ---- an instalment more

row_more : (office : ℕ) (p : Progress) (old new : LoanSoFar) (line : OfficeLine) (row : Instalment)
    → IsSoFar office p old line
    → new ≡ with_row old row → IsSoFar office (record p { rows = p.rows ++ row ∷ [] }) new line
row_more office p old new line row at is = record {
  loan = ap (λ (r : LoanSoFar). r.loan) is ∙ at.loan;
  principal = ap (λ (r : LoanSoFar). r.principal) is ∙ ap (λ n. n + open_at row 3) at.principal
      ∙ sym (sum_by_push (λ (r : Instalment). open_at r 3) p.rows row);
  due = ap (λ (r : LoanSoFar). r.due) is ∙ ap (λ o. cond (is_open row) (earlier o row.due) o) at.due
      ∙ sym (due_more p.rows row);
  line_is = at.line_is;
}

-- of the loan that is read
pub same_loan : (office today : ℕ) (p : Progress) (old new : LoanSoFar) (line : OfficeLine) (loan : ℕ)
    (row : Instalment) → loan
    ≡ old.loan → new ≡ with_row old row → IsSoFar office p old line → IsSoFar office (step today p (loan, row)) new line
same_loan office today p old new line loan row same is at =
    let own : loan ≡ p.loan = same ∙ at.loan in
    let yes : (loan == p.loan) ≡ true = grind (arith, nat_tests) in
    rw yes (row_more office p old new line row at is)

-- the first of another
pub next_loan : (office today : ℕ) (p : Progress) (old fresh new : LoanSoFar) (line after : OfficeLine) (loan : ℕ)
    (row : Instalment) → loan ≢ old.loan → fresh ≡ nothing_of loan
    → new ≡ with_row fresh row
    → ((x : ℕ) (loans : List AgedLoan) → line ≡ line_of_loans x loans
    → after ≡ line_of_loans x (loans ++ aged_by today old.principal
    old.due)) → IsSoFar office p old line → IsSoFar office (step today p (loan, row)) new after
next_loan office today p old fresh new line after loan row apart begun is added at =
    let other : loan ≢ p.loan = λ e. apart (e ∙ sym at.loan) in
    let no : (loan == p.loan) ≡ false = grind (arith, nat_tests) in
    let closed : aged_by today old.principal old.due ≡ aged_rows today p.rows =
    (λ t. aged_by today (at.principal t) (at.due t)) ∙ aged_same today p.rows in
    let start : IsSoFar office (record { counted = p.counted ++ aged_rows today p.rows; loan = loan; rows = [] }) fresh
    after = record {
      loan = ap (λ (r : LoanSoFar). r.loan) begun;
      principal = ap (λ (r : LoanSoFar). r.principal) begun;
      due = ap (λ (r : LoanSoFar). r.due) begun;
      line_is = added office p.counted at.line_is ∙ ap (λ l. line_of_loans office (p.counted ++ l)) closed;
    } in
    rw no (row_more office (record { counted = p.counted ++ aged_rows today p.rows; loan = loan; rows = [] }) fresh new
    after row start is)
