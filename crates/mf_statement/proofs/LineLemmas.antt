-- Lines of instalments, one more at a time.
use Rattle.std.proofs.Common.{◌≡◌, ℕ, ◌+◌, ◌<◌, List, [], ◌∷◌, ◌++◌, length, get_or, take, arith, ◌∙◌, ap, sym}
use Rattle.std.proofs.lemmas.List.{take_more, length-take-le}
use Rattle.mf_alloc.specs.Sums.{Instalment}
use Rattle.mf_statement.specs.declared.lines.InstalmentLine.{InstalmentLine}
use Rattle.mf_statement.specs.Lines.{instalment_line, instalments_from}

from-snoc : (n : ℕ) (rows : List Instalment) (row : Instalment) → instalments_from n (rows ++ row ∷ [])
    ≡ instalments_from n rows
    ++ instalment_line (n + length rows) row ∷ []
from-snoc n [] row = ap (λ (x : ℕ). instalment_line x row ∷ []) (omega arith)
from-snoc n (first ∷ rows) row =
    let place : n + 1 + length rows ≡ n + length (first ∷ rows) = omega arith in
    ap (λ (x : List InstalmentLine). instalment_line n first ∷ x) (from-snoc (n + 1) rows row)
    ∙ ap (λ (x : ℕ). instalment_line n first ∷ (instalments_from (n + 1) rows ++ instalment_line x row ∷ [])) place

from-more : (rows : List Instalment) (i number : ℕ) (row : Instalment) → i < length rows → row ≡ get_or rows i row
    → number ≡ i + 1
    → instalments_from 1 (take (i + 1) rows) ≡ instalments_from 1 (take i rows) ++ instalment_line number row ∷ []
from-more rows i number row within is at =
    let size : 1 + length (take i rows) ≡ number = let taken =
    length-take-le i rows (omega arith) in omega (arith, taken, at) in
    ap (instalments_from 1) (take_more rows i row within)
    ∙ ap (λ (x : Instalment). instalments_from 1 (take i rows ++ x ∷ [])) (sym is)
    ∙ from-snoc 1 (take i rows) row
    ∙ ap (λ (x : ℕ). instalments_from 1 (take i rows) ++ instalment_line x row ∷ []) size

-- one row more
pub lines-more : (rows : List Instalment) (i number : ℕ) (row : Instalment) (line : InstalmentLine)
    (so_far all : List InstalmentLine) → i < length rows → row ≡ get_or rows i row → number ≡ i + 1
    → line ≡ instalment_line number row → so_far ≡ instalments_from 1 (take i rows) → all ≡ so_far ++ line ∷ []
    → all ≡ instalments_from 1 (take (i + 1) rows)
lines-more rows i number row line so_far all within is at line_is before added =
    added
    ∙ ap (λ (x : List InstalmentLine). x ++ line ∷ []) before
    ∙ ap (λ (x : InstalmentLine). instalments_from 1 (take i rows) ++ x ∷ []) line_is
    ∙ sym (from-more rows i number row within is at)
