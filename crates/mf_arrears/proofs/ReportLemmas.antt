-- Lines so far, and all of them.
use Rattle.std.proofs.Common.{◌≡◌, ℕ, ◌+◌, ◌<◌, ◌≤◌, List, [], ◌∷◌, ◌++◌, length, get_or, take, arith, ◌∙◌, ap, sym}
use Rattle.std.specs.Prelude.{sum_by}
use Rattle.std.proofs.lemmas.List.{take_more}
use Rattle.std.proofs.lemmas.List.Sums.{sum_by-append, sum_by-take-le}
use Rattle.mf_arrears.specs.Line.{OfficeLine}

-- the loans so far and the next line's are at most all loans
pub loans-next : (lines : List OfficeLine) (i so_far : ℕ) (line : OfficeLine)
    → so_far ≡ sum_by (λ (l : OfficeLine). l.loans)
    (take i lines) → i < length lines → line ≡ get_or lines i line → so_far + line.loans
    ≤ sum_by (λ (l : OfficeLine). l.loans) lines
loans-next lines i so_far line are within is =
    let loans : OfficeLine → ℕ = λ l. l.loans in
    let next : sum_by loans (take (i + 1) lines) ≡ sum_by loans (take i lines) + sum_by loans (line ∷ []) =
    ap (sum_by loans) (take_more lines i line within ∙ ap (λ (x : OfficeLine). take i lines ++ x ∷ []) (sym is))
    ∙ sum_by-append loans (take i lines) (line ∷ []) in
    let most = sum_by-take-le loans lines (i + 1) in
    omega (arith, are, next, most)
