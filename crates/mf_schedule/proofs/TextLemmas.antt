-- The lines of a schedule, one after the other.
use Rattle.std.proofs.Common.{◌≡◌, ℕ, ◌+◌, ◌<◌, List, [], ◌∷◌, ◌++◌, length, get_or, take, ◌∙◌, ap, sym, arith}
use Rattle.std.specs.List.{enumerate_from, flat_map}
use Rattle.std.proofs.lemmas.List.{append-nil, length-take-le, take_more}
use Rattle.std.proofs.lemmas.List.Concat.{flat_map-append}
use Rattle.mf_schedule.specs.declared.instalment.FreshInstalment.{FreshInstalment}
use Rattle.mf_schedule.specs.ScheduleText.{row_line, row_lines}

-- one more numbered row
enumerate_from-push : (n : ℕ) (rows : List FreshInstalment) (row : FreshInstalment) (number : ℕ) → n + length rows
    ≡ number
    → enumerate_from n (rows ++ row ∷ []) ≡ enumerate_from n rows ++ (number, row) ∷ []
enumerate_from-push n [] row number e = ap (λ (x : ℕ). (x, row) ∷ []) (omega (arith, e))
enumerate_from-push n (first ∷ rows) row number e =
    ap (λ (x : List (ℕ × FreshInstalment)). (n, first) ∷ x)
    (enumerate_from-push (n + 1) rows row number (omega (arith, e)))

-- one more line
pub row_lines-more : (rows : List FreshInstalment) (k : ℕ) (row : FreshInstalment) → k < length rows
    → row ≡ get_or rows k row
    → row_lines (take (k + 1) rows) ≡ row_lines (take k rows) ++ row_line (k + 1) row
row_lines-more rows k row within is =
    let longer : take (k + 1) rows ≡ take k rows ++ row ∷ [] =
    take_more rows k row within ∙ ap (λ (x : FreshInstalment). take k rows ++ x ∷ []) (sym is) in
    let place : 1 + length (take k rows) ≡ k + 1 = omega (arith, length-take-le k rows (omega arith)) in
    ap row_lines longer
    ∙ ap (flat_map (λ (numbered : ℕ × FreshInstalment). row_line numbered.0 numbered.1))
    (enumerate_from-push 1 (take k rows) row (k + 1) place)
    ∙ flat_map-append (λ (numbered : ℕ × FreshInstalment). row_line numbered.0 numbered.1)
    (enumerate_from 1 (take k rows))
    ((k + 1, row) ∷ [])
    ∙ ap (λ (x : List ℕ). row_lines (take k rows) ++ x) (append-nil (row_line (k + 1) row))
