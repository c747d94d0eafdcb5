-- The three digits of a status.
use Rattle.std.proofs.Common.{◌≡◌, ℕ, ◌+◌, ◌/◌, ◌%◌, ◌<◌, ◌≤◌, [], ◌∷◌, ◌++◌, decimal, ap, ◌∙◌, arith}
use Rattle.std.proofs.lemmas.Fmt.{decimal_step, decimal_digit}

pub three_digits : (n : ℕ) → 100 ≤ n → n < 1000 → decimal n ≡ (48 + n / 100) ∷ (48 + n / 10 % 10) ∷ (48 + n % 10) ∷ []
three_digits n low high =
    let hundreds : n / 10 / 10 ≡ n / 100 = omega arith in
    let first : decimal (n / 10 / 10) ≡ (48 + n / 10 / 10) ∷ [] = decimal_digit (n / 10 / 10) (omega arith) in
    let second : decimal (n / 10) ≡ decimal (n / 10 / 10) ++ ((48 + n / 10 % 10) ∷ []) =
    decimal_step (n / 10) (omega arith) (omega arith) in
    decimal_step n (omega arith) (omega arith)
    ∙ ap (λ l. l ++ ((48 + n % 10) ∷ [])) (second ∙ ap (λ l. l ++ ((48 + n / 10 % 10) ∷ []))
    (first ∙ ap (λ k. (48 + k) ∷ []) hundreds))
