-- Rows that are made in turn: those that are made and those still to be made are the whole.
use Rattle.std.proofs.Common.{◌≡◌, ◌<◌, ◌+◌, ◌∙◌, ℕ, List, [], ◌∷◌, ◌++◌, drop, length, get_or, sym}
use Rattle.std.proofs.Common.{append_assoc, add-one, drop-cons}

pub at_row : {R : Type 0} (rows : List R) (i : ℕ) (r : R) → i < length rows → r ≡ get_or rows i r → drop i rows ≡ r
    ∷ drop (i + 1) rows
at_row rows i r h is = drop-cons rows i r h ∙ (λ t. sym is t ∷ drop (sym (add-one i) t) rows)

pub one_made : {R : Type 0} (whole had has rest : List R) (x : R) → whole ≡ had ++ x ∷ rest → has ≡ had ++ x ∷ []
    → whole ≡ has ++ rest
one_made whole had has rest x so_far made = so_far ∙ sym (append_assoc had (x ∷ []) rest) ∙ (λ t. sym made t ++ rest)

pub some_made : {R : Type 0} (whole had has some rest : List R) → whole ≡ had ++ (some ++ rest) → has ≡ had ++ some
    → whole ≡ has ++ rest
some_made whole had has some rest so_far made = so_far ∙ sym (append_assoc had some rest) ∙ (λ t. sym made t ++ rest)
