-- Cutting a stream that comes in pieces.
use Rattle.std.proofs.Common.{◌≡◌, ◌==◌, ℕ, zero, suc, ◌-◌, ◌<◌, ◌≤◌, ◌⊎◌, inl, inr, true, false, cond, List, [], ◌∷◌}
use Rattle.std.proofs.Common.{◌++◌, length, take, slice_index, refl, sym, ap, ◌∙◌, arith, append_assoc, append-nil}
use Rattle.std.proofs.Common.{drop, take-append-drop}
use Rattle.std.proofs.lemmas.Bool.{cases_lt, ne_eqb}
use Rattle.std.proofs.lemmas.List.{take_all, length-take-le}
use Rattle.std.specs.List.{slice_split, onto_first}
use Rattle.mf_wire_lines.specs.Cut.{ended_of, last_of, ended_lines, begun_line, request, without_return}
use Rattle.mf_wire_lines.specs.Reading.{ended_from, begun_from}

pub ended_from-append : (begun xs ys : List ℕ) → ended_from begun (xs ++ ys) ≡ ended_from begun xs
    ++ ended_from (begun_from begun xs) ys
ended_from-append begun [] ys = refl
ended_from-append begun (b ∷ bs) ys =
    elim (b == 10) as (λ t. cond t (request (without_return begun) ++ ended_from [] (bs ++ ys))
    (ended_from (begun ++ b ∷ []) (bs ++ ys))
    ≡ cond t (request (without_return begun) ++ ended_from [] bs) (ended_from (begun ++ b ∷ []) bs)
    ++ ended_from (cond t (begun_from [] bs) (begun_from (begun ++ b ∷ []) bs)) ys) [
      | true ↦ ap (λ l. request (without_return begun) ++ l) (ended_from-append [] bs ys)
          ∙ sym (append_assoc (request (without_return begun)) (ended_from [] bs) (ended_from (begun_from [] bs) ys))
      | false ↦ ended_from-append (begun ++ b ∷ []) bs ys
    ]

pub begun_from-append : (begun xs ys : List ℕ) → begun_from begun (xs ++ ys) ≡ begun_from (begun_from begun xs) ys
begun_from-append begun [] ys = refl
begun_from-append begun (b ∷ bs) ys =
    elim (b == 10) as (λ t. cond t (begun_from [] (bs ++ ys)) (begun_from (begun ++ b ∷ []) (bs ++ ys))
    ≡ begun_from (cond t (begun_from [] bs) (begun_from (begun ++ b ∷ []) bs)) ys) [
      | true ↦ begun_from-append [] bs ys
      | false ↦ begun_from-append (begun ++ b ∷ []) bs ys
    ]

-- the pieces, with the line that had begun before the first
pub after_begun : List ℕ → List (List ℕ) → List (List ℕ)
after_begun begun [] = begun ∷ []
after_begun begun (piece ∷ pieces) = (begun ++ piece) ∷ pieces

pub pieces : List ℕ → List (List ℕ)
pieces bytes = slice_split (λ b. b == 10) bytes

some_piece : (bytes : List ℕ) → (piece : List ℕ) × (rest : List (List ℕ)) × (pieces bytes ≡ piece ∷ rest)
unfolding pieces
some_piece [] = ([], [], refl)
some_piece (b ∷ bs) = let w = some_piece bs in
    elim (b == 10) as (λ t. (piece : List ℕ) × (rest : List (List ℕ))
    × (cond t ([] ∷ pieces bs) (onto_first b (pieces bs)) ≡ piece ∷ rest)) [
      | true ↦ ([], pieces bs, refl)
      | false ↦ (b ∷ w.0, w.1, ap (onto_first b) w.2)
    ]

ended_after : (begun piece : List ℕ) (rest : List (List ℕ)) → ended_of ((begun ++ []) ∷ piece ∷ rest)
    ≡ request (without_return begun) ++ ended_of (piece ∷ rest)
ended_after begun piece rest = ap (λ l. request (without_return l) ++ ended_of (piece ∷ rest)) (append-nil begun)

pub ended_pieces : (begun bytes : List ℕ) → ended_from begun bytes ≡ ended_of (after_begun begun (pieces bytes))
unfolding pieces after_begun
ended_pieces begun [] = refl
ended_pieces begun (b ∷ bs) = let w = some_piece bs in
    elim (b == 10) as (λ t. cond t (request (without_return begun) ++ ended_from [] bs) (ended_from (begun ++ b ∷ [])
    bs) ≡ ended_of (after_begun begun (cond t ([] ∷ pieces bs) (onto_first b (pieces bs))))) [
      | true ↦ rw (ended_pieces [] bs, w.2) (sym (ended_after begun w.0 w.1))
      | false ↦ rw (ended_pieces (begun ++ b ∷ []) bs, w.2) (ap (λ l. ended_of (l ∷ w.1))
          (append_assoc begun (b ∷ []) w.0))
    ]

pub begun_pieces : (begun bytes : List ℕ) → begun_from begun bytes ≡ last_of (after_begun begun (pieces bytes))
unfolding pieces after_begun
begun_pieces begun [] = sym (append-nil begun)
begun_pieces begun (b ∷ bs) = let w = some_piece bs in
    elim (b == 10) as (λ t. cond t (begun_from [] bs) (begun_from (begun ++ b ∷ []) bs)
    ≡ last_of (after_begun begun (cond t ([] ∷ pieces bs) (onto_first b (pieces bs))))) [
      | true ↦ rw (begun_pieces [] bs, w.2) refl
      | false ↦ rw (begun_pieces (begun ++ b ∷ []) bs, w.2) (ap (λ l. last_of (l ∷ w.1))
          (append_assoc begun (b ∷ []) w.0))
    ]

none_begun : (bytes : List ℕ) → after_begun [] (pieces bytes) ≡ pieces bytes
unfolding after_begun
none_begun bytes = let w = some_piece bytes in rw w.2 refl

pub ended_lines_read : (bytes : List ℕ) → ended_lines bytes ≡ ended_from [] bytes
unfolding ended_lines pieces
ended_lines_read bytes = sym (ended_pieces [] bytes ∙ ap ended_of (none_begun bytes))

pub begun_line_read : (bytes : List ℕ) → begun_line bytes ≡ begun_from [] bytes
unfolding begun_line pieces
begun_line_read bytes = sym (begun_pieces [] bytes ∙ ap last_of (none_begun bytes))

pub ended_lines-append : (xs ys : List ℕ) → ended_lines (xs ++ ys) ≡ ended_lines xs ++ ended_from (begun_line xs) ys
ended_lines-append xs ys = rw (ended_lines_read (xs ++ ys), ended_lines_read xs, begun_line_read xs)
    (ended_from-append [] xs ys)

pub begun_line-append : (xs ys : List ℕ) → begun_line (xs ++ ys) ≡ begun_from (begun_line xs) ys
begun_line-append xs ys = rw (begun_line_read (xs ++ ys), begun_line_read xs) (begun_from-append [] xs ys)

-- the buffer of a line keeps what it can hold
pub take_push : (n : ℕ) (line : List ℕ) (b : ℕ) → take n (take n line ++ b ∷ []) ≡ take n (line ++ b ∷ [])
take_push zero line b = refl
take_push (suc n) [] b = refl
take_push (suc n) (x ∷ xs) b = ap (λ l. x ∷ l) (take_push n xs b)

-- two lines that are one or that are both too long
abbrev pub Alike : List ℕ → List ℕ → Type 0
Alike line other = (line ≡ other) ⊎ ((65536 < length line) × (65536 < length other))

long_without_return : (line : List ℕ) → 65538 ≤ length line → 65536 < length (without_return line)
long_without_return line h =
    let less : length line - 1 ≤ length line = omega arith in
    let one : length (take (length line - 1) line) ≡ length line - 1 = length-take-le (length line - 1) line less in
    let last_is_return = slice_index line (length line - 1) == 13 in
    elim last_is_return as (λ t. 65536 < length (cond t (take (length line - 1) line) line)) [
      | true ↦ omega (arith, one)
      | false ↦ omega arith
    ]

pub held_alike : (line : List ℕ) → Alike (take 65538 line) line
held_alike line = elim (cases_lt 65538 (length line)) [
  | inl h ↦ let le : 65538 ≤ length line = omega arith in
      inr (omega (arith, length-take-le 65538 line le), omega arith)
  | inr h ↦ inl (take_all 65538 line h)
]

pub ended_alike : (line : List ℕ) → Alike (without_return (take 65538 line)) (without_return line)
ended_alike line = elim (cases_lt 65538 (length line)) [
  | inl h ↦ let le : 65538 ≤ length line = omega arith in
      let held : 65538 ≤ length (take 65538 line) = omega (arith, length-take-le 65538 line le) in
      inr (long_without_return (take 65538 line) held, long_without_return line le)
  | inr h ↦ inl (ap without_return (take_all 65538 line h))
]

pub ended_at_end : (begun xs : List ℕ) (b : ℕ) → b ≡ 10 → ended_from begun (xs ++ b ∷ []) ≡ ended_from begun xs
    ++ request (without_return (begun_from begun xs))
ended_at_end begun xs b e = ended_from-append begun xs (b ∷ []) ∙ ap (λ l. ended_from begun xs ++ l)
    (ap (λ k. ended_from (begun_from begun xs) (k ∷ [])) e ∙ append-nil _)

pub begun_at_end : (begun xs : List ℕ) (b : ℕ) → b ≡ 10 → begun_from begun (xs ++ b ∷ []) ≡ []
begun_at_end begun xs b e = begun_from-append begun xs (b ∷ []) ∙ ap (λ k. begun_from (begun_from begun xs) (k ∷ [])) e

pub ended_within : (begun xs : List ℕ) (b : ℕ) → (b ≡ 10 → ⊥) → ended_from begun (xs ++ b ∷ []) ≡ ended_from begun xs
ended_within begun xs b h = ended_from-append begun xs (b ∷ []) ∙ ap (λ l. ended_from begun xs ++ l)
    (ap (λ t. cond t (request (without_return (begun_from begun xs)) ++ []) []) (ne_eqb b 10 h))
    ∙ append-nil (ended_from begun xs)

pub begun_within : (begun xs : List ℕ) (b : ℕ) → (b ≡ 10 → ⊥) → begun_from begun (xs ++ b ∷ []) ≡ begun_from begun xs
    ++ b ∷ []
begun_within begun xs b h = begun_from-append begun xs (b ∷ []) ∙ ap (λ t. cond t [] (begun_from begun xs ++ b ∷ []))
    (ne_eqb b 10 h)

-- the lines of a whole, from those of a front
pub ended_rest : (begun xs : List ℕ) (i : ℕ) → (rest : List (List ℕ))
    × (ended_from begun xs ≡ ended_from begun (take i xs) ++ rest)
ended_rest begun xs i = (
  _,
  ap (ended_from begun) (sym (take-append-drop i xs)) ∙ ended_from-append begun (take i xs)
      (drop i xs),
)
