-- The lines of a stream that is read piece by piece.
use Rattle.std.specs.Prelude.{◌==◌, ℕ, List, [], ◌∷◌, ◌++◌, cond}
use Rattle.mf_wire_lines.specs.Cut.{without_return, request}

-- the request lines that end in a piece, where a line has begun with what was read before
abbrev pub ended_from : List ℕ → List ℕ → List (List ℕ)
ended_from begun [] = []
ended_from begun (b ∷ bs) = cond (b == 10) (request (without_return begun) ++ ended_from [] bs)
    (ended_from (begun ++ b ∷ []) bs)

-- the line that has begun after the piece
abbrev pub begun_from : List ℕ → List ℕ → List ℕ
begun_from begun [] = begun
begun_from begun (b ∷ bs) = cond (b == 10) (begun_from [] bs) (begun_from (begun ++ b ∷ []) bs)
