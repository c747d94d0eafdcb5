-- From a whole stream to its request lines.
use Rattle.std.specs.Prelude.{◌==◌, ℕ, ◌-◌, List, [], ◌∷◌, ◌++◌, cond, length, take, slice_index}
use Rattle.std.specs.List.{slice_split}

-- the longest request line, in bytes, without its ending
abbrev pub longest_line : ℕ
longest_line = 65536

-- a carriage return at the end of a line goes
abbrev pub without_return : List ℕ → List ℕ
without_return line = cond (slice_index line (length line - 1) == 13) (take (length line - 1) line) line

-- an empty line is no request
abbrev pub request : List ℕ → List (List ℕ)
request [] = []
request (b ∷ bs) = (b ∷ bs) ∷ []

-- of the pieces between line feeds, those that a line feed ended
abbrev pub ended_of : List (List ℕ) → List (List ℕ)
ended_of [] = []
ended_of (last ∷ []) = []
ended_of (piece ∷ next ∷ pieces) = request (without_return piece) ++ ended_of (next ∷ pieces)

-- the piece after the last line feed
abbrev pub last_of : List (List ℕ) → List ℕ
last_of [] = []
last_of (last ∷ []) = last
last_of (piece ∷ next ∷ pieces) = last_of (next ∷ pieces)

-- the request lines that a line feed has ended
unfoldable pub ended_lines : List ℕ → List (List ℕ)
ended_lines bytes = ended_of (slice_split (λ b. b == 10) bytes)

-- the line that has begun and not ended
unfoldable pub begun_line : List ℕ → List ℕ
begun_line bytes = last_of (slice_split (λ b. b == 10) bytes)

-- the request lines of a whole stream: its end ends the last line
abbrev pub request_lines : List ℕ → List (List ℕ)
request_lines bytes = ended_lines bytes ++ request (begun_line bytes)
