-- Which head a stream of bytes begins with.
use Rattle.std.specs.Prelude.{ℕ, ◌≤◌, List, length}
use Rattle.httparse.specs.Grammar.{RequestHead, print_request, ReadsRequest}

-- The bytes are that head and then the rest. It has at most 16,384 bytes, empty lines before it included, and 64
-- fields.
pub record ReadsHead (bytes : List ℕ) (head : RequestHead) (rest : List ℕ) : Type 0 where
  pub reads : ReadsRequest bytes head rest
  pub short : length (print_request head) ≤ 16384
  pub few : length head.fields ≤ 64

-- the bytes begin with no such head
abbrev pub HasNoHead : List ℕ → Type 0
HasNoHead bytes = (head : RequestHead) (rest : List ℕ) → ¬ (ReadsHead bytes head rest)
