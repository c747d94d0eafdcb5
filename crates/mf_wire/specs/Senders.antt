-- Whose line it is by its bytes, and which of the texts that are written are told to whom.
use Rattle.std.specs.Prelude.{◌≡◌, ◌≢◌, ℕ, Bool, false, cond, List, [], ◌∷◌, ◌++◌, Option, Some, None, option_map}
use Rattle.std.specs.Prelude.{option_and_then}
use Rattle.std.specs.List.{AllByRecursion}
use Rattle.std.specs.Str.{bytes_eq}
use Rattle.mf_base.specs.declared.fault.Fault.TheVariants.{F20}
use Rattle.mf_office.specs.Texts.{caller_of}
use Rattle.mf_model.specs.Run as run
use Rattle.mf_wire_lines.specs.Replies.{fault_line}
use Rattle.mf_wire_requests.specs.RequestLine.{split_space}

-- the bytes before a line's first space, where it has one
abbrev pub sender_of : List ℕ → Option (List ℕ)
sender_of line = option_map (λ p. p.0) (split_space line)

-- the caller's text is this one
abbrev pub is_text : List ℕ → Option (List ℕ) → Bool
is_text text None = false
is_text text (Some bytes) = bytes_eq bytes text

-- the line's bytes before its first space are this text
abbrev pub is_sent_by : List ℕ → List ℕ → Bool
is_sent_by text line = is_text text (sender_of line)

-- the line's bytes before its first space are the text of a caller of office o
abbrev pub is_sent_from : ℕ → List ℕ → Bool
is_sent_from o line = run.is_of o (option_and_then caller_of (sender_of line))

-- of the texts that answer the lines, those that answer the lines which pass
abbrev pub texts_for : (List ℕ → Bool) → List (List ℕ) → List (List ℕ) → List (List ℕ)
texts_for passes [] texts = []
texts_for passes (line ∷ lines) [] = []
texts_for passes (line ∷ lines) (text ∷ texts) =
    cond (passes line) (text ∷ texts_for passes lines texts) (texts_for passes lines texts)

-- none of the texts is that of F20
abbrev pub NoTextIsF20 : List (List ℕ) → Type 0
NoTextIsF20 texts = AllByRecursion (λ (text : List ℕ). text ≢ fault_line F20) texts

-- no byte is a space
abbrev pub HasNoSpace : List ℕ → Type 0
HasNoSpace bytes = AllByRecursion (λ (b : ℕ). b ≢ 32) bytes

-- no byte is a line feed
abbrev pub HasNoLineFeed : List ℕ → Type 0
HasNoLineFeed bytes = AllByRecursion (λ (b : ℕ). b ≢ 10) bytes

-- the text ends with a line feed, and has no other
pub record IsOneLine (text : List ℕ) : Type 0 where
  pub front : List ℕ
  pub whole : text ≡ front ++ 10 ∷ []
  pub only : HasNoLineFeed front
