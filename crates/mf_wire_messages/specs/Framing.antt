-- What is found in the spans of a head's fields.
use Rattle.std.specs.Prelude.{◌≡◌, ℕ, ◌≤◌, List, [], ◌∷◌, length, Option, Some, None, ⊤}
use Rattle.httparse.specs.Spans.{span_bytes, IsWithin}
use Rattle.mf_wire_messages.specs.declared.fields.Found.{Found}
use Rattle.mf_wire_messages.specs.declared.fields.Found.TheVariants.{Nothing, Once, Often}
use Rattle.mf_wire_messages.specs.declared.fields.Frame.{Frame}

-- no value, one that the span covers, or more
abbrev pub FoundIn : List ℕ → Found → List (List ℕ) → Type 0
FoundIn bytes Nothing values = values ≡ []
FoundIn bytes (Once span) values = IsWithin (length bytes) span × (values ≡ span_bytes bytes span ∷ [])
FoundIn bytes Often values = 2 ≤ length values

-- what is told by what is found: nothing, the bytes of the span, or more than once
abbrev pub told_at : List ℕ → Found → Option (List ℕ)
told_at bytes Nothing = Some []
told_at bytes (Once span) = Some (span_bytes bytes span)
told_at bytes Often = None

-- a span that is found lies within so many bytes
abbrev pub IsFoundWithin : ℕ → Found → Type 0
IsFoundWithin size Nothing = ⊤
IsFoundWithin size (Once span) = IsWithin size span
IsFoundWithin size Often = ⊤

-- the staff's bytes and the length of the body
abbrev pub frame_at : List ℕ → Frame → List ℕ × ℕ
frame_at bytes frame = (span_bytes bytes frame.staff, frame.length)
