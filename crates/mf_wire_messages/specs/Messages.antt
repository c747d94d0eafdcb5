-- What the fields of a head say, and the message that a head and the bytes after it are.
use Rattle.std.specs.Prelude.{◌≡◌, ◌≢◌, ℕ, ◌⊎◌, Bool, false, ◌&&◌, cond, List, [], ◌∷◌, length, take, map, nat_le}
use Rattle.std.specs.Prelude.{codes, Option, Some, None, option_map, option_and_then}
use Rattle.std.specs.Char.{is_ascii_digit}
use Rattle.std.specs.List.{list_all}
use Rattle.std.specs.Str.{bytes_eq, str_eq_ignore_ascii_case}
use Rattle.std.specs.Str.Parse.{digits_value}
use Rattle.httparse.specs.Grammar.{RequestHead}
use Rattle.httparse.specs.Spans.{name_and_value}
use Rattle.mf_wire_messages.specs.Heads.{ReadsHead, HasNoHead}

-- who asks, by which method, at which target, and with what body; and what is told of it, unless that is told twice
pub record Message : Type 0 where
  pub told : Option (List ℕ)
  pub staff : List ℕ
  pub method : List ℕ
  pub target : List ℕ
  pub body : List ℕ

-- the values of the fields of that name, in their order; names are compared without case
abbrev pub values_of : List ℕ → List (List ℕ × List ℕ) → List (List ℕ)
values_of name [] = []
values_of name (field ∷ fields) = cond (str_eq_ignore_ascii_case field.0 name) (field.1 ∷ values_of name fields)
    (values_of name fields)

-- the value that stands alone
abbrev pub only_value : List (List ℕ) → Option (List ℕ)
only_value [] = None
only_value (value ∷ []) = Some value
only_value (value ∷ other ∷ values) = None

-- what at most one value tells; without any nothing is told
abbrev pub told_by : List (List ℕ) → Option (List ℕ)
told_by [] = Some []
told_by (value ∷ []) = Some value
told_by (value ∷ other ∷ values) = None

-- what the fields of a head tell of its message
abbrev pub told_in : List (List ℕ × List ℕ) → Option (List ℕ)
told_in fields = told_by (values_of (codes "x-told") fields)

-- the number, where a body may be that long
abbrev pub allowed_length : ℕ → Option ℕ
allowed_length n = cond (nat_le n 1048576) (Some n) None

-- the length of a body that 1 to 10 digits write
abbrev pub length_of_digits : List ℕ → Option ℕ
length_of_digits text = cond ((nat_le 1 (length text) && nat_le (length text) 10) && list_all is_ascii_digit text)
    (allowed_length (digits_value 10 text)) None

-- the length that at most one value writes; without any the body is empty
abbrev pub body_length : List (List ℕ) → Option ℕ
body_length [] = Some 0
body_length (value ∷ []) = length_of_digits value
body_length (value ∷ other ∷ values) = None

-- no value stands there
abbrev pub unless_any : {T : Type 0} → List (List ℕ) → Option T → Option T
unless_any [] answer = answer
unless_any (value ∷ values) answer = None

-- the staff and the length of the body that the fields name; no other coding of the body may be named
abbrev pub frame_of : List (List ℕ × List ℕ) → Option (List ℕ × ℕ)
frame_of fields =
    unless_any (values_of (codes "transfer-encoding") fields)
    (option_and_then (λ staff. option_map (λ n. (staff, n)) (body_length (values_of (codes "content-length") fields)))
    (only_value (values_of (codes "x-staff") fields)))

-- the request, where as many bytes follow as its body has; those past it are not looked at
abbrev pub request_within : RequestHead → List ℕ → List ℕ × ℕ → Option Message
request_within head rest frame =
    cond (nat_le frame.1 (length rest)) (Some (record {
      told = told_in (map name_and_value head.fields);
      staff = frame.0;
      method = head.method;
      target = head.target;
      body = take frame.1 rest;
    })) None

-- the request that a head and the bytes after it are, where its fields are in order and its body is whole
abbrev pub request_of : RequestHead → List ℕ → Option Message
request_of head rest = option_and_then (request_within head rest) (frame_of (map name_and_value head.fields))

-- the method asks for a reply without its body
abbrev pub is_head : List ℕ → Bool
is_head method = bytes_eq method (codes "HEAD")

-- Which message the bytes of a stream are, whatever follows it: a request, or none where it is malformed; and whether
-- its reply is without its body. Bytes that begin no head are malformed, and are not to HEAD.
abbrev pub IsMessage : List ℕ → Option Message → Bool → Type 0
IsMessage bytes message to_head =
    ((bytes ≢ []) × HasNoHead bytes × (message ≡ None) × (to_head ≡ false))
    ⊎ ((head : RequestHead) × (rest : List ℕ) × ReadsHead bytes head rest × (message ≡ request_of head rest)
    × (to_head ≡ is_head head.method))
