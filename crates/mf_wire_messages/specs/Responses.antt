-- Responses, as bytes.
use Rattle.std.specs.Prelude.{◌≡◌, ℕ, ◌<◌, Bool, ◌&&◌, cond, List, [], ◌++◌, length, take, nat_le, nat_lt, codes}
use Rattle.std.specs.Prelude.{decimal, Option, unwrap_or}
use Rattle.std.specs.Io.KnownBytes.{Appends}
use Rattle.http.specs.StatusCode.{reason_phrase}
use Rattle.mf_base.specs.declared.fault.Fault.{Fault}
use Rattle.mf_wire_lines.specs.Replies.{fault_status, fault_body}

-- the number is a status: it has three digits
abbrev pub is_status : ℕ → Bool
is_status n = nat_le 100 n && nat_lt n 1000

-- the phrase that belongs to a status, where one does
abbrev pub phrase_of : ℕ → List ℕ
phrase_of status = cond (is_status status) (unwrap_or (reason_phrase status) []) []

-- the status line without its end
unfoldable pub status_line : ℕ → List ℕ
status_line status = codes "HTTP/1.1 " ++ (decimal status ++ (codes " " ++ phrase_of status))

-- the body that is sent, which is none to HEAD
abbrev pub sent_body : Bool → List ℕ → List ℕ
sent_body to_head body = cond to_head [] body

-- what follows the status line: the fields, an empty line and the body; the length is the body's own also to HEAD
unfoldable pub fields_and_body : List ℕ → Bool → List ℕ
fields_and_body body to_head =
    codes "\r\nContent-Type: application/json\r\nContent-Length: "
    ++ (decimal (length body) ++ (codes "\r\nConnection: close\r\n\r\n" ++ sent_body to_head body))

-- a response
abbrev pub response : ℕ → List ℕ → Bool → List ℕ
response status body to_head = status_line status ++ fields_and_body body to_head

-- the response of a refusal
abbrev pub refusal : Fault → Bool → List ℕ
refusal fault to_head = response (fault_status fault) (fault_body fault) to_head

-- Bytes were written, and these are left: together they are what was held and a text behind it.
pub record Gathers (before after : Option (List ℕ)) (held text left : List ℕ) : Type 0 where
  pub out : List ℕ
  pub written : Appends before after out
  pub together : out ++ left ≡ held ++ text

-- only a beginning of the bytes was written
abbrev pub IsCut : Option (List ℕ) → Option (List ℕ) → List ℕ → Type 0
IsCut before after bytes = (n : ℕ) × (n < length bytes) × Appends before after (take n bytes)
