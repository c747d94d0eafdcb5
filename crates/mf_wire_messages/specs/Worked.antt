-- Messages that are worked out by hand.
use Rattle.std.specs.Prelude.{◌≡◌, ℕ, List, [], ◌∷◌, ◌++◌, codes, Some, None, true, false}
use Rattle.httparse.specs.Grammar.{Field, RequestHead, crlf, print_request}
use Rattle.mf_base.specs.declared.fault.Fault.TheVariants.{F1}
use Rattle.mf_wire_messages.specs.Messages.{frame_of, request_of, told_in}
use Rattle.mf_wire_messages.specs.Responses.{phrase_of, response, refusal}

-- a field line with a space before its value
abbrev pub line : List ℕ → List ℕ → Field
line name value = record { name = name; raw = 32 ∷ value; end = crlf }

-- the head that asks for a new client
abbrev pub request_head : RequestHead
request_head = record {
  blank = [];
  method = codes "POST";
  target = codes "/clients";
  minor = 1;
  line_end = crlf;
  fields = line (codes "Host") (codes "localhost") ∷ line (codes "X-Staff") (codes "1/1")
      ∷ line (codes "Content-Length") (codes "27") ∷ [];
  last = crlf;
}

-- its body
abbrev pub request_body : List ℕ
request_body = codes "{\"office\":1,\"name\":\"Amina\"}"

-- the head's bytes
abbrev pub HeadIsWritten : Type 0
HeadIsWritten = print_request request_head
    ≡ codes "POST /clients HTTP/1.1\r\nHost: localhost\r\nX-Staff: 1/1\r\nContent-Length: 27\r\n\r\n"

-- the request, whatever follows its body
abbrev pub IsAskedByMessage : Type 0
IsAskedByMessage = (more : List ℕ) → request_of request_head (request_body ++ more) ≡ Some (record {
  told = Some [];
  staff = codes "1/1";
  method = codes "POST";
  target = codes "/clients";
  body = request_body;
})

-- five bytes of the body are none
abbrev pub CutIsRefused : Type 0
CutIsRefused = request_of request_head (codes "{\"off") ≡ None

-- the fields of a head that are refused: no staff, two, a length twice, with a sign or too long, and a transfer coding
abbrev pub FieldsAreRefused : Type 0
FieldsAreRefused =
    (frame_of ((codes "Host", codes "localhost") ∷ []) ≡ None)
    × (frame_of ((codes "X-Staff", codes "1/1") ∷ (codes "x-staff", codes "1/1") ∷ []) ≡ None)
    × (frame_of ((codes "X-Staff", codes "1/1") ∷ (codes "Content-Length", codes "27, 27") ∷ []) ≡ None)
    × (frame_of ((codes "X-Staff", codes "1/1") ∷ (codes "Content-Length", codes "+5") ∷ []) ≡ None)
    × (frame_of ((codes "X-Staff", codes "1/1") ∷ (codes "Content-Length", codes "1048577") ∷ []) ≡ None)
    × (frame_of ((codes "X-Staff", codes "1/1") ∷ (codes "Transfer-Encoding", codes "identity") ∷ []) ≡ None)

-- the fields of a head that are taken: any case of a name, the longest body, and no body
abbrev pub FieldsAreTaken : Type 0
FieldsAreTaken =
    (frame_of ((codes "x-STAFF", codes "1/1") ∷ (codes "content-length", codes "1048576") ∷ []) ≡ Some (
      codes "1/1",
      1048576,
    ))
    × (frame_of ((codes "X-Staff", codes "9/9") ∷ []) ≡ Some (codes "9/9", 0))

-- what fields tell: nothing, a text, in any case of the name, or two texts, of which none counts
abbrev pub FieldsAreTold : Type 0
FieldsAreTold =
    (told_in ((codes "X-Staff", codes "1/1") ∷ []) ≡ Some [])
    × (told_in ((codes "x-TOLD", codes "09:12 10.0.0.7") ∷ []) ≡ Some (codes "09:12 10.0.0.7"))
    × (told_in ((codes "X-Told", codes "09:12") ∷ (codes "X-Told", codes "09:12") ∷ []) ≡ None)

-- the response to the request, and that of a malformed message to HEAD
abbrev pub ResponsesAreWritten : Type 0
ResponsesAreWritten =
    (response 201 (codes "{\"client\":\"0001-000001\"}") false
    ≡ codes "HTTP/1.1 201 Created\r\nContent-Type: application/json\r\nContent-Length: 24\r\nConnection: close\r\n\r\n"
    ++ codes "{\"client\":\"0001-000001\"}")
    × (refusal F1 true ≡ codes
    "HTTP/1.1 400 Bad Request\r\nContent-Type: application/json\r\nContent-Length: 14\r\nConnection: close\r\n\r\n")

-- the phrases of the statuses that replies have
abbrev pub PhrasesAreWritten : Type 0
PhrasesAreWritten =
    (phrase_of 200 ≡ codes "OK")
    × (phrase_of 201 ≡ codes "Created")
    × (phrase_of 400 ≡ codes "Bad Request")
    × (phrase_of 401 ≡ codes "Unauthorized")
    × (phrase_of 403 ≡ codes "Forbidden")
    × (phrase_of 404 ≡ codes "Not Found")
    × (phrase_of 405 ≡ codes "Method Not Allowed")
    × (phrase_of 409 ≡ codes "Conflict")
    × (phrase_of 503 ≡ codes "Service Unavailable")
