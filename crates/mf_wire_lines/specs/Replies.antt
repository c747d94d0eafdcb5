-- The texts of replies.
use Rattle.std.specs.Prelude.{ℕ, List, [], ◌∷◌, ◌++◌, codes, decimal, string_bytes, String, Result, Ok, Err}
use Rattle.mf_base.specs.declared.fault.Fault.{Fault}
use Rattle.mf_base.specs.declared.fault.Fault.TheVariants.{F1, F2, F3, F4, F5, F6, F7, F8, F9, F10, F11, F12, F13, F14}
use Rattle.mf_base.specs.declared.fault.Fault.TheVariants.{F15, F16, F17, F18, F19, F20}

-- the HTTP status of a refusal. What names no institution is never replied
abbrev pub fault_status : Fault → ℕ
fault_status F1 = 400
fault_status F2 = 401
fault_status F3 = 403
fault_status F4 = 404
fault_status F5 = 404
fault_status F6 = 405
fault_status F20 = 503
fault_status _ = 409

-- the number of a refusal, as a text
abbrev pub fault_name : Fault → List ℕ
fault_name F1 = codes "F1"
fault_name F2 = codes "F2"
fault_name F3 = codes "F3"
fault_name F4 = codes "F4"
fault_name F5 = codes "F5"
fault_name F6 = codes "F6"
fault_name F7 = codes "F7"
fault_name F8 = codes "F8"
fault_name F9 = codes "F9"
fault_name F10 = codes "F10"
fault_name F11 = codes "F11"
fault_name F12 = codes "F12"
fault_name F13 = codes "F13"
fault_name F14 = codes "F14"
fault_name F15 = codes "F15"
fault_name F16 = codes "F16"
fault_name F17 = codes "F17"
fault_name F18 = codes "F18"
fault_name F19 = codes "F19"
fault_name F20 = codes "F20"

-- the body of a refusal
abbrev pub fault_body : Fault → List ℕ
fault_body fault = codes "{\"fault\":\"" ++ fault_name fault ++ codes "\"}"

-- the line of a reply: its status, a space, its body and a line feed
abbrev pub reply_line : ℕ → List ℕ → List ℕ
reply_line status body = decimal status ++ 32 ∷ (body ++ 10 ∷ [])

-- the line of a refusal
abbrev pub fault_line : Fault → List ℕ
fault_line fault = reply_line (fault_status fault) (fault_body fault)

-- the line that answers a request: the text that a success is shown by, or a refusal's
abbrev pub reply_line_of : {Z : Type 0} → Result (String Z) Fault → List ℕ
reply_line_of (Ok text) = string_bytes text
reply_line_of (Err fault) = fault_line fault
