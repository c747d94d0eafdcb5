-- How an answer of the lists is shown.
use Rattle.std.specs.Prelude.{◌≡◌, ℕ, String, string_bytes, List, Result, Ok, Err}
use Rattle.serde_json.specs.Data.{Data}
use Rattle.serde_json.specs.Written.{compact_text}
use Rattle.mf_base.specs.declared.fault.Fault.{Fault}
use Rattle.mf_lists.specs.declared.answer.ListAnswer.{ListAnswer}
use Rattle.mf_lists.specs.declared.answer.ListAnswer.TheVariants.{Listed, Previewed}
use Rattle.mf_wire_lines.specs.Replies.{reply_line, fault_line}
use Rattle.mf_lists_replies.specs.Lines.{told_data, preview_data}

-- the body of an answer, as JSON
abbrev pub list_data : ListAnswer → Data
list_data (Listed office told) = told_data office told
list_data (Previewed shown) = preview_data shown

-- the body of an answer: compact JSON
abbrev pub list_body : ListAnswer → List ℕ
list_body answer = compact_text (list_data answer)

-- the line of an answer, or of a refusal
abbrev pub shown_list : Result ListAnswer Fault → List ℕ
shown_list (Ok answer) = reply_line 200 (list_body answer)
shown_list (Err fault) = fault_line fault

-- the status and the body of an answer, apart
abbrev pub IsListText : {Z : Type 0} → Result (ℕ × String Z) Fault → Result ListAnswer Fault → Type 0
IsListText (Ok text) (Ok answer) = (text.0 ≡ 200) × (string_bytes text.1 ≡ list_body answer)
IsListText (Err fault) (Err refusal) = fault ≡ refusal
IsListText (Ok text) (Err refusal) = ⊥
IsListText (Err fault) (Ok answer) = ⊥
