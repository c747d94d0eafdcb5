-- How replies are shown.
use Rattle.std.specs.Prelude.{◌≡◌, ℕ, String, string_bytes, List, map, codes, Result, Ok, Err}
use Rattle.serde_json.specs.Data.{Data, string, object, array, member, no_members}
use Rattle.serde_json.specs.View.{view, items_of}
use Rattle.serde_json.specs.Written.{compact_text}
use Rattle.mf_base.specs.DayText.{day_text}
use Rattle.mf_base.specs.declared.fault.Fault.{Fault}
use Rattle.mf_office.specs.Written.{caller_text, account_text}
use Rattle.mf_office.specs.declared.office.Office.{Office}
use Rattle.mf_model.specs.declared.reply.Reply.{Reply}
use Rattle.mf_model.specs.declared.reply.Reply.TheVariants.{OfficeMade, Offices, StaffMade, ClientMade, ClientShown}
use Rattle.mf_model.specs.declared.reply.Reply.TheVariants.{DayShown, DaySet, ChargeMade, ChargeShown, ProductMade}
use Rattle.mf_model.specs.declared.reply.Reply.TheVariants.{ProductShown, ProductRetired, LoanMade, Loan, LoansShown}
use Rattle.mf_model.specs.declared.reply.Reply.TheVariants.{ArrearsShown}
use Rattle.mf_wire_replies.specs.declared.showing.Body.{Body}
use Rattle.mf_wire_replies.specs.declared.showing.Body.TheVariants.{Value, Text}
use Rattle.mf_wire_replies.specs.ArrearsTexts.{arrears_data}
use Rattle.mf_wire_replies.specs.Catalogue.{charge_data, product_data}
use Rattle.mf_wire_replies.specs.Json.{whole, whole_or_null}
use Rattle.mf_wire_replies.specs.LoanTexts.{account_data, told_data, told_status, lines_data}
use Rattle.mf_wire_lines.specs.Replies.{reply_line, fault_line}

-- an office as GET /offices lists it
abbrev pub office_data : Office → Data
office_data line = object (member (codes "name") (string line.name) (member (codes "number") (whole line.number)
    (member (codes "parent") (whole_or_null line.parent) no_members)))

-- the body of a success, as JSON
abbrev pub reply_data : Reply → Data
reply_data (OfficeMade office) = object (member (codes "office") (whole office) no_members)
reply_data (Offices lines) = object (member (codes "offices") (array (items_of (map office_data lines))) no_members)
reply_data (StaffMade staff) =
    object (member (codes "staff") (string (caller_text staff.office staff.staff)) no_members)
reply_data (ClientMade client) =
    object (member (codes "client") (string (account_text client.office client.number)) no_members)
reply_data (ClientShown client name) = object (member (codes "client")
    (string (account_text client.office client.number)) (member (codes "name") (string name) no_members))
reply_data (DayShown day) = object (member (codes "day") (string (day_text day)) no_members)
reply_data (DaySet day) = object (member (codes "day") (string (day_text day)) no_members)
reply_data (ChargeMade charge) = object (member (codes "charge") (whole charge) no_members)
reply_data (ChargeShown charge) = charge_data charge
reply_data (ProductMade product) = object (member (codes "product") (whole product) no_members)
reply_data (ProductShown product) = product_data product
reply_data (ProductRetired product) = object (member (codes "product") (whole product) no_members)
reply_data (LoanMade loan) = object (member (codes "loan") (account_data loan) no_members)
reply_data (Loan loan told) = told_data loan told
reply_data (LoansShown lines) = lines_data lines
reply_data (ArrearsShown lines) = arrears_data lines

-- 201 where something was made, 200 where something is shown
abbrev pub reply_status : Reply → ℕ
reply_status (OfficeMade office) = 201
reply_status (Offices lines) = 200
reply_status (StaffMade staff) = 201
reply_status (ClientMade client) = 201
reply_status (ClientShown client name) = 200
reply_status (DayShown day) = 200
reply_status (DaySet day) = 200
reply_status (ChargeMade charge) = 201
reply_status (ChargeShown charge) = 200
reply_status (ProductMade product) = 201
reply_status (ProductShown product) = 200
reply_status (ProductRetired product) = 200
reply_status (LoanMade loan) = 201
reply_status (Loan loan told) = told_status told
reply_status (LoansShown lines) = 200
reply_status (ArrearsShown lines) = 200

-- the body of a success: compact JSON
abbrev pub reply_body : Reply → List ℕ
reply_body reply = compact_text (reply_data reply)

-- the line of a reply
abbrev pub shown_line : Result Reply Fault → List ℕ
shown_line (Ok reply) = reply_line (reply_status reply) (reply_body reply)
shown_line (Err fault) = fault_line fault

-- the status and the body of a reply, apart
abbrev pub IsReplyText : {Z : Type 0} → Result (ℕ × String Z) Fault → Result Reply Fault → Type 0
IsReplyText (Ok text) (Ok reply) = (text.0 ≡ reply_status reply) × (string_bytes text.1 ≡ reply_body reply)
IsReplyText (Err fault) (Err refusal) = fault ≡ refusal
IsReplyText (Ok text) (Err refusal) = ⊥
IsReplyText (Err fault) (Ok reply) = ⊥

-- what a body is made of before it is written: a value of JSON, or its text
abbrev pub IsBodyOf : Reply → Body → Type 0
IsBodyOf reply (Value value) = view value ≡ reply_data reply
IsBodyOf reply (Text text) = string_bytes text ≡ reply_body reply
