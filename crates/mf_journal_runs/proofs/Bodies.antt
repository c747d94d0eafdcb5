-- The body by which a repayment is noted reads as that repayment.
use Rattle.std.proofs.Common.{◌≡◌, ℕ, ◌+◌, ◌<◌, ◌≤◌, ◌^◌, true, cond, List, [], ◌∷◌, ◌++◌, length, Option}
use Rattle.std.proofs.Common.{Some, None, refl, sym, ap, ap₂, ◌∙◌, arith, append-nil, le-leb, decimal}
use Rattle.std.specs.Prelude.{◌&&◌, codes, nat_le, IsAscii, option_map, option_and_then}
use Rattle.std.specs.List.{list_all}
use Rattle.std.proofs.lemmas.Bool.{and_parts}
use Rattle.std.proofs.lemmas.Fmt.{IsAscii-decimal}
use Rattle.std.proofs.lemmas.Str.{IsAscii-append, IsUtf8-from_ascii, is_utf8-from_IsUtf8}
use Rattle.json.specs.Json as json
use Rattle.json.specs.Print.{escape_byte, quoted}
use Rattle.json.specs.Tree.{json_tokens, HasNumbers}
use Rattle.json.specs.Token.{Token}
use Rattle.json.specs.Tree as tree
use Rattle.json.proofs.Printed.Decimals.{IsNumber-decimal}
use Rattle.json.proofs.Printed.Tokens.{tokens-print}
use Rattle.json.proofs.Printed.Trees.{value-json_tokens, ArePrintable-json_tokens}
use Rattle.serde_json.specs.Data.{Data, unsigned, number, string, object, no_members, member}
use Rattle.serde_json.specs.Read.{of_json, of_members, read}
use Rattle.serde_json.specs.Written.{outline, compact_text}
use Rattle.serde_json.proofs.Numbers.{number_of-decimal}
use Rattle.serde_json.proofs.Texts.{print-outline}
use Rattle.mf_base.specs.DayText.{day_text, last_entered_day}
use Rattle.mf_base.specs.Money.{money_limit}
use Rattle.mf_base.proofs.DayTextLemmas.{day_text-injective}
use Rattle.mf_account.specs.Receipts.{is_printable, is_receipt, IsReceipt}
use Rattle.mf_catalog.specs.Limits.{greatest_amount}
use Rattle.mf_model.specs.Notes.{quoted_bytes, repayment_body}
use Rattle.mf_model.specs.declared.request.LoanRequest.TheVariants.{Repay}
use Rattle.mf_wire_requests.specs.Bodies.{json_of, day_named}
use Rattle.mf_wire_requests.specs.LoanRequests.{repayment_request}
use Rattle.mf_wire_requests.proofs.DayTexts.{day_among_is}
use Rattle.mf_wire_requests.proofs.Matched.{ascii_bytes}
use Rattle.mf_journal_runs.proofs.Figures.{day_figures, figures_ascii}
use Rattle.mf_journal_runs.proofs.Quoted.{figures_escaped, receipt_escaped, quoted_ascii, quoted_then}

-- ---- what is written of a value reads as it

-- the value that tokens are, all of them
abbrev whole : Option (json.Json × List Token) → Option Data
whole o = option_and_then of_json (option_and_then (λ p. json.if_last p.0 p.1) o)

read_written : (d : Data) → HasNumbers (outline d) → tree.depth (outline d) ≤ 127
    → read (compact_text d) ≡ of_json (outline d)
read_written d numbers shallow =
    ap read (sym (print-outline d))
    ∙ ap whole (ap (json.value 127) (tokens-print (json_tokens (outline d))
    (ArePrintable-json_tokens (outline d) numbers) ∙ sym (append-nil (json_tokens (outline d))))
    ∙ value-json_tokens (outline d) 127 [] shallow)

-- the members of a repayment
abbrev members_of : ℕ → ℕ → List ℕ → Data
members_of amount day receipt = object (member (codes "amount") (number (unsigned amount))
    (member (codes "day") (string (day_text day)) (member (codes "receipt") (string receipt) no_members)))

members_read : (amount day : ℕ) (receipt : List ℕ) → amount < 2 ^ 64
    → read (compact_text (members_of amount day receipt)) ≡ Some (members_of amount day receipt)
members_read amount day receipt small =
    read_written (members_of amount day receipt) (IsNumber-decimal amount small, (tt, (tt, tt))) (omega arith)
    ∙ ap (λ o. option_map object (option_and_then (λ d. of_members (json.member (codes "day")
    (json.string (day_text day)) (json.member (codes "receipt") (json.string receipt) json.no_members))
    (member (codes "amount") d no_members)) (option_map number o))) (number_of-decimal amount small)

-- ---- the body is what is written of them

record IsInBody (day : ℕ) (receipt : List ℕ) : Type 0 where
  pub early : day ≤ last_entered_day
  pub printable : list_all is_printable receipt ≡ true

printable : (receipt : List ℕ) → IsReceipt receipt → list_all is_printable receipt ≡ true
printable receipt is =
    (and_parts (nat_le 1 (length receipt) && nat_le (length receipt) 40) (list_all is_printable receipt) is).1

body_written : (amount day : ℕ) (receipt : List ℕ) → IsInBody day receipt
    → compact_text (members_of amount day receipt) ≡ repayment_body amount day receipt
unfolding escape_byte
body_written amount day receipt is =
    let last = quoted_then receipt (quoted_bytes receipt) (125 ∷ []) (receipt_escaped receipt is.printable) in
    let middle = quoted_then (day_text day) (day_text day) (codes ",\"receipt\":" ++ (quoted receipt ++ 125 ∷ []))
    (figures_escaped (day_text day) (day_figures day is.early)) in
    ap (λ x. codes "{\"amount\":" ++ (decimal amount ++ (codes ",\"day\":" ++ x)))
    (middle ∙ ap (λ x. 34 ∷ (day_text day ++ (codes "\",\"receipt\":" ++ x))) last)

-- the body is ASCII
body_ascii : (amount day : ℕ) (receipt : List ℕ) → amount < 2 ^ 64 → IsInBody day receipt
    → IsAscii (repayment_body amount day receipt)
body_ascii amount day receipt small is =
    IsAscii-append (codes "{\"amount\":") _ (ascii_bytes (codes "{\"amount\":") refl)
    (IsAscii-append (decimal amount) _ (IsAscii-decimal amount small)
    (IsAscii-append (codes ",\"day\":\"") _ (ascii_bytes (codes ",\"day\":\"") refl)
    (IsAscii-append (day_text day) _ (ascii_bytes (day_text day) (figures_ascii (day_text day)
    (day_figures day is.early)))
    (IsAscii-append (codes "\",\"receipt\":\"") _ (ascii_bytes (codes "\",\"receipt\":\"") refl)
    (IsAscii-append (quoted_bytes receipt) (codes "\"}")
    (ascii_bytes (quoted_bytes receipt) (quoted_ascii receipt is.printable))
    (ascii_bytes (codes "\"}") refl))))))

body_read : (amount day : ℕ) (receipt : List ℕ) → amount < 2 ^ 64 → IsInBody day receipt
    → json_of (repayment_body amount day receipt) ≡ Some (members_of amount day receipt)
body_read amount day receipt small is =
    let body = repayment_body amount day receipt in
    ap (λ b. cond b (read body) None) (is_utf8-from_IsUtf8 body (IsUtf8-from_ascii body
    (body_ascii amount day receipt small is)))
    ∙ ap read (sym (body_written amount day receipt is))
    ∙ members_read amount day receipt small

-- ---- each member reads as what was written

day_read : (day : ℕ) → day ≤ last_entered_day → day_named (day_text day) ≡ Some day
day_read day h = sym (day_among_is (last_entered_day + 1) (day_text day) (Some day) (omega arith, refl)
    (λ other below same. ap (λ d. Some d) (day_text-injective day other same)))

-- what a repayment that is entered says, in range
pub record IsEntered (amount day : ℕ) (receipt : List ℕ) : Type 0 where
  pub least : 1 ≤ amount
  pub most : amount ≤ money_limit
  pub early : day ≤ last_entered_day
  pub is_receipt : IsReceipt receipt

members_asked : (amount day : ℕ) (receipt : List ℕ) → (nat_le 1 amount && nat_le amount greatest_amount) ≡ true
    → day_named (day_text day) ≡ Some day → is_receipt receipt ≡ true
    → repayment_request (members_of amount day receipt)
    ≡ Some (Repay (record { amount = amount; day = day; receipt = Some receipt }))
members_asked amount day receipt a d r = rw (a, d, r)

-- a repayment reads as a request for it
pub repayment_read : (amount day : ℕ) (receipt : List ℕ) → IsEntered amount day receipt
    → option_and_then repayment_request (json_of (repayment_body amount day receipt))
    ≡ Some (Repay (record { amount = amount; day = day; receipt = Some receipt }))
repayment_read amount day receipt is =
    let least = is.least in
    let most = is.most in
    let in_body : IsInBody day receipt = record { early = is.early; printable = printable receipt is.is_receipt } in
    ap (option_and_then repayment_request) (body_read amount day receipt (omega arith) in_body)
    ∙ members_asked amount day receipt (ap₂ (λ a b. a && b) (le-leb 1 amount least)
    (le-leb amount greatest_amount most)) (day_read day is.early) is.is_receipt
