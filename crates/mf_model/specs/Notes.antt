-- What a commit notes of its request, as values.
use Rattle.std.specs.Prelude.{ℕ, Bool, cond, ◌==◌, ◌||◌, List, [], ◌∷◌, ◌++◌, Some, codes, decimal}
use Rattle.mf_base.specs.DayText.{day_text}
use Rattle.mf_office.specs.declared.account.Account.{Account}
use Rattle.mf_office.specs.declared.caller.Caller.{Caller}
use Rattle.mf_office.specs.Written.{account_text}
use Rattle.mf_model.specs.declared.note.Note.{Note}
use Rattle.mf_model.specs.declared.note.ReceivedText.{ReceivedText}
use Rattle.mf_model.specs.declared.note.RepaymentText.{RepaymentText}
use Rattle.mf_model.specs.declared.note.RequestText.{RequestText}
use Rattle.mf_model.specs.declared.reply.Names.{Names}
use Rattle.mf_model.specs.declared.note.RequestText.TheVariants.{Received, Repayment}
use Rattle.mf_model.specs.Calls as calls
use Rattle.mf_model.specs.Institution.{Noted}

-- bytes as they stand within a JSON string: a quote and a backslash have a backslash before them
abbrev pub quoted_bytes : List ℕ → List ℕ
quoted_bytes [] = []
quoted_bytes (b ∷ bs) = cond (b == 34 || b == 92) (92 ∷ b ∷ quoted_bytes bs) (b ∷ quoted_bytes bs)

-- the body of a repayment, as JSON
abbrev pub repayment_body : ℕ → ℕ → List ℕ → List ℕ
repayment_body amount day receipt =
    codes "{\"amount\":" ++ (decimal amount ++ (codes ",\"day\":\"" ++ (day_text day ++ (codes "\",\"receipt\":\""
    ++ (quoted_bytes receipt ++ codes "\"}")))))

-- the text by which a repayment is sent as a request
abbrev pub repayment_received : List ℕ → Account → ℕ → ℕ → List ℕ → calls.Received
repayment_received told loan amount day receipt = record {
  told = told;
  method = codes "POST";
  path = codes "/loans/" ++ (account_text loan.office loan.number ++ codes "/repayments");
  body = repayment_body amount day receipt;
}

-- the text of a request, as bytes
abbrev pub received_now : RequestText → calls.Received
received_now (Received t) = record { told = t.told.now; method = t.method.now; path = t.path.now; body = t.body.now }
received_now (Repayment r) = repayment_received r.told.now r.loan r.amount r.day r.receipt.now

-- what is noted of a request that this caller sent in this text, and whose reply names these
abbrev pub noted_as : Caller → calls.Received → Names → Noted
noted_as caller received names = record { caller = Some caller; received = received; names = names }

-- what a note says
abbrev pub noted_now : Note → Noted
noted_now n = noted_as n.caller (received_now n.text.now) n.names
