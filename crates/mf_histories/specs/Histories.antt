-- What the accepted requests of a run make of the entries of one loan.
use Rattle.std.specs.Prelude.{ℕ, ◌-◌, ◌==◌, ◌&&◌, true, Bool, cond, List, [], ◌∷◌, Option, Some, None, Result, Ok}
use Rattle.std.specs.Option.{option_map, option_and_then}
use Rattle.mf_base.specs.declared.fault.Fault.{Fault}
use Rattle.mf_office.specs.declared.account.Account.{Account}
use Rattle.mf_office.specs.declared.caller.Caller.{Caller}
use Rattle.mf_account.specs.declared.entry.Entry.{Entry}
use Rattle.mf_account.specs.Loan.{DisbursedLoan}
use Rattle.mf_account.specs.Standing.{with_mark}
use Rattle.mf_model.specs.declared.request.LoanRequest.{LoanRequest}
use Rattle.mf_model.specs.declared.request.LoanRequest.TheVariants.{Repay, ChargeFee, Post}
use Rattle.mf_model.specs.declared.request.Request.{Request}
use Rattle.mf_model.specs.declared.request.Request.TheVariants as request
use Rattle.mf_model.specs.declared.reply.LoanReply.{LoanReply}
use Rattle.mf_model.specs.declared.reply.LoanReply.TheVariants.{Entered, Reversed}
use Rattle.mf_model.specs.declared.reply.Reply.{Reply}
use Rattle.mf_model.specs.declared.reply.Reply.TheVariants as reply
use Rattle.mf_model.specs.Institution.{Institution, Catalogue, Ledger, charge_in}
use Rattle.mf_model.specs.Loans.{repayment, fee, posting}
use Rattle.mf_model.specs.Run.{Line, answer, next}
use Rattle.mf_model.specs.Store.{ledger_at, account_of}

-- what an accepted request does to the entries of a loan: one more, or one that counts no more
pub data Deed : Type 0 where
  Adds : Entry → Deed
  Marks : ℕ → Deed

-- the two name one loan
abbrev pub is_same_loan : Account → Account → Bool
is_same_loan a b = (b.office == a.office) && (b.number == a.number)

-- what a request asks of this loan
abbrev pub asked_of_loan : Account → Request → Option LoanRequest
asked_of_loan a (request.Loan b asked) = cond (is_same_loan a b) (Some asked) None
asked_of_loan a _ = None

-- what is told of a loan
abbrev pub told_in : Result Reply Fault → Option LoanReply
told_in (Ok (reply.Loan b told)) = Some told
told_in _ = None

-- the entry that a request makes on the business day, by the account that the loan has
abbrev pub entry_by : LoanRequest → Caller → Catalogue → DisbursedLoan → Option Entry
entry_by (Repay asked) c k a = Some (repayment asked c a)
entry_by (ChargeFee charge due) c k a = option_map (λ d. fee d due c k.day a) (charge_in k charge)
entry_by (Post asked) c k a = Some (posting asked c k.day a)
entry_by _ c k a = None

-- a request that was told that it entered something added that entry, and one told that it reversed an entry marked
-- that one
abbrev pub deed_told : LoanRequest → Caller → Catalogue → Option DisbursedLoan → LoanReply → Option Deed
deed_told asked c k account (Entered seq) = option_map Adds (option_and_then (entry_by asked c k) account)
deed_told asked c k account (Reversed seq) = Some (Marks seq)
deed_told asked c k account _ = None

-- what a call with this answer does to the entries of a loan
abbrev pub deed_of : Option Caller → Option LoanRequest → Catalogue → Option DisbursedLoan → Option LoanReply
    → Option Deed
deed_of (Some c) (Some asked) k account (Some told) = deed_told asked c k account told
deed_of _ _ k account told = None

-- what a line does to the entries of a loan
abbrev pub deed_by : Account → Line → Institution → Option Deed
deed_by a l i = deed_of l.call.caller (asked_of_loan a l.call.request) i.catalogue
    (account_of i.catalogue (ledger_at a i))
    (told_in (answer l i))

-- deeds with one before them, if there is one
abbrev pub with_deed : Option Deed → List Deed → List Deed
with_deed None ds = ds
with_deed (Some d) ds = d ∷ ds

-- what the lines of a run do to the entries of a loan, in order
abbrev pub deeds : Account → List Line → Institution → List Deed
deeds a [] i = []
deeds a (l ∷ ls) i = with_deed (deed_by a l i) (deeds a ls (next l i))

-- the entries that are added
abbrev pub added_by : List Deed → List Entry
added_by [] = []
added_by (Adds e ∷ ds) = e ∷ added_by ds
added_by (Marks seq ∷ ds) = added_by ds

-- the numbers of the entries that are reversed
abbrev pub reversed : List Deed → List ℕ
reversed [] = []
reversed (Adds e ∷ ds) = reversed ds
reversed (Marks seq ∷ ds) = seq ∷ reversed ds

-- the entries with the marks of these reversals
abbrev pub with_marks : List ℕ → List Entry → List Entry
with_marks [] es = es
with_marks (seq ∷ seqs) es = with_marks seqs (with_mark es (seq - 1) true)

-- the entries of a loan, none where it is not there
abbrev pub entries_of_ledger : Option Ledger → List Entry
entries_of_ledger None = []
entries_of_ledger (Some l) = l.entries

-- the entries of a loan; none where it is not there
abbrev pub entries_of_loan : Account → Institution → List Entry
entries_of_loan a i = entries_of_ledger (ledger_at a i)
