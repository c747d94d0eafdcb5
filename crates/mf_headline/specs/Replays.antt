-- What is shown of a loan after some lines of a run: the replay of its accepted entries.
use Rattle.std.specs.Prelude.{◌≡◌, ℕ, List, ◌++◌, Option, Some, None, Result, Ok, Err, ⊤}
use Rattle.mf_base.specs.declared.fault.Fault.{Fault}
use Rattle.mf_office.specs.declared.account.Account.{Account}
use Rattle.mf_model.specs.declared.reply.LoanReply.{LoanReply}
use Rattle.mf_model.specs.declared.reply.LoanReply.TheVariants as told
use Rattle.mf_model.specs.declared.reply.Reply.{Reply}
use Rattle.mf_model.specs.declared.reply.Reply.TheVariants as reply
use Rattle.mf_model.specs.declared.request.LoanRequest.{LoanRequest}
use Rattle.mf_model.specs.declared.request.LoanRequest.TheVariants.{Show, ShowInstalments, ShowEntries}
use Rattle.mf_model.specs.Accounts.{statement, instalments_in, entries_in}
use Rattle.mf_model.specs.Institution.{Institution, Catalogue, Ledger}
use Rattle.mf_model.specs.Run.{Line, last}
use Rattle.mf_model.specs.Store.{ledger_at}
use Rattle.mf_histories.specs.Histories.{deeds, added_by, reversed, with_marks, entries_of_loan}

-- a request that shows a loan, its instalments or its entries
abbrev pub IsReading : LoanRequest → Type 0
IsReading Show = ⊤
IsReading ShowInstalments = ⊤
IsReading ShowEntries = ⊤
IsReading _ = ⊥

-- what such a request is told of a loan, whose account is the replay of its entries over its fresh schedule
abbrev pub told_of : LoanRequest → Catalogue → Ledger → Option LoanReply
told_of Show k l = Some (told.Shown (statement k l))
told_of ShowInstalments k l = Some (told.Instalments (instalments_in k l))
told_of ShowEntries k l = Some (told.Entries (entries_in k l))
told_of _ k l = None

-- a loan with the entries that it had before some lines, and with what their accepted requests added and reversed
abbrev pub replayed : Account → List Line → Institution → Ledger → Ledger
replayed loan before i l = record l {
  entries = with_marks (reversed (deeds loan before i)) (entries_of_loan loan i ++ added_by (deeds loan before i));
}

-- a refusal, or what is told of the replayed loan
abbrev pub IsReplay : Account → LoanRequest → List Line → Institution → Result Reply Fault → Type 0
IsReplay loan asked before i (Err fault) = ⊤
IsReplay loan asked before i (Ok said) = (l : Ledger) × (told : LoanReply) × (ledger_at loan (last before i) ≡ Some l)
    × (told_of asked (last before i).catalogue (replayed loan before i l) ≡ Some told) × (said ≡ reply.Loan loan told)

-- the text is that of a refusal, or of what is told of the replayed loan
abbrev pub TextOfReplay : (Result Reply Fault → List ℕ) → Account → LoanRequest → List Line → Institution → List ℕ
    → Type 0
TextOfReplay shown loan asked before i text = (answer : Result Reply Fault) × IsReplay loan asked before i answer
    × (text ≡ shown answer)
