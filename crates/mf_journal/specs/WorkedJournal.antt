-- A morning of a new institution, and what the journal has of it.
use Rattle.std.specs.Prelude.{ℕ, Bool, true, false, List, [], ◌∷◌, ◌++◌, codes, Option, Ok}
use Rattle.mf_office.specs.declared.caller.Caller.{Caller}
use Rattle.mf_model.specs.Calls.{Received, Call}
use Rattle.mf_model.specs.declared.request.Request.{Request}
use Rattle.mf_model.specs.declared.reply.Reply.TheVariants.{ClientMade}
use Rattle.mf_model.specs.WorkedRows.{caller, account, enter_client, client_shown_request}
use Rattle.mf_model.specs.Run.{Line}
use Rattle.mf_model.specs.Institution.{JournalLine}
use Rattle.mf_journal.specs.Journal.{AcceptedWrite}

-- the text by which a client of office 1 is entered
abbrev pub text_of_client : List ℕ → Received
text_of_client name = record {
  told = codes "09:12 10.0.0.7";
  method = codes "POST";
  path = codes "/offices/1/clients";
  body = codes "{\"name\":\"" ++ (name ++ codes "\"}");
}

-- a client of office 1 is entered
abbrev pub call_for : Option Caller → List ℕ → Call
call_for caller name =
    record { caller = caller; request = enter_client 1 name; received = text_of_client name }

-- the first client of office 1 is asked for
abbrev pub call_to_read : Call
call_to_read = record {
  caller = caller 1 1;
  request = client_shown_request 1 1;
  received = record { told = []; method = codes "GET"; path = codes "/clients/0001-000001"; body = [] };
}

-- a line, and whether it is given up
abbrev pub sent : Bool → Call → Line
sent given_up call = record { call = call; given_up = given_up }

-- a client is entered and read; another is given up, and entered when it is sent again; an unknown caller is refused
abbrev pub morning : List Line
morning = sent false (call_for (caller 1 1) (codes "Amina"))
    ∷ sent false call_to_read
    ∷ sent true (call_for (caller 1 1) (codes "Carla"))
    ∷ sent false (call_for (caller 1 1) (codes "Carla"))
    ∷ sent false (call_for (caller 1 7) (codes "Dora"))
    ∷ []

-- the two that were entered
abbrev pub of_morning : ℕ → List AcceptedWrite
of_morning day =
    record {
      day = day;
      call = call_for (caller 1 1) (codes "Amina");
      told = Ok (ClientMade (account 1 1));
    } ∷ record {
      day = day;
      call = call_for (caller 1 1) (codes "Carla");
      told = Ok (ClientMade (account 1 2));
    } ∷ []

-- the line of the journal for one of them, which names the office and no loan
abbrev pub line_of_client : ℕ → List ℕ → JournalLine
line_of_client day name = record {
  day = day;
  office = 1;
  staff = 1;
  told = codes "09:12 10.0.0.7";
  method = codes "POST";
  path = codes "/offices/1/clients";
  body = codes "{\"name\":\"" ++ (name ++ codes "\"}");
  named_office = 1;
  named_loan = 0;
}

-- the lines of the two
abbrev pub lines_of_morning : ℕ → List JournalLine
lines_of_morning day = line_of_client day (codes "Amina") ∷ line_of_client day (codes "Carla") ∷ []
