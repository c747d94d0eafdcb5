-- A morning of a new institution, as its journal tells it: how it plays, and lines that stop.
use Rattle.std.specs.Prelude.{ℕ, suc, List, [], ◌∷◌, ◌++◌, codes, Some}
use Rattle.mf_office.specs.declared.staff.Role.TheVariants.{Manager}
use Rattle.mf_model.specs.Institution.{Institution, JournalLine, Rows, newly_made, with_rows}
use Rattle.mf_journal.specs.Journal.{with_other_journal}
use Rattle.mf_play.specs.declared.stop.Stop.{Stop}
use Rattle.mf_play.specs.declared.stop.Stop.TheVariants.{NoRequest, OtherDay, Refused, ChangesNothing, NamesOther}

-- a new institution on a day, which keeps a journal
abbrev pub opened : ℕ → Institution
opened day = with_other_journal (Some []) (newly_made day)

-- the line by which the manager of the head office enters a client of it
abbrev pub client_line : ℕ → List ℕ → JournalLine
client_line day name = record {
  day = day;
  office = 1;
  staff = 1;
  told = codes "09:12 10.0.0.7";
  method = codes "POST";
  path = codes "/clients";
  body = codes "{\"office\":1,\"name\":\"" ++ (name ++ codes "\"}");
  named_office = 1;
  named_loan = 0;
}

-- a line that asks for the first client, which no journal has
abbrev pub shown_line : ℕ → JournalLine
shown_line day = record (client_line day []) {
  method = codes "GET";
  path = codes "/clients/0001-000001";
  body = [];
  named_office = 0;
}

-- two clients are entered
abbrev pub morning : ℕ → List JournalLine
morning day = client_line day (codes "Amina") ∷ client_line day (codes "Carla") ∷ []

-- the rows of the head office with these two
abbrev pub rows_after : Rows
rows_after = record {
  staff = record { name = codes "Head Manager"; role = Manager } ∷ [];
  clients = codes "Amina" ∷ codes "Carla" ∷ [];
  loans = [];
}

-- the institution after the morning
abbrev pub after_morning : ℕ → Institution
after_morning day = record (opened day) {
  offices = with_rows 1 rows_after (opened day).offices;
  journal = Some (morning day);
}

-- lines that don't play as the second of the morning, and why
abbrev pub stopping : ℕ → List (JournalLine × Stop)
stopping day =
    (record (client_line day (codes "Carla")) { path = codes "/client" }, NoRequest)
    ∷ (client_line (suc day) (codes "Carla"), OtherDay)
    ∷ (record (client_line day (codes "Carla")) { staff = 7 }, Refused)
    ∷ (shown_line day, ChangesNothing)
    ∷ (record (client_line day (codes "Carla")) { named_loan = 1 }, NamesOther)
    ∷ []

-- the morning with this as its second line
abbrev pub morning_with : ℕ → JournalLine → List JournalLine
morning_with day line = client_line day (codes "Amina") ∷ line ∷ []
