-- What is asked of offices, their staff and their clients.
use Rattle.std.specs.Prelude.{ℕ, List, [], ◌∷◌, ◌++◌, map, length, Option, Some, None, Result, Ok}
use Rattle.mf_base.specs.declared.fault.Fault.{Fault}
use Rattle.mf_office.specs.declared.staff.Role.{Role}
use Rattle.mf_office.specs.declared.office.Office.{Office as OfficeShown}
use Rattle.mf_model.specs.declared.reply.Reply.{Reply}
use Rattle.mf_model.specs.declared.reply.Reply.TheVariants.{Offices, StaffMade, ClientMade, ClientShown}
use Rattle.mf_model.specs.Institution.{Catalogue, Office, Rows, item_numbered}
use Rattle.mf_model.specs.Outcomes.{next_of, with_value, with_found}

-- an office as a reply shows it
abbrev pub office_shown : Office → OfficeShown
office_shown f = record { number = f.number; parent = f.parent; name = f.name }

-- the offices that the caller sees, by number
abbrev pub list_offices : Catalogue → List Office → Result Reply Fault
list_offices k fs = Ok (Offices (map office_shown fs))

-- the rows with one more member of staff
abbrev pub staff_added : List ℕ → Role → Rows → Rows
staff_added name role rows = record rows { staff = rows.staff ++ record { name = name; role = role } ∷ [] }

-- a new member of staff, of at most 9,999 in an office
abbrev pub add_staff : ℕ → List ℕ → Role → Rows → Result (Reply × Option Rows) Fault
add_staff office name role rows = with_value (next_of (length rows.staff) 9999)
    (λ n. (StaffMade (record { office = office; staff = n }), Some (staff_added name role rows)))

-- the rows with one more client
abbrev pub client_added : List ℕ → Rows → Rows
client_added name rows = record rows { clients = rows.clients ++ name ∷ [] }

-- a new client, of at most 999,999 in an office
abbrev pub add_client : ℕ → List ℕ → Rows → Result (Reply × Option Rows) Fault
add_client office name rows = with_value (next_of (length rows.clients) 999999)
    (λ n. (ClientMade (record { office = office; number = n }), Some (client_added name rows)))

-- a client's name
abbrev pub show_client : ℕ → ℕ → Rows → Result (Reply × Option Rows) Fault
show_client office n rows = with_found (item_numbered rows.clients n)
    (λ name. (ClientShown (record { office = office; number = n }) name, None))
