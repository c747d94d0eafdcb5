-- What the bodies of requests on offices, staff and clients ask.
use Rattle.std.specs.Prelude.{codes, Option, option_map, option_and_then}
use Rattle.serde_json.specs.Data.{Data}
use Rattle.mf_model.specs.declared.request.Request.{Request}
use Rattle.mf_model.specs.declared.request.OfficeRequest.TheVariants.{AddStaff, AddClient, ShowClient}
use Rattle.mf_model.specs.declared.request.Request.TheVariants.{Office, NewOffice}
use Rattle.mf_wire_requests.specs.Bodies.{name_at, office_number_at}
use Rattle.mf_wire_requests.specs.Named.{role_at}
use Rattle.mf_wire_requests.specs.PathParts.{PathParts, account_number_in}

-- a new office, by the members number, parent and name
abbrev pub new_office_request : Data → Option Request
new_office_request d =
    option_and_then (λ number.
    option_and_then (λ parent.
    option_map (λ name. NewOffice number parent name) (name_at (codes "name") d))
    (office_number_at (codes "parent") d))
    (office_number_at (codes "number") d)

-- a new member of staff, by the members office, name and role
abbrev pub new_staff_request : Data → Option Request
new_staff_request d =
    option_and_then (λ office.
    option_and_then (λ role.
    option_map (λ name. Office office (AddStaff name role)) (name_at (codes "name") d))
    (role_at (codes "role") d))
    (office_number_at (codes "office") d)

-- a new client, by the members office and name
abbrev pub new_client_request : Data → Option Request
new_client_request d = option_and_then (λ office. option_map (λ name. Office office (AddClient name))
    (name_at (codes "name") d)) (office_number_at (codes "office") d)

-- the client that a path names
abbrev pub client_request : PathParts → Option Request
client_request parts = option_map (λ client. Office client.office (ShowClient client.number))
    (account_number_in (codes "client") parts)
