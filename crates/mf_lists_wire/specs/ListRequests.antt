-- What a request asks of the lists.
use Rattle.std.specs.Prelude.{◌≡◌, ◌<◌, ℕ, true, codes, cond, List, length, Option, Some, None, option_map}
use Rattle.std.specs.Prelude.{option_and_then, Result, Ok, Err}
use Rattle.serde_json.specs.Data.{Data}
use Rattle.mf_base.specs.Digits.{number_of_digits}
use Rattle.mf_base.specs.declared.fault.Fault.{Fault}
use Rattle.mf_base.specs.declared.fault.Fault.TheVariants.{F1, F5, F6}
use Rattle.mf_catalog.specs.Limits.{most_periods}
use Rattle.mf_office.specs.Texts.{account_of}
use Rattle.mf_wire_requests.specs.Bodies.{day_named, json_of, name_at, office_number_at}
use Rattle.mf_lists.specs.declared.request.ListAsked.TheVariants as asked
use Rattle.mf_lists.specs.declared.request.ListRequest.{ListRequest}
use Rattle.mf_lists.specs.declared.request.ListRequest.TheVariants as request
use Rattle.mf_lists_wire.specs.declared.routes.ListEndpoint.{ListEndpoint}
use Rattle.mf_lists_wire.specs.declared.routes.ListEndpoint.TheVariants.{Clients, LoansOf, DueBy, AtStatus, StaffOf}
use Rattle.mf_lists_wire.specs.declared.routes.ListEndpoint.TheVariants.{Preview, ChangesOf, Changes, TakingsOn, Find}
use Rattle.mf_lists_wire.specs.ListRoutes.{has_method, list_route}
use Rattle.mf_lists_wire.specs.Paths.{principal_written, number_between, two_parts, three_parts, four_parts}

-- after a number of at most 999,999
abbrev pub after_number : List ℕ → Option ℕ
after_number text = number_between 0 999999 text

-- the clients of an office, after a number
abbrev pub clients_request : List ℕ → Option ListRequest
clients_request params =
    option_and_then (λ p.
    option_and_then (λ office.
    option_map (λ after. request.OfOffice office (asked.Clients after)) (after_number p.1))
    (number_of_digits p.0))
    (two_parts params)

-- the loans of a client
abbrev pub client_loans_request : List ℕ → Option ListRequest
client_loans_request params =
    option_map (λ client. request.OfOffice client.office (asked.LoansOf client.number)) (account_of params)

-- what is due of an office by a day, after a loan
abbrev pub due_request : List ℕ → Option ListRequest
due_request params =
    option_and_then (λ p.
    option_and_then (λ office.
    option_and_then (λ day.
    option_map (λ after. request.OfOffice office (asked.DueBy day after)) (after_number p.1.1))
    (day_named p.1.0))
    (number_of_digits p.0))
    (three_parts params)

-- the loans of an office of a status, after one
abbrev pub stages_request : List ℕ → Option ListRequest
stages_request params =
    option_and_then (λ p.
    option_and_then (λ office.
    option_and_then (λ status.
    option_map (λ after. request.OfOffice office (asked.AtStatus status after)) (after_number p.1.1))
    (number_of_digits p.1.0))
    (number_of_digits p.0))
    (three_parts params)

-- the staff of an office
abbrev pub staff_request : List ℕ → Option ListRequest
staff_request params = option_map (λ office. request.OfOffice office asked.StaffOf) (number_of_digits params)

-- what a loan would be, by product, principal, periods and day
abbrev pub preview_request : List ℕ → Option ListRequest
preview_request params =
    option_and_then (λ p.
    option_and_then (λ product.
    option_and_then (λ principal.
    option_and_then (λ periods.
    option_map (λ day. request.Preview product principal periods day) (day_named p.1.1))
    (number_between 1 most_periods p.1.0))
    (principal_written p.0.1))
    (number_of_digits p.0.0))
    (four_parts params)

-- what the journal tells of a loan
abbrev pub loan_changes_request : List ℕ → Option ListRequest
loan_changes_request params =
    option_map (λ loan. request.OfOffice loan.office (asked.ChangesOf loan.number)) (account_of params)

-- a place in the journal of an office, of up to 9 digits
abbrev pub after_place : List ℕ → Option ℕ
after_place text = number_between 0 999999999 text

-- what the journal tells of an office, after a place
abbrev pub changes_request : List ℕ → Option ListRequest
changes_request params =
    option_and_then (λ p.
    option_and_then (λ office.
    option_map (λ after. request.OfOffice office (asked.Changes after)) (after_place p.1))
    (number_of_digits p.0))
    (two_parts params)

-- the takings of an office on a day
abbrev pub takings_request : List ℕ → Option ListRequest
takings_request params =
    option_and_then (λ p.
    option_and_then (λ office.
    option_map (λ day. request.OfOffice office (asked.TakingsOn day)) (day_named p.1))
    (number_of_digits p.0))
    (two_parts params)

-- clients that are found, by the members office and part
abbrev pub find_request : Data → Option ListRequest
find_request d =
    option_and_then (λ office.
    option_map (λ part. request.OfOffice office (asked.Find part)) (name_at (codes "part") d))
    (office_number_at (codes "office") d)

-- what the parameters of a path ask
abbrev pub request_in_path : ListEndpoint → List ℕ → Option ListRequest
request_in_path Clients params = clients_request params
request_in_path LoansOf params = client_loans_request params
request_in_path DueBy params = due_request params
request_in_path AtStatus params = stages_request params
request_in_path StaffOf params = staff_request params
request_in_path Preview params = preview_request params
request_in_path ChangesOf params = loan_changes_request params
request_in_path Changes params = changes_request params
request_in_path TakingsOn params = takings_request params
request_in_path Find params = None

-- what is asked on a route, by the parameters of the path, or by the body where it is find
abbrev pub list_request_at : ListEndpoint → List ℕ → List ℕ → Option ListRequest
list_request_at Find params body = option_and_then find_request (json_of body)
list_request_at endpoint params body = request_in_path endpoint params

-- a request, or F1 where there is none to read
abbrev pub or_unreadable : Option ListRequest → Result ListRequest Fault
or_unreadable None = Err F1
or_unreadable (Some request) = Ok request

-- what is asked on a route by a method; F6 where it has no such method
abbrev pub request_by : List ℕ → List ℕ → ListEndpoint × List ℕ → Result ListRequest Fault
request_by method body route =
    cond (has_method route.0 method) (or_unreadable (list_request_at route.0 route.1 body)) (Err F6)

-- the same where there is a route; F5 where there is none
abbrev pub request_on : List ℕ → List ℕ → Option (ListEndpoint × List ℕ) → Result ListRequest Fault
request_on method body None = Err F5
request_on method body (Some route) = request_by method body route

-- What a method, a path and a body ask: the route is looked for first, then its method, then what the parameters or the
-- body say.
abbrev pub list_request_of : List ℕ → List ℕ → List ℕ → Result ListRequest Fault
list_request_of method path body = request_on method body (list_route path)

-- Where memory may be wanting to read a request: it looks for clients, by the method of that route, and there is a body
-- to read from.
abbrev pub MayLackMemory : List ℕ → List ℕ → List ℕ → Type 0
MayLackMemory method path body = (params : List ℕ) × (list_route path ≡ Some (Find, params))
    × (has_method Find method ≡ true) × (0 < length body)
