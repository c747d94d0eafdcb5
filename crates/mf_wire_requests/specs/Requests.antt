-- What a request asks.
use Rattle.std.specs.Prelude.{◌≡◌, ◌<◌, ℕ, Bool, true, false, ◌&&◌, cond, List, codes, is_some, nat_le, length, Option}
use Rattle.std.specs.Prelude.{Some, None, option_map, option_and_then}
use Rattle.std.specs.Str.{bytes_eq}
use Rattle.mf_office.specs.Texts.{caller_of}
use Rattle.mf_model.specs.declared.request.CatalogueRequest.TheVariants as catalogue
use Rattle.mf_model.specs.declared.request.Flaw.TheVariants.{Malformed, NoRoute, NoMethod}
use Rattle.mf_model.specs.declared.request.Request.{Request}
use Rattle.mf_model.specs.declared.request.Request.TheVariants.{Unreadable, Catalogue, SeenOffices, SeenArrears}
use Rattle.mf_model.specs.Calls.{Received, Call, nothing_received}
use Rattle.mf_wire_requests.specs.declared.routes.Endpoint.{Endpoint}
use Rattle.mf_wire_requests.specs.declared.routes.Endpoint.TheVariants.{ShowDay, SetDay, AddCharge, ShowCharge}
use Rattle.mf_wire_requests.specs.declared.routes.Endpoint.TheVariants.{AddProduct, ShowProduct, RetireProduct}
use Rattle.mf_wire_requests.specs.declared.routes.Endpoint.TheVariants.{ListOffices, AddOffice, AddStaff, AddClient}
use Rattle.mf_wire_requests.specs.declared.routes.Endpoint.TheVariants.{ShowClient, SubmitLoan, ListLoans, ShowArrears}
use Rattle.mf_wire_requests.specs.declared.routes.Endpoint.TheVariants.{OnLoan}
use Rattle.mf_wire_requests.specs.declared.routes.Methods.{Methods}
use Rattle.mf_wire_requests.specs.declared.routes.Methods.TheVariants.{Get, Post, GetAndPost, GetAndPut}
use Rattle.mf_wire_requests.specs.declared.request.Method.{Method}
use Rattle.mf_wire_requests.specs.declared.request.Method.TheVariants as method
use Rattle.mf_wire_lines.specs.Cut.{longest_line}
use Rattle.mf_wire_requests.specs.RequestLine.{Parts, parts_in, line_in, split_space, is_token}
use Rattle.mf_wire_requests.specs.PathParts.{PathParts, number_in}
use Rattle.matchit.specs.Router.{RouteOf}
use Rattle.mf_wire_requests.specs.Routes.{route_at, parts_on}
use Rattle.mf_wire_requests.specs.Bodies.{json_of}
use Rattle.mf_wire_requests.specs.OfficeRequests.{new_office_request, new_staff_request, new_client_request}
use Rattle.mf_wire_requests.specs.OfficeRequests.{client_request}
use Rattle.mf_wire_requests.specs.CatalogueRequests.{day_request, new_charge_request}
use Rattle.mf_wire_requests.specs.ProductRequests.{new_product_request}
use Rattle.mf_wire_requests.specs.LoanRequests.{new_loan_request, loans_request, loan_has_members, request_on_loan}

-- a method by its text, which is in capitals
abbrev pub method_of : List ℕ → Method
method_of text = cond (bytes_eq text (codes "GET")) method.Get (cond (bytes_eq text (codes "POST")) method.Post
    (cond (bytes_eq text (codes "PUT")) method.Put method.Other))

-- what a method of a path asks, if the path has it
abbrev pub endpoint_of : Methods → Method → Option Endpoint
endpoint_of (Get get) method.Get = Some get
endpoint_of (Post post) method.Post = Some post
endpoint_of (GetAndPost get post) method.Get = Some get
endpoint_of (GetAndPost get post) method.Post = Some post
endpoint_of (GetAndPut get put) method.Get = Some get
endpoint_of (GetAndPut get put) method.Put = Some put
endpoint_of _ _ = None

-- what an endpoint asks has members, which stand in the body
abbrev pub has_members : Endpoint → Bool
has_members ShowDay = false
has_members SetDay = true
has_members AddCharge = true
has_members ShowCharge = false
has_members AddProduct = true
has_members ShowProduct = false
has_members RetireProduct = false
has_members ListOffices = false
has_members AddOffice = true
has_members AddStaff = true
has_members AddClient = true
has_members ShowClient = false
has_members SubmitLoan = true
has_members ListLoans = false
has_members ShowArrears = false
has_members (OnLoan endpoint) = loan_has_members endpoint

-- what an endpoint asks, by the parameters of the path and the members of the body
abbrev pub request_at : Endpoint → PathParts → List ℕ → Option Request
request_at ShowDay parts body = Some (Catalogue catalogue.ShowDay)
request_at SetDay parts body = option_and_then day_request (json_of body)
request_at AddCharge parts body = option_and_then new_charge_request (json_of body)
request_at ShowCharge parts body =
    option_map (λ charge. Catalogue (catalogue.ShowCharge charge)) (number_in (codes "charge") parts)
request_at AddProduct parts body = option_and_then new_product_request (json_of body)
request_at ShowProduct parts body =
    option_map (λ product. Catalogue (catalogue.ShowProduct product)) (number_in (codes "product") parts)
request_at RetireProduct parts body = option_map (λ product. Catalogue (catalogue.RetireProduct product))
    (number_in (codes "product") parts)
request_at ListOffices parts body = Some SeenOffices
request_at AddOffice parts body = option_and_then new_office_request (json_of body)
request_at AddStaff parts body = option_and_then new_staff_request (json_of body)
request_at AddClient parts body = option_and_then new_client_request (json_of body)
request_at ShowClient parts body = client_request parts
request_at SubmitLoan parts body = option_and_then new_loan_request (json_of body)
request_at ListLoans parts body = loans_request parts
request_at ShowArrears parts body = Some SeenArrears
request_at (OnLoan endpoint) parts body = request_on_loan endpoint parts body

-- a request, or that there is none to read
abbrev pub or_malformed : Option Request → Request
or_malformed None = Unreadable Malformed
or_malformed (Some request) = request

-- what is asked at an endpoint, or that the route has no such method
abbrev pub asked_at : Option Endpoint → PathParts → List ℕ → Request
asked_at None parts body = Unreadable NoMethod
asked_at (Some endpoint) parts body = or_malformed (request_at endpoint parts body)

-- what is asked on a route, or that there is no such route
abbrev pub asked_on : Option (RouteOf Methods) → List ℕ → List ℕ → List ℕ → Request
asked_on None method path body = Unreadable NoRoute
asked_on (Some route) method path body =
    asked_at (endpoint_of route.value (method_of method)) (parts_on route path) body

-- What a method, a path and a body ask: the route is looked for first, then its method, then the path's numbers and the
-- members.
unfoldable pub request_of : List ℕ → List ℕ → List ℕ → Request
request_of method path body = asked_on (route_at path) method path body

-- Where memory may be wanting to read a request: its route has the method, what that asks has members, and there is a
-- body to read them from. It takes memory to read the body as JSON, and to copy the texts in it.
pub record MayLackMemory (method path body : List ℕ) : Type 0 where
  pub route : RouteOf Methods
  pub on_route : route_at path ≡ Some route
  pub endpoint : Endpoint
  pub asked : endpoint_of route.value (method_of method) ≡ Some endpoint
  pub members : has_members endpoint ≡ true
  pub some : 0 < length body

-- the same of a caller's text, which is looked at first, as the method is
abbrev pub asked_by : List ℕ → List ℕ → List ℕ → List ℕ → Request
asked_by caller method path body = cond (is_some (caller_of caller) && is_token method) (request_of method path body)
    (Unreadable Malformed)

-- the text of a request in its parts
abbrev pub received_in_parts : Parts → Received
received_in_parts p = record { told = p.told; method = p.method; path = p.path; body = p.body }

-- a call in its parts
abbrev pub call_of_parts : Parts → Call
call_of_parts p = record {
  caller = caller_of p.caller;
  request = asked_by p.caller p.method p.path p.body;
  received = received_in_parts p;
}

-- what the parts of a request ask for
abbrev pub asked_in : Option Parts → Request
asked_in None = Unreadable Malformed
asked_in (Some p) = asked_by p.caller p.method p.path p.body

-- the text of a request in its parts, if it has them
abbrev pub received_in : Option Parts → Received
received_in None = nothing_received
received_in (Some p) = received_in_parts p

-- the call of a request that this caller's text sends, in its parts; without them it asks nothing
abbrev pub call_by_parts : List ℕ → Option Parts → Call
call_by_parts caller parts = record {
  caller = caller_of caller;
  request = asked_in parts;
  received = received_in parts;
}

-- Who sends a request line, by the text before its first space, and what it asks, where its first word may be told of
-- the line behind it. A line of over 65,536 bytes asks nothing, and so does one whose first word may not be told.
abbrev pub call_in : Bool → List ℕ → Call
call_in told line = record {
  caller = option_and_then (λ p. caller_of p.0) (split_space (line_in told line));
  request = cond (nat_le (length line) longest_line) (asked_in (parts_in told line)) (Unreadable Malformed);
  received = received_in (parts_in told line);
}

-- the same of a line of which nothing is told
abbrev pub call_of : List ℕ → Call
call_of line = call_in false line
