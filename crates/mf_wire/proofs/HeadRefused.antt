-- HEAD is a method of no route.
use Rattle.std.proofs.Common.{◌≡◌, Bool, true, false, cond, List, ℕ, Option, Some, None, refl, ap, ◌∙◌}
use Rattle.std.specs.Prelude.{◌&&◌, is_some, codes, option_and_then}
use Rattle.std.proofs.lemmas.Slice.Eq.{bytes_eq-Decides}
use Rattle.matchit.specs.Router.{RouteOf}
use Rattle.mf_model.specs.declared.request.Flaw.{Flaw}
use Rattle.mf_model.specs.declared.request.Flaw.TheVariants.{Malformed, NoRoute, NoMethod}
use Rattle.mf_model.specs.declared.request.Request.{Request}
use Rattle.mf_model.specs.declared.request.Request.TheVariants.{Unreadable}
use Rattle.mf_office.specs.Texts.{caller_of}
use Rattle.mf_wire_messages.specs.Messages.{is_head, Message}
use Rattle.mf_wire_requests.specs.declared.routes.Endpoint.{Endpoint}
use Rattle.mf_wire_requests.specs.declared.routes.Methods.{Methods}
use Rattle.mf_wire_requests.specs.declared.routes.Methods.TheVariants.{Get, Post, GetAndPost, GetAndPut}
use Rattle.mf_wire_requests.specs.declared.request.Method.TheVariants.{Other}
use Rattle.mf_wire_requests.specs.RequestLine.{is_token, fit_line}
use Rattle.mf_wire_requests.specs.Requests.{method_of, endpoint_of, asked_at, asked_on, request_of}
use Rattle.mf_wire_requests.specs.Requests.{asked_by, asked_in}
use Rattle.mf_wire_lines.specs.Told.{may_be_told}
use Rattle.mf_wire_requests.specs.Routes.{route_at, parts_on}
use Rattle.mf_wire.specs.Serving.{parts_of_message, if_noted, message_parts, call_of_message}

-- what reads as no request
abbrev IsUnreadable : Request → Type 0
IsUnreadable request = (flaw : Flaw) × (request ≡ Unreadable flaw)

is_other : (method : List ℕ) → is_head method ≡ true → method_of method ≡ Other
is_other method e = ap method_of ((bytes_eq-Decides method (codes "HEAD")).0 e)

no_endpoint : (methods : Methods) → endpoint_of methods Other ≡ None
no_endpoint (Get get) = refl
no_endpoint (Post post) = refl
no_endpoint (GetAndPost get post) = refl
no_endpoint (GetAndPut get put) = refl

on_no_route : (route : Option (RouteOf Methods)) (method path body : List ℕ) → method_of method ≡ Other
    → IsUnreadable (asked_on route method path body)
on_no_route None method path body e = (NoRoute, refl)
on_no_route (Some route) method path body e = (
  NoMethod,
  ap (λ (endpoint : Option Endpoint).
      asked_at endpoint (parts_on route path) body) (ap (endpoint_of route.value) e ∙ no_endpoint route.value),
)

asked_of_head : (method path body : List ℕ) → method_of method ≡ Other → IsUnreadable (request_of method path body)
unfolding request_of
asked_of_head method path body e = on_no_route (route_at path) method path body e

either : (sent : Bool) (request : Request) → IsUnreadable request
    → IsUnreadable (cond sent request (Unreadable Malformed))
either true request h = h
either false request h = (Malformed, refl)

pub head_refused : (told : Bool) (message : Message) → is_head message.method ≡ true → (flaw : Flaw)
    × ((call_of_message told (Some message)).request ≡ Unreadable flaw)
head_refused told message e = by told
  where
    whole : IsUnreadable (asked_by message.staff message.method message.target message.body)
    whole = either (is_some (caller_of message.staff) && is_token message.method)
        (request_of message.method message.target message.body)
        (asked_of_head message.method message.target message.body (is_other message.method e))

    noted : (text : List ℕ) (b : Bool)
        → IsUnreadable (asked_in (cond b (Some (parts_of_message text message)) None))
    noted text true = whole
    noted text false = (Malformed, refl)

    said : (o : Option (List ℕ))
        → IsUnreadable (asked_in (option_and_then (λ text. if_noted (parts_of_message text message)) o))
    said None = (Malformed, refl)
    said (Some text) = noted text (may_be_told text && fit_line (parts_of_message text message))

    by : (t : Bool) → IsUnreadable (asked_in (message_parts t message))
    by false = whole
    by true = said message.told
