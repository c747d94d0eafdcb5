use Rattle.std.proofs.Common.{None, inr, sym, ◌∙◌}
use Rattle.mf_model.specs.declared.request.Flaw.TheVariants.{NoRoute, NoMethod}
use Rattle.mf_wire_requests.specs.PathParts.{parts_of_params}
use Rattle.mf_wire_requests.specs.Routes.{matched_route}
use Rattle.mf_wire_requests.specs.Requests.{request_at}
use Rattle.mf_wire_requests.proofs.Asking.{no_route, on_route, on_endpoint, no_parts, all_parts, parts_text, gives_ok}
use Rattle.mf_wire_requests.proofs.Asking.{gives_err, may_lack}
use Rattle.mf_wire_requests.proofs.request.read_request.Goals as goal

pub returns-in_default-clause-err : goal.returns-in_default-clause-err
returns-in_default-clause-err c = inr (
  NoRoute,
  c.fault.ensures,
  no_route c.args.method.now c.args.path.now
      c.args.body.now c.in_default.ensures.route,
)

pub returns-in_default-endpoint_of-clause-err : goal.returns-in_default-endpoint_of-clause-err
returns-in_default-endpoint_of-clause-err c =
    inr (
      NoMethod,
      c.fault-in_default-endpoint_of.ensures,
      on_route c.args.method.now c.args.path.now c.args.body.now
          (matched_route c.in-Some.found) c.method_of.result None c.in-Some.ensures.route c.method_of.ensures
          c.in_default-endpoint_of.ensures,
    )

pub returns-then-not-is_ascii_path-clause-ok : goal.returns-then-not-is_ascii_path-clause-ok
returns-then-not-is_ascii_path-clause-ok c =
    gives_ok c.args.body.now (request_at c.in-Some-endpoint_of.endpoint (parts_of_params c.new.result) c.args.body.now)
    c.request_at.result _
    (on_endpoint c.args.method.now c.args.path.now c.args.body.now (matched_route c.in-Some.found) c.method_of.result
    c.in-Some-endpoint_of.endpoint (parts_of_params c.new.result) c.in-Some.ensures.route c.method_of.ensures
    c.in-Some-endpoint_of.ensures
    (no_parts (matched_route c.in-Some.found) c.args.path.now c.new.result (sym c.is_ascii_path.ensures
    ∙ c.if-not-is_ascii_path.true) c.new.ensures.names)) c.request_at.ensures.value

pub returns-then-not-is_ascii_path-clause-err : goal.returns-then-not-is_ascii_path-clause-err
returns-then-not-is_ascii_path-clause-err c =
    gives_err c.args.body.now (request_at c.in-Some-endpoint_of.endpoint (parts_of_params c.new.result) c.args.body.now)
    c.request_at.result _
    (on_endpoint c.args.method.now c.args.path.now c.args.body.now (matched_route c.in-Some.found) c.method_of.result
    c.in-Some-endpoint_of.endpoint (parts_of_params c.new.result) c.in-Some.ensures.route c.method_of.ensures
    c.in-Some-endpoint_of.ensures
    (no_parts (matched_route c.in-Some.found) c.args.path.now c.new.result (sym c.is_ascii_path.ensures
    ∙ c.if-not-is_ascii_path.true) c.new.ensures.names)) c.request_at.ensures.value

pub request_at-requires-2 : goal.request_at-requires-2
request_at-requires-2 c = parts_text c.in-Some.found c.args.path.now (sym c.is_ascii_path.ensures
    ∙ c.if-not-is_ascii_path.false) c.in-Some.ensures.path c.in-Some.ensures.route

pub returns-clause-ok : goal.returns-clause-ok
returns-clause-ok c =
    gives_ok c.args.body.now
    (request_at c.in-Some-endpoint_of.endpoint (parts_of_params c.in-Some.found.params) c.args.body.now)
    c.request_at-2.result _
    (on_endpoint c.args.method.now c.args.path.now c.args.body.now (matched_route c.in-Some.found) c.method_of.result
    c.in-Some-endpoint_of.endpoint (parts_of_params c.in-Some.found.params) c.in-Some.ensures.route
    c.method_of.ensures c.in-Some-endpoint_of.ensures
    (all_parts c.in-Some.found c.args.path.now (sym c.is_ascii_path.ensures ∙ c.if-not-is_ascii_path.false)
    c.in-Some.ensures.path)) c.request_at-2.ensures.value

pub returns-clause-err : goal.returns-clause-err
returns-clause-err c =
    gives_err c.args.body.now
    (request_at c.in-Some-endpoint_of.endpoint (parts_of_params c.in-Some.found.params) c.args.body.now)
    c.request_at-2.result _
    (on_endpoint c.args.method.now c.args.path.now c.args.body.now (matched_route c.in-Some.found) c.method_of.result
    c.in-Some-endpoint_of.endpoint (parts_of_params c.in-Some.found.params) c.in-Some.ensures.route
    c.method_of.ensures c.in-Some-endpoint_of.ensures
    (all_parts c.in-Some.found c.args.path.now (sym c.is_ascii_path.ensures ∙ c.if-not-is_ascii_path.false)
    c.in-Some.ensures.path)) c.request_at-2.ensures.value

pub returns-then-not-is_ascii_path-clause-memory : goal.returns-then-not-is_ascii_path-clause-memory
returns-then-not-is_ascii_path-clause-memory c =
    may_lack c.args.method.now c.args.path.now c.args.body.now (matched_route c.in-Some.found) c.method_of.result
    c.in-Some-endpoint_of.endpoint
    (request_at c.in-Some-endpoint_of.endpoint (parts_of_params c.new.result) c.args.body.now) c.request_at.result
    c.in-Some.ensures.route c.method_of.ensures c.in-Some-endpoint_of.ensures c.request_at.ensures.value
    c.request_at.ensures.memory

pub returns-clause-memory : goal.returns-clause-memory
returns-clause-memory c =
    may_lack c.args.method.now c.args.path.now c.args.body.now (matched_route c.in-Some.found) c.method_of.result
    c.in-Some-endpoint_of.endpoint
    (request_at c.in-Some-endpoint_of.endpoint (parts_of_params c.in-Some.found.params) c.args.body.now)
    c.request_at-2.result c.in-Some.ensures.route c.method_of.ensures c.in-Some-endpoint_of.ensures
    c.request_at-2.ensures.value c.request_at-2.ensures.memory
