use Rattle.std.proofs.Common.{◌≡◌, true, false, sym, ◌∙◌, rules}
use Rattle.std.specs.Prelude.{◌&&◌}
use Rattle.mf_lists_runs.specs.Choice.{is_listed_path}
use Rattle.mf_wire_requests.specs.RequestLine.{parts_now, is_token}
use Rattle.mf_lists_runs.proofs.Calling.{caller_is}
use Rattle.mf_lists_runs.proofs.answering.list_caller.Goals as goal

pub returns-then-not-is_listed : goal.returns-then-not-is_listed
returns-then-not-is_listed c =
    let p = parts_now c.args.parts.now in
    let e : (is_token p.method && is_listed_path p.path) ≡ false = search rules in
    sym (caller_is p false e)

pub returns : goal.returns
returns c =
    let p = parts_now c.args.parts.now in
    let e : (is_token p.method && is_listed_path p.path) ≡ true = search rules in
    c.parse.ensures.value ∙ sym (caller_is p true e)
