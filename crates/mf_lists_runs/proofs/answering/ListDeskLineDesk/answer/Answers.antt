use Rattle.std.proofs.Common.{◌≡◌, true, false, nat_le, length, Some, None, refl, sym, ap, ◌∙◌, subst, rules}
use Rattle.std.specs.Prelude.{is_some, cond}
use Rattle.std.proofs.lemmas.Bool.{le-leb}
use Rattle.mf_model.specs.Calls.{Call}
use Rattle.mf_model.specs.declared.request.Flaw.TheVariants.{Malformed}
use Rattle.mf_office.specs.Texts.{caller_of}
use Rattle.mf_wire_lines.specs.Cut.{longest_line}
use Rattle.mf_wire_lines.specs.Replies.{reply_line_of}
use Rattle.mf_wire_requests.specs.RequestLine.{parts_now, parts_in}
use Rattle.mf_wire_requests.specs.Requests.{call_in, call_of_parts}
use Rattle.mf_wire.proofs.Calling.{line_call, told_malformed, without_parts}
use Rattle.mf_lists_runs.specs.Choice.{asks_list, choice_if, is_no_route, told_line}
use Rattle.mf_lists_runs.specs.Runs.{CallsWith}
use Rattle.mf_lists_runs.proofs.Calling.{asks_nothing, asks_where, none_asked, other_flaw, plain_calls, some_asked}
use Rattle.mf_lists_runs.proofs.answering.ListDeskLineDesk.answer.Goals as goal

pub returns-in_default-clause-step : goal.returns-in_default-clause-step
returns-in_default-clause-step g c =
    let none : is_some c.args.self.now.lists ≡ false = search rules in
    plain_calls g.S.InstitutionStore (choice_if g.L.Lists.folded (is_some c.args.self.now.lists))
    (λ t. reply_line_of c.answer.result ≡ told_line t) (call_in c.args.self.now.desk.told c.args.line.now) _ _
    (asks_nothing g.L.Lists.folded (is_some c.args.self.now.lists) _ none) c.answer.ensures.step

pub returns-in_default-parts_in-clause-step : goal.returns-in_default-parts_in-clause-step
returns-in_default-parts_in-clause-step g c =
    let told = c.args.self.now.desk.told in
    let line = c.args.line.now in
    let parts : parts_in told line ≡ None = search rules in
    let unread = without_parts told line parts in
    let choice = choice_if g.L.Lists.folded (is_some c.args.self.now.lists) in
    plain_calls g.S.InstitutionStore choice _ (call_in told line) _ _
    (asks_where choice (call_in told line) (other_flaw (call_in told line) (ap is_no_route unread)))
    (told_malformed g.S.InstitutionStore _ (call_in told line) _ Malformed unread refl)

pub returns-in-Some-list_caller-clause-step : goal.returns-in-Some-list_caller-clause-step
returns-in-Some-list_caller-clause-step g c =
    let told = c.args.self.now.desk.told in
    let line = c.args.line.now in
    let p = parts_now c.in-Some-parts_in.parts in
    let parts : parts_in told line ≡ Some p = search rules in
    let short : nat_le (length line) longest_line ≡ true = le-leb (length line) longest_line c.requires in
    let there : is_some c.args.self.now.lists ≡ true = search rules in
    let who : cond (asks_list (call_of_parts p)) (caller_of p.caller) None ≡ Some c.in-Some-list_caller.caller =
    search rules in
    let asked = some_asked (call_of_parts p) c.in-Some-list_caller.caller who in
    subst (λ b. CallsWith g.S.InstitutionStore (choice_if g.L.Lists.folded b)
    (λ t. reply_line_of c.answer_list_line.result ≡ told_line t) (call_in told line) c.args.state.now
    c.answer_list_line.new.store) (sym there)
    (subst (λ (call : Call). CallsWith g.S.InstitutionStore (Some g.L.Lists.folded)
    (λ t. reply_line_of c.answer_list_line.result ≡ told_line t) call c.args.state.now c.answer_list_line.new.store)
    (sym (line_call told line p short parts)) (c.answer_list_line.ensures.calls asked.0 asked.1))

pub returns-in-None-clause-step : goal.returns-in-None-clause-step
returns-in-None-clause-step g c =
    let told = c.args.self.now.desk.told in
    let line = c.args.line.now in
    let p = parts_now c.in-Some-parts_in.parts in
    let parts : parts_in told line ≡ Some p = search rules in
    let short : nat_le (length line) longest_line ≡ true = le-leb (length line) longest_line c.requires in
    let nobody : cond (asks_list (call_of_parts p)) (caller_of p.caller) None ≡ None = search rules in
    let choice = choice_if g.L.Lists.folded (is_some c.args.self.now.lists) in
    plain_calls g.S.InstitutionStore choice (λ t. reply_line_of c.answer-in-None.result ≡ told_line t)
    (call_in told line) _ _
    (asks_where choice (call_in told line) (ap asks_list (line_call told line p short parts)
    ∙ none_asked (call_of_parts p) nobody)) c.answer-in-None.ensures.step
