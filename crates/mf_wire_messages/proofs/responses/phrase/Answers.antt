use Rattle.std.proofs.Common.{ap, ◌∙◌, []}
use Rattle.std.specs.Prelude.{unwrap_or}
use Rattle.http.specs.StatusCode.{reason_phrase}
use Rattle.mf_wire_messages.proofs.PhraseLemmas.{phrase_of_status, no_phrase}
use Rattle.mf_wire_messages.proofs.responses.phrase.Goals as goal

pub returns-in-Ok : goal.returns-in-Ok
returns-in-Ok c =
    let is = c.in-Ok.ensures in
    c.phrase_of_code.ensures ∙ ap (λ code. unwrap_or (reason_phrase code) []) is.1 ∙ phrase_of_status c.args.status is.0

pub returns-in-Err : goal.returns-in-Err
returns-in-Err c = no_phrase c.args.status c.in-Err.ensures
