use Rattle.std.proofs.Common.{refl}
use Rattle.mf_wire.proofs.Responses.{nothing_read}
use Rattle.mf_lists_runs.proofs.serving.serve_one.Goals as goal

pub returns-in_default-answer_arrival-clause-ends : goal.returns-in_default-answer_arrival-clause-ends
returns-in_default-answer_arrival-clause-ends g c =
    let arrived = c.in_ok-arrival.ensures.ok in
    let silent = c.answer_arrival.ensures.silent c.in_default-answer_arrival.is in
    let nothing = nothing_read _ _ arrived.0 arrived.1 (silent.1 _ arrived.2) in
    record {
      none = nothing.0;
      ended = nothing.1;
      source = c.in_ok-arrival.ensures.sound;
      untouched = record { same = silent.0; unwritten = refl; sink = refl };
    }
