use Rattle.std.proofs.lemmas.Result.{IfOk-weaker}
use Rattle.sqlite.specs.Held.{state}
use Rattle.mf_store_journal.proofs.GoingLemmas.{unchanged_itself}
use Rattle.mf_store_played.proofs.archived.play_archived.Goals as goal

pub returns-in_err-joined-clause-kept : goal.returns-in_err-joined-clause-kept
returns-in_err-joined-clause-kept g c = unchanged_itself (state g.S.Store c.args.connection.now)

pub returns-clause-answer : goal.returns-clause-answer
returns-clause-answer g c clean its archives held lines journal keeps at =
    let found = c.in_ok-joined.ensures.joined archives in
    IfOk-weaker c.play_over_joined.result _ _ (λ played told. record {
      start = c.in_ok-joined.joined.begins;
      before = found.lines;
      reaches = found.reaches;
      right = told;
    }) (c.play_over_joined.ensures.answer clean its held found.lines lines journal keeps at found.leads)
