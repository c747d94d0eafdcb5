use Rattle.std.proofs.Common.{rules}
use Rattle.mf_office.specs.Texts.{IsCaller}
use Rattle.mf_journal_runs.proofs.Growing.{run_grows}
use Rattle.mf_journal_runs.proofs.Received.{rows_received}
use Rattle.mf_journal_runs.proofs.laws.a_sheet_is_journaled.Goals as goal

pub returns : goal.returns
returns g c =
    let is : IsCaller c.args.caller = search rules in
    λ told i rows old results new ran. run_grows ran.run i (rows_received told c.args.caller is ran.run rows ran.calls)
