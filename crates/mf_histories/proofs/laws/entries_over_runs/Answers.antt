use Rattle.std.proofs.Common.{ap}
use Rattle.mf_model.specs.Accounts.{statement, instalments_in, entries_in}
use Rattle.mf_model.specs.Run.{last}
use Rattle.mf_histories.proofs.Whole.{entries_after, ledger_after, alike_after}
use Rattle.mf_histories.proofs.laws.entries_over_runs.Goals as goal

pub returns-clause-entries : goal.returns-clause-entries
returns-clause-entries c = λ i run loan. entries_after loan run i

pub returns-clause-shown : goal.returns-clause-shown
returns-clause-shown c = λ i run loan ledger there.
    let k = (last run i).catalogue in
    let is = ledger_after loan run i ledger there in
    (ap (statement k) is, ap (instalments_in k) is, ap (entries_in k) is)

pub returns-clause-alike : goal.returns-clause-alike
returns-clause-alike c = λ i j run other loan same did. alike_after loan run other i j same did
