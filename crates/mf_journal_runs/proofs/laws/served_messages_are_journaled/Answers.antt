use Rattle.mf_journal_runs.proofs.Growing.{run_grows}
use Rattle.mf_journal_runs.proofs.Received.{exchanges_received}
use Rattle.mf_journal_runs.proofs.laws.served_messages_are_journaled.Goals as goal

pub returns : goal.returns
returns g c = λ told i exchanges old new served. run_grows served.run i
    (exchanges_received told exchanges served.run served.to_heads served.calls)
