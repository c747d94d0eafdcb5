use Rattle.mf_store_audit.proofs.DifferenceLemmas.{AreTold}
use Rattle.mf_store_audit.specs.Findings.{account_told}
use Rattle.mf_store_audit.proofs.accounts.add_told.Given as goal

abbrev pub invariant-loop-key : goal.invariant-loop-key
invariant-loop-key l =
    AreTold (account_told l.table) l.all l.keys l.initial.findings.items l.findings.items l.key-index
