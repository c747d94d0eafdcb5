use Rattle.std.proofs.Common.{◌∙◌}
use Rattle.mf_account.specs.Loan.{AreEntries}
use Rattle.mf_account.proofs.LawfulLemmas.{seals_pass}
use Rattle.mf_account.proofs.lawful.are_entries.Goals as goal

pub returns-then-is_each_entry-clause-exact : goal.returns-then-is_each_entry-clause-exact
returns-then-is_each_entry-clause-exact c = λ (entries : AreEntries c.args.periods c.args.day c.args.entries.now).
    c.is_seal_last.ensures ∙ seals_pass c.args.entries.now entries.numbers entries.seal_last
