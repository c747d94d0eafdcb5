use Rattle.std.proofs.Common.{◌≡◌, true, false}
use Rattle.mf_statement.proofs.InstalmentLemmas.{tellable-sound}
use Rattle.mf_statement.proofs.instalments.instalment_lines_of_rows.Goals as goal

pub returns-then-not-are_tellable-clause-loan : goal.returns-then-not-are_tellable-clause-loan
returns-then-not-are_tellable-clause-loan c loan sound rows =
    let yes : false ≡ true = c.if-not-are_tellable.ensures.1 (tellable-sound loan c.args.rows.now sound rows) in
    absurd cc
