use Rattle.std.proofs.Common.{refl}
use Rattle.mf_store_sql.proofs.OpenLemmas.{always_clean}
use Rattle.mf_store_played.proofs.CopyLemmas.{has_one, has_none, begun}
use Rattle.mf_store_played.proofs.copied.begun_over.Goals as goal

pub returns-then-keeps_journal-clause-none : goal.returns-then-keeps_journal-clause-none
returns-then-keeps_journal-clause-none c copied stands =
    has_one c.args.copy.journal copied.journal stands.journal (c.keeps_journal.ensures.0 c.if-keeps_journal.true)

pub returns-in-Ok-clause-begun : goal.returns-in-Ok-clause-begun
returns-in-Ok-clause-begun c copied stands =
    begun copied c.args.copy c.begin_journal.new.self (always_clean (λ _. refl) c.begin_journal.new.self.connection)
    stands (has_none c.args.copy.journal copied.journal c.keeps_journal.result c.keeps_journal.ensures
    c.if-keeps_journal.false stands.journal) c.in-Ok.ensures
