use Rattle.std.proofs.Common.{refl}
use Rattle.sqlite.specs.Held.{state}
use Rattle.mf_store_journal.proofs.GoingLemmas.{unchanged_itself}
use Rattle.mf_store_sql.proofs.OpenLemmas.{always_clean}
use Rattle.mf_store_ledger.proofs.bytes.write_books_from_copy.Goals as goal

pub returns-in-Err-clause-kept : goal.returns-in-Err-clause-kept
returns-in-Err-clause-kept g c = unchanged_itself (state g.S.Store c.args.connection.now)

pub returns-in-Ok-write_books_from-clause-answer : goal.returns-in-Ok-write_books_from-clause-answer
returns-in-Ok-write_books_from-clause-answer g c clean third v trees holds held =
    c.in-Ok-write_books_from.ensures.answer clean third held.institution
    (c.in-Ok.ensures.copies.stands (always_clean (λ _. refl) c.in-Ok.copy.connection) v trees holds held)
