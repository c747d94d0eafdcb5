use Rattle.sqlite.specs.Held.{state}
use Rattle.mf_store_schema.specs.Writes.{are_some}
use Rattle.mf_store_schema.proofs.CallLemmas.{shown}
use Rattle.mf_store_schema.proofs.RangeLemmas.{loans_above_shows}
use Rattle.mf_store_schema.proofs.RangeLemmas.{loans_above, loans_above_plain}
use Rattle.mf_store_schema.proofs.loans.loans_above.Goals as goal

pub ask-requires-clause-plain : goal.ask-requires-clause-plain
ask-requires-clause-plain g c = loans_above_plain

pub returns-clause-rows : goal.returns-clause-rows
returns-clause-rows g c clean lists kept =
    shown c.ask.result (λ v. v.items) (state g.S.Store c.args.connection.now) loans_above _ lists _ (λ v s a.
    loans_above_shows (are_some lists.journal) c.args.office c.args.after _ v.items lists.loans s.schema_is
    s.holds.all.1.1.1.1.1.1.0 a) kept
    (rw (c.params-to_sql.ensures, c.params-to_sql-2.ensures) at (c.ask.ensures.shows clean))
