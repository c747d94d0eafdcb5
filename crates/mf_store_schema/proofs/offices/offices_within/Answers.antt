use Rattle.sqlite.specs.Held.{state}
use Rattle.mf_store_schema.specs.Writes.{are_some}
use Rattle.mf_store_schema.proofs.CallLemmas.{shown}
use Rattle.mf_store_schema.proofs.RangeLemmas.{offices_in_shows}
use Rattle.mf_store_schema.proofs.RangeLemmas.{offices_in, offices_in_plain}
use Rattle.mf_store_schema.proofs.offices.offices_within.Goals as goal

pub ask-requires-clause-plain : goal.ask-requires-clause-plain
ask-requires-clause-plain g c = offices_in_plain

pub returns-clause-rows : goal.returns-clause-rows
returns-clause-rows g c clean lists kept =
    shown c.ask.result (λ v. v.items) (state g.S.Store c.args.connection.now) offices_in _ lists _ (λ v s a.
    offices_in_shows (are_some lists.journal) c.args.low.now c.args.high.now _ v.items lists.offices s.schema_is
    s.holds.all.1.0 a) kept
    (rw (c.params-to_sql.ensures, c.params-to_sql-2.ensures) at (c.ask.ensures.shows clean))
