use Rattle.std.proofs.Common.{sym, rules}
use Rattle.mf_store_audit.specs.Keys.{is_at}
use Rattle.mf_store_audit.proofs.PlaceLemmas.{none_there}
use Rattle.mf_store_audit.proofs.keys.row_at.Goals as goal

pub returns-clause-none : goal.returns-clause-none
returns-clause-none g c none =
    sym (none_there (is_at g.R.Keyed.key c.args.key) c.args.rows.now (λ row at. let called = c.find_row.ensures.none
    none row at in search rules))
