use Rattle.std.proofs.Common.{◌≡◌, false}
use Rattle.sqlite.specs.Held.{state}
use Rattle.mf_store_ledger.proofs.EndLemmas.{Going}
use Rattle.mf_store_ledger.proofs.ends.end_pages.Given as goal

abbrev pub invariant-pages : goal.invariant-pages
invariant-pages g l = record {
  mode : l.connection.in_transaction ≡ false;
  going : Going g.T.InstitutionStore l.until (state g.S.Store l.initial.connection) (state g.S.Store l.connection)
      l.initial.store l.store l.number;
}
