use Rattle.std.proofs.Common.{◌≡◌, false}
use Rattle.sqlite.specs.Held.{state}
use Rattle.mf_store_journal.proofs.GoingLemmas.{Going}
use Rattle.mf_store_journal.proofs.checking.follow_from.Given as goal

abbrev pub invariant-pages : goal.invariant-pages
invariant-pages g l = record {
  mode : l.connection.in_transaction ≡ false;
  going : Going l.fn.beginning (state g.S.Store l.initial.connection) (state g.S.Store l.connection) l.head;
}
