use Rattle.std.proofs.Common.{◌≡◌, false}
use Rattle.sqlite.specs.Held.{state}
use Rattle.mf_store_told.proofs.ToldLemmas.{Going}
use Rattle.mf_store_told.proofs.pages.first_untold_after.Given as goal

abbrev pub invariant-pages : goal.invariant-pages
invariant-pages g l = record {
  mode : l.connection.in_transaction ≡ false;
  going : Going l.after (state g.S.Store l.initial.connection) (state g.S.Store l.connection) l.number;
}
