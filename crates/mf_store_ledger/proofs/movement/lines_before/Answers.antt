use Rattle.std.proofs.Common.{refl}
use Rattle.sqlite.specs.Held.{state}
use Rattle.mf_portions_play.specs.Ends.{told_before}
use Rattle.mf_store_journal.proofs.GoingLemmas.{unchanged_itself}
use Rattle.mf_store_played.specs.Played.{founded}
use Rattle.mf_store_sql.proofs.OpenLemmas.{always_clean}
use Rattle.mf_store_ledger.proofs.movement.lines_before.Goals as goal

pub found_in_memory-requires : goal.found_in_memory-requires
found_in_memory-requires g c = c.requires.early

pub returns-in_err-store-clause-kept : goal.returns-in_err-store-clause-kept
returns-in_err-store-clause-kept g c = unchanged_itself (state g.S.Store c.args.connection.now)

pub returns-in-Ok-Err-clause-lines : goal.returns-in-Ok-Err-clause-lines
returns-in-Ok-Err-clause-lines g c clean its begins lines none keeps =
    let ends = rw c.in-Ok-Err.field-0-is at (c.in-Ok-Err.ensures {u = tt}).ends in
    ends clean its (always_clean (λ _. refl) c.end_pages.new.store.connection) begins lines none keeps
    (founded c.args.day) c.in_ok-store.ensures.stands

pub returns-in-Ok-clause-lines : goal.returns-in-Ok-clause-lines
returns-in-Ok-clause-lines g c clean its begins lines none keeps =
    let ends = rw c.in-Ok-Ok.field-0-is at (c.in-Ok-Ok.ensures {u = tt}).ends in
    let at = ends clean its (always_clean (λ _. refl) c.end_pages.new.store.connection) begins lines none keeps
    (founded c.args.day) c.in_ok-store.ensures.stands in
    let told = (c.in-Ok.ensures {u = tt}).tells in (
      told.told_is (always_clean (λ _. refl) c.read_portions.new.store.connection)
          (told_before c.args.until lines (founded c.args.day)) at.0,
      at.1,
    )
