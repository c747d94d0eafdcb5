-- Files that were closed, from the connection that held them.
use Rattle.std.proofs.Common.{◌≡◌, IsTrue, Ok, sym, subst}
use Rattle.sqlite.specs.Closing.{HoldsAlone, IsCopied}
use Rattle.sqlite.specs.Effect.{Database}
use Rattle.sqlite.specs.Files.{file_state, image_of}
use Rattle.sqlite.specs.Held.{Held}
use Rattle.sqlite_disk.specs.declared.Disk.{Ghosts}
use Rattle.sqlite_disk.specs.declared.Files.{Files}
use Rattle.sqlite_store.specs.declared.store.FileStore.{FileStore}
use Rattle.sqlite_wal.specs.Reads.{AreClean}
use Rattle.mf_archive_files.specs.Closing.{Closes}

-- what was committed last is in the database file
pub closes_well : {D : Type 0} {g : Ghosts D} (c : Held (FileStore D g)) (files : Files D)
    → (IsTrue (file_state c).is_open → (file_state c).now ≡ (file_state c).committed)
    → (AreClean g files.log files.db → IsCopied c files) → Closes c (Ok files)
closes_well {g = g} c files settled copied = record {
  premise = λ clean. (copied clean).was_clean;
  was_open = λ clean. (copied clean).was_open;
  whole = λ clean. subst (λ (db : Database). HoldsAlone (image_of g files) db.trees)
      (sym (settled (copied clean).was_open)) (copied clean).seen;
  left = λ clean image may. subst (λ (db : Database). HoldsAlone image db.trees)
      (sym (settled (copied clean).was_open)) ((copied clean).left image may);
  gives_up = tt;
  kept = tt;
}
