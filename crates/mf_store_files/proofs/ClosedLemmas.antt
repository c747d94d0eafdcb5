-- Files that were closed, from the connection that held them.
use Rattle.std.proofs.Common.{◌≡◌, [], List, Option, Some, IsTrue, subst, arith}
use Rattle.std.proofs.Math.Logic.{∥∥₁_map}
use Rattle.sqlite.specs.Closing.{HoldsAlone, IsCopied}
use Rattle.sqlite.specs.Effect.{Database}
use Rattle.sqlite.specs.Files.{HoldsDatabase, over_files, image_of, file_state, IsClosed}
use Rattle.sqlite.specs.Held.{Held}
use Rattle.sqlite.specs.Tree.{Trees}
use Rattle.sqlite_disk.specs.declared.Disk.{Ghosts}
use Rattle.sqlite_disk.specs.declared.Files.{Files}
use Rattle.sqlite_store.specs.FileStore as files
use Rattle.sqlite_store.specs.declared.store.FileStore.{FileStore}
use Rattle.sqlite_trees.specs.View.{IsClean}
use Rattle.sqlite_wal.specs.Files.{outcomes}
use Rattle.sqlite_wal.specs.Recovery.{Image}
use Rattle.mf_model.specs.Institution.{Institution}
use Rattle.mf_model.specs.Sound.{IsSound}
use Rattle.mf_store_schema.specs.Writes.{Holds}
use Rattle.mf_store_noted.specs.Kept.{begins_of, tables_kept}
use Rattle.mf_store_noted.specs.Tabled.{HasGoodDisk, HoldsOneOf, HoldsRowsOf, IsTabled, LeavesTables}
use Rattle.mf_store_journal.specs.declared.journal.Journal.{Journal}
use Rattle.mf_store_noted.proofs.BesideLemmas.{begun_of}
use Rattle.mf_store_files.specs.Closed.{HoldsInstitution, HoldsByItself}

module _ (trees : Trees) (i : Institution) (sound : IsSound i) (held : HoldsRowsOf trees i) where
  holds_it : (image : Image) → ∥ HoldsDatabase image trees ∥₁ → HoldsInstitution image i
  holds_it image database = ∥∥₁_map database (λ stored. (trees, stored, sound, held))

  by_itself : (image : Image) → HoldsAlone image trees → HoldsByItself image i
  by_itself image all =
      record { both = holds_it image all.both; alone = holds_it (record image { log = [] }) all.alone }

module _ {D : Type 0} {g : Ghosts D} (c : Held (FileStore D g)) (settled : IsTrue (file_state c).is_open
    → (file_state c).now ≡ (file_state c).committed) where
  module _ (end : Files D) (copied : IsCopied c end) (journal : Option Journal) (i : Institution)
      (was : IsTabled over_files journal c i) where
    -- the last commit holds the rows
    abbrev committed_holds : HoldsRowsOf (file_state c).committed.trees i
    committed_holds = record {
      begins = begins_of journal;
      begun = begun_of journal i was.keeps;
      holds = subst (λ (db : Database). Holds db.trees (Some (tables_kept (begins_of journal) i)))
          (settled copied.was_open) (was.kept.serves copied.was_open).holds;
    }

    pub whole : HoldsByItself (image_of g end) i
    whole = by_itself _ i was.kept.sound committed_holds _ copied.seen

    pub left_whole : (left : Image) → outcomes g end.log end.db left → HoldsByItself left i
    left_whole left may = by_itself _ i was.kept.sound committed_holds left (copied.left left may)

-- where closing failed, a stop leaves nothing more
pub kept : {D : Type 0} {g : Ghosts D} (c : Held (FileStore D g)) (last : FileStore D g) → IsClosed c last
    → IsClean (files.view last)
    → (is : List Institution) → LeavesTables over_files c is → (trees : Trees) → files.recovers last trees
    → HoldsOneOf is trees
kept c last closed clean is leaves trees may =
    let counts = closed.quiet.clean in
    leaves.whole (omega (arith, counts, clean)) trees (closed.quiet.outcomes trees may)

-- where closing failed, the disk was good before if it still is
pub was_good : {D : Type 0} {g : Ghosts D} (c : Held (FileStore D g)) (last : FileStore D g) → IsClosed c last
    → IsClean (files.view last) → HasGoodDisk over_files c
was_good c last closed clean =
    let counts = closed.quiet.clean in
    omega (arith, counts, clean)
