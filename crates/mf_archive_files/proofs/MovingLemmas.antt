-- From lines that were moved between two connections to the files that these leave as they are closed.
use Rattle.std.proofs.Common.{◌≡◌, ◌∙◌, ℕ, Bool, true, List, [], ◌∷◌, Option, None, Some, Result, Ok, Err, refl}
use Rattle.std.proofs.Common.{sym, ap, subst}
use Rattle.std.proofs.Math.Logic.{∥∥₁_map}
use Rattle.std.specs.Prelude.{IsTrue}
use Rattle.mf_base.specs.declared.fault.Fault.{Fault}
use Rattle.mf_base.specs.declared.fault.Fault.TheVariants.{F20}
use Rattle.sqlite.specs.Closing.{HoldsAlone}
use Rattle.sqlite.specs.Files.{HoldsDatabase, over_files, image_of, file_state}
use Rattle.sqlite.specs.Held.{Held}
use Rattle.sqlite.specs.Schema.{Schema}
use Rattle.sqlite.specs.State.{HasCleanDisk}
use Rattle.sqlite.specs.Tree.{Trees}
use Rattle.sqlite_catalog.specs.Listing.{IsSound as IsSoundSchema}
use Rattle.sqlite_disk.specs.declared.Disk.{Ghosts}
use Rattle.sqlite_disk.specs.declared.Files.{Files}
use Rattle.sqlite_store.specs.declared.store.FileStore.{FileStore}
use Rattle.sqlite_trees.specs.declared.store.Store.{Ghosts as StoreGhosts}
use Rattle.sqlite_wal.specs.Recovery.{Image}
use Rattle.mf_model.specs.Institution.{Institution, JournalLine}
use Rattle.mf_model.specs.Sound.{IsSound}
use Rattle.mf_journal.specs.declared.following.Head.{Head}
use Rattle.mf_store_sql.specs.Tables.{no_schema}
use Rattle.mf_store_journal.specs.Rows.{head_with_all}
use Rattle.mf_store_journal.specs.declared.journal.Journal.{Journal}
use Rattle.mf_store_noted.specs.Kept.{begins_of}
use Rattle.mf_store_noted.specs.Tabled.{HasGoodDisk, HoldsRowsOf, IsTabled, LeavesTables}
use Rattle.mf_store_noted.proofs.BesideLemmas.{begun_of}
use Rattle.mf_store_files.specs.Closed.{CloseWell, HoldsInstitution, HoldsByItself}
use Rattle.mf_store_archive.specs.Archived.{archived, staying, with_lines}
use Rattle.mf_store_archive.specs.Archiving.{Archives, IsBefore}
use Rattle.mf_store_archive.specs.Filing.{HoldsFiled, IsFiled, archive_rows}
use Rattle.mf_store_sound.specs.Files.{ShowsFile}
use Rattle.mf_archive_files.specs.Closing.{Closes}
use Rattle.mf_archive_files.specs.declared.moving.Moved.{Moved}
use Rattle.mf_archive_files.specs.Moving.{CloseArchive, CloseOver, HoldsArchive, HoldsLines, MovesAndCloses}
use Rattle.mf_archive_files.specs.Moving.{MovesFrom, moved_of}

-- ---- an institution

module _ (trees : Trees) (i : Institution) (sound : IsSound i) (held : HoldsRowsOf trees i) where
  holds_it : (image : Image) → ∥ HoldsDatabase image trees ∥₁ → HoldsInstitution image i
  holds_it image database = ∥∥₁_map database (λ stored. (trees, stored, sound, held))

  by_itself : (image : Image) → HoldsAlone image trees → HoldsByItself image i
  by_itself image all =
      record { both = holds_it image all.both; alone = holds_it (record image { log = [] }) all.alone }

-- the file of tables that hold an institution was closed
pub close_over : {D : Type 0} {g : Ghosts D} (c : Held (FileStore D g))
    (closed : Result (Files D) (Fault × FileStore D g)) → Closes c closed → CloseWell closed
    → (journal : Option Journal) (i : Institution) → IsTabled over_files journal c i → (left : List Institution)
    → LeavesTables over_files c left → CloseOver i left closed
close_over c (Ok files) closes clean journal i tabled left leaves = (
  by_itself (file_state c).now.trees i tabled.kept.sound held _ (closes.whole clean),
  (λ image may. by_itself (file_state c).now.trees i tabled.kept.sound held image (closes.left clean image may)),
)
  where
    held : HoldsRowsOf (file_state c).now.trees i
    held = record {
      begins = begins_of journal;
      begun = begun_of journal i tabled.keeps;
      holds = (tabled.kept.serves (closes.was_open clean)).holds;
    }
close_over c (Err rest) closes clean journal i tabled left leaves =
    λ trees may. leaves.whole (closes.premise clean) trees (closes.kept clean trees may)

-- ---- an archive

module _ (trees : Trees) (begins : Head) (lines : List JournalLine)
    (held : HoldsFiled trees (archive_rows begins lines)) where
  holds_lines : (image : Image) → ∥ HoldsDatabase image trees ∥₁ → HoldsLines image begins lines
  holds_lines image database = ∥∥₁_map database (λ stored. (trees, stored, held))

  archive_by_itself : (image : Image) → HoldsAlone image trees → HoldsArchive image begins lines
  archive_by_itself image all =
      record { both = holds_lines image all.both; alone = holds_lines (record image { log = [] }) all.alone }

-- the file of an archive was closed
pub close_archive : {D : Type 0} {g : Ghosts D} (c : Held (FileStore D g))
    (closed : Result (Files D) (Fault × FileStore D g)) → Closes c closed → CloseWell closed
    → (begins : Head) (lines : List JournalLine) → IsFiled over_files (archive_rows begins lines) c
    → CloseArchive begins lines closed
close_archive c (Ok files) closes clean begins lines filed = (
  archive_by_itself (file_state c).now.trees begins lines held _ (closes.whole clean),
  (λ image may. archive_by_itself (file_state c).now.trees begins lines held image (closes.left clean image may)),
)
  where
    held : HoldsFiled (file_state c).now.trees (archive_rows begins lines)
    held = (filed (closes.was_open clean)).holds
close_archive c (Err rest) closes clean begins lines filed = tt

-- ---- both

module _ {D A : Type 0} {f : Ghosts D} (g : StoreGhosts A) (day : ℕ) (journal : Journal)
    (was is : Held (FileStore D f)) (old new : Held A) (file : Result (Files D) (Fault × FileStore D f))
    (closes : Closes is file) where
  pub moves_from : (r : Result Journal Fault) → Archives over_files g day journal was is old new r
      → CloseWell file → HasGoodDisk g new → (i : Institution) (lines : List JournalLine)
      → IsBefore over_files g journal i lines was old → LeavesTables over_files was (i ∷ [])
      → MovesFrom g day journal.begins i lines (moved_of journal r) file new
  moves_from (Ok next) a clean good_too i lines b leaves =
      let good = closes.premise clean in
      record {
        told = ap (λ (j : Journal). record { from = journal.begins; to = j.begins }) (a.begun good good_too i lines b);
        stays = close_over is file closes clean (Some next) (with_lines (staying day lines) i)
            (a.stay good good_too i lines b) (with_lines (staying day lines) i ∷ []) (a.left good good_too i lines b);
        filed = a.moved good good_too i lines b;
        gives_up = tt;
        kept = tt;
      }
  moves_from (Err fault) a clean good_too i lines b leaves =
      let good = closes.premise clean in
      record {
        told = tt;
        stays = tt;
        filed = tt;
        gives_up = a.gives_up;
        kept = close_over is file closes clean (Some journal) i (a.same good i b.tabled)
            (with_lines (staying day lines) i ∷ i ∷ []) (a.stop good good_too i lines b (i ∷ []) leaves);
      }

-- the archive was closed, too
pub moves_and_closes : {D A : Type 0} {f : Ghosts D} {g : Ghosts A} (day : ℕ) (begins : Head) (i : Institution)
    (lines : List JournalLine) (r : Result Moved Fault) (file : Result (Files D) (Fault × FileStore D f))
    (new : Held (FileStore A g)) (archive : Result (Files A) (Fault × FileStore A g)) → Closes new archive
    → CloseWell archive → MovesFrom over_files day begins i lines r file new
    → MovesAndCloses day begins i lines r file archive
moves_and_closes day begins i lines (Ok moved) file new archive closes clean m = record {
  told = m.told;
  stays = m.stays;
  moved = close_archive new archive closes clean begins (archived day lines) m.filed;
  gives_up = tt;
  kept = tt;
}
moves_and_closes day begins i lines (Err fault) file new archive closes clean m = record {
  told = tt;
  stays = tt;
  moved = tt;
  gives_up = m.gives_up;
  kept = m.kept;
}

-- a file without tables is one of no archive yet
pub nothing_filed : {D : Type 0} {g : Ghosts D} (c : Held (FileStore D g)) (image : Image)
    → (file_state c).now.schema ≡ no_schema → (HasCleanDisk (file_state c) → ShowsFile image (file_state c))
    → HasCleanDisk (file_state c) → IsFiled over_files None c
nothing_filed c image bare shows clean live = record {
  schema_is = bare;
  holds = subst (λ (k : Schema). IsSoundSchema k (file_state c).now.trees) bare (shows clean).sound;
}
