-- From a store whose connection was released to an archive, and which refusal comes when.
use Rattle.std.proofs.Common.{◌≡◌, ◌∙◌, ◌⊎◌, inl, inr, ℕ, Bool, true, List, [], ◌∷◌, Option, None, Some, Result, Ok}
use Rattle.std.proofs.Common.{Err, refl, sym, ap, subst}
use Rattle.mf_base.specs.declared.fault.Fault.{Fault}
use Rattle.sqlite.specs.Files.{over_files}
use Rattle.sqlite.specs.Held.{Held, state}
use Rattle.sqlite_disk.specs.declared.Disk.{Ghosts as DiskGhosts}
use Rattle.sqlite_disk.specs.declared.Files.{Files}
use Rattle.sqlite_store.specs.declared.store.FileStore.{FileStore}
use Rattle.sqlite_trees.specs.declared.store.Store.{Ghosts}
use Rattle.mf_model.specs.Institution.{Institution, JournalLine}
use Rattle.mf_journal.specs.declared.following.Head.{Head}
use Rattle.mf_store_schema.specs.Schemas.{IsUnchangedUnder}
use Rattle.mf_store_journal.specs.Reading.{IsThird}
use Rattle.mf_store_journal.specs.declared.journal.Journal.{Journal}
use Rattle.mf_store_noted.specs.Tabled.{HasGoodDisk, IsTabled, LeavesTables}
use Rattle.mf_store.specs.Facts.{KnownStore}
use Rattle.mf_store.specs.Stands.{Leaves, StandsFor, Stays}
use Rattle.mf_store_archive.proofs.ArchivingLemmas.{still_leaves, still_tabled}
use Rattle.mf_store_files.specs.Closed.{CloseWell}
use Rattle.mf_archive_files.specs.Closing.{Closes}
use Rattle.mf_archive_files.specs.Finding.{IsFoundFor, IsNotToMove, IsToMove}
use Rattle.mf_archive_files.proofs.MovingLemmas.{close_over}
use Rattle.mf_archive_files.specs.Moving.{ArchivesOver, CloseOver, IsRefusal, MovesAndCloses, left_unmoved, told_of}
use Rattle.mf_archive_files.specs.declared.finding.Unmoved.{Unmoved}
use Rattle.mf_archive_files.specs.declared.finding.Unmoved.TheVariants.{NoJournal, NoLines, NotClosed, Taken, NoPlace}
use Rattle.mf_archive_files.specs.declared.finding.Unmoved.TheVariants.{Failed, Begun}
use Rattle.mf_archive_files.specs.declared.moving.Moved.{Moved}

-- ---- a connection that a store gave back

pub tabled_of : {S : Type 0} (g : Ghosts S) (k : KnownStore S) (i : Institution) → StandsFor g k i
    → IsTabled g k.journal k.connection i
tabled_of g k i s = record { kept = record { sound = s.sound; serves = s.serves }; keeps = s.journal }

module _ {S : Type 0} (g : Ghosts S) (k mid : KnownStore S) (stays : Stays g k mid) (c : Held S)
    (same : c ≡ mid.connection) where
  pub good_at : HasGoodDisk g c → HasGoodDisk g mid.connection
  good_at clean = subst (HasGoodDisk g) same clean

  pub premise_at : HasGoodDisk g c → HasGoodDisk g k.connection
  premise_at clean = stays.premise (good_at clean)

  pub tabled_at : HasGoodDisk g c → (journal : Journal) → k.journal ≡ Some journal → (i : Institution)
      → StandsFor g k i → IsTabled g (Some journal) c i
  tabled_at clean journal is i s =
      subst (λ h. IsTabled g (Some journal) h i) (sym same)
      (subst (λ j. IsTabled g j mid.connection i) (stays.journal ∙ is)
      (tabled_of g mid i (stays.same (good_at clean) i s)))

  pub leaves_at : HasGoodDisk g c → (is : List Institution) → Leaves g k is → LeavesTables g c is
  leaves_at clean is l = subst (λ h. LeavesTables g h is) (sym same) (stays.stop (good_at clean) is l)

  module _ (new : Held S) (kept : IsUnchangedUnder IsThird (state g c) (state g new)) where
    pub premise_then : HasGoodDisk g new → HasGoodDisk g k.connection
    premise_then clean = premise_at (kept.premise clean)

    pub tabled_then : HasGoodDisk g new → (journal : Journal) → k.journal ≡ Some journal → (i : Institution)
        → StandsFor g k i → IsTabled g (Some journal) new i
    tabled_then clean journal is i s =
        still_tabled g journal c new kept clean i (tabled_at (kept.premise clean) journal is i s)

    pub leaves_then : HasGoodDisk g new → (journal : Journal) → k.journal ≡ Some journal → (i : Institution)
        → StandsFor g k i → Leaves g k (i ∷ []) → LeavesTables g new (i ∷ [])
    leaves_then clean journal is i s l =
        still_leaves g journal c new kept i (tabled_at (kept.premise clean) journal is i s) (i ∷ [])
        (leaves_at (kept.premise clean) (i ∷ []) l)

-- ---- what is told

-- nothing was made yet
pub refused : (day : ℕ) (is_free : Bool) (today : ℕ) (lines : List JournalLine) (i : Institution) (unmoved : Unmoved)
    → IsNotToMove day today lines unmoved
    → IsRefusal day is_free today lines unmoved × (left_unmoved day lines i unmoved ≡ i ∷ [])
refused day is_free today lines i NoJournal why = absurd why
refused day is_free today lines i NoLines why = (why, refl)
refused day is_free today lines i NotClosed why = (why, refl)
refused day is_free today lines i Taken why = absurd why
refused day is_free today lines i NoPlace why = absurd why
refused day is_free today lines i (Failed fault) why = (why, refl)
refused day is_free today lines i (Begun fault) why = absurd why

-- what comes of a refusal
abbrev pub Refuses : {D : Type 0} {f : DiskGhosts D} → ℕ → Bool → Institution → List JournalLine → Unmoved
    → Result (Files D) (Fault × FileStore D f) → Type 0
Refuses day is_free i lines unmoved file =
    IsRefusal day is_free i.catalogue.day lines unmoved × CloseOver i (left_unmoved day lines i unmoved) file

module _ {D : Type 0} {f : DiskGhosts D} (day : ℕ) (is_free : Bool) (i : Institution) (lines : List JournalLine)
    (file : Result (Files D) (Fault × FileStore D f)) where
  -- no archive was made
  pub not_made : (unmoved : Unmoved) → IsNotToMove day i.catalogue.day lines unmoved → CloseOver i (i ∷ []) file
      → Refuses day is_free i lines unmoved file
  not_made unmoved why closed =
      let it = refused day is_free i.catalogue.day lines i unmoved why in
      (it.0, subst (λ left. CloseOver i left file) (sym it.1) closed)

  -- none could be
  pub not_opened : (unmoved : Unmoved) → (unmoved ≡ Taken) ⊎ (unmoved ≡ NoPlace)
      → IsToMove day i.catalogue.day lines → is_free ≡ true → CloseOver i (i ∷ []) file
      → Refuses day is_free i lines unmoved file
  not_opened unmoved (inl taken) to_move free closed =
      subst (λ u. Refuses day is_free i lines u file) (sym taken) (to_move, closed)
  not_opened unmoved (inr nowhere) to_move free closed =
      subst (λ u. Refuses day is_free i lines u file) (sym nowhere) ((to_move, free), closed)

-- it was made
pub once_made : {D A : Type 0} {f : DiskGhosts D} {g : DiskGhosts A} (day : ℕ) (is_free : Bool) (begins : Head)
    (i : Institution) (lines : List JournalLine) (file : Result (Files D) (Fault × FileStore D f))
    (archive : Result (Files A) (Fault × FileStore A g)) (moved : Result Moved Fault)
    → IsToMove day i.catalogue.day lines → is_free ≡ true → MovesAndCloses day begins i lines moved file archive
    → ArchivesOver day is_free begins i lines (told_of moved) file (Some archive)
once_made day is_free begins i lines file archive (Ok moved) to_move free m =
    (to_move, free, m.told, m.stays, m.moved)
once_made day is_free begins i lines file archive (Err fault) to_move free m = ((to_move, free, m.gives_up), m.kept)

-- ---- a store without a journal

pub closed_without : {D : Type 0} {g : DiskGhosts D} (k : KnownStore (FileStore D g)) (c : Held (FileStore D g))
    (closed : Result (Files D) (Fault × FileStore D g)) → Closes c closed → CloseWell closed → k.journal ≡ None
    → c ≡ k.connection → (i : Institution) → StandsFor over_files k i → Leaves over_files k (i ∷ [])
    → CloseOver i (i ∷ []) closed
closed_without k c closed closes clean none same i s l =
    close_over c closed closes clean None i
    (subst (λ h. IsTabled over_files None h i) (sym same)
    (subst (λ j. IsTabled over_files j k.connection i) none (tabled_of over_files k i s))) (i ∷ [])
    (subst (λ h. LeavesTables over_files h (i ∷ [])) (sym same) l)

-- what was found where it is known which
pub was_found : (day today : ℕ) (journal found : Journal) (lines : List JournalLine) (r : Result Journal Unmoved)
    → r ≡ Ok found → IsFoundFor day today journal lines r → (found ≡ journal) × IsToMove day today lines
was_found day today journal found lines r is f = subst (IsFoundFor day today journal lines) is f

pub was_refused : (day today : ℕ) (journal : Journal) (unmoved : Unmoved) (lines : List JournalLine)
    (r : Result Journal Unmoved) → r ≡ Err unmoved → IsFoundFor day today journal lines r
    → IsNotToMove day today lines unmoved
was_refused day today journal unmoved lines r is f = subst (IsFoundFor day today journal lines) is f

-- one refusal is told
pub same_refusal : (u v : Unmoved) (r : Result Journal Unmoved) → r ≡ Err u → r ≡ Err v
    → ◌≡◌ {A = Result Moved Unmoved} (Err u) (Err v)
same_refusal u v r is are = let same : u ≡ v = cc in ap Err same
