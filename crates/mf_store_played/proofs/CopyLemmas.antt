-- A copy that gets the journal which is begun over its rows.
use Rattle.std.proofs.Common.{◌≡◌, ◌≢◌, ◌↔◌, Bool, false, IsTrue, List, Option, None, Some, IsSome, Ok}
use Rattle.std.proofs.Common.{refl, sym, ap, ◌∙◌}
use Rattle.sqlite.specs.Files.{over_files}
use Rattle.sqlite_disk.specs.declared.Disk.{Ghosts}
use Rattle.sqlite_store.specs.declared.store.FileStore.{FileStore}
use Rattle.mf_journal.specs.declared.following.Head.{Head}
use Rattle.mf_model.specs.Institution.{Institution, JournalLine}
use Rattle.mf_store.specs.Beginning.{BeginsJournal}
use Rattle.mf_store.specs.Facts.{KnownStore}
use Rattle.mf_store.specs.Stands.{StandsFor, IsClean}
use Rattle.mf_store_journal.specs.Written.{HasLines}
use Rattle.mf_store_journal.specs.declared.journal.Journal.{Journal}
use Rattle.mf_store_noted.specs.Upgrading.{upgrading}
use Rattle.mf_store_values.specs.Flat.{tables_of}
use Rattle.mf_store_played.specs.Answer.{IsBegunOver, IsCopy}

pub same_some : {A : Type 0} (x y : A) → Some x ≡ Some y → x ≡ y
same_some x y same = cc

-- what was asked, and isn't so
pub not_so : (has : Bool) (P : Type 0) → IsTrue has ↔ P → has ≡ false → ¬ P
not_so has P told lacks is = absurd (cc (told.1 is))

-- a store with a journal stands for an institution that keeps one
pub has_one : (found : Option Journal) (kept : Option (List JournalLine)) → HasLines found kept → IsSome found
    → kept ≢ None
has_one None kept has some is = absurd (cc)
has_one (Some j) kept has some is = let both : Some has.0 ≡ None = sym has.1 ∙ is in absurd (cc)

-- and one without for one that keeps none
pub has_none : (found : Option Journal) (kept : Option (List JournalLine)) (has : Bool) → IsTrue has ↔ IsSome found
    → has ≡ false → HasLines found kept → kept ≡ None
has_none None kept has told lacks lines = lines
has_none (Some j) kept has told lacks lines = absurd (cc (told.1 refl))

-- the copy over which a journal was begun, by where it would begin over this one
pub at_other : (copied : Institution) (at : Option Head) (begins : Head)
    → at ≡ Some (upgrading copied.catalogue.day (tables_of copied)) → IsCopy copied begins → at ≡ Some begins
at_other copied at begins is copy = is ∙ ap Some (sym copy.is)

module _ {D : Type 0} {g : Ghosts D} (copied : Institution) (old new : KnownStore (FileStore D g)) where
  pub begun : IsClean over_files new → StandsFor over_files old copied → copied.journal ≡ None
      → BeginsJournal over_files old new (Ok tt) → IsBegunOver copied new
  begun clean stands none begins = record {
    none = none;
    stands = begins.made clean copied stands none;
    begins = begins.begins clean copied stands none;
  }
