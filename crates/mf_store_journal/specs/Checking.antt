-- What a check of the table's rows finds.
use Rattle.std.specs.Prelude.{◌≡◌, ◌<◌, ◌^◌, List, [], ◌∷◌, ◌++◌, map, length}
use Rattle.std.specs.List.{AllByRecursion}
use Rattle.mf_store_sql.specs.Numbered.{Filed, shown_filed}
use Rattle.mf_journal.specs.Following.{FollowOn, BreaksFirst, head_after}
use Rattle.mf_journal.specs.declared.following.Head.{Head}
use Rattle.mf_journal.specs.declared.following.KeptRow.{KeptRow}
use Rattle.mf_store_journal.specs.Rows.{filed_kept, filed_beginning, HasPlace, IsLineRow}
use Rattle.mf_store_journal.specs.declared.checking.Flaw.{Flaw}
use Rattle.mf_store_journal.specs.declared.checking.Flaw.TheVariants.{Broken, NoLine}
use Rattle.mf_store_journal.specs.declared.checking.Found.{Found}
use Rattle.mf_store_journal.specs.declared.checking.Found.TheVariants.{Nothing, NoBeginning, Whole, Flawed}

-- the rows are those of lines whose numbers have room in the table, each of which follows on those before it, and the
-- journal stands so after them
pub record AreFollowing (h : Head) (rows : List Filed) (next : Head) : Type 0 where
  pub kept : List KeptRow
  pub rows_are : rows ≡ map filed_kept kept
  pub room : AllByRecursion HasPlace kept
  pub follow : FollowOn h kept
  pub stands : next ≡ head_after h kept

-- what is wrong with a row, where the journal stands so before it
abbrev pub IsFlaw : Head → Filed → Flaw → Type 0
IsFlaw h line (Broken number flaw) =
    (k : KeptRow) × (line ≡ filed_kept k) × (number ≡ k.number) × BreaksFirst h k flaw
IsFlaw h line (NoLine after) = (after ≡ h.number) × ¬ IsLineRow (shown_filed line)

-- the rows before one follow on, and this is wrong with it
pub record StopsAt (h : Head) (rows : List Filed) (flaw : Flaw) : Type 0 where
  pub before : List Filed
  pub line : Filed
  pub more : List Filed
  pub rows_are : rows ≡ before ++ line ∷ more
  pub stands : Head
  pub follow : AreFollowing h before stands
  pub is : IsFlaw stands line flaw

-- the numbers of where a journal begins have room in the table, and its chain is a digest
pub record CanBegin (h : Head) : Type 0 where
  pub number : h.number < 2 ^ 32
  pub day : h.day < 2 ^ 32
  pub chain : length h.chain ≡ 32

-- what the rows are
abbrev pub IsFound : List Filed → Found → Type 0
IsFound lines Nothing = lines ≡ []
IsFound lines NoBeginning = (line : Filed) × (more : List Filed) × (lines ≡ line ∷ more)
    × ((h : Head) → CanBegin h → ¬ (line ≡ filed_beginning h))
IsFound lines (Whole journal) = (rows : List Filed) × (lines ≡ filed_beginning journal.begins ∷ rows)
    × CanBegin journal.begins × AreFollowing journal.begins rows journal.head
IsFound lines (Flawed flaw) = (h : Head) × (rows : List Filed) × (lines ≡ filed_beginning h ∷ rows)
    × StopsAt h rows flaw
