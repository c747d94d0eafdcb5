-- An archive is written from the journal of a file.
use Rattle.std.specs.Prelude.{◌≡◌, ◌⊎◌, ℕ, List, ◌++◌, Option, None, Some, IsTrue, Result, OnOk, OnErr, IfOk, IfErr}
use Rattle.sqlite.specs.Held.{Held, state}
use Rattle.sqlite.specs.State.{State, HasCleanDisk}
use Rattle.sqlite.specs.Tree.{Trees}
use Rattle.sqlite_trees.specs.declared.store.Store.{Ghosts}
use Rattle.mf_base.specs.declared.fault.Fault.{Fault}
use Rattle.mf_base.specs.declared.fault.Fault.TheVariants.{F20}
use Rattle.mf_model.specs.Institution.{JournalLine}
use Rattle.mf_journal.specs.declared.following.Head.{Head}
use Rattle.mf_store_sql.specs.Numbered.{Filed}
use Rattle.mf_store_schema.specs.Calls.{OnlyFaultsShut}
use Rattle.mf_store_schema.specs.Schemas.{IsUnchangedUnder}
use Rattle.mf_store_journal.specs.Reading.{IsKeeping, IsThird}
use Rattle.mf_store_journal.specs.Rows.{head_with_all, journal_rows_in}
use Rattle.mf_store_journal.specs.Written.{DaysRise}
use Rattle.mf_store_archive.specs.Archived.{archived}
use Rattle.mf_store_archive.specs.Filing.{HoldsFiled, IsFiled, archive_rows}
use Rattle.mf_store_archive.specs.Paging.{FilesMore, HoldsPart}
use Rattle.mf_store_archive.specs.declared.writing.Copied.{Copied}

module _ {S : Type 0} (g : Ghosts S) where
  -- In one commit an archive with these rows gets those in their place; or, giving up with F20, keeps its own. A stop
  -- leaves what it could leave before, or the new rows, whole.
  pub record FilesRows (before after : Option (List Filed)) (old new : Held S) (result : Result (Unit {0}) Fault) : Type
      0 where
    pub premise : HasCleanDisk (state g new) → HasCleanDisk (state g old)
    pub gives_up : IfErr result (λ fault. fault ≡ F20)
    pub shuts : OnlyFaultsShut (state g old) (state g new)
    pub still_open : HasCleanDisk (state g new)
        → OnOk result (IsTrue (state g old).is_open → IsTrue (state g new).is_open)
    pub made : HasCleanDisk (state g new) → OnOk result (IsFiled g before old → IsFiled g after new)
    pub same : HasCleanDisk (state g new) → OnErr result (IsFiled g before old → IsFiled g before new)
    pub stop : HasCleanDisk (state g new) → IsFiled g before old → (trees : Trees) → (state g new).may_leave trees
        → (state g old).may_leave trees ⊎ HoldsFiled trees after

-- while the connection is open, the table keeps the rows of these lines of a journal that begins here
abbrev pub KeepsLinesOf : Head → List JournalLine → State → Type 0
KeepsLinesOf begins lines s = IsKeeping s (journal_rows_in begins (Some lines))

module _ {S A : Type 0} (f : Ghosts S) (g : Ghosts A) where
  -- The next lines of the file's journal stand at the end of the archive, which had those before them; the file stays
  -- as it is. A stop leaves of the archive what it could leave before, or a part of it.
  pub record CopiesPage (day : ℕ) (head : Head) (was is : Held S) (old new : Held A) (result : Result Copied Fault)
      : Type 0 where
    pub kept : IsUnchangedUnder IsThird (state f was) (state f is)
    pub gives_up : IfErr result (λ fault. fault ≡ F20)
    pub premise : HasCleanDisk (state g new) → HasCleanDisk (state g old)
    pub shuts : OnlyFaultsShut (state g old) (state g new)
    pub still_open : HasCleanDisk (state g new)
        → OnOk result (IsTrue (state g old).is_open → IsTrue (state g new).is_open)
    pub more : HasCleanDisk (state f is) → HasCleanDisk (state g new) → (begins : Head) (first rest : List JournalLine)
        → head ≡ head_with_all begins first → KeepsLinesOf begins (first ++ rest) (state f was)
        → IsFiled g (archive_rows begins first) old
        → IfOk result (λ next. FilesMore g day begins first rest next.head next.is_last new)
    pub stop : HasCleanDisk (state f is) → HasCleanDisk (state g new) → (begins : Head) (first rest : List JournalLine)
        → head ≡ head_with_all begins first → KeepsLinesOf begins (first ++ rest) (state f was)
        → IsFiled g (archive_rows begins first) old → (trees : Trees) → (state g new).may_leave trees
        → (state g old).may_leave trees ⊎ HoldsPart begins (first ++ rest) trees

  -- A file with no table is an archive of the journal's lines up to and with a day, and a stop leaves just that; the
  -- result is where the journal stood after them. Or, giving up with F20, it is a part of it. The journal's own file
  -- stays as it is. A stop leaves of the archive what it could leave before, or a part of it.
  pub record WritesArchive (day : ℕ) (begins : Head) (was is : Held S) (old new : Held A) (result : Result Head Fault)
      : Type 0 where
    pub kept : IsUnchangedUnder IsThird (state f was) (state f is)
    pub gives_up : IfErr result (λ fault. fault ≡ F20)
    pub premise : HasCleanDisk (state g new) → HasCleanDisk (state g old)
    pub shuts : OnlyFaultsShut (state g old) (state g new)
    pub is_open : HasCleanDisk (state g new) → OnOk result (IsTrue (state g new).is_open)
    pub head : HasCleanDisk (state f is) → HasCleanDisk (state g new) → (lines : List JournalLine)
        → KeepsLinesOf begins lines (state f was) → DaysRise begins.day lines → IsFiled g None old
        → IfOk result (λ head. head ≡ head_with_all begins (archived day lines))
    pub written : HasCleanDisk (state f is) → HasCleanDisk (state g new) → (lines : List JournalLine)
        → KeepsLinesOf begins lines (state f was) → DaysRise begins.day lines → IsFiled g None old
        → OnOk result (IsFiled g (archive_rows begins (archived day lines)) new)
    pub left : HasCleanDisk (state f is) → HasCleanDisk (state g new) → (lines : List JournalLine)
        → KeepsLinesOf begins lines (state f was) → DaysRise begins.day lines → IsFiled g None old
        → OnOk result ((trees : Trees) → (state g new).may_leave trees
        → HoldsFiled trees (archive_rows begins (archived day lines)))
    pub stop : HasCleanDisk (state f is) → HasCleanDisk (state g new) → (lines : List JournalLine)
        → KeepsLinesOf begins lines (state f was) → IsFiled g None old → (trees : Trees)
        → (state g new).may_leave trees → (state g old).may_leave trees ⊎ HoldsPart begins lines trees
