-- The lines of an institution's journal up to a day move from its file to an archive.
use Rattle.std.specs.Prelude.{◌≡◌, ◌⊎◌, ℕ, List, [], ◌∷◌, None, Some, IsTrue, Result, OnOk, OnErr, IfOk, IfErr}
use Rattle.sqlite.specs.Held.{Held, state}
use Rattle.sqlite.specs.Tree.{Trees}
use Rattle.sqlite_trees.specs.declared.store.Store.{Ghosts}
use Rattle.mf_base.specs.declared.fault.Fault.{Fault}
use Rattle.mf_base.specs.declared.fault.Fault.TheVariants.{F20}
use Rattle.mf_model.specs.Institution.{Institution, JournalLine}
use Rattle.mf_store_journal.specs.Rows.{head_with_all}
use Rattle.mf_store_journal.specs.declared.journal.Journal.{Journal}
use Rattle.mf_store_noted.specs.Tabled.{HasGoodDisk, IsTabled, LeavesTables}
use Rattle.mf_store_archive.specs.Archived.{archived, staying, with_lines}
use Rattle.mf_store_archive.specs.Filing.{HoldsFiled, IsFiled, archive_rows}
use Rattle.mf_store_archive.specs.Paging.{HoldsPart}
use Rattle.mf_store_archive.specs.Taking.{begun_elsewhere}

module _ {S A : Type 0} (f : Ghosts S) (g : Ghosts A) where
  -- the file has an institution with this journal, of these lines, and the other file has no table
  pub record IsBefore (journal : Journal) (i : Institution) (lines : List JournalLine) (was : Held S) (old : Held A) :
      Type 0 where
    pub tabled : IsTabled f (Some journal) was i
    pub lines_are : i.journal ≡ Some lines
    pub empty : IsFiled g None old

  -- The lines up to and with a day stand in the archive and no longer in the file, whose journal begins where they
  -- ended. Or, giving up with F20, the file keeps its lines. Whenever a stop may leave the file without them, it leaves
  -- the archive with all of them; else it leaves of the archive what it could leave before, or a part of it.
  pub record Archives (day : ℕ) (journal : Journal) (was is : Held S) (old new : Held A)
      (result : Result Journal Fault) : Type 0 where
    pub premise : HasGoodDisk f is → HasGoodDisk f was
    pub premise_too : HasGoodDisk g new → HasGoodDisk g old
    pub gives_up : IfErr result (λ fault. fault ≡ F20)
    pub is_open : HasGoodDisk f is → OnOk result (IsTrue (state f is).is_open)
    pub begun : HasGoodDisk f is → HasGoodDisk g new → (i : Institution) (lines : List JournalLine)
        → IsBefore journal i lines was old → IfOk result (λ next. next
        ≡ begun_elsewhere (head_with_all journal.begins (archived day lines)) journal)
    pub stay : HasGoodDisk f is → HasGoodDisk g new → (i : Institution) (lines : List JournalLine)
        → IsBefore journal i lines was old → IfOk result (λ next. IsTabled f (Some next) is
        (with_lines (staying day lines) i))
    pub moved : HasGoodDisk f is → HasGoodDisk g new → (i : Institution) (lines : List JournalLine)
        → IsBefore journal i lines was old
        → OnOk result (IsFiled g (archive_rows journal.begins (archived day lines)) new)
    pub left : HasGoodDisk f is → HasGoodDisk g new → (i : Institution) (lines : List JournalLine)
        → IsBefore journal i lines was old → OnOk result (LeavesTables f is (with_lines (staying day lines) i ∷ []))
    pub same : HasGoodDisk f is → (i : Institution) → IsTabled f (Some journal) was i
        → OnErr result (IsTabled f (Some journal) is i)
    pub safe : HasGoodDisk f is → HasGoodDisk g new → (i : Institution) (lines : List JournalLine)
        → IsBefore journal i lines was old → (trees : Trees) → (state f is).may_leave trees
        → (state f was).may_leave trees ⊎ ((rows : Trees) → (state g new).may_leave rows
        → HoldsFiled rows (archive_rows journal.begins (archived day lines)))
    pub part : HasGoodDisk f is → HasGoodDisk g new → (i : Institution) (lines : List JournalLine)
        → IsBefore journal i lines was old → (rows : Trees) → (state g new).may_leave rows
        → (state g old).may_leave rows ⊎ HoldsPart journal.begins lines rows
    pub stop : HasGoodDisk f is → HasGoodDisk g new → (i : Institution) (lines : List JournalLine)
        → IsBefore journal i lines was old → (left : List Institution) → LeavesTables f was left
        → LeavesTables f is (with_lines (staying day lines) i ∷ left)
