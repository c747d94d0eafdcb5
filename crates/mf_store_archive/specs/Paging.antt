-- What a page of rows adds to an archive, and what the calls that fill one come to.
use Rattle.std.specs.Prelude.{◌≡◌, ◌⊎◌, ◌≤◌, ◌<◌, ℕ, Bool, true, false, List, [], ◌∷◌, ◌++◌, map}
use Rattle.std.specs.List.{AllByRecursion}
use Rattle.sqlite.specs.Held.{Held}
use Rattle.sqlite.specs.Order.{Row}
use Rattle.sqlite.specs.Tree.{Trees}
use Rattle.sqlite_trees.specs.declared.store.Store.{Ghosts}
use Rattle.mf_model.specs.Institution.{JournalLine}
use Rattle.mf_journal.specs.Following.{head_after}
use Rattle.mf_journal.specs.declared.following.Head.{Head}
use Rattle.mf_journal.specs.declared.following.KeptRow.{KeptRow}
use Rattle.mf_store_sql.specs.Numbered.{shown_filed}
use Rattle.mf_store_journal.specs.Rows.{filed_kept, head_with_all}
use Rattle.mf_store_archive.specs.Filing.{HoldsFiled, IsFiled, archive_rows}
use Rattle.mf_store_archive.specs.declared.filing.Filing.TheVariants.{Put}
use Rattle.mf_store_archive.specs.declared.paging.Page.{Page}

-- rows as they are shown
abbrev pub shown_rows : List KeptRow → List Row
shown_rows kept = map (λ (k : KeptRow). shown_filed (filed_kept k)) kept

-- each is of a day up to this one
abbrev pub AreUpTo : ℕ → List KeptRow → Type 0
AreUpTo day kept = AllByRecursion (λ (k : KeptRow). k.row.day ≤ day) kept

-- the first of these rows is of a later day
abbrev pub IsLater : ℕ → List Row → Type 0
IsLater day rows = (k : KeptRow) × (others : List Row) × (rows ≡ shown_filed (filed_kept k) ∷ others)
    × (day < k.row.day)

-- a page is the last where there are no rows, or the next row is of a later day; else it has all of them
abbrev pub Ends : ℕ → Bool → List Row → List Row → Type 0
Ends day true rows left = (rows ≡ []) ⊎ IsLater day left
Ends day false rows left = left ≡ []

-- the first of the rows, up to a day, are put at the end of an archive, and the journal stands so after them
pub record IsPage (day : ℕ) (head : Head) (rows : List Row) (page : Page) : Type 0 where
  pub kept : List KeptRow
  pub left : List Row
  pub writes_are : page.writes.items ≡ map Put kept
  pub rows_are : rows ≡ shown_rows kept ++ left
  pub head_is : page.head ≡ head_after head kept
  pub up_to : AreUpTo day kept
  pub ends : Ends day page.is_last rows left

-- no line is left, or the next is of a later day
abbrev pub NoMoreUpTo : ℕ → List JournalLine → Type 0
NoMoreUpTo day [] = Unit {0}
NoMoreUpTo day (l ∷ ls) = day < l.day

-- where the last page is
abbrev pub IfLast : Bool → ℕ → List JournalLine → Type 0
IfLast false day lines = Unit {0}
IfLast true day lines = NoMoreUpTo day lines

module _ {S : Type 0} (g : Ghosts S) where
  -- The archive has the rows of these lines and of some more, which are of days up to this one; the journal stood so
  -- after them.
  pub record FilesMore (day : ℕ) (begins : Head) (first rest : List JournalLine) (head : Head) (is_last : Bool)
      (h : Held S) : Type 0 where
    pub more : List JournalLine
    pub left : List JournalLine
    pub rest_is : rest ≡ more ++ left
    pub up_to : AllByRecursion (λ (l : JournalLine). l.day ≤ day) more
    pub head_is : head ≡ head_with_all begins (first ++ more)
    pub filed : IsFiled g (archive_rows begins (first ++ more)) h
    pub ends : IfLast is_last day left

-- a part of an archive of these lines is there: its table with the rows of the first of them
pub record HoldsPart (begins : Head) (lines : List JournalLine) (trees : Trees) : Type 0 where
  pub first : List JournalLine
  pub rest : List JournalLine
  pub lines_are : lines ≡ first ++ rest
  pub holds : HoldsFiled trees (archive_rows begins first)
