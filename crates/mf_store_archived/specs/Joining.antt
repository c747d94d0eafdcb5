-- Archives whose lines stand before one another, back from where a file's journal begins.
use Rattle.std.specs.Prelude.{◌≡◌, ◌<◌, ℕ, ◌&&◌, if◌then◌else◌, nat_lt, suc, List, [], ◌∷◌, ◌++◌, Some, slice_get}
use Rattle.std.specs.List.{AllByRecursion}
use Rattle.mf_journal.specs.declared.following.Head.{Head}
use Rattle.mf_model.specs.Institution.{JournalLine}
use Rattle.mf_store_archived.specs.Archives.{IsPart}
use Rattle.mf_store_archived.specs.declared.archive.Archive.{Archive}
use Rattle.mf_store_archived.specs.declared.joining.Gap.{Gap}
use Rattle.mf_store_archived.specs.declared.joining.Gap.TheVariants.{Missing, Unjoined}
use Rattle.mf_store_archived.specs.declared.joining.Joined.{Joined}

-- an archive has lines of a journal
abbrev pub IsArchive : Archive → Type 0
IsArchive a = (lines : List JournalLine) × IsPart a lines

-- each has
abbrev pub AreArchives : List Archive → Type 0
AreArchives archives = AllByRecursion IsArchive archives

-- the archive begins before a number, and ends with the line of that number
abbrev pub EndsWith : ℕ → Archive → Type 0
EndsWith number a = (a.begins.number < number) × (a.ends.number ≡ number)

-- the archive has lines, and ends where a journal stands so
abbrev pub EndsAt : Head → Archive → Type 0
EndsAt h a = (a.begins.number < h.number) × (a.ends ≡ h)

-- none of these does
abbrev pub NoneEnds : Head → List Archive → Type 0
NoneEnds h archives = AllByRecursion (λ (a : Archive). ¬ EndsAt h a) archives

-- it is the first of these of which something holds
pub record IsFirst (P : Archive → Type 0) (archives : List Archive) (a : Archive) : Type 0 where
  pub before : List Archive
  pub after : List Archive
  pub are : archives ≡ before ++ a ∷ after
  pub none : AllByRecursion (λ (b : Archive). ¬ P b) before
  pub holds : P a

-- The chosen archives lead back from one head to an earlier one, the latest of them first: each is the first of all
-- that ends where the one chosen before it begins. These are their lines, in their order.
abbrev pub LeadsBack : List Archive → Head → List Archive → Head → List JournalLine → Type 0
LeadsBack archives to [] start lines = (start ≡ to) × (lines ≡ [])
LeadsBack archives to (a ∷ more) start lines = IsFirst (EndsAt to) archives a × (last : List JournalLine)
    × IsPart a last × (rest : List JournalLine) × (lines ≡ rest ++ last) × LeadsBack archives a.begins more start rest

-- the archives at these places lead on from one head to a later one: each begins where the one before it ends
abbrev pub LeadsOn : List Archive → Head → List ℕ → Head → List JournalLine → Type 0
LeadsOn archives from [] to lines = (to ≡ from) × (lines ≡ [])
LeadsOn archives from (place ∷ places) to lines = (a : Archive) × (slice_get archives place ≡ Some a)
    × (a.begins ≡ from) × (first : List JournalLine) × IsPart a first × (rest : List JournalLine)
    × (lines ≡ first ++ rest) × LeadsOn archives a.ends places to rest

-- As far back as archives lead from where a file's journal begins, they lead from this head, with these lines.
pub record Reaches (archives : List Archive) (to start : Head) (lines : List JournalLine) : Type 0 where
  pub chosen : List Archive
  pub back : LeadsBack archives to chosen start lines
  pub last : NoneEnds start archives

-- they were found so, and these are their places, the earliest first
pub record IsJoined (archives : List Archive) (to : Head) (joined : Joined) : Type 0 where
  pub lines : List JournalLine
  pub reaches : Reaches archives to joined.begins lines
  pub leads : LeadsOn archives joined.begins joined.places.items to lines

-- the greatest number below this one with whose line an archive ends, or 0
abbrev pub last_before : ℕ → List Archive → ℕ
last_before number [] = 0
last_before number (a ∷ archives) =
    if nat_lt a.ends.number number && nat_lt (last_before number archives) a.ends.number then a.ends.number
    else last_before number archives

-- Why no archive ends at a head. With its number another one ends, and this is the first that does: it has these lines.
-- Or none does, and these are the numbers from the last before it on.
abbrev pub IsGap : List Archive → Head → Gap → Type 0
IsGap archives h (Unjoined from to) = (to ≡ h.number) × (a : Archive) × IsFirst (EndsWith h.number) archives a
    × (from ≡ suc a.begins.number)
IsGap archives h (Missing from to) = (to ≡ h.number)
    × AllByRecursion (λ (a : Archive). ¬ EndsWith h.number a) archives × (from ≡ suc (last_before h.number archives))
