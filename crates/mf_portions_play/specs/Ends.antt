-- The institution before a business day of a run, and lines that are played up to there.
use Rattle.std.specs.Prelude.{ℕ, zero, suc, ◌<◌, nat_lt, cond, List, [], ◌∷◌, Result, Ok, Err}
use Rattle.mf_ledger_play.specs.Told.{run_told}
use Rattle.mf_model.specs.Institution.{Institution, JournalLine}
use Rattle.mf_model.specs.Run.{Line, next}
use Rattle.mf_model.specs.declared.store.InstitutionStore.{Ghosts}
use Rattle.mf_play.specs.Play.{IsPlayed, StopsFor}
use Rattle.mf_play.specs.declared.stop.Stop.{Stop}

-- the institution before a business day: before the first line that comes on it or later
abbrev pub before_day : ℕ → List Line → Institution → Institution
before_day until [] i = i
before_day until (l ∷ ls) i = cond (nat_lt i.catalogue.day until) (before_day until ls (next l i)) i

-- the same of the run that lines of a journal tell
abbrev pub told_before : ℕ → List JournalLine → Institution → Institution
told_before until lines i = before_day until (run_told lines) i

-- those of the lines that come before a business day play, one after the other
abbrev pub PlayBefore : ℕ → Institution → List JournalLine → Type 0
PlayBefore until i [] = Unit {0}
PlayBefore until i (l ∷ ls) = i.catalogue.day < until → (j : Institution) × IsPlayed i l j × PlayBefore until j ls

-- the lines before this place come before a business day and play, and the one there comes before it and doesn't, for
-- this
abbrev pub StopsBefore : ℕ → Institution → List JournalLine → ℕ → Stop → Type 0
StopsBefore until i [] place why = ⊥
StopsBefore until i (l ∷ ls) zero why = (i.catalogue.day < until) × StopsFor i l why
StopsBefore until i (l ∷ ls) (suc place) why =
    (i.catalogue.day < until) × (j : Institution) × IsPlayed i l j × StopsBefore until j ls place why

module _ {S : Type 0} (store : Ghosts S) (until : ℕ) where
  -- the line played, if it comes before that day, and the store stands for what it leads to by then; or it comes before
  -- that day and doesn't play, for this
  abbrev pub CameToEnd : Institution → JournalLine → S → Result (Unit {0}) Stop → Type 0
  CameToEnd i l new (Ok done) = store.stands new (told_before until (l ∷ []) i) × PlayBefore until i (l ∷ [])
  CameToEnd i l new (Err why) = (i.catalogue.day < until) × StopsFor i l why

  -- the same of each institution that the store stood for, as long as the disk returns what was written
  pub record EndsLine (l : JournalLine) (old new : S) (result : Result (Unit {0}) Stop) : Type 0 where
    pub premise : store.clean new → store.clean old
    pub came : store.clean new → (i : Institution) → store.stands old i → CameToEnd i l new result

  -- the lines before that day played, and the store stands for what they lead to by then; or one before it doesn't
  -- play, for this
  abbrev pub CameToEnds : Institution → List JournalLine → S → Result (Unit {0}) (ℕ × Stop) → Type 0
  CameToEnds i lines new (Ok done) = store.stands new (told_before until lines i) × PlayBefore until i lines
  CameToEnds i lines new (Err found) = StopsBefore until i lines found.0 found.1

  -- the same of each institution that the store stood for, as long as the disk returns what was written
  pub record EndsLines (lines : List JournalLine) (old new : S) (result : Result (Unit {0}) (ℕ × Stop)) : Type 0 where
    pub premise : store.clean new → store.clean old
    pub came : store.clean new → (i : Institution) → store.stands old i → CameToEnds i lines new result
