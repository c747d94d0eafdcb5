-- What comes of playing lines on the institution that a store stands for.
use Rattle.std.specs.Prelude.{◌≡◌, ℕ, List, take, Result, Ok, Err}
use Rattle.mf_base.specs.declared.fault.Fault.{Fault}
use Rattle.mf_base.specs.declared.fault.Fault.TheVariants.{F20}
use Rattle.mf_model.specs.Calls.{Call}
use Rattle.mf_model.specs.Institution.{Institution, JournalLine}
use Rattle.mf_model.specs.declared.store.InstitutionStore.{Ghosts}
use Rattle.mf_play.specs.declared.stop.Stop.{Stop}
use Rattle.mf_play.specs.Play.{IsPlayed, IsOfTheDay, StopsFor, PlaysTo, StopsAt}

module _ {S : Type 0} (store : Ghosts S) where
  -- The line played, and the store stands for what follows; or it doesn't play, for this, and nothing is changed; or
  -- the store gave up, and nothing is changed.
  abbrev pub CameTo : Institution → JournalLine → S → Result (Result (Unit {0}) Stop) Fault → Type 0
  CameTo i l new (Ok (Ok done)) = (j : Institution) × IsPlayed i l j × store.stands new j
  CameTo i l new (Ok (Err why)) = StopsFor i l why × store.stands new i
  CameTo i l new (Err fault) = (fault ≡ F20) × store.stands new i

  -- the same of each institution that the store stood for, as long as the disk returns what was written
  pub record PlaysLine (l : JournalLine) (old new : S) (result : Result (Result (Unit {0}) Stop) Fault) : Type 0 where
    pub premise : store.clean new → store.clean old
    pub came : store.clean new → (i : Institution) → store.stands old i → CameTo i l new result

  -- the same where it is known that the line tells this request, on the business day
  pub record PlaysCall (l : JournalLine) (call : Call) (old new : S) (result : Result (Result (Unit {0}) Stop) Fault)
      : Type 0 where
    pub premise : store.clean new → store.clean old
    pub came : store.clean new → (i : Institution) → store.stands old i → IsOfTheDay i l call → CameTo i l new result

  -- The lines played, and the store stands for what follows; or they stop at a place, for this, and the store stands
  -- for what was reached there; or the store gave up at a place, and stands for what was reached there.
  abbrev pub CameToOnLines : Institution → List JournalLine → S → Result (Result (Unit {0}) (ℕ × Stop)) Fault → Type 0
  CameToOnLines i lines new (Ok (Ok done)) = (j : Institution) × PlaysTo i lines j × store.stands new j
  CameToOnLines i lines new (Ok (Err found)) = (stop : StopsAt i lines found.0 found.1) × store.stands new stop.reached
  CameToOnLines i lines new (Err fault) = (fault ≡ F20) × (place : ℕ) × (j : Institution)
      × PlaysTo i (take place lines) j × store.stands new j

  -- the same of each institution that the store stood for, as long as the disk returns what was written
  pub record PlaysLines (lines : List JournalLine) (old new : S) (result : Result (Result (Unit {0}) (ℕ × Stop)) Fault)
      : Type 0 where
    pub premise : store.clean new → store.clean old
    pub came : store.clean new → (i : Institution) → store.stands old i → CameToOnLines i lines new result
