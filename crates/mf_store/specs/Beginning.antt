-- A store that begins a journal.
use Rattle.std.specs.Prelude.{◌≡◌, List, [], ◌∷◌, None, Some, IsSome, IsOk, Result, OnOk, OnErr, IfErr}
use Rattle.sqlite_trees.specs.declared.store.Store.{Ghosts}
use Rattle.mf_base.specs.declared.fault.Fault.{Fault}
use Rattle.mf_base.specs.declared.fault.Fault.TheVariants.{F20}
use Rattle.mf_model.specs.Institution.{Institution}
use Rattle.mf_store_values.specs.Flat.{tables_of}
use Rattle.mf_store_noted.specs.Fitting.{FitsTables}
use Rattle.mf_store_noted.specs.Kept.{begins_of, journaled}
use Rattle.mf_store_noted.specs.Upgrading.{upgrading}
use Rattle.mf_store.specs.Facts.{KnownStore}
use Rattle.mf_store.specs.Stands.{StandsFor, IsClean, Leaves, IsOpen, FaultsAloneShut}

module _ {S : Type 0} (g : Ghosts S) where
  -- A store that keeps no journal gets one, which has no line yet and begins at the digest of all rows, whose text has
  -- room for them; or, giving up, it stands for what it stood for. One that keeps a journal stays as it is. A stop
  -- leaves what it could leave before, or the institution with its journal, whole.
  pub record BeginsJournal (old new : KnownStore S) (result : Result (Unit {0}) Fault) : Type 0 where
    pub premise : IsClean g new → IsClean g old
    pub gives_up : IfErr result (λ fault. fault ≡ F20)
    pub shuts : FaultsAloneShut g old new
    pub stays_open : IsClean g new → IsOpen g old → OnOk result (IsOpen g new)
    pub kept : IsSome old.journal → (new ≡ old) × IsOk result
    pub made : IsClean g new → OnOk result ((i : Institution) → StandsFor g old i → i.journal ≡ None
        → StandsFor g new (journaled i))
    pub begins : IsClean g new → OnOk result ((i : Institution) → StandsFor g old i → i.journal ≡ None
        → begins_of new.journal ≡ Some (upgrading i.catalogue.day (tables_of i)))
    pub fits : IsClean g new → OnOk result ((i : Institution) → StandsFor g old i → i.journal ≡ None
        → FitsTables (tables_of i))
    pub left : IsClean g new → OnOk result ((i : Institution) → StandsFor g old i → i.journal ≡ None
        → Leaves g new (journaled i ∷ []))
    pub same : IsClean g new → OnErr result ((i : Institution) → StandsFor g old i → StandsFor g new i)
    pub stop : IsClean g new → (i : Institution) (is : List Institution) → StandsFor g old i → i.journal ≡ None
        → Leaves g old is → Leaves g new (journaled i ∷ is)
