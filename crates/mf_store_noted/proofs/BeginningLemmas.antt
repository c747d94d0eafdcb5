-- What the row of meta and the beginning of a journal make of the tables of an institution that keeps none.
use Rattle.std.proofs.Common.{◌≡◌, ◌∙◌, ◌⊎◌, inl, inr, ℕ, List, [], ◌∷◌, None, Some, IsTrue, refl, sym, ap}
use Rattle.std.proofs.Common.{subst, ◌++◌}
use Rattle.sqlite.specs.Held.{Held, state}
use Rattle.sqlite.specs.State.{HasCleanDisk, Survives}
use Rattle.sqlite.specs.Tree.{Trees}
use Rattle.sqlite_trees.specs.declared.store.Store.{Ghosts}
use Rattle.mf_model.specs.Institution.{Institution, newly_made}
use Rattle.mf_model.specs.Sound.{IsSound}
use Rattle.mf_journal.specs.declared.following.Head.{Head}
use Rattle.mf_store_sql.specs.Writes.{Serves, AllFit, after_all, Turns, MayHold}
use Rattle.mf_store_schema.specs.Rows.{Lists}
use Rattle.mf_store_schema.specs.Writes.{schema_of, Holds}
use Rattle.mf_store_schema.specs.declared.writes.StoreWrite.{StoreWrite}
use Rattle.mf_store_schema.specs.declared.writes.StoreWrite.TheVariants.{PutMeta}
use Rattle.mf_store_commits.specs.Becoming.{Begins}
use Rattle.mf_store_journal.specs.Noting.{FitsNoted, after_noted_write}
use Rattle.mf_store_journal.specs.declared.noting.NotedWrite.{NotedWrite}
use Rattle.mf_store_journal.specs.declared.noting.NotedWrite.TheVariants.{Begin}
use Rattle.mf_store_noted.specs.Kept.{journaled, meta_kept, tables_kept}
use Rattle.mf_store_noted.specs.Puts.{ArePuts, IsPut}
use Rattle.mf_store_noted.specs.Tabled.{IsKeptIn}
use Rattle.mf_store_noted.proofs.NotedLemmas.{put_after, put_fits, puts_after, puts_fit}
use Rattle.mf_store_noted.proofs.NotedLemmas.{put_after, put_fits, puts_after, puts_fit}

module _ (begins : Head) (i : Institution) (noted : List NotedWrite) (put : NotedWrite)
    (items : noted ≡ put ∷ Begin begins ∷ [])
    (is_put : IsPut put (PutMeta (meta_kept (Some begins) i.catalogue.day))) where
  -- the tables with another row of meta
  abbrev renumbered : Lists
  renumbered = record (tables_kept None i) { meta = meta_kept (Some begins) i.catalogue.day ∷ [] }

  put_made : after_noted_write put (Some (tables_kept None i)) ≡ Some renumbered
  put_made = put_after put (PutMeta (meta_kept (Some begins) i.catalogue.day)) is_put (Some (tables_kept None i))

  fits : AllFit after_noted_write FitsNoted noted (Some (tables_kept None i))
  fits = subst (λ ns. AllFit after_noted_write FitsNoted ns (Some (tables_kept None i))) (sym items) (
    put_fits put (PutMeta (meta_kept (Some begins) i.catalogue.day)) is_put (Some (tables_kept None i)) refl,
    subst (AllFit after_noted_write FitsNoted (Begin begins ∷ [])) (sym put_made) (refl, tt),
  )

  become : after_all after_noted_write noted (Some (tables_kept None i))
      ≡ Some (tables_kept (Some begins) (journaled i))
  become = ap (λ ns. after_all after_noted_write ns (Some (tables_kept None i))) items
      ∙ ap (after_noted_write (Begin begins)) put_made

  module _ {S : Type 0} (g : Ghosts S) (old new : Held S) (before : IsKeptIn g None old i) where
    pub begun_kept : (IsTrue (state g new).is_open → IsTrue (state g old).is_open) → Turns (Serves schema_of Holds)
        (AllFit after_noted_write FitsNoted noted) (after_all after_noted_write noted) (state g old).now
        (state g new).now
        → IsKeptIn g (Some begins) new (journaled i)
    begun_kept was_open turns = record {
      sound = record { catalogue = before.sound.catalogue; tree = before.sound.tree; each = before.sound.each };
      serves = λ live. subst (λ lists. Serves schema_of Holds (state g new).now lists) become
          (turns (Some (tables_kept None i)) (before.serves (was_open live)) fits);
    }

    pub begun_stop : Survives (state g old) (state g new) (MayHold (Serves schema_of Holds) Holds
        (AllFit after_noted_write FitsNoted noted) (after_all after_noted_write noted) (state g old))
        → HasCleanDisk (state g new) → (trees : Trees) → (state g new).may_leave trees
        → (state g old).may_leave trees ⊎ Holds trees (Some (tables_kept (Some begins) (journaled i)))
    begun_stop survives clean trees may = elim (survives.crash clean trees may) [
      | inl early ↦ inl early
      | inr wrote ↦ inr (subst (λ lists. Holds trees lists) become (wrote.holds (Some (tables_kept None i))
          (before.serves wrote.was_open) fits))
    ]

-- ---- a new institution

module _ (begins : Head) (day : ℕ) (noted puts : List NotedWrite) (writes : List StoreWrite) (put : NotedWrite)
    (items : noted ≡ puts ++ put ∷ Begin begins ∷ []) (are : ArePuts puts writes) (b : Begins writes day)
    (is_put : IsPut put (PutMeta (meta_kept (Some begins) day))) (sound : IsSound (newly_made day)) where
  abbrev last : List NotedWrite
  last = put ∷ Begin begins ∷ []

  founding_fits : AllFit after_noted_write FitsNoted noted None
  founding_fits = subst (λ ns. AllFit after_noted_write FitsNoted ns None) (sym items)
      (puts_fit puts last writes are None b.fits (subst (AllFit after_noted_write FitsNoted last) (sym b.is)
      (fits begins (newly_made day) last put refl is_put)))

  founding_becomes : after_all after_noted_write noted None ≡ Some (tables_kept (Some begins)
      (journaled (newly_made day)))
  founding_becomes = ap (λ ns. after_all after_noted_write ns None) items ∙ puts_after puts last writes are None
      ∙ ap (after_all after_noted_write last) b.is ∙ become begins (newly_made day) last put refl is_put

  module _ {S : Type 0} (g : Ghosts S) (old new : Held S) (none : Serves schema_of Holds (state g old).now None) where
    pub founded_kept : Turns (Serves schema_of Holds) (AllFit after_noted_write FitsNoted noted)
        (after_all after_noted_write noted) (state g old).now (state g new).now
        → IsKeptIn g (Some begins) new (journaled (newly_made day))
    founded_kept turns = record {
      sound = record { catalogue = sound.catalogue; tree = sound.tree; each = sound.each };
      serves = λ live. subst (λ lists. Serves schema_of Holds (state g new).now lists) founding_becomes
          (turns None none founding_fits);
    }

    pub founded_stop : Survives (state g old) (state g new) (MayHold (Serves schema_of Holds) Holds
        (AllFit after_noted_write FitsNoted noted) (after_all after_noted_write noted) (state g old))
        → HasCleanDisk (state g new) → (trees : Trees) → (state g new).may_leave trees
        → (state g old).may_leave trees ⊎ Holds trees (Some (tables_kept (Some begins) (journaled (newly_made day))))
    founded_stop survives clean trees may = elim (survives.crash clean trees may) [
      | inl early ↦ inl early
      | inr wrote ↦ inr (subst (λ lists. Holds trees lists) founding_becomes (wrote.holds None none founding_fits))
    ]
