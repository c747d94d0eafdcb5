-- The writes made in one commit over a connection.
use Rattle.std.proofs.Common.{◌≡◌, ◌⊎◌, inl, inr, List, Some, IsTrue, sym, ap, ◌∙◌, subst}
use Rattle.sqlite.specs.Tree.{Trees}
use Rattle.sqlite.specs.Effect.{Database}
use Rattle.sqlite.specs.State.{State, HasCleanDisk, Survives}
use Rattle.mf_store_sql.specs.Writes.{Serves, AllFit, after_all, Turns, IsSettled, MayHold}
use Rattle.mf_store_schema.specs.Rows.{Lists}
use Rattle.mf_store_schema.specs.Writes.{Holds}
use Rattle.mf_store_schema.specs.declared.instalments.InstalmentRow.{InstalmentRow}
use Rattle.mf_store_schema.specs.declared.meta.MetaRow.{MetaRow}
use Rattle.mf_store_schema.specs.declared.shares.ShareRow.{ShareRow}
use Rattle.mf_store_schema.specs.Upgrade.{At, Own, schema_kept, HoldsKept, FitsUpgrade, after_upgrade}
use Rattle.mf_store_schema.specs.Upgrade.{upgrade_writes, upgraded_lists}
use Rattle.mf_store_schema.specs.Upgrade.{CanUpgrade}
use Rattle.mf_store_schema.specs.Upgraded.{IsKeepingAt, IsUpgradedTo}
use Rattle.mf_store_schema.specs.declared.upgrade_writes.UpgradeWrite.{UpgradeWrite}
use Rattle.mf_store_schema.specs.declared.versions.Version.TheVariants.{First}
use Rattle.mf_store_schema.proofs.LawLemmas.{upgrades_first}

module _ (was is : State) (meta : MetaRow) (instalments : List InstalmentRow) (shares : List ShareRow)
    (writes : List UpgradeWrite) (made : writes ≡ upgrade_writes meta instalments shares)
    (lists : Lists) (can : CanUpgrade meta instalments shares lists) (keeping : IsKeepingAt First was lists) where
  abbrev target : Lists
  target = upgraded_lists meta instalments shares lists

  kept : IsTrue was.is_open → Serves schema_kept HoldsKept was.now (At First lists)
  kept live = let serves = keeping live in record { schema_is = serves.schema_is; holds = serves.holds }

  fit : AllFit after_upgrade FitsUpgrade writes (At First lists)
  fit = subst (λ ws. AllFit after_upgrade FitsUpgrade ws (At First lists)) (sym made)
      (upgrades_first meta instalments shares lists
      can).fit

  become : after_all after_upgrade writes (At First lists) ≡ Own (Some target)
  become = ap (λ ws. after_all after_upgrade ws (At First lists)) made
      ∙ (upgrades_first meta instalments shares lists can).become

  pub upgraded_to : (IsTrue is.is_open → IsTrue was.is_open) → Turns (Serves schema_kept HoldsKept)
      (AllFit after_upgrade FitsUpgrade writes) (after_all after_upgrade writes) was.now is.now → ((trees : Trees)
      → IsTrue is.is_open
      → is.may_leave trees → trees ≡ is.committed.trees)
      → IsSettled is → IsUpgradedTo is target
  upgraded_to was_open turns settled rests =
      let serves = subst (λ kept. Serves schema_kept HoldsKept is.now kept) become (turns (At First lists)
      (kept (was_open rests.is_open)) fit) in
      record {
        serves = record { schema_is = serves.schema_is; holds = serves.holds };
        leaves = λ trees may. subst (λ t. Holds t (Some target)) (sym (settled trees rests.is_open may
            ∙ ap (λ (d : Database). d.trees) rests.committed)) serves.holds;
      }

  may_be_upgraded : (trees : Trees) → MayHold (Serves schema_kept HoldsKept) HoldsKept
      (AllFit after_upgrade FitsUpgrade writes)
      (after_all after_upgrade writes) was trees → Holds trees (Some target)
  may_be_upgraded trees wrote =
      subst (λ kept. HoldsKept trees kept) become (wrote.holds (At First lists) (kept wrote.was_open) fit)

  pub stop : Survives was is (MayHold (Serves schema_kept HoldsKept) HoldsKept (AllFit after_upgrade FitsUpgrade writes)
      (after_all after_upgrade writes) was) → HasCleanDisk is → (trees : Trees) → is.may_leave trees
      → was.may_leave trees
      ⊎ Holds trees (Some target)
  stop survives clean trees may = elim (survives.crash clean trees may) [
    | inl before ↦ inl before
    | inr wrote ↦ inr (may_be_upgraded trees wrote)
  ]
