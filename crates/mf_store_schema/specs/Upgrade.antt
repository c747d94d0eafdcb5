-- The step from the first version to the second: the writes that add tables of instalments and of shares.
use Rattle.std.specs.Prelude.{◌≡◌, List, [], ◌∷◌, ◌++◌, map, Option, Some}
use Rattle.std.specs.declared.cmp.Ordering.TheVariants.{Less}
use Rattle.sqlite.specs.Schema.{Schema}
use Rattle.sqlite.specs.Tree.{Trees}
use Rattle.sqlite_trees.specs.Tree.{IsAscending}
use Rattle.mf_store_sql.specs.Writes.{AllFit, after_all}
use Rattle.mf_store_schema.specs.Rows.{Lists, by_instalment, by_share}
use Rattle.mf_store_schema.specs.declared.instalments.InstalmentRow.{InstalmentRow}
use Rattle.mf_store_schema.specs.declared.meta.MetaRow.{MetaRow}
use Rattle.mf_store_schema.specs.declared.shares.ShareRow.{ShareRow}
use Rattle.mf_store_schema.specs.declared.writes.StoreWrite.TheVariants.{PutInstalment, PutMeta, PutShare}
use Rattle.mf_store_schema.specs.Versions.{schema_at}
use Rattle.mf_store_schema.specs.Writes.{schema_of, Holds, HoldsAt, FitsLists, after_write}
use Rattle.mf_store_schema.specs.declared.upgrade_writes.UpgradeWrite.{UpgradeWrite}
use Rattle.mf_store_schema.specs.declared.upgrade_writes.UpgradeWrite.TheVariants.{MakeAccountTables, Put}
use Rattle.mf_store_schema.specs.declared.versions.Version.{Version}
use Rattle.mf_store_schema.specs.declared.versions.Version.TheVariants.{First}

-- what a database keeps: the lists of a version, or those of the program's own, if it has tables
pub data KeptLists : Type 0 where
  At : Version → Lists → KeptLists
  Own : Option Lists → KeptLists

-- the schema of a database while it is brought up
abbrev pub schema_kept : KeptLists → Schema
schema_kept (At v lists) = schema_at v
schema_kept (Own lists) = schema_of lists

-- the trees keep these lists and nothing else, by the schema of the moment
abbrev pub HoldsKept : Trees → KeptLists → Type 0
HoldsKept trees (At v lists) = HoldsAt v trees lists
HoldsKept trees (Own lists) = Holds trees lists

-- tables of instalments and of shares are made beside those of the first version; a row is put where both are there
abbrev pub FitsUpgrade : UpgradeWrite → KeptLists → Type 0
FitsUpgrade MakeAccountTables (At v lists) = v ≡ First
FitsUpgrade MakeAccountTables (Own lists) = ⊥
FitsUpgrade (Put write) (At v lists) = ⊥
FitsUpgrade (Put write) (Own lists) = FitsLists write lists

-- the lists after a write
abbrev pub after_upgrade : UpgradeWrite → KeptLists → KeptLists
after_upgrade MakeAccountTables (At v lists) = Own (Some (record lists { instalments = []; shares = []; journal = [] }))
after_upgrade MakeAccountTables (Own lists) = Own lists
after_upgrade (Put write) (At v lists) = At v lists
after_upgrade (Put write) (Own lists) = Own (after_write write lists)

-- the writes that bring the first version to the second: the two tables, their rows, and the row of meta
abbrev pub upgrade_writes : MetaRow → List InstalmentRow → List ShareRow → List UpgradeWrite
upgrade_writes meta instalments shares = MakeAccountTables ∷ (map (λ x. Put (PutInstalment x)) instalments
    ++ (map (λ x. Put (PutShare x)) shares ++ Put (PutMeta meta) ∷ []))

-- the lists once these are made
abbrev pub upgraded_lists : MetaRow → List InstalmentRow → List ShareRow → Lists → Lists
upgraded_lists meta instalments shares lists =
    record lists { meta = meta ∷ []; instalments = instalments; shares = shares; journal = [] }

-- the rows rise by key, and the row of meta stands in place of the only one
pub record CanUpgrade (meta : MetaRow) (instalments : List InstalmentRow) (shares : List ShareRow)
    (lists : Lists) : Type 0 where
  pub old : MetaRow
  pub one : lists.meta ≡ old ∷ []
  pub same_key : meta.one ≡ old.one
  pub instalments_rise : IsAscending (λ a b. by_instalment a b ≡ Less) instalments
  pub shares_rise : IsAscending (λ a b. by_share a b ≡ Less) shares

-- these writes can be made over the lists of the first version, and bring them there
pub record DoUpgrade (meta : MetaRow) (instalments : List InstalmentRow) (shares : List ShareRow) (lists : Lists) : Type
    0 where
  pub fit : AllFit after_upgrade FitsUpgrade (upgrade_writes meta instalments shares) (At First lists)
  pub become : after_all after_upgrade (upgrade_writes meta instalments shares) (At First lists)
      ≡ Own (Some (upgraded_lists meta instalments shares lists))

-- the writes bring the first version to the second, and keep its rows
abbrev pub UpgradesFirst : Type 0
UpgradesFirst = (meta : MetaRow) (instalments : List InstalmentRow) (shares : List ShareRow) (lists : Lists)
    → CanUpgrade meta instalments shares lists → DoUpgrade meta instalments shares lists
