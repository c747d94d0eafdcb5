-- A connection whose tables are those that a file held, and what becomes of them.
use Rattle.std.proofs.Common.{◌≡◌, ◌≢◌, ◌⊎◌, inl, inr, [], None, Some, refl, sym, ap, ◌∙◌, subst}
use Rattle.std.specs.Prelude.{◌↔◌}
use Rattle.mf_base.specs.declared.fault.Fault.{Fault}
use Rattle.mf_base.specs.declared.fault.Fault.TheVariants.{F19, F20}
use Rattle.sqlite.specs.Effect.{Database}
use Rattle.sqlite.specs.Files.{over_files, file_state, HoldsDatabase}
use Rattle.sqlite.specs.Held.{Held, state}
use Rattle.sqlite.specs.Schema.{Schema}
use Rattle.sqlite.specs.State.{HasCleanDisk}
use Rattle.sqlite.specs.Tree.{Trees}
use Rattle.sqlite_catalog.specs.Listing.{IsSound}
use Rattle.sqlite_disk.specs.declared.Disk.{Ghosts}
use Rattle.sqlite_store.specs.declared.store.FileStore.{FileStore}
use Rattle.sqlite_trees.specs.declared.store.Store.{Ghosts as StoreGhosts}
use Rattle.sqlite_wal.specs.Recovery.{Image}
use Rattle.mf_store_sql.specs.Tables.{no_schema}
use Rattle.mf_store_schema.specs.Schemas.{IsKnown}
use Rattle.mf_store_schema.specs.Versions.{schema_at}
use Rattle.mf_store_schema.specs.Writes.{Holds, HoldsAt}
use Rattle.mf_store_schema.specs.declared.versions.Version.{Version}
use Rattle.mf_store_schema.specs.declared.versions.Version.TheVariants.{First, Second, Third}
use Rattle.mf_store_values.specs.Flat.{tables_of}
use Rattle.mf_store_sound.specs.Schemas.{tables_at}
use Rattle.mf_store.specs.Facts.{KnownStore}
use Rattle.mf_store.specs.Stands.{IsClean}
use Rattle.mf_store_files.specs.declared.adopted.Refused.{Refused}
use Rattle.mf_store_files.specs.declared.adopted.Refused.TheVariants.{NoInstitution, Failed}
use Rattle.mf_store_sound.specs.Files.{HasNoTables, ShowsFile}
use Rattle.mf_store_files.specs.Versions.{IsTabledAt, LacksJournal}
use Rattle.mf_store_sound.specs.Held.{CanBeOpened, HoldsSoundAt, KeepsJournalAt}
use Rattle.mf_store_files.specs.Opened.{HoldsNoneSound, OpensAsFound, StaysAsFound}
use Rattle.mf_store_files.specs.Taken.{IsTaken, IsGivenBack}
use Rattle.mf_store_sound.proofs.FileLemmas.{under, is_one, left_as_held}
use Rattle.mf_store_sound.proofs.SchemaLemmas.{no_views}

module _ {S : Type 0} (g : StoreGhosts S) (h : Held S) (trees : Trees) where
  module _ (own : Schema) (is : (state g h).now ≡ record { schema = own; trees = trees }) where
    schema_is : (state g h).now.schema ≡ own
    schema_is = ap (λ (db : Database). db.schema) is

    trees_are : (state g h).now.trees ≡ trees
    trees_are = ap (λ (db : Database). db.trees) is

  tabled_as : (v : Version) → (state g h).now ≡ record { schema = schema_at v; trees = trees }
      → (held : HoldsSoundAt v trees) → IsTabledAt g v h held.institution
  tabled_as v is held = record {
    sound = held.sound;
    journal = λ live. subst (λ t. KeepsJournalAt v t held.institution.journal) (sym (trees_are (schema_at v) is))
        held.keeps;
    keeps = λ live. record {
      schema_is = schema_is (schema_at v) is;
      holds = subst (λ t. HoldsAt v t (tables_at v held.institution)) (sym (trees_are (schema_at v) is)) held.holds;
    };
  }

-- ---- the file shows what it held

module _ {D : Type 0} {g : Ghosts D} (image : Image) (h : Held (FileStore D g)) (shown : HasCleanDisk (file_state h)
    → ShowsFile image (file_state h)) where
  abbrev now_under : HasCleanDisk (file_state h) → (own : Schema) → own.views ≡ [] → (trees : Trees)
      → HoldsDatabase image trees → IsSound own trees → (file_state h).now ≡ record { schema = own; trees = trees }
  now_under good = under image (file_state h) (shown good)

  module _ (store : KnownStore (FileStore D g)) (taken : IsTaken over_files h store)
      (known : ((file_state h).now.schema ≡ no_schema) ⊎ IsKnown (file_state h).now.schema) where
    sound : IsClean over_files store → (v : Version) (trees : Trees) → HoldsDatabase image trees
        → IsSound (schema_at v) trees → CanBeOpened v trees
    sound clean v trees holds its =
        let good = taken.premise clean in
        let is = now_under good (schema_at v) (no_views v) trees holds its in
        let ours = schema_is over_files h trees (schema_at v) is in
        subst (CanBeOpened v) (trees_are over_files h trees (schema_at v) is)
        (taken.sound clean v ours ((shown good).rowids v ours))

    tabled : IsClean over_files store → (v : Version) (trees : Trees) → HoldsDatabase image trees
        → (held : HoldsSoundAt v trees) → IsTabledAt over_files v h held.institution
    tabled clean v trees holds held = tabled_as over_files h trees v
        (now_under (taken.premise clean) (schema_at v) (no_views v) trees holds held.holds.sound) held

    pub opens_as_found : OpensAsFound image store
    opens_as_found = record {
      is_open = taken.is_open;
      known = λ clean. is_one image (file_state h) (shown (taken.premise clean)) known;
      sound = sound;
      stands = λ clean v trees holds held. taken.stands clean v held.institution (tabled clean v trees holds held);
      leaves = λ clean v trees holds held. taken.leaves clean v held.institution (tabled clean v trees holds held);
    }

  module _ (new : Held (FileStore D g)) (fault : Fault) (back : IsGivenBack over_files h new fault) where
    unchanged : HasCleanDisk (file_state new) → (v : Version) → v ≢ First → (trees : Trees)
        → HoldsDatabase image trees → IsSound (schema_at v) trees → (left : Trees)
        → (file_state new).may_leave left → left ≡ trees
    unchanged clean v later trees holds its left may =
        let good = back.still clean in
        let ours = schema_is over_files h trees (schema_at v)
        (now_under good (schema_at v) (no_views v) trees holds its) in
        left_as_held image (file_state h) (shown good) trees holds left ((back.unchanged v later ours).stop clean
        (λ live. ours) left may)

    left_at : HasCleanDisk (file_state new) → (v : Version) (trees : Trees) → HoldsDatabase image trees
        → (held : HoldsSoundAt v trees)
        → (left : Trees) → (file_state new).may_leave left → left ≡ trees
        ⊎ ((v ≡ First) × Holds left (Some (tables_of held.institution)))
    left_at clean v trees holds held left may =
        let good = back.still clean in
        let is = now_under good (schema_at v) (no_views v) trees holds held.holds.sound in
        let kept = back.left v (schema_is over_files h trees (schema_at v) is) in
        elim (kept.stop clean held.institution (tabled_as over_files h trees v is held) left may) [
          | inl before ↦ inl (left_as_held image (file_state h) (shown good) trees holds left before)
          | inr made ↦ inr made
        ]

    refused_at : HasCleanDisk (file_state new) → (v : Version) (trees : Trees) → HoldsDatabase image trees
        → IsSound (schema_at v) trees → ¬ HoldsSoundAt v trees
        → (left : Trees) → (file_state new).may_leave left → left ≡ trees
    refused_at clean v trees holds its none_held left may =
        let good = back.still clean in
        let is = now_under good (schema_at v) (no_views v) trees holds its in
        let ours = schema_is over_files h trees (schema_at v) is in
        let are = trees_are over_files h trees (schema_at v) is in
        let kept = back.left v ours in
        left_as_held image (file_state h) (shown good) trees holds left (kept.refused clean ((shown good).rowids v ours)
        (λ held. none_held (subst (HoldsSoundAt v) are held)) left may)

    foreign : HasCleanDisk (file_state new) → (trees : Trees) (k : Schema) → HoldsDatabase image trees → IsSound k trees
        → k ≢ no_schema → ¬ IsKnown k
        → (fault ≡ F19) × ((left : Trees) → (file_state new).may_leave left → left ≡ trees)
    foreign clean trees k holds its some others =
        let good = back.still clean in
        let one = is_one image (file_state h) (shown good) in
        let not_none : (file_state h).now.schema ≢ no_schema =
        λ none. elim (one (inl none) trees k holds its) [ inl is ↦ some is | inr is ↦ others is ] in
        let not_known : ¬ IsKnown (file_state h).now.schema =
        λ known. elim (one (inr known) trees k holds its) [ inl is ↦ some is | inr is ↦ others is ] in
        let told = back.foreign not_none not_known in (
          told.0,
          λ left may. left_as_held image (file_state h) (shown good) trees holds left
              (subst (λ (c : Held (FileStore D g)). (file_state c).may_leave left) told.1 may),
        )

    pub stays_as_found : StaysAsFound image new fault
    stays_as_found = record {
      unchanged = unchanged;
      left = left_at;
      refused = refused_at;
      foreign = foreign;
    }

    pub none_sound : fault ≡ F19 → (file_state h).now.schema ≢ no_schema → HasCleanDisk (file_state new)
        → HoldsNoneSound image
    none_sound told some clean =
        let good = back.still clean in record {
          some = λ nothing. some ((shown good).none nothing).schema_is;
          none = λ v trees holds opened.
              let is = now_under good (schema_at v) (no_views v) trees holds opened.held.holds.sound in
              back.refused told clean v (schema_is over_files h trees (schema_at v) is)
              (subst (CanBeOpened v) (sym (trees_are over_files h trees (schema_at v) is)) opened);
        }

  -- where the institution is to keep a journal
  pub third_alone : ¬ LacksJournal (file_state h).now.schema → HasCleanDisk (file_state h) → (v : Version)
      (trees : Trees) → HoldsDatabase image trees → IsSound (schema_at v) trees → v ≡ Third
  third_alone keeps good First trees holds its = absurd (keeps (inl (schema_is over_files h trees (schema_at First)
      (now_under good (schema_at First) refl trees holds its))))
  third_alone keeps good Second trees holds its = absurd (keeps (inr (schema_is over_files h trees (schema_at Second)
      (now_under good (schema_at Second) refl trees holds its))))
  third_alone keeps good Third trees holds its = refl

  -- a connection that came back as it was
  pub left_as_it_was : (new : Held (FileStore D g)) → new ≡ h → HasCleanDisk (file_state new) → (trees : Trees)
      → HoldsDatabase image trees → (left : Trees) → (file_state new).may_leave left → left ≡ trees
  left_as_it_was new same clean trees holds left may =
      left_as_held image (file_state h)
      (shown (subst (λ (c : Held (FileStore D g)). HasCleanDisk (file_state c)) same clean)) trees holds left
      (subst (λ (c : Held (FileStore D g)). (file_state c).may_leave left) same may)

  -- where no institution was to be made
  module _ (new : Held (FileStore D g)) (refused : Refused) (none : (refused ≡ NoInstitution)
      ↔ ((file_state h).now.schema ≡ no_schema)) (same : refused ≡ NoInstitution → new ≡ h) (back : (fault : Fault)
      → refused ≡ Failed fault → IsGivenBack over_files h new fault) where
    still : HasCleanDisk (file_state new) → HasCleanDisk (file_state h)
    still = go refused same back
      where
        go : (r : Refused) → (r ≡ NoInstitution → new ≡ h) → ((fault : Fault) → r ≡ Failed fault
            → IsGivenBack over_files h new fault) → HasCleanDisk (file_state new) → HasCleanDisk (file_state h)
        go NoInstitution as_it_was given clean =
            subst (λ (c : Held (FileStore D g)). HasCleanDisk (file_state c)) (as_it_was refl) clean
        go (Failed fault) as_it_was given clean = (given fault refl).still clean

    pub told_none : HasCleanDisk (file_state new) → HasNoTables image → refused ≡ NoInstitution
    told_none clean nothing = none.1 ((shown (still clean)).none nothing).schema_is

    pub left_none : refused ≡ NoInstitution → HasCleanDisk (file_state new)
        → ((left : Trees) → (file_state new).may_leave left → Holds left None)
        × ((trees : Trees) → HoldsDatabase image trees → Holds trees None)
    left_none told clean =
        let shows = shown (still clean) in
        let bare : IsSound no_schema (file_state h).now.trees =
        subst (λ (k : Schema). IsSound k (file_state h).now.trees) (none.0 told) shows.sound in (
          λ left may. subst (IsSound no_schema)
              (sym (shows.leaves left (subst (λ (c : Held (FileStore D g)). (file_state c).may_leave left)
              (same told) may))) bare,
          λ trees holds. subst (IsSound no_schema) (shows.holds trees holds) bare,
        )

    pub existing_errors : (refused ≡ NoInstitution) ⊎ ((refused ≡ Failed F19) ⊎ (refused ≡ Failed F20))
    existing_errors = go refused back
      where
        go : (r : Refused) → ((fault : Fault) → r ≡ Failed fault → IsGivenBack over_files h new fault)
            → (r ≡ NoInstitution) ⊎ ((r ≡ Failed F19) ⊎ (r ≡ Failed F20))
        go NoInstitution given = inl refl
        go (Failed fault) given = elim (given fault refl).errors [
          | inl is ↦ inr (inl (ap Failed is))
          | inr is ↦ inr (inr (ap Failed is))
        ]

    pub existing_none_sound : refused ≡ Failed F19 → HasCleanDisk (file_state new) → HoldsNoneSound image
    existing_none_sound told clean =
        let some : (file_state h).now.schema ≢ no_schema =
        λ is. (let both : NoInstitution ≡ Failed F19 = sym (none.1 is) ∙ told in cc) in
        none_sound new F19 (back F19 told) refl some clean
