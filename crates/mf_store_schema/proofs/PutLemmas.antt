-- What one statement makes of all tables together.
use Rattle.std.proofs.Common.{◌≡◌, ℕ, pos, Bool, true, List, None, Some, Option, IsSome, [], ◌∷◌, refl, sym, map}
use Rattle.std.proofs.Common.{filter, Ordering, true≢false, ◌++◌, ap, subst, ◌∙◌}
use Rattle.sqlite.specs.Effect.{Database}
use Rattle.sqlite.specs.Order.{Row}
use Rattle.sqlite.specs.declared.types.Value.TheVariants.{Int}
use Rattle.sqlite.specs.State.{State}
use Rattle.sqlite.specs.Tree.{Trees}
use Rattle.sqlite_catalog.specs.Listing.{IsSound}
use Rattle.mf_store_sql.specs.Columns.{Columns}
use Rattle.mf_store_sql.specs.Keep.{Keeps, put_item}
use Rattle.mf_store_sql.specs.Meanings.{IsKept, Asks, are_always}
use Rattle.mf_store_sql.specs.Numbered.{Filed}
use Rattle.mf_store_sql.specs.Queries.{Answers}
use Rattle.mf_store_sql.specs.Rows.{AreKeepable, ArePlain, begins, first_cmp}
use Rattle.mf_store_sql.specs.Texts.{insert_text, upsert_text, select_text}
use Rattle.mf_store_sql.specs.Trees.{AllHold, SameTrees, changed_at}
use Rattle.mf_store_sql.specs.Writes.{Ran, Serves}
use Rattle.mf_store_sql.proofs.KeptLemmas.{Spares}
use Rattle.mf_store_sql.proofs.SpareLemmas.{all_changed}
use Rattle.mf_store_sql.proofs.TableLemmas
use Rattle.mf_store_sql.proofs.TableLemmas.{added, asked_shows}
use Rattle.mf_store_schema.specs.Tables.{schema_keeping}
use Rattle.mf_store_schema.specs.Rows.{Lists, IsNew, by_share, drop_shares, share_row}
use Rattle.mf_store_schema.specs.Writes.{lists_changed, schema_of, Holds, Putting, conditions, all_conditions}
use Rattle.mf_store_schema.specs.Writes.{journal_conditions, are_some, kept_in}
use Rattle.mf_store_schema.specs.declared.shares.EntryKey.{EntryKey}
use Rattle.mf_store_schema.specs.SharesTexts as Shares
use Rattle.mf_store_schema.proofs.RemoveLemmas.{delete_shares, removes_shares}

-- the database has the program's tables, which keep these lists
abbrev pub StandsAs : Database → Option Lists → Type 0
StandsAs = Serves schema_of Holds

nothing_there : {A : Type 0} → (let none : Option Lists = None in IsSome none) → A
nothing_there h = absurd (true≢false (sym h))

steps : (change : Lists → Lists) (sql : List ℕ) (params : Row) (old new : State) → Ran sql params old new
    → ((m : Lists) → StandsAs old.now (Some m) → StandsAs new.now (Some (change m))) → Putting change old new
steps change sql params old new ran turn = record { mode = ran.mode; was_open = ran.was_open; turns = turns }
  where
    turns : (lists : Option Lists) → StandsAs old.now lists → IsSome lists
        → StandsAs new.now (lists_changed change lists)
    turns None s there = nothing_there there
    turns (Some m) s there = turn m s

-- whether the lists have a journal
abbrev is_journaled : Lists → Bool
is_journaled lists = are_some lists.journal

same_trees : (lists : Lists) → SameTrees (schema_keeping (is_journaled lists)).tables (all_conditions lists)
same_trees lists = with_journal lists.journal
  where
    with_journal : (journal : List Filed) → SameTrees (schema_keeping (are_some journal)).tables
        (conditions lists ++ journal_conditions journal)
    with_journal [] = (refl, (refl, (refl, (refl, (refl, (refl, (refl, (refl, (refl, (refl, (refl, tt)))))))))))
    with_journal (line ∷ lines) =
        (refl, (refl, (refl, (refl, (refl, (refl, (refl, (refl, (refl, (refl, (refl, (refl, tt))))))))))))

module _ {X : Type 0} (t : Columns) (place tree : ℕ) (stored : X → Row) (by : X → X → Ordering)
    (list : Lists → List X) (put : X → Lists → Lists)
    (ordered : (a b : X) → by a b ≡ first_cmp t.key (stored a) (stored b))
    (fits : (x : X) → AreKeepable t.columns (stored x))
    (kept : (journaled : Bool) → IsKept (schema_keeping journaled) place tree t)
    (held : (trees : Trees) (lists : Lists) → AllHold trees (all_conditions lists) → Keeps stored by (trees tree)
    (list lists))
    (changes : (x : X) (lists : Lists) (trees : Trees) → AllHold trees (changed_at place (kept_in tree stored by
    (put_item by x (list lists))) (all_conditions lists)) → AllHold trees (all_conditions (put x lists)))
    (spared : (x : X) (lists : Lists) → (put x lists).journal ≡ lists.journal) where
  -- the table keeps another list, and the others what they kept
  stands_after : (x : X) (lists : Lists) (old new : Database) → StandsAs old (Some lists)
      → new.schema ≡ schema_keeping (is_journaled lists) → Keeps stored by (new.trees tree) (put_item by x (list lists))
      → Spares (schema_keeping (is_journaled lists)) tree old.trees new.trees
      → IsSound (schema_keeping (is_journaled lists)) new.trees → StandsAs new (Some (put x lists))
  stands_after x lists old new s has keeps spares sound =
      let same = ap (λ journal. schema_keeping (are_some journal)) (sym (spared x lists)) in
      record {
        schema_is = has ∙ same;
        holds = record {
          sound = subst (λ k. IsSound k new.trees) same sound;
          all = changes x lists new.trees (all_changed tree old.trees new.trees place
              (kept_in tree stored by (put_item by x (list lists))) (schema_keeping (is_journaled lists)).tables
              (all_conditions lists) (same_trees lists) spares (kept (is_journaled lists)).apart keeps s.holds.all);
        };
      }

  pub adding : (x : X) (old new : State) → Ran (insert_text t) (stored x) old new → Putting (put x) old new
  adding x old new ran = steps (put x) (insert_text t) (stored x) old new ran (λ m s.
      let did = added stored by (schema_keeping (is_journaled m)) place tree t ordered fits (kept (is_journaled m)) x
      old
      new ran.count (list m) s.schema_is (held old.now.trees m s.holds.all) ran.ran in
      stands_after x m old.now new.now s did.0 did.1 did.2 did.3)

  pub is_new : (x : X) (old new : State) → Ran (insert_text t) (stored x) old new → (m : Lists)
      → StandsAs old.now (Some m) → IsNew by x (list m)
  is_new x old new ran m s = (added stored by (schema_keeping (is_journaled m)) place tree t ordered fits
      (kept (is_journaled m)) x old new ran.count (list m) s.schema_is (held old.now.trees m s.holds.all) ran.ran).4

  pub putting : (x : X) (old new : State) → Ran (upsert_text t) (stored x) old new → Putting (put x) old new
  putting x old new ran = steps (put x) (upsert_text t) (stored x) old new ran (λ m s.
      let did = TableLemmas.put stored by (schema_keeping (is_journaled m)) place tree t ordered fits
      (kept (is_journaled m)) x old new ran.count (list m) s.schema_is (held old.now.trees m s.holds.all) ran.ran in
      stands_after x m old.now new.now s did.0 did.1 did.2 did.3)

  pub showing : (n : ℕ) → ((journaled : Bool) → Asks (schema_keeping journaled) place tree t n) → are_always n
      t.columns ≡ true → (params : Row)
      → ArePlain 0 n params → (is : X → Bool) → ((x : X) → is x ≡ begins n params (stored x)) → (lists : Lists)
      (db : Database) (rows : List Row) → StandsAs db (Some lists) → Answers (select_text t n) params db rows
      → rows ≡ map stored (filter is (list lists))
  showing n asks always params plain is same lists db rows s a =
      asked_shows stored by (schema_keeping (is_journaled lists)) place tree t ordered fits
      (kept (is_journaled lists)).under n params (asks (is_journaled lists)) always plain is same db (list lists) rows
      s.schema_is (held db.trees lists s.holds.all) a

pub removing_shares : (e : EntryKey) (old new : State) → Ran delete_shares (Int (pos e.office) ∷ Int (pos e.loan)
    ∷ Int (pos e.seq) ∷ []) old new → Putting (drop_shares e) old new
removing_shares e old new ran =
    steps (drop_shares e) delete_shares _ old new ran (λ m s.
    let did = removes_shares (is_journaled m) e.office e.loan e.seq old new ran.count m.shares s.schema_is
    s.holds.all.1.1.1.1.1.1.1.1.1.1.0 ran.ran in
    record {
      schema_is = did.0;
      holds = record {
        sound = did.3;
        all = all_changed 21 old.now.trees new.now.trees 10 (kept_in 21 share_row by_share (drop_shares e m).shares)
            (schema_keeping (is_journaled m)).tables (all_conditions m) (same_trees m) did.2
            (Shares.kept (is_journaled m)).apart did.1 s.holds.all;
      };
    })
