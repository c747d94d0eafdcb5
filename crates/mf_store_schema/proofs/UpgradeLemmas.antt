-- Two tables made beside nine that keep their rows.
use Rattle.std.proofs.Common.{◌≡◌, ◌∙◌, ℕ, List, [], ◌∷◌, map, take, drop, refl, subst}
use Rattle.sqlite.specs.Effect.{Database}
use Rattle.sqlite.specs.Listing.{understood}
use Rattle.sqlite.specs.State.{State}
use Rattle.sqlite_tied.specs.Compute.{everything}
use Rattle.sqlite_catalog.specs.Listing.{IsSound}
use Rattle.mf_store_sql.specs.Columns.{Columns}
use Rattle.mf_store_sql.specs.Making.{AreDefined, Makes, made_after}
use Rattle.mf_store_sql.specs.Texts.{create_text}
use Rattle.mf_store_sql.specs.Trees.{SameTrees}
use Rattle.mf_store_sql.specs.Writes.{Serves, Steps}
use Rattle.mf_store_sql.proofs.SpareLemmas.{all_same, all_and}
use Rattle.mf_store_schema.specs.Tables.{schema, tables, made}
use Rattle.mf_store_schema.specs.Versions.{schema_at}
use Rattle.mf_store_schema.specs.declared.versions.Version.TheVariants.{First, Second, Third}
use Rattle.mf_store_schema.specs.InstalmentsTexts as Instalments
use Rattle.mf_store_schema.specs.SharesTexts as Shares
use Rattle.mf_store_schema.specs.Rows.{Lists, instalment_row, share_row, by_instalment, by_share}
use Rattle.mf_store_schema.specs.Writes.{kept_in, conditions}
use Rattle.mf_store_schema.proofs.MakeLemmas.{kept_none}
use Rattle.mf_store_schema.proofs.OrderLemmas.{by_instalment_total, by_share_total}
use Rattle.mf_store_schema.specs.Upgrade.{KeptLists, At, Own, schema_kept, HoldsKept, FitsUpgrade, after_upgrade}
use Rattle.mf_store_schema.specs.declared.upgrade_writes.UpgradeWrite.TheVariants.{MakeAccountTables}

-- ---- the two tables

abbrev added : List (ℕ × Columns)
added = drop 9 tables

nine_is : made (take 9 tables) ≡ schema_at First
unfolding understood everything
nine_is = refl

eleven_is : made_after (schema_at First) added ≡ schema
unfolding understood everything
eleven_is = refl

both_defined : AreDefined (schema_at First) added
both_defined = subst (λ k. AreDefined k added) nine_is (Instalments.defined, (Shares.defined, tt))

abbrev Stands : Database → KeptLists → Type 0
Stands = Serves schema_kept HoldsKept

first_trees : (lists : Lists) → SameTrees (schema_at First).tables (take 9 (conditions lists))
first_trees lists = (refl, (refl, (refl, (refl, (refl, (refl, (refl, (refl, (refl, tt)))))))))

pub making_accounts : (old new : State) → Makes (map (λ (t : ℕ × Columns). create_text t.1) added) old new
    → Steps Stands (FitsUpgrade MakeAccountTables) (after_upgrade MakeAccountTables) old new
making_accounts old new makes =
    record { mode = makes.mode; was_open = makes.was_open (λ e. absurd (cc)); turns = turns }
  where
    turns : (lists : KeptLists) → Stands old.now lists → FitsUpgrade MakeAccountTables lists
        → Stands new.now (after_upgrade MakeAccountTables lists)
    turns (Own lists) s fits = absurd fits
    turns (At Second m) s fits = absurd (cc)
    turns (At Third m) s fits = absurd (cc)
    turns (At First m) s fits =
        let made = makes.made (schema_at First) added refl both_defined s.schema_is s.holds.sound in
        let nine = all_same old.now.trees new.now.trees (schema_at First).tables (take 9 (conditions m)) (first_trees m)
        made.others s.holds.all in
        record {
          schema_is = made.schema_is ∙ eleven_is;
          holds = record {
            sound = subst (λ k. IsSound k new.now.trees) eleven_is made.sound;
            all = all_and new.now.trees (take 9 (conditions m)) (kept_in 19 instalment_row by_instalment []
                ∷ kept_in 21 share_row by_share [] ∷ []) nine (
                  kept_none by_instalment by_instalment_total instalment_row (made.fresh.0),
                  (kept_none by_share by_share_total share_row (made.fresh.1.0), tt),
                );
          };
        }
