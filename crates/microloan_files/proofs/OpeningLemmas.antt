-- What is so of a store of an opened file, by what the file held.
use Rattle.std.proofs.Common.{◌≡◌, ◌⊎◌, inl, inr, ℕ, Some, sym, subst}
use Rattle.sqlite.specs.Files.{HoldsDatabase}
use Rattle.sqlite_trees.specs.Tree.{Trees}
use Rattle.sqlite_wal.specs.Recovery.{Image}
use Rattle.mf_model.specs.Institution.{Institution, newly_made}
use Rattle.mf_store_values.specs.Flat.{tables_of}
use Rattle.mf_store_schema.specs.Writes.{Holds, HoldsAt}
use Rattle.mf_store_schema.specs.declared.versions.Version.{Version}
use Rattle.mf_store_schema.specs.declared.versions.Version.TheVariants.{First, Second}
use Rattle.mf_store_sound.specs.Schemas.{tables_at}
use Rattle.mf_store_sound.specs.Files.{HasNoTables}
use Rattle.mf_store_sound.specs.Held.{HoldsSoundAt, KeepsJournalAt}
use Rattle.mf_store_sound.proofs.JudgedLemmas.{kept_none}
use Rattle.microloan_files.specs.Opening.{HoldsInSchema, OpensAs}

pub opened_so : (P : Institution → Type 0) (day : ℕ) (image : Image) → (HasNoTables image → P (newly_made day))
    → ((v : Version) (trees : Trees) → HoldsDatabase image trees → (held : HoldsSoundAt v trees) → P held.institution)
    → (i : Institution) → OpensAs day image i → P i
opened_so P day image new found i (inl (none, is)) = subst P (sym is) (new none)
opened_so P day image new found i (inr (v, held)) =
    found v held.trees held.database (record {
      institution = i;
      sound = held.sound;
      holds = held.holds;
      keeps = held.keeps;
    })

-- what a file that held an institution holds, where its tables are as they were, or the second version's in place of
-- the first's
pub still_held : (may : Trees → Type 0) (image left : Image) (i : Institution) → HoldsInSchema image i
    → ((v : Version) (trees : Trees) → HoldsDatabase image trees → (held : HoldsSoundAt v trees) → (found : Trees)
    → may found → (found ≡ trees) ⊎ ((v ≡ First) × Holds found (Some (tables_of held.institution))))
    → (found : Trees) → may found → HoldsDatabase left found → HoldsInSchema left i
still_held may image left i (v, h) kept found there database =
    elim (kept v h.trees h.database (record {
      institution = i;
      sound = h.sound;
      holds = h.holds;
      keeps = h.keeps;
    }) found there) [
      | inl is ↦ (
        v,
        record {
          trees = found;
          database = database;
          sound = h.sound;
          holds = subst (λ (t : Trees). HoldsAt v t (tables_at v i)) (sym is) h.holds;
          keeps = subst (λ (t : Trees). KeepsJournalAt v t i.journal) (sym is) h.keeps;
        },
      )
      | inr (first, now) ↦ (
        Second,
        record {
          trees = found;
          database = database;
          sound = h.sound;
          holds = record { sound = now.sound; all = now.all };
          keeps = kept_none v (inl first) h.trees i.journal h.keeps;
        },
      )
    ]
