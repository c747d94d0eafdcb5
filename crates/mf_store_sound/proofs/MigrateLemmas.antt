-- The rows of a sound institution by the first version, and those that it has by the second.
use Rattle.std.proofs.Common.{◌≡◌, [], ◌∷◌, List, sym, ap, ◌∙◌}
use Rattle.mf_model.specs.Institution.{Institution}
use Rattle.mf_store_schema.specs.Rows.{Lists}
use Rattle.mf_store_schema.specs.declared.instalments.InstalmentRow.{InstalmentRow}
use Rattle.mf_store_schema.specs.declared.meta.MetaRow.{MetaRow}
use Rattle.mf_store_schema.specs.declared.shares.ShareRow.{ShareRow}
use Rattle.mf_store_schema.specs.declared.versions.Version.TheVariants.{First, Second}
use Rattle.mf_store_values.specs.Flat.{tables_of}
use Rattle.mf_store_sound.specs.Schemas.{meta_under, tables_at}

head_is : (a b : MetaRow) (rest : List MetaRow) → a ∷ [] ≡ b ∷ rest → a ≡ b
head_is a b rest e = cc

module _ (i : Institution) (t : Lists) (are : tables_at First i ≡ t) where
  -- the row of meta, with the new number
  pub meta_migrated : (row : MetaRow) (rest : List MetaRow) → t.meta ≡ row ∷ rest
      → record row { schema = 2 } ∷ [] ≡ (tables_of i).meta
  meta_migrated row rest first = ap (λ (r : MetaRow). record r { schema = 2 } ∷ [])
      (sym (head_is (meta_under 1 i.catalogue.day) row rest (ap (λ (l : Lists). l.meta) are ∙ first)))

  -- all other rows are as they were
  pub migrated : (meta : List MetaRow) (instalments : List InstalmentRow) (shares : List ShareRow)
      → meta ≡ (tables_of i).meta → instalments ≡ (tables_of i).instalments → shares ≡ (tables_of i).shares
      → record t { meta = meta; instalments = instalments; shares = shares } ≡ tables_at Second i
  migrated meta instalments shares one kept parts =
      λ z. record (sym are z) { meta = one z; instalments = kept z; shares = parts z }
