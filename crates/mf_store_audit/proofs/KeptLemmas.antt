-- What is unchanged under the schema that there is stays so over two steps, and under any schema.
use Rattle.std.proofs.Common.{◌≡◌, ◌⊎◌, inl, inr, true, false, subst, sym}
use Rattle.sqlite.specs.Schema.{Schema}
use Rattle.sqlite.specs.State.{State}
use Rattle.mf_store_schema.specs.Schemas.{IsKnown, IsUnchangedUnder}
use Rattle.mf_store_schema.specs.Tables.{IsPresent}
use Rattle.mf_store_schema.specs.Versions.{IsOfVersion}
use Rattle.mf_store_schema.specs.declared.versions.Version.{Version}
use Rattle.mf_store_schema.specs.declared.versions.Version.TheVariants.{Second, Third}
use Rattle.mf_store_schema.proofs.ReadLemmas.{unchanged_then}
use Rattle.mf_store_sound.proofs.NestedLemmas.{unchanged_fewer}
use Rattle.mf_store_audit.specs.Unread.{tables_searched}

pub then_under : (P Q : Schema → Type 0) (a b c : State) → ((k : Schema) → P k → Q k) → IsUnchangedUnder P a b
    → IsUnchangedUnder Q b c → IsUnchangedUnder P a c
then_under P Q a b c has first second =
    unchanged_fewer (λ k. P k × P k) P a c (λ k is. (is, is))
    (unchanged_then P P a b c first (unchanged_fewer Q P b c has second))

-- ---- the schemas that have all tables searched, in the order of the search

abbrev Six : Type 0 → Type 0
Six P = (P × (P × P)) × (P × (P × P))

abbrev Three : Type 0 → Type 0
Three P = P × (P × P)

pub under_common : (k : Schema) → IsKnown k → Six (IsKnown k) × Three (IsKnown k)
under_common k one = (((one, (one, one)), (one, (one, one))), (one, (one, one)))

pub under_all : (k : Schema) → IsKnown k → IsPresent k
    → (Six (IsKnown k) × Three (IsKnown k)) × (IsPresent k × IsPresent k)
under_all k one is = (under_common k one, (is, is))

-- a version with tables of accounts has today's, with or without a journal
pub present_of : (v : Version) → (v ≡ Second) ⊎ (v ≡ Third) → (k : Schema) → IsOfVersion v k → IsPresent k
present_of v (inl is) k ours = (false, subst (λ w. IsOfVersion w k) is ours)
present_of v (inr is) k ours = (true, subst (λ w. IsOfVersion w k) is ours)

-- and the tables that today's is searched for
pub later_tables : (v : Version) → (v ≡ Second) ⊎ (v ≡ Third) → tables_searched Second ≡ tables_searched v
later_tables v (inl is) = λ t. tables_searched (sym is t)
later_tables v (inr is) = λ t. tables_searched (sym is t)
