-- What the texts of meta mean, how its rows are ordered, and that its columns hold their values.
use Rattle.std.specs.Prelude.{◌≡◌, Bool, true, false, take}
use Rattle.std.proofs.Common.{inl, refl, rules}
use Rattle.sqlite_tied.specs.Compute.{everything}
use Rattle.sqlite.specs.Listing.{understood}
use Rattle.mf_store_sql.specs.Making.{IsDefined}
use Rattle.mf_store_sql.specs.Meanings.{IsKept}
use Rattle.mf_store_sql.specs.Rows.{AreKeepable, first_cmp}
use Rattle.mf_store_schema.specs.Keys.{one_number}
use Rattle.mf_store_schema.specs.Tables.{schema_keeping, tables, made, meta}
use Rattle.mf_store_schema.specs.Versions.{schema_at}
use Rattle.mf_store_schema.specs.Whole.{IsAskable}
use Rattle.mf_store_schema.specs.declared.versions.Version.{Version}
use Rattle.mf_store_schema.specs.declared.versions.Version.TheVariants.{First, Second, Third}
use Rattle.mf_store_schema.specs.Rows.{meta_row, by_meta}
use Rattle.mf_store_schema.specs.declared.meta.MetaRow.{MetaRow}

pub kept : (journaled : Bool) → IsKept (schema_keeping journaled) 0 0 meta
unfolding understood everything
kept false = record {
  there = refl;
  quiet = λ keys olds news. refl;
  always = refl;
  index = inl refl;
  guards_it = refl;
  alone = λ new row. refl;
  apart = refl;
  under = λ trees. refl;
  adds = record { plain = (refl, refl); is = refl };
  puts = record { plain = (refl, refl); is = refl };
  finds = record { plain = (refl, refl); unlisted = refl; is = refl };
  shows = record { plain = (refl, refl); unlisted = refl; is = refl };
}
kept true = record {
  there = refl;
  quiet = λ keys olds news. refl;
  always = refl;
  index = inl refl;
  guards_it = refl;
  alone = λ new row. refl;
  apart = refl;
  under = λ trees. refl;
  adds = record { plain = (refl, refl); is = refl };
  puts = record { plain = (refl, refl); is = refl };
  finds = record { plain = (refl, refl); unlisted = refl; is = refl };
  shows = record { plain = (refl, refl); unlisted = refl; is = refl };
}

-- the schema of each version
pub asked : (v : Version) → IsAskable (schema_at v) 0 0 meta
unfolding understood everything
asked First = record { there = refl; asks = record { plain = (refl, refl); unlisted = refl; is = refl } }
asked Second = record { there = (kept false).there; asks = (kept false).shows }
asked Third = record { there = (kept true).there; asks = (kept true).shows }

-- after the tables before it
pub defined : IsDefined (made (take 0 tables)) 0 meta
unfolding understood everything
defined = record { command = refl; plain = (refl, refl); table_is = refl; uncounted = refl; tree_is = refl }

pub ordered : (a b : MetaRow) → by_meta a b ≡ first_cmp 1 (meta_row a) (meta_row b)
ordered a b = one_number a.one b.one

pub fits : (x : MetaRow) → AreKeepable meta.columns (meta_row x)
fits x = search rules
