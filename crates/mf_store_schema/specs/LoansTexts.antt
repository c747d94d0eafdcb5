-- What the texts of loans mean, how its rows are ordered, and that its columns hold their values.
use Rattle.std.specs.Prelude.{◌≡◌, Bool, true, false, take}
use Rattle.std.proofs.Common.{inl, inr, refl, rules}
use Rattle.sqlite_tied.specs.Compute.{everything}
use Rattle.sqlite.specs.Listing.{understood}
use Rattle.mf_store_sql.specs.Making.{IsDefined}
use Rattle.mf_store_sql.specs.Meanings.{Asks, IsKept}
use Rattle.mf_store_sql.specs.Rows.{AreKeepable, first_cmp}
use Rattle.mf_store_schema.specs.Keys.{two_numbers}
use Rattle.mf_store_schema.specs.Tables.{schema_keeping, tables, made, loans}
use Rattle.mf_store_schema.specs.Versions.{schema_at}
use Rattle.mf_store_schema.specs.Whole.{IsAskable}
use Rattle.mf_store_schema.specs.declared.versions.Version.{Version}
use Rattle.mf_store_schema.specs.declared.versions.Version.TheVariants.{First, Second, Third}
use Rattle.mf_store_schema.specs.Rows.{loan_row, by_loan}
use Rattle.mf_store_schema.specs.declared.loans.LoanRow.{LoanRow}

pub kept : (journaled : Bool) → IsKept (schema_keeping journaled) 6 13 loans
unfolding understood everything
kept false = record {
  there = refl;
  quiet = λ keys olds news. refl;
  always = refl;
  index = inr (inr (inr (inr (inr (inr (inr (inl refl)))))));
  guards_it = refl;
  alone = λ new row. refl;
  apart = refl;
  under = λ trees. refl;
  adds = record { plain = (refl, refl); is = refl };
  puts = record { plain = (refl, refl); is = refl };
  finds = record { plain = (refl, refl); unlisted = refl; is = refl };
  shows = record { plain = (refl, refl); unlisted = refl; is = refl };
}
kept true = record {
  there = refl;
  quiet = λ keys olds news. refl;
  always = refl;
  index = inr (inr (inr (inr (inr (inr (inr (inl refl)))))));
  guards_it = refl;
  alone = λ new row. refl;
  apart = refl;
  under = λ trees. refl;
  adds = record { plain = (refl, refl); is = refl };
  puts = record { plain = (refl, refl); is = refl };
  finds = record { plain = (refl, refl); unlisted = refl; is = refl };
  shows = record { plain = (refl, refl); unlisted = refl; is = refl };
}

pub lists_by_1 : (journaled : Bool) → Asks (schema_keeping journaled) 6 13 loans 1
unfolding understood everything
lists_by_1 false = record { plain = (refl, refl); unlisted = refl; is = refl }
lists_by_1 true = record { plain = (refl, refl); unlisted = refl; is = refl }

-- the schema of each version
pub asked : (v : Version) → IsAskable (schema_at v) 6 13 loans
unfolding understood everything
asked First = record { there = refl; asks = record { plain = (refl, refl); unlisted = refl; is = refl } }
asked Second = record { there = (kept false).there; asks = (kept false).shows }
asked Third = record { there = (kept true).there; asks = (kept true).shows }

-- after the tables before it
pub defined : IsDefined (made (take 6 tables)) 13 loans
unfolding understood everything
defined = record { command = refl; plain = (refl, refl); table_is = refl; uncounted = refl; tree_is = refl }

pub ordered : (a b : LoanRow) → by_loan a b ≡ first_cmp 2 (loan_row a) (loan_row b)
ordered a b = two_numbers a.office a.number b.office b.number

pub fits : (x : LoanRow) → AreKeepable loans.columns (loan_row x)
fits x = search rules
