-- What the texts of instalments mean, how its rows are ordered, and that its columns hold their values.
use Rattle.std.specs.Prelude.{◌≡◌, Bool, true, false, take}
use Rattle.std.proofs.Common.{inl, inr, refl, rules}
use Rattle.sqlite_tied.specs.Compute.{everything}
use Rattle.sqlite.specs.Listing.{understood}
use Rattle.mf_store_sql.specs.Making.{IsDefined}
use Rattle.mf_store_sql.specs.Meanings.{Asks, IsKept}
use Rattle.mf_store_sql.specs.Rows.{AreKeepable, first_cmp}
use Rattle.mf_store_schema.specs.Keys.{three_numbers}
use Rattle.mf_store_schema.specs.Tables.{schema_keeping, tables, made, instalments}
use Rattle.mf_store_schema.specs.Rows.{instalment_row, by_instalment}
use Rattle.mf_store_schema.specs.declared.instalments.InstalmentRow.{InstalmentRow}

pub kept : (journaled : Bool) → IsKept (schema_keeping journaled) 9 19 instalments
unfolding understood everything
kept false = record {
  there = refl;
  quiet = λ keys olds news. refl;
  always = refl;
  index = inr (inr (inr (inr (inr (inr (inr (inr (inr (inr (inl refl))))))))));
  guards_it = refl;
  alone = λ new row. refl;
  apart = refl;
  under = λ trees. refl;
  adds = record { plain = (refl, refl); is = refl };
  puts = record { plain = (refl, refl); is = refl };
  finds = record { plain = (refl, refl); unlisted = refl; is = refl };
  shows = record { plain = (refl, refl); unlisted = refl; is = refl };
}
kept true = record {
  there = refl;
  quiet = λ keys olds news. refl;
  always = refl;
  index = inr (inr (inr (inr (inr (inr (inr (inr (inr (inr (inl refl))))))))));
  guards_it = refl;
  alone = λ new row. refl;
  apart = refl;
  under = λ trees. refl;
  adds = record { plain = (refl, refl); is = refl };
  puts = record { plain = (refl, refl); is = refl };
  finds = record { plain = (refl, refl); unlisted = refl; is = refl };
  shows = record { plain = (refl, refl); unlisted = refl; is = refl };
}

pub lists_by_2 : (journaled : Bool) → Asks (schema_keeping journaled) 9 19 instalments 2
unfolding understood everything
lists_by_2 false = record { plain = (refl, refl); unlisted = refl; is = refl }
lists_by_2 true = record { plain = (refl, refl); unlisted = refl; is = refl }

pub lists_by_1 : (journaled : Bool) → Asks (schema_keeping journaled) 9 19 instalments 1
unfolding understood everything
lists_by_1 false = record { plain = (refl, refl); unlisted = refl; is = refl }
lists_by_1 true = record { plain = (refl, refl); unlisted = refl; is = refl }

-- after the tables before it
pub defined : IsDefined (made (take 9 tables)) 19 instalments
unfolding understood everything
defined = record { command = refl; plain = (refl, refl); table_is = refl; uncounted = refl; tree_is = refl }

pub ordered : (a b : InstalmentRow) → by_instalment a b ≡ first_cmp 3 (instalment_row a) (instalment_row b)
ordered a b = three_numbers a.office a.loan a.number b.office b.loan b.number

pub fits : (x : InstalmentRow) → AreKeepable instalments.columns (instalment_row x)
fits x = search rules
