-- The texts of the journal, by computation.
use Rattle.std.proofs.Common.{refl}
use Rattle.sqlite_tied.specs.Compute.{everything}
use Rattle.sqlite.specs.Listing.{understood}
use Rattle.mf_store_sql.specs.NumberedMeanings.{IsNumbered, IsNumberedBy}
use Rattle.mf_store_schema.specs.Tables.{schema, journal, third_schema}
use Rattle.mf_store_journal.specs.Texts.{HasTexts, IsJournal}

pub has_texts : HasTexts
has_texts = record { create = refl; append = refl; above = refl; last = refl; first = refl }

made : IsNumberedBy schema 23 journal
unfolding understood everything
made = record { command = refl; plain = (refl, refl); table_is = refl; uncounted = refl; tree_is = refl }

numbered : IsNumbered third_schema 11 23 journal
unfolding understood everything
numbered = record {
  there = refl;
  quiet = λ keys olds news. refl;
  apart = refl;
  under = λ trees. refl;
  appends = record { plain = (refl, refl); is = refl };
  above = record { plain = (refl, refl); unlisted = refl; is = refl };
  last = record { plain = (refl, refl); unlisted = refl; is = refl };
}

pub is_journal : IsJournal
unfolding understood everything
is_journal = record {
  made = made;
  schema_is = refl;
  numbered = numbered;
  first = record { plain = (refl, refl); unlisted = refl; is = refl };
}
