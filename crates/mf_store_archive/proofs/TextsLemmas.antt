-- The texts, by computation.
use Rattle.std.proofs.Common.{refl}
use Rattle.sqlite_tied.specs.Compute.{everything}
use Rattle.sqlite.specs.Listing.{understood}
use Rattle.mf_store_sql.specs.NumberedMeanings.{IsNumbered, IsNumberedBy}
use Rattle.mf_store_sql.specs.Tables.{no_schema}
use Rattle.mf_store_schema.specs.Tables.{journal}
use Rattle.mf_store_archive.specs.Texts.{Removes, PutsBeginning, IsArchive, TextsMean, archive_schema}

pub removes : Removes
unfolding understood everything
removes = record { plain = (refl, refl); is = refl }

pub puts_beginning : PutsBeginning
unfolding understood everything
puts_beginning = record { plain = (refl, refl); is = refl }

made : IsNumberedBy no_schema 0 journal
unfolding understood everything
made = record { command = refl; plain = (refl, refl); table_is = refl; uncounted = refl; tree_is = refl }

numbered : IsNumbered archive_schema 0 0 journal
unfolding understood everything
numbered = record {
  there = refl;
  quiet = λ keys olds news. refl;
  apart = refl;
  under = λ trees. refl;
  appends = record { plain = (refl, refl); is = refl };
  above = record { plain = (refl, refl); unlisted = refl; is = refl };
  last = record { plain = (refl, refl); unlisted = refl; is = refl };
}

pub is_archive : IsArchive
is_archive = record { made = made; schema_is = refl; numbered = numbered }

pub texts_mean : TextsMean
texts_mean = record { removes = removes; begins = puts_beginning; archive = is_archive }
