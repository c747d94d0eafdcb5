-- What the writes of an archive make of its table.
use Rattle.std.proofs.Common.{◌≡◌, ◌∙◌, ℕ, List, [], ◌∷◌, ◌++◌, Option, None, Some, sym, true≢false}
use Rattle.sqlite.specs.Effect.{Database}
use Rattle.sqlite.specs.Order.{Row}
use Rattle.sqlite.specs.State.{State}
use Rattle.mf_store_sql.specs.Numbered.{Filed, append_text, create_numbered, shown_filed}
use Rattle.mf_store_sql.specs.NumberedMeanings.{AppendsLine, MakesNumbered}
use Rattle.mf_store_sql.specs.Tables.{no_schema}
use Rattle.mf_store_sql.specs.Writes.{Serves, Steps}
use Rattle.mf_store_schema.specs.Tables.{journal}
use Rattle.mf_journal.specs.Following.{line_of}
use Rattle.mf_journal.specs.declared.following.Head.{Head}
use Rattle.mf_journal.specs.declared.following.KeptRow.{KeptRow}
use Rattle.mf_store_journal.specs.Rows.{filed_beginning, filed_kept}
use Rattle.mf_store_journal.proofs.RowsLemmas.{line_fits}
use Rattle.mf_store_archive.specs.Appending.{AppendsRow, KeepsArchive, MakesArchive}
use Rattle.mf_store_archive.specs.Filing.{FitsFiling, HoldsFiled, after_filing, filing_schema}
use Rattle.mf_store_archive.specs.Texts.{archive_schema}
use Rattle.mf_store_archive.specs.declared.filing.Filing.TheVariants.{Begin, Put}
use Rattle.mf_store_archive.proofs.TextsLemmas.{is_archive}

-- ---- the calls

pub makes_archive : (sql : List ℕ) (old new : State) → sql ≡ create_numbered journal → MakesNumbered sql old new
    → MakesArchive old new
makes_archive sql old new is h = record {
  mode = h.mode;
  was_open = h.was_open;
  made = λ has. let made = h.made no_schema 0 journal is is_archive.made has in
      record { schema_is = made.schema_is ∙ is_archive.schema_is; keeps = made.fresh };
}

pub appends_row : (sql : List ℕ) (params : Row) (k : KeptRow) (old new : State) → sql ≡ append_text journal
    → params ≡ shown_filed (filed_kept k) → AppendsLine sql params old new → AppendsRow (filed_kept k) old new
appends_row sql params k old new is given h = record {
  mode = h.mode;
  was_open = h.was_open;
  put = λ rows keeps. h.appended archive_schema 0 0 journal (filed_kept k) rows is given is_archive.numbered
      (line_fits (line_of k) k.chain) keeps.schema_is keeps.keeps;
}

-- ---- as parts of a commit

abbrev Stands : Database → Option (List Filed) → Type 0
Stands = Serves filing_schema HoldsFiled

row_stands : (row : Filed) (rows : List Filed) (old new : State) → AppendsRow row old new → KeepsArchive old.now rows
    → Stands new.now (Some (rows ++ row ∷ []))
row_stands row rows old new appends keeps = let put = appends.put rows keeps in
    record { schema_is = put.schema_is; holds = record { sound = put.sound; keeps = put.keeps } }

pub puts_row : (kept : KeptRow) (old new : State) → AppendsRow (filed_kept kept) old new
    → Steps Stands (FitsFiling (Put kept)) (after_filing (Put kept)) old new
puts_row kept old new appends = record { mode = appends.mode; was_open = appends.was_open; turns = turns }
  where
    turns : (rows : Option (List Filed)) → Stands old.now rows → FitsFiling (Put kept) rows
        → Stands new.now (after_filing (Put kept) rows)
    turns None s fits = absurd (true≢false (sym fits))
    turns (Some rows) s fits = row_stands (filed_kept kept) rows old new appends
        (record { schema_is = s.schema_is; keeps = s.holds.keeps })

pub begins_archive : (head : Head) (old mid new : State) → MakesArchive old mid
    → AppendsRow (filed_beginning head) mid new
    → Steps Stands (FitsFiling (Begin head)) (after_filing (Begin head)) old new
begins_archive head old mid new makes appends =
    record { mode = appends.mode; was_open = makes.was_open; turns = turns }
  where
    turns : (rows : Option (List Filed)) → Stands old.now rows → FitsFiling (Begin head) rows
        → Stands new.now (after_filing (Begin head) rows)
    turns None s fits = row_stands (filed_beginning head) [] mid new appends (makes.made s.schema_is)
    turns (Some rows) s fits = absurd (cc)
