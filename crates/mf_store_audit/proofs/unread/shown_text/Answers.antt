use Rattle.std.proofs.Common.{◌∙◌, ℕ, [], false, refl, sym, subst}
use Rattle.sqlite.specs.Given.{IsPlain}
use Rattle.sqlite.specs.Listing.{understood}
use Rattle.mf_store_schema.proofs.AskLemmas.{shows_whole}
use Rattle.mf_store_schema.specs.Whole.{ShowsTable}
use Rattle.mf_store_sql.specs.Queries.{Answers}
use Rattle.mf_store_sql.specs.Texts.{select_text}
use Rattle.mf_store_audit.specs.Unread.{kept_as}
use Rattle.mf_store_audit.proofs.unread.shown_text.Goals as goal

pub returns-clause-plain : goal.returns-clause-plain
returns-clause-plain g c k is =
    subst (λ sql. IsPlain (understood k sql)) (sym c.every_text.ensures)
    (g.met.T.Table.asked k is).asks.plain

pub returns-clause-shows : goal.returns-clause-shows
returns-clause-shows g c db rows is sound told =
    let t = g.T.Table in
    let laws = g.met.T.Table in
    let kept = g.met.T.NamedTable.keeps in
    let name = g.T.NamedTable.name in
    let Shows = λ (tree : ℕ). ShowsTable (kept_as name).stored (kept_as name).cmp (db.trees tree) rows in
    record {
      answered = subst (λ sql. Answers sql [] db rows)
          (c.every_text.ensures ∙ (λ i. select_text (sym kept.columns_are i) 0)) told;
      shown = subst Shows (sym kept.tree_is)
          (kept.shown (db.trees t.tree) rows (shows_whole t.stored t.by db.schema t.place t.tree t.columns laws.ordered
          laws.fits (laws.kept false).under (laws.asked db.schema is) c.every_text.result.now c.every_text.ensures db
          rows refl sound told));
    }
