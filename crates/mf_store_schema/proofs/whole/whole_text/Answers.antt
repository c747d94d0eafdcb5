use Rattle.std.proofs.Common.{false, refl, sym, subst}
use Rattle.sqlite.specs.Given.{IsPlain}
use Rattle.sqlite.specs.Listing.{understood}
use Rattle.mf_store_schema.proofs.AskLemmas.{shows_whole}
use Rattle.mf_store_schema.proofs.whole.whole_text.Goals as goal

pub returns-clause-plain : goal.returns-clause-plain
returns-clause-plain g c k is =
    subst (λ sql. IsPlain (understood k sql)) (sym c.every_text.ensures)
    (g.met.T.Table.asked k is).asks.plain

pub returns-clause-shows : goal.returns-clause-shows
returns-clause-shows g c db rows is sound told =
    let t = g.T.Table in
    let laws = g.met.T.Table in
    shows_whole t.stored t.by db.schema t.place t.tree t.columns laws.ordered laws.fits (laws.kept false).under
    (g.met.T.Table.asked db.schema is) c.every_text.result.now c.every_text.ensures db rows refl sound told
