use Rattle.std.proofs.Common.{◌≡◌, ◌∙◌, refl, sym, subst}
use Rattle.sqlite.specs.Held.{state}
use Rattle.sqlite.specs.Schema.{Schema}
use Rattle.mf_store_archived.specs.Reading.{HasOneTable}
use Rattle.mf_store_archived.proofs.AllLemmas.{no_error, tells_all}
use Rattle.mf_store_archived.proofs.reading.read_archive.Goals as goal

pub returns-then-not-has_one_table-clause-gives_up : goal.returns-then-not-has_one_table-clause-gives_up
returns-then-not-has_one_table-clause-gives_up g c clean begins lines part =
    let one : HasOneTable c.schema.result.now =
    subst HasOneTable (sym (c.schema.ensures.value ∙ part.keeps.schema_is))
    (record { tables = refl; indexes = refl; views = refl }) in
    absurd (cc (c.has_one_table.ensures.1 one))

pub returns-in-Ok-clause-only : goal.returns-in-Ok-clause-only
returns-in-Ok-clause-only g c clean begins lines part =
    c.archive_of.ensures.only begins lines (tells_all c.all_text.result.now begins lines
    (state g.S.Store c.args.connection.now).now c.in-Ok.rows.items c.all_text.ensures part (c.in-Ok.ensures.rows clean))

pub returns-in-Ok-clause-gives_up : goal.returns-in-Ok-clause-gives_up
returns-in-Ok-clause-gives_up g c clean begins lines part =
    no_error c.archive_of.result _ (c.archive_of.ensures.none begins lines
    (tells_all c.all_text.result.now begins lines (state g.S.Store c.args.connection.now).now c.in-Ok.rows.items
    c.all_text.ensures part (c.in-Ok.ensures.rows clean)))
