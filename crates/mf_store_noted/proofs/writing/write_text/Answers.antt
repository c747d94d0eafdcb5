use Rattle.std.proofs.Common.{◌∙◌, Some, ap, subst}
use Rattle.mf_model.specs.Institution.{noted_line}
use Rattle.mf_model.specs.Notes.{noted_as, received_now}
use Rattle.mf_model.specs.declared.note.RequestText.TheVariants.{Received}
use Rattle.mf_store_noted.specs.Writing.{MakesWrites}
use Rattle.mf_store_noted.proofs.writing.write_text.Goals as goal

pub returns-clause-makes : goal.returns-clause-makes
returns-clause-makes g c =
    let noted = noted_as c.args.caller (received_now (Received c.args.text.now)) c.args.names in
    subst (λ line. MakesWrites g.S.Store (Some c.args.place.journal) c.args.writes.now line c.args.connection.now
    c.write_row.new.connection c.write_row.result)
    (c.row_of-row.ensures ∙ ap (λ day. noted_line day noted) (c.from-today.ensures ∙ c.number.ensures))
    c.write_row.ensures.makes
