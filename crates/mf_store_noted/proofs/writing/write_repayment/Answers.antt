use Rattle.std.proofs.Common.{◌∙◌, Some, ap, subst, codes}
use Rattle.mf_model.specs.Institution.{noted_line}
use Rattle.mf_model.specs.Notes.{noted_as, repayment_body}
use Rattle.mf_store_noted.specs.Writing.{MakesWrites}
use Rattle.mf_store_noted.proofs.writing.write_repayment.Goals as goal

pub returns-clause-makes : goal.returns-clause-makes
returns-clause-makes g c =
    let asked = c.args.repayment.now in
    let path = c.as_bytes.ensures.value ∙ c.in_ok-path.ensures.path in
    let body = c.deref.ensures.value ∙ c.in_ok-body.ensures.body
    ∙ ap (repayment_body asked.amount asked.day) (c.as_bytes-receipt.ensures.value ∙ c.as_str.ensures) in
    subst (λ received. MakesWrites g.S.Store (Some c.args.place.journal) c.args.writes.now
    (noted_line c.args.place.day (noted_as c.args.caller received c.args.names)) c.args.connection.now
    c.write_text.new.connection c.write_text.result)
    (λ t. record { told = asked.told.now; method = codes "POST"; path = path t; body = body t })
    c.write_text.ensures.makes
