use Rattle.std.proofs.lemmas.Result.{IfOk-weaker}
use Rattle.mf_store_sound.proofs.OfficeTreeLemmas.{offices_from_rows, rows_from_offices}
use Rattle.mf_store_sound.proofs.offices.are_offices.Goals as goal

pub returns-clause-offices : goal.returns-clause-offices
returns-clause-offices c =
    let law = c.tree_by_its_keys.ensures in
    let rows = c.args.offices.now in
    IfOk-weaker c.are_office_rows.result _ _ (λ yes h. (
      λ y. offices_from_rows rows law (h.0 y),
      λ a. h.1 (rows_from_offices rows law a),
    )) c.are_office_rows.ensures.rows
