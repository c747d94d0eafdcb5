use Rattle.std.proofs.Common.{◌∙◌, ◌++◌, ◌∷◌, [], ℕ, List, ap, sym, append_assoc}
use Rattle.mf_sheet_lines.specs.Results.{result_name}
use Rattle.mf_sheet_lines.proofs.ResultTexts.{record_is}
use Rattle.mf_sheet_lines.proofs.results.BegunRecord.end_with.Goals as goal

pub returns-clause-whole : goal.returns-clause-whole
returns-clause-whole c = λ fields is.
    let first = rw (c.as_bytes.ensures.value, c.name.ensures.value) at c.in-Ok.ensures.items in
    let joined = rw first at c.in-Ok-extend_from_slice.ensures.items in
    joined ∙ append_assoc c.self.inside.text.items (result_name c.args.outcome) (10 ∷ []) ∙ ap (λ (l : List ℕ). l
    ++ (result_name c.args.outcome ++ 10 ∷ [])) (c.self.view_is ∙ is) ∙ sym (record_is fields c.args.outcome)
