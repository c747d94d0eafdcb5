use Rattle.std.proofs.Common.{ℕ, List, [], ◌∷◌, ◌++◌, cond, take, ap, sym, ◌∙◌}
use Rattle.std.proofs.lemmas.List.Elements.{filter_more}
use Rattle.mf_folding.specs.Folding.{is_no_accent, without_accents}
use Rattle.mf_folding.proofs.without_accents.Goals as goal

pub loop-c-preserved : goal.loop-c-preserved
loop-c-preserved c =
    let all = c.args.all.now in
    let n = c.loop-c.c-index in
    let item = c.c-item.result in
    c.in_ok-put.ensures
    ∙ ap (λ (xs : List ℕ). xs ++ cond (is_no_accent item) (item ∷ []) []) c.loop-c.invariant
    ∙ ap (λ (x : ℕ). without_accents (take n all) ++ cond (is_no_accent x) (x ∷ []) []) c.c-item.is
    ∙ sym (filter_more is_no_accent all n item c.loop-c-test.true)
