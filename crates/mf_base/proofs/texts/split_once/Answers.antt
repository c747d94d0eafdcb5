use Rattle.std.proofs.Common.{◌+◌, Some, take, drop, ap, ◌∙◌}
use Rattle.std.specs.Prelude.{option_map}
use Rattle.std.proofs.lemmas.List.{take_rest}
use Rattle.mf_base.proofs.texts.split_once.Goals as goal

pub returns-clause-parts : goal.returns-clause-parts
returns-clause-parts c =
    let text = c.args.text.now in
    ap (λ rest. Some (take c.in_ok-at.at text, rest)) (take_rest text (c.in_ok-at.at + 1))
    ∙ ap (option_map (λ at. (take at text, drop (at + 1) text))) c.in_ok-at.ensures
