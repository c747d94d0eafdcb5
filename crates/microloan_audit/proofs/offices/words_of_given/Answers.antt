use Rattle.std.proofs.Common.{◌≡◌, ◌++◌, ◌∙◌, ap, List, ℕ}
use Rattle.std.specs.Prelude.{codes}
use Rattle.mf_office.specs.Keys.{child_key}
use Rattle.microloan_audit.specs.Quoted.{quoted}
use Rattle.microloan_audit.proofs.offices.words_of_given.Goals as goal

pub returns-clause-text : goal.returns-clause-text
returns-clause-text c =
    let row = c.args.row.now in
    let own : c.as_str-own.result.now ≡ quoted row.hkey =
    c.as_str-own.ensures.value ∙ c.in_ok-own.ensures.text ∙ ap quoted c.as_str.ensures in
    let given : c.as_str-given.result.now ≡ quoted (child_key c.args.above.now.hkey row.number) =
    c.as_str-given.ensures.value ∙ c.in_ok-given.ensures.text in
    c.in_ok-format.ensures.ok
    ∙ ap (λ (t : List ℕ). codes "hierarchy text " ++ (t ++ (codes ", its parent gives "
    ++ c.as_str-given.result.now))) own
    ∙ ap (λ (t : List ℕ). codes "hierarchy text " ++ (quoted row.hkey ++ (codes ", its parent gives " ++ t))) given
