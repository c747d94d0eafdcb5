use Rattle.std.proofs.Common.{List, ℕ, ◌++◌, ◌∷◌, [], codes, ap, ◌∙◌}
use Rattle.std.specs.Fmt.{digits}
use Rattle.mf_lists_replies.proofs.replies.list_line.Goals as goal

pub returns-clause-ok : goal.returns-clause-ok
unfolding digits
returns-clause-ok c =
    c.in_ok-text_in.ensures.ok ∙ ap (λ (body : List ℕ). codes "200 " ++ (body ++ 10 ∷ [])) c.in_ok-body.ensures.ok
