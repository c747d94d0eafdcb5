use Rattle.std.proofs.Common.{List, ℕ, ◌++◌, ◌∷◌, [], map, ap, ◌∙◌}
use Rattle.mf_wire_replies.proofs.Joined.{list_closed}
use Rattle.mf_lists_replies.proofs.lines.named_text.Goals as goal

pub returns-clause-ok : goal.returns-clause-ok
returns-clause-ok g c name opened =
    c.in_ok-push_str.ensures.bytes
    ∙ ap (λ (x : List ℕ). x ++ 93 ∷ 125 ∷ []) c.in_ok-put_lines.ensures.ok
    ∙ list_closed name _ (map (g.T.ListLine.json c.args.place) c.args.lines.now) (c.in_ok-text.ensures.ok ∙ opened)
