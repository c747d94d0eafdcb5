use Rattle.std.proofs.Common.{◌∙◌, ap, sym}
use Rattle.std.specs.Prelude.{decimal}
use Rattle.serde_json.specs.Written.{compact_text}
use Rattle.serde_json.proofs.OnLiterals.{serde_json_on_literals}
use Rattle.mf_lists_replies.specs.Lines.{last_or_null}
use Rattle.mf_lists_replies.proofs.Pieces.{last_by}
use Rattle.mf_lists_replies.proofs.due.last_text.Goals as goal

pub returns-clause-ok : goal.returns-clause-ok
unfolding serde_json_on_literals
returns-clause-ok c =
    c.in_ok-text.ensures.ok ∙ (λ i. last_by (c.in_ok-day.ensures.ok i) (decimal c.in-Some.last.seq))
    ∙ ap (λ last. compact_text (last_or_null last)) (sym c.in-Some.is)
