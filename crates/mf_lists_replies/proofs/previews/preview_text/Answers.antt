use Rattle.std.proofs.Common.{◌≡◌, ◌∙◌, map, string_bytes}
use Rattle.std.specs.Prelude.{decimal}
use Rattle.serde_json.specs.Data.{array}
use Rattle.serde_json.specs.View.{items_of}
use Rattle.serde_json.specs.Written.{compact_text}
use Rattle.serde_json.proofs.OnLiterals.{serde_json_on_literals}
use Rattle.mf_lists_replies.specs.Lines.{instalment_data}
use Rattle.mf_lists_replies.proofs.Pieces.{preview_by}
use Rattle.mf_lists_replies.proofs.previews.preview_text.Goals as goal

pub returns-clause-ok : goal.returns-clause-ok
unfolding serde_json_on_literals
returns-clause-ok c =
    let shown = c.args.shown.now in
    let rows : string_bytes c.in_ok-instalments.instalments
    ≡ compact_text (array (items_of (map instalment_data shown.instalments))) =
    c.in_ok-instalments.ensures.ok ∙ (λ i. compact_text (array (items_of (map instalment_data (c.as_slice.ensures i)))))
    in
    c.in_ok-text.ensures.ok ∙ (λ i. preview_by (decimal shown.handed_over) (rows i) (decimal shown.kept)
    (decimal shown.owed) (c.in_ok-rate.ensures i))
