use Rattle.std.proofs.Common.{◌≡◌, ◌++◌, ap, slice_index, string_bytes, ◌∙◌}
use Rattle.std.specs.Prelude.{decimal}
use Rattle.json.specs.Print.{quoted}
use Rattle.serde_json.proofs.OnLiterals.{serde_json_on_literals}
use Rattle.mf_base.specs.DayText.{day_text}
use Rattle.mf_wire_replies.proofs.Pieces.{instalment_by}
use Rattle.mf_wire_replies.proofs.showing.account.InstalmentLineWritten.put.Goals as goal

pub returns-clause-ok : goal.returns-clause-ok
unfolding serde_json_on_literals
returns-clause-ok c =
    let line = c.args.self.now in
    let due : string_bytes c.in_ok-due.due ≡ quoted (day_text line.due) =
    c.in_ok-due.ensures ∙ ap quoted (c.as_str.ensures.value ∙ c.in_ok-text.ensures.ok) in
    c.in_ok-write.ensures.bytes
    ∙ (λ i. string_bytes c.args.text.now
    ++ instalment_by (due i) (decimal (slice_index line.owed (c.index.ensures.value i)))
    (decimal (slice_index line.owed (c.index-2.ensures.value i))) (decimal line.number) (c.in_ok-rest.ensures i))
