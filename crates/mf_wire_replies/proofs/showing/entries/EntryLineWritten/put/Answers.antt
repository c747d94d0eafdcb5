use Rattle.std.proofs.Common.{◌≡◌, ◌++◌, true, ap, string_bytes, ◌∙◌}
use Rattle.std.specs.Prelude.{decimal}
use Rattle.json.specs.Print.{quoted}
use Rattle.serde_json.proofs.OnLiterals.{serde_json_on_literals}
use Rattle.mf_base.specs.DayText.{day_text}
use Rattle.serde_json.specs.Written.{members_text}
use Rattle.mf_wire_replies.specs.AccountTexts.{entry_rest}
use Rattle.mf_wire_replies.proofs.Pieces.{entry_by}
use Rattle.mf_wire_replies.proofs.showing.entries.EntryLineWritten.put.Goals as goal

pub returns-clause-ok : goal.returns-clause-ok
unfolding serde_json_on_literals
returns-clause-ok c =
    let line = c.args.self.now in
    let day : string_bytes c.in_ok-day.day ≡ quoted (day_text line.entry.day) =
    c.in_ok-day.ensures ∙ ap quoted (c.as_str.ensures.value ∙ c.in_ok-text.ensures.ok) in
    let rest : string_bytes c.in_ok-rest.rest ≡ members_text true (entry_rest line.entry line.shares) =
    c.in_ok-rest.ensures.ok ∙ (λ i. members_text true (entry_rest line.entry (c.as_slice.ensures i))) in
    c.in_ok-write.ensures.bytes ∙ (λ i. string_bytes c.args.text.now ++ entry_by (decimal line.amount) (day i)
    (decimal line.entry.seq) (c.in_ok-instalment.ensures i) (c.quoted_kind-kind.ensures i) (rest i))
