use Rattle.std.proofs.Common.{◌≡◌, true, List, ℕ, ap, sym, ◌∙◌}
use Rattle.std.proofs.lemmas.Result.{IfOk-weaker}
use Rattle.std.specs.List.{list_all}
use Rattle.mf_wire_replies.specs.Json.{is_plain_byte}
use Rattle.mf_wire_replies.proofs.Quoted.{quoted_plain}
use Rattle.mf_wire_replies.proofs.showing.texts.quoted_text.Goals as goal

pub returns-then-is_plain : goal.returns-then-is_plain
returns-then-is_plain c =
    let plain : list_all is_plain_byte c.args.text.now ≡ true =
    ap (λ (x : List ℕ). list_all is_plain_byte x) (sym c.as_bytes.ensures.value) ∙ sym c.is_plain.ensures
    ∙ c.if-is_plain.true in
    IfOk-weaker c.text_in.result _ _ (λ s h. h ∙ quoted_plain c.args.text.now plain) c.text_in.ensures.ok
