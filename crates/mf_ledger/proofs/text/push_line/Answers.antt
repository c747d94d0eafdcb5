use Rattle.std.proofs.Common.{◌≡◌, ap, ◌∙◌, rules}
use Rattle.std.specs.Int.{w128}
use Rattle.std.specs.Prelude.{FitsSigned}
use Rattle.std.proofs.lemmas.Int.{to_z-of_z}
use Rattle.mf_ledger.specs.Names.{name_of}
use Rattle.mf_ledger.specs.Text.{signed_text}
use Rattle.mf_ledger.proofs.TextLemmas.{line-is}
use Rattle.mf_ledger.proofs.text.push_line.Goals as goal

pub returns-clause-text : goal.returns-clause-text
returns-clause-text c =
    let name : c.as_str-name.result.now ≡ name_of c.args.program c.args.names.now c.args.posting.now.account =
    c.as_str-name.ensures.value ∙ c.in_ok-account.ensures.text in
    let fits : FitsSigned w128 c.args.posting.now.amount = search rules in
    let written : c.as_str-written.result.now ≡ signed_text c.args.posting.now.amount =
    c.as_str-written.ensures.value ∙ c.in_ok-amount.ensures.text
    ∙ ap signed_text (to_z-of_z w128 c.args.posting.now.amount fits) in
    line-is _ _ _ _ _ _ _ _ _ _ _ name written c.in_ok-push_str.ensures.bytes c.in_ok-push_str-2.ensures.bytes
    c.in_ok-push_str-3.ensures.bytes c.in_ok-push_amount.ensures.text c.in_ok-push_end.ensures.text
