use Rattle.std.proofs.Common.{sym, ◌∙◌, true≢false}
use Rattle.mf_store_audit.specs.Unread.{HasBadText}
use Rattle.mf_store_audit.proofs.UnreadLemmas.{out_of_range}
use Rattle.mf_store_audit.proofs.unread.unread_value.Goals as goal

pub returns-else-has_bad_text : goal.returns-else-has_bad_text
returns-else-has_bad_text c = record {
  value = λ fields unread.
      let none : ¬ HasBadText c.args.row.now =
      λ has. absurd (true≢false (sym (c.has_bad_text.ensures.1 has) ∙ c.if-has_bad_text.false)) in
      (none, out_of_range fields c.args.row.now unread none);
}
