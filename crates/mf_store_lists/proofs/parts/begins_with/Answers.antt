use Rattle.std.proofs.Common.{sym}
use Rattle.mf_store_lists.proofs.FindingLemmas.{begins_not}
use Rattle.mf_store_lists.proofs.parts.begins_with.Goals as goal

pub returns-then-part-text : goal.returns-then-part-text
returns-then-part-text c = sym (begins_not c.args.part.now c.args.text.now c.if-part-text.true)
