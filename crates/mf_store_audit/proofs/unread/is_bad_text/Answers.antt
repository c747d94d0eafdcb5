use Rattle.std.proofs.Common.{ap}
use Rattle.sqlite_value.specs.Value.{owned}
use Rattle.mf_store_audit.proofs.UnreadLemmas.{is_bad}
use Rattle.mf_store_audit.proofs.unread.is_bad_text.Goals as goal

pub returns-in-Err : goal.returns-in-Err
returns-in-Err c = is_bad (owned c.args.value) c.in-Text.text.now (ap owned c.in-Text.is) c.in-Err.ensures.cases.0
