use Rattle.std.proofs.Common.{sym}
use Rattle.mf_store_lists.proofs.BoundsLemmas.{none_outside}
use Rattle.mf_store_lists.proofs.clients.is_listed.Goals as goal

pub returns-then-is_outside : goal.returns-then-is_outside
returns-then-is_outside c all =
    sym (none_outside c.args.bounds c.args.client c.args.lines.now (c.is_outside.ensures c.if-is_outside.true) all)

pub returns : goal.returns
returns c all = c.is_among.ensures
