use Rattle.std.proofs.Common.{ap, not, sym, ◌∙◌, subst}
use Rattle.sqlite.specs.Files.{over_files}
use Rattle.mf_store_noted.specs.Tabled.{HasGoodDisk, LeavesTables}
use Rattle.mf_store_files.proofs.ClosedLemmas.{whole, left_whole, kept, was_good}
use Rattle.mf_store_files.proofs.closing.close.Goals as goal

pub returns-in-Ok-clause-premise : goal.returns-in-Ok-clause-premise
returns-in-Ok-clause-premise g c clean =
    subst (λ h. HasGoodDisk over_files h) c.release-connection.ensures.same (c.in-Ok.ensures.copied clean).was_clean

pub returns-in-Err-clause-premise : goal.returns-in-Err-clause-premise
returns-in-Err-clause-premise g c clean =
    subst (λ h. HasGoodDisk over_files h) c.release-connection.ensures.same (was_good c.release-connection.result
    c.in-Err.rest c.in-Err.ensures.err.0 clean)

pub returns-in-Ok-clause-whole : goal.returns-in-Ok-clause-whole
returns-in-Ok-clause-whole g c clean i stands =
    let settled = c.is_autocommit-settled.ensures in
    whole c.release-connection.result (settled.settled (settled.value ∙ ap not c.release-connection.ensures.alone))
    c.in-Ok.files (c.in-Ok.ensures.copied clean) c.args.store.journal i (c.release-connection.ensures.holds i stands)

pub returns-in-Ok-clause-left_whole : goal.returns-in-Ok-clause-left_whole
returns-in-Ok-clause-left_whole g c clean i stands =
    let settled = c.is_autocommit-settled.ensures in
    left_whole c.release-connection.result (settled.settled (settled.value ∙ ap not c.release-connection.ensures.alone))
    c.in-Ok.files (c.in-Ok.ensures.copied clean) c.args.store.journal i (c.release-connection.ensures.holds i stands)

pub returns-in-Err-clause-kept : goal.returns-in-Err-clause-kept
returns-in-Err-clause-kept g c clean is leaves =
    kept c.release-connection.result c.in-Err.rest c.in-Err.ensures.err.0 clean is
    (subst (λ h. LeavesTables over_files h is) (sym c.release-connection.ensures.same) leaves)
