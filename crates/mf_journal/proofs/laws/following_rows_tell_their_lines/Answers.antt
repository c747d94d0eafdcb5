use Rattle.mf_journal.proofs.FollowingLemmas.{come_to}
use Rattle.mf_journal.proofs.laws.following_rows_tell_their_lines.Goals as goal

pub returns : goal.returns
returns c h rows on =
    let all = come_to h rows on in
    (all.chain, all.number, all.day)
