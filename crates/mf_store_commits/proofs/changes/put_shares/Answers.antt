use Rattle.std.proofs.Common.{◌++◌, sym, ap, ◌∙◌, take, get_or}
use Rattle.std.specs.List.{flat_map}
use Rattle.std.proofs.lemmas.List.{flat_map_more, take_more}
use Rattle.mf_store_commits.specs.ChangeWrites.{shares_replaced}
use Rattle.mf_store_commits.proofs.changes.put_shares.Goals as goal

pub loop-seq-preserved : goal.loop-seq-preserved
loop-seq-preserved c =
    let seqs = c.args.seqs.now in
    let at = c.loop-seq.seq-index in
    let first = c.args.writes.now.items in
    let own = shares_replaced c.args.office c.args.loan c.args.account.now.settled in
    c.in_ok-replace_shares.ensures.writes ∙ ap (λ l. l ++ own (get_or seqs at 0)) c.loop-seq.invariant
    ∙ flat_map_more own first (take at seqs) (get_or seqs at 0)
    ∙ ap (λ l. first ++ flat_map own l) (sym (take_more seqs at 0 c.loop-seq-test.true))
