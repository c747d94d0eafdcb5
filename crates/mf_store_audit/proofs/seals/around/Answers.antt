use Rattle.std.proofs.Common.{rules, is_lt}
use Rattle.std.specs.Ordering.{is_le}
use Rattle.std.proofs.lemmas.Fn.{always_returns_same}
use Rattle.mf_store_audit.proofs.AroundLemmas.{by_loan, own_between}
use Rattle.mf_store_audit.proofs.seals.around.Goals as goal

pub returns-clause-every : goal.returns-clause-every
returns-clause-every c up other there office loan =
    let o = c.args.row.now.office in
    let l = c.args.row.now.loan in
    own_between o l c.args.rows.now c.partition_point-first.result c.partition_point-last.result up
    c.partition_point-last.ensures.bound
    (c.partition_point-first.ensures.partitioned (λ y. is_lt (by_loan o l y)) (always_returns_same _ _ _
    (λ a r h called. (search rules, search rules))))
    (c.partition_point-last.ensures.partitioned (λ y. is_le (by_loan o l y)) (always_returns_same _ _ _
    (λ a r h called. (search rules, search rules)))) other there office loan
