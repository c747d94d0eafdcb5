use Rattle.std.proofs.Common.{◌∙◌, sym, true≢false}
use Rattle.mf_store_audit.proofs.EntryFlawLemmas.{CanOutlast, not_last, outlasted}
use Rattle.mf_store_audit.proofs.PlaceLemmas.{contains_item, said_more, said_all}
use Rattle.mf_store_audit.proofs.seals.is_not_last.Goals as goal

pub returns-then-not-is_standing_seal-clause-every : goal.returns-then-not-is_standing_seal-clause-every
returns-then-not-is_standing_seal-clause-every c up n =
    absurd (true≢false (sym ((c.is_standing_seal.ensures c.args.row.now.office c.args.row.now.loan n.seal n.seal_is).1 (
      n.sealing,
      n.stands,
    )) ∙ c.if-not-is_standing_seal.true))

pub returns-then-outlasts-clause-some : goal.returns-then-outlasts-clause-some
returns-then-outlasts-clause-some c sealed =
    not_last c.args.rows.now c.args.row.now c.other-item.result (c.is_readable.ensures.0 c.if-not-is_readable.false)
    (λ x m e own. (c.is_standing_seal.ensures x m e own).0 c.if-not-is_standing_seal.false)
    (c.around-other-items.ensures.some c.other-item.result (contains_item c.around-other-items.result.now
    c.loop-other.other-index c.other-item.result c.loop-other-test.true c.other-item.is))
    (c.outlasts.ensures.some c.if-outlasts.true)

pub loop-other-preserved : goal.loop-other-preserved
loop-other-preserved c =
    said_more (λ other. ¬ CanOutlast other c.args.row.now) c.around-other-items.result.now c.loop-other.other-index
    c.other-item.result c.other-item.is (λ (e, f, readable, is, other_readable, own, apart, stands, later).
    true≢false (sym (c.outlasts.ensures.every e f readable is other_readable own apart stands later)
    ∙ c.if-outlasts.false)) c.loop-other.invariant

pub returns-clause-every : goal.returns-clause-every
returns-clause-every c up n =
    absurd (outlasted c.args.rows.now c.around-other-items.result.now c.args.row.now (c.around-other-items.ensures.every
    up) (said_all (λ other. ¬ CanOutlast other c.args.row.now) c.around-other-items.result.now c.loop-other.other-index
    c.loop-other-test.false c.loop-other.invariant) n)
