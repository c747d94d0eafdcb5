use Rattle.std.proofs.Common.{◌+◌, ◌∙◌, ◌++◌, [], ◌∷◌, Vec, Global, sym, ap, subst, true≢false}
use Rattle.std.specs.Cmp.{IsTotalOrder}
use Rattle.mf_store_sound.specs.Held.{Rises}
use Rattle.mf_store_audit.specs.declared.finding.RowKey.{RowKey}
use Rattle.mf_store_audit.proofs.DifferenceLemmas.{AreLacking, none_lacking, one_lacking, one_there_too, all_lacking}
use Rattle.mf_store_audit.proofs.accounts.add_lacking.Goals as goal
use Rattle.mf_store_audit.proofs.accounts.add_lacking.Goals.{then-not-is_among+in_ok-push, else-not-is_among}

pub loop-row-init : goal.loop-row-init
loop-row-init g c =
    none_lacking g.T.Keyed.key (IsTotalOrder g.T.Ranked.by × Rises g.T.Ranked.by c.args.others.now) c.args.rows.now
    c.args.others.now c.args.keys.now.items

pub loop-row-preserved : goal.loop-row-preserved
loop-row-preserved g c =
    let InOrder : Type 0 = IsTotalOrder g.T.Ranked.by × Rises g.T.Ranked.by c.args.others.now in
    let place = c.loop-row.row-index in
    let row = c.row-item.result in
    elim c.if-not-is_among.branch [
      | then-not-is_among+in_ok-push w ↦
          one_lacking g.T.Keyed.key InOrder c.args.rows.now c.args.others.now c.args.keys.now.items
          c.loop-row.keys.items c.if-not-is_among.keys.items place row c.loop-row-test.true c.row-item.is
          (λ order there. true≢false (sym (c.is_among.ensures.every order.0 order.1 there) ∙ w.if-not-is_among.true))
          (ap (λ (v : Vec RowKey Global). v.items) w.keys-is ∙ (w.in_ok-push.ensures {u = tt}).items
          ∙ (λ t. c.loop-row.keys.items ++ w.row_key.ensures t ∷ [])) c.loop-row.invariant
      | else-not-is_among w ↦
          subst (λ (v : Vec RowKey Global). AreLacking g.T.Keyed.key InOrder c.args.rows.now c.args.others.now
          c.args.keys.now.items v.items (place + 1)) (sym w.keys-is)
          (one_there_too g.T.Keyed.key InOrder c.args.rows.now c.args.others.now c.args.keys.now.items
          c.loop-row.keys.items place row c.row-item.is (c.is_among.ensures.some w.if-not-is_among.false)
          c.loop-row.invariant)
    ]

pub returns-clause-added : goal.returns-clause-added
returns-clause-added g c =
    let InOrder : Type 0 = IsTotalOrder g.T.Ranked.by × Rises g.T.Ranked.by c.args.others.now in
    let all = all_lacking g.T.Keyed.key InOrder c.args.rows.now c.args.others.now c.args.keys.now.items
    c.loop-row.keys.items c.loop-row.row-index c.loop-row-test.false c.loop-row.invariant in
    (all.0, all.1, λ total up. all.2 (total, up), all.3)
