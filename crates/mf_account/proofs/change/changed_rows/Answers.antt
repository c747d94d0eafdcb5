use Rattle.std.proofs.Common.{◌≡◌, ◌+◌, ◌++◌, ◌∷◌, [], ◌∙◌, ap, sym, subst, true≢false, ℕ, Vec, Global}
use Rattle.mf_account.specs.Change.{AreThose, HasOtherRow}
use Rattle.mf_account.proofs.ChangeLemmas.{those-more, those-same}
use Rattle.mf_account.proofs.change.changed_rows.Goals as goal
use Rattle.mf_account.proofs.change.changed_rows.Goals.{then-has_other_row+in_ok-push, else-has_other_row}

pub loop-k-preserved : goal.loop-k-preserved
loop-k-preserved c =
    let P : ℕ → Type 0 = HasOtherRow c.args.before.now c.args.after.now in
    let k : ℕ = c.loop-k.k in
    elim c.if-has_other_row.branch [
      | then-has_other_row+in_ok-push w ↦
          let items : c.if-has_other_row.changed.items ≡ c.loop-k.changed.items ++ (k + 1) ∷ [] =
          ap (λ (v : Vec ℕ Global). v.items) w.changed-is ∙ w.in_ok-push.ensures.items in
          record {
            those = subst (AreThose (k + 1) P) (sym items) (those-more k P c.loop-k.changed.items
                c.loop-k.invariant.those (c.has_other_row.ensures.0 w.if-has_other_row.true));
          }
      | else-has_other_row w ↦
          let items : c.if-has_other_row.changed.items ≡ c.loop-k.changed.items =
          ap (λ (v : Vec ℕ Global). v.items) w.changed-is in
          record {
            those = subst (AreThose (k + 1) P) (sym items)
                (those-same k P c.loop-k.changed.items c.loop-k.invariant.those
                (λ is. true≢false (sym (c.has_other_row.ensures.1 is) ∙ w.if-has_other_row.false)));
          }
    ]
