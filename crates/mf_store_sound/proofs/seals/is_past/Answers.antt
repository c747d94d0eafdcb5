use Rattle.std.proofs.Common.{◌≡◌, ◌==◌, ◌∙◌, true, false, sym, true≢false}
use Rattle.mf_store_sound.proofs.seals.is_past.Goals as goal
use Rattle.mf_store_sound.proofs.seals.is_past.Goals.{then-is_reversed, else-is_reversed}

pub returns-then-row-last : goal.returns-then-row-last
returns-then-row-last c x m f e p its r own =
    let reversed = c.is_reversed.ensures x m f its in
    elim c.if-is_reversed.branch [
      | then-is_reversed w ↦ rw (← reversed, w.if-is_reversed.true) c.if-row-last.true
      | else-is_reversed w ↦
          let same : (f.seq == e.seq) ≡ true =
          (λ t. (its t).seq == (own t).seq) ∙ sym w.value-is ∙ c.if-row-last.true in
          rw (← reversed, w.if-is_reversed.false, same) c.if-row-last.true
    ]

pub returns-else-row-last : goal.returns-else-row-last
returns-else-row-last c x m f e p its r own =
    let reversed = c.is_reversed.ensures x m f its in
    elim c.if-is_reversed.branch [
      | then-is_reversed w ↦ absurd (true≢false (sym (w.value-is ∙ w.if-is_reversed.true) ∙ c.if-row-last.false))
      | else-is_reversed w ↦
          let other : (f.seq == e.seq) ≡ false =
          (λ t. (its t).seq == (own t).seq) ∙ sym w.value-is ∙ c.if-row-last.false in
          rw (← reversed, w.if-is_reversed.false, other) (c.is_before.ensures x m f e p its r own)
    ]
