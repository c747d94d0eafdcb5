use Rattle.std.proofs.Common.{◌≡◌, ◌∙◌, true, false, sym, true≢false}
use Rattle.std.specs.Prelude.{not}
use Rattle.mf_account.specs.Kinds.{is_seal}
use Rattle.mf_store_sound.proofs.seals.is_in_order.Goals as goal
use Rattle.mf_store_sound.proofs.seals.is_in_order.Goals.{then-is_reversed, else-is_reversed}

pub returns-then-not-is_seal : goal.returns-then-not-is_seal
returns-then-not-is_seal c x m entries e p are r own =
    let reversed = c.is_reversed.ensures x m e own in
    elim c.if-is_reversed.branch [
      | then-is_reversed w ↦ rw (← reversed, w.if-is_reversed.true) c.if-not-is_seal.true
      | else-is_reversed w ↦
          let none : not (is_seal e.kind) ≡ true =
          (λ t. not (sym (w.is_seal.ensures x m e own) t)) ∙ sym w.value-is ∙ c.if-not-is_seal.true in
          rw (← reversed, w.if-is_reversed.false, none) c.if-not-is_seal.true
    ]

pub returns-else-not-is_seal : goal.returns-else-not-is_seal
returns-else-not-is_seal c x m entries e p are r own =
    let reversed = c.is_reversed.ensures x m e own in
    elim c.if-is_reversed.branch [
      | then-is_reversed w ↦ absurd (true≢false (sym (w.value-is ∙ w.if-is_reversed.true) ∙ c.if-not-is_seal.false))
      | else-is_reversed w ↦
          let seal : not (is_seal e.kind) ≡ false =
          (λ t. not (sym (w.is_seal.ensures x m e own) t)) ∙ sym w.value-is ∙ c.if-not-is_seal.false in
          rw (← reversed, w.if-is_reversed.false, seal) (c.is_last.ensures x m entries e p are r own)
    ]
