-- One more write in the transaction.
use Rattle.std.proofs.Common.{◌≡◌, ◌<◌, ◌+◌, ℕ, List, [], ◌∷◌, ◌++◌, take, length, get_or, refl, sym, ap, ◌∙◌, subst}
use Rattle.std.proofs.lemmas.List.{take_more}
use Rattle.sqlite.specs.Effect.{Database}
use Rattle.sqlite.specs.State.{State, KeepsCommit}
use Rattle.mf_store_sql.specs.Writes.{after_all, AllFit, Turns}

module _ {W L : Type 0} (after : W → L → L) (Fits : W → L → Type 0) where
  after_all-push : (ws : List W) (w : W) (m : L) → after_all after (ws ++ w ∷ []) m ≡ after w (after_all after ws m)
  after_all-push [] w m = refl
  after_all-push (v ∷ ws) w m = after_all-push ws w (after v m)

  AllFit-push : (ws : List W) (w : W) (m : L) → AllFit after Fits (ws ++ w ∷ []) m → AllFit after Fits ws m
      × Fits w (after_all after ws m)
  AllFit-push [] w m h = (tt, h.0)
  AllFit-push (v ∷ ws) w m h = let more = AllFit-push ws w (after v m) h.1 in ((h.0, more.0), more.1)

  longer : (ws : List W) (i : ℕ) (w : W) → i < length ws → w ≡ get_or ws i w → take (i + 1) ws ≡ take i ws ++ w ∷ []
  longer ws i w h is = take_more ws i w h ∙ ap (λ x. take i ws ++ x ∷ []) (sym is)

  pub turns_then : (Stands : Database → L → Type 0) (a b c : Database) (ws : List W) (i : ℕ) (w : W) → i < length ws
      → w ≡ get_or ws i w
      → Turns Stands (AllFit after Fits (take i ws)) (after_all after (take i ws)) a b → Turns Stands (Fits w)
      (after w) b c → Turns Stands (AllFit after Fits (take (i + 1) ws)) (after_all after (take (i + 1) ws)) a c
  turns_then Stands a b c ws i w h is first second = λ m s fits.
      let parts = AllFit-push (take i ws) w m (subst (λ l. AllFit after Fits l m) (longer ws i w h is) fits) in
      subst (Stands c) (sym (ap (λ l. after_all after l m) (longer ws i w h is) ∙ after_all-push (take i ws) w m))
      (second _ (first m s parts.0) parts.1)

pub keeps_then : (a b c : State) → KeepsCommit a b → KeepsCommit b c → KeepsCommit a c
keeps_then a b c p q = record {
  was_open = λ h. p.was_open (q.was_open h);
  committed = λ h. q.committed h
      ∙ p.committed (q.was_open h);
}
