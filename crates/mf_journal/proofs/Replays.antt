-- A run's accepted writes, played again, are the same writes and leave the same institution.
use Rattle.std.proofs.Common.{◌≡◌, Bool, true, false, cond, List, [], ◌∷◌, Option, Some, None, refl, sym, ap, subst}
use Rattle.std.proofs.Common.{◌∙◌}
use Rattle.std.specs.Prelude.{is_some}
use Rattle.mf_model.specs.Institution.{Institution, Change, after_line}
use Rattle.mf_model.specs.Desk.{outcome, change_in}
use Rattle.mf_model.specs.Run.{Line, change_of_line, noted_of, next, last}
use Rattle.mf_model.specs.Answering.{line_answered}
use Rattle.mf_journal.specs.Journal.{write_of, writes_of, replay, IsPlayOf}

-- a line that makes a change is not given up
answered : (l : Line) (i : Institution) (change : Change) → change_of_line l i ≡ Some change
    → line_answered l.call ≡ l
answered l i change h = by l.given_up refl
  where
    by : (b : Bool) → l.given_up ≡ b → line_answered l.call ≡ l
    by false e = ap (λ g. record { call = l.call; given_up = g }) (sym e)
    by true e = absurd (none≢some (sym (ap (λ b. cond b None (change_in (outcome l.call i))) e) ∙ h))
      where
        none≢some : None ≡ Some change → ⊥
        none≢some e = cc

-- a line before a run that plays again
step : (l : Line) (ls : List Line) (i : Institution) → IsPlayOf (writes_of ls i) i (last ls i)
    → IsPlayOf (writes_of ls (next l i)) (next l i) (last ls (next l i)) → (c : Option Change) → change_of_line l i ≡ c
    → IsPlayOf (writes_of (l ∷ ls) i) i (last (l ∷ ls) i)
step l ls i stays goes None e =
    let same : next l i ≡ i = ap (λ c. after_line (noted_of l.call i) c i) e in
    let skipped : writes_of (l ∷ ls) i ≡ writes_of ls i =
    ap (λ c. cond (is_some c) (write_of l i ∷ writes_of ls (next l i)) (writes_of ls (next l i))) e
    ∙ ap (writes_of ls) same in
    subst (λ j. IsPlayOf j i (last (l ∷ ls) i)) (sym skipped)
    (subst (IsPlayOf (writes_of ls i) i) (sym (ap (last ls) same)) stays)
step l ls i stays goes (Some change) e =
    let rest : List Line = replay (writes_of ls (next l i)) in
    let same : line_answered l.call ≡ l = answered l i change e in
    let noted : writes_of (l ∷ ls) i ≡ write_of l i ∷ writes_of ls (next l i) =
    ap (λ c. cond (is_some c) (write_of l i ∷ writes_of ls (next l i)) (writes_of ls (next l i))) e in
    let again : writes_of (l ∷ rest) i ≡ write_of l i ∷ writes_of rest (next l i) =
    ap (λ c. cond (is_some c) (write_of l i ∷ writes_of rest (next l i)) (writes_of rest (next l i))) e in
    subst (λ j. IsPlayOf j i (last (l ∷ ls) i)) (sym noted) (record {
      each = ap (λ k. writes_of (k ∷ rest) i) same ∙ again ∙ ap (λ js. write_of l i ∷ js) goes.each;
      last_is = ap (λ k. last (k ∷ rest) i) same ∙ goes.last_is;
    })

pub plays : (ls : List Line) (i : Institution) → IsPlayOf (writes_of ls i) i (last ls i)
plays [] i = record { each = refl; last_is = refl }
plays (l ∷ ls) i = step l ls i (plays ls i) (plays ls (next l i)) (change_of_line l i) refl
