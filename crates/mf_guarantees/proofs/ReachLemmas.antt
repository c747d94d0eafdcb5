-- What a run from one office leaves of the others.
use Rattle.std.proofs.Common.{◌≡◌, ◌≢◌, ℕ, Bool, true, false, cond, List, [], ◌∷◌, Option, Some, None, refl, sym}
use Rattle.std.proofs.Common.{ap, ◌∙◌}
use Rattle.std.specs.Prelude.{is_some}
use Rattle.mf_office.specs.Tree.{is_at_or_below}
use Rattle.mf_model.specs.Institution.{Institution, office_at, Change, Catalogue_becomes, Rows_become}
use Rattle.mf_model.specs.Institution.{Office_added, after, after_line, new_office}
use Rattle.mf_model.specs.Desk.{plan, change_in, outcome}
use Rattle.mf_model.specs.Run.{Line, next, noted_of, last, from_office}
use Rattle.mf_model.specs.Tree.{IsTree, Fits, is_there, parent_of, touches}
use Rattle.mf_model.proofs.Confined.{others_stay, old_stay}
use Rattle.mf_model.proofs.Runs.{IsTree_next}
use Rattle.mf_model.proofs.Steps.{known_line}
use Rattle.mf_model.proofs.Views.{closed, apart}
use Rattle.mf_model.proofs.Within.{below_with_rows, below_with_office}
use Rattle.mf_guarantees.specs.Reach.{AreFrom}

-- an office that is not at or below o, as it is afterwards
record Stays (o y : ℕ) (i j : Institution) : Type 0 where
  office : office_at y j.offices ≡ office_at y i.offices
  outside : is_at_or_below (parent_of j.offices) y o ≡ false

module _ (o y : ℕ) where
  changed : (change : Change) (i : Institution) → IsTree i.offices → Fits change i.offices
      → touches o i change ≡ true → is_there i.offices y ≡ true → is_at_or_below (parent_of i.offices) y o ≡ false
      → Stays o y i (after change i)
  changed (Catalogue_becomes catalogue) i t fit touching there outside = record { office = refl; outside = outside }
  changed (Rows_become x rows) i t fit touching there outside =
      let inside = sym (below_with_rows x rows i.offices x o) ∙ touching in
      let other : y ≢ x = λ same.
      let at : is_at_or_below (parent_of i.offices) y o ≡ true =
      ap (λ z. is_at_or_below (parent_of i.offices) z o) same ∙ inside in
      cc in
      record {
        office = others_stay x y rows i.offices other;
        outside = below_with_rows x rows i.offices y o ∙ outside;
      }
  changed (Office_added number parent name) i t fit touching there outside =
      let other = apart i.offices y number there fit.free in
      let new = new_office number parent name in
      record {
        office = old_stay new y i.offices other;
        outside = below_with_office new i.offices y o fit.free (closed i.offices number t fit.free) other ∙ outside;
      }

  one_line : (l : Line) (i : Institution) → IsTree i.offices → from_office o l.call ≡ true
      → is_there i.offices y ≡ true → is_at_or_below (parent_of i.offices) y o ≡ false → Stays o y i (next l i)
  one_line l i t from there outside = step l.given_up (change_in (outcome l.call i)) refl
    where
      same : Stays o y i i
      same = record { office = refl; outside = outside }

      step : (g : Bool) (c : Option Change) → change_in (outcome l.call i) ≡ c
          → Stays o y i (after_line (noted_of l.call i) (cond g None c) i)
      step true c e = same
      step false None e = same
      step false (Some change) e =
          let known = known_line l.call.caller l.call.request (plan l.call.request) i change t refl e in
          let stays = changed change i t known.fits (known.touching o from) there outside in
          record { office = stays.office; outside = stays.outside }

  -- after any run from o
  pub stays : (lines : List Line) (i : Institution) → IsTree i.offices → AreFrom o lines
      → is_there i.offices y ≡ true → is_at_or_below (parent_of i.offices) y o ≡ false
      → office_at y (last lines i).offices ≡ office_at y i.offices
  stays [] i t from there outside = refl
  stays (l ∷ ls) i t from there outside =
      let first = one_line l i t from.0 there outside in
      stays ls (next l i) (IsTree_next l i t) from.1 (ap is_some first.office ∙ there) first.outside ∙ first.office
