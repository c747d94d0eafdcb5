-- Runs that begin with the same view of an office, and touch it alike, agree.
use Rattle.std.proofs.Common.{ℕ, map, sym, ap, ◌∙◌, subst}
use Rattle.mf_model.specs.Tree.{view}
use Rattle.mf_model.specs.Run.{from_office, from_caller, touching_list, play, given_up, but_given_up, Alike}
use Rattle.mf_model.proofs.Runs.{same_play}
use Rattle.mf_wire_replies.specs.Shown.{shown_line}
use Rattle.mf_wire.specs.Runs.{WireRun, IsIsolated, office_play}
use Rattle.mf_wire.specs.Agreeing.{Agree}

pub runs_agree : (o : ℕ) (one other : WireRun) → IsIsolated one → IsIsolated other
    → Alike o one.institution other.institution one.run other.run → Agree o one other
runs_agree o one other first second a = record {
  views = first.views o ∙ ap (λ ts. play ts (view o one.institution)) a.touching_is
      ∙ ap (play (touching_list o other.run other.institution)) a.view_is ∙ sym (second.views o);
  office_texts = λ n m. first.all_office_texts o n ∙ ap (map shown_line) (same_play (from_office o) o one.institution
      other.institution one.run other.run a) ∙ sym (second.all_office_texts o m);
  own_texts = λ c range same n m.
      let b : Alike c.office one.institution other.institution one.run other.run =
      subst (λ (x : ℕ). Alike x one.institution other.institution one.run other.run) (sym same) a in
      first.all_own_texts c range n ∙ ap (map shown_line) (same_play (from_caller c) c.office one.institution
      other.institution one.run other.run b) ∙ sym (second.all_own_texts c range m);
  texts_but_given_up = λ g.
      first.office_texts o
      ∙ ap (λ gs. map shown_line (but_given_up gs (office_play o one.run one.institution))) g
      ∙ ap (λ rs. map shown_line (but_given_up (given_up (from_office o) other.run) rs))
      (same_play (from_office o) o one.institution other.institution one.run other.run a)
      ∙ sym (second.office_texts o);
}
