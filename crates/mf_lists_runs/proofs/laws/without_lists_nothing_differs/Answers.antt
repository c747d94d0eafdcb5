use Rattle.std.proofs.Common.{◌≡◌, inl, ℕ, List, [], ◌∷◌, None, map, refl, sym, ap, ◌∙◌}
use Rattle.mf_model.specs.Institution.{Institution}
use Rattle.mf_model.specs.Run.{Line, answer, answers, next}
use Rattle.mf_wire.specs.Runs.{texts_of}
use Rattle.mf_lists_runs.specs.Choice.{Told, all_told, told_line}
use Rattle.mf_lists_runs.proofs.laws.without_lists_nothing_differs.Goals as goal

plainly : (run : List Line) (i : Institution) → all_told None run i ≡ map inl (answers run i)
plainly [] i = refl
plainly (l ∷ run) i = ap (λ (ts : List Told). inl (answer l i) ∷ ts) (plainly run (next l i))

same_texts : (run : List Line) (i : Institution) → map told_line (all_told None run i) ≡ texts_of run i
same_texts [] i = refl
same_texts (l ∷ run) i = ap (λ (ts : List (List ℕ)). told_line (inl (answer l i)) ∷ ts) (same_texts run (next l i))

pub returns-clause-told : goal.returns-clause-told
returns-clause-told g c = plainly

pub returns-clause-texts : goal.returns-clause-texts
returns-clause-texts g c = λ told i lines texts old new ran.
    ran.replied ∙ same_texts ran.ran.run i ∙ sym ran.ran.replied
