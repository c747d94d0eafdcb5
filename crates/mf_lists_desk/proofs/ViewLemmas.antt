-- What is worked out of an institution is worked out of another that gives the same.
use Rattle.std.proofs.Common.{◌≡◌, ◌⊎◌, inl, inr, List, Result, Ok, Err, IfOk, IfErr, ◌∙◌}
use Rattle.mf_base.specs.declared.fault.Fault.{Fault}
use Rattle.mf_base.specs.declared.fault.Fault.TheVariants.{F20}
use Rattle.mf_model.specs.Institution.{Institution}
use Rattle.mf_model.specs.declared.store.InstitutionStore.{Ghosts}
use Rattle.mf_lists_desk.specs.Readings.{AnswersBy}

pub answers_alike : {S R : Type 0} (store : Ghosts S) (value other : Institution → Result R Fault) (old new : S)
    (r : Result R Fault) → ((i : Institution) → other i ≡ value i) → AnswersBy store value old new r
    → AnswersBy store other old new r
answers_alike store value other old new (Ok x) same a = record {
  premise = a.premise;
  same = a.same;
  gives = λ k i s. same i ∙ a.gives k i s;
  refuses = a.refuses;
  stop = a.stop;
}
answers_alike store value other old new (Err f) same a = record {
  premise = a.premise;
  same = a.same;
  gives = a.gives;
  refuses = λ k i s. elim (a.refuses k i s) [ inl e ↦ inl e | inr e ↦ inr (same i ∙ e) ];
  stop = a.stop;
}
