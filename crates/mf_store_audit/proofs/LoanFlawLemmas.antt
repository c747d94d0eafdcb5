-- Statuses of loans and the texts of their days.
use Rattle.std.proofs.Common.{◌≡◌, ◌↔◌, ◌≤◌, ◌∙◌, ◌==◌, ℕ, Bool, true, false, List, Option, IsTrue, refl, sym, ap}
use Rattle.std.proofs.Common.{subst, arith, true≢false, ◌⊎◌, inl, inr}
use Rattle.std.specs.Prelude.{◌||◌, not}
use Rattle.mf_base.specs.DayText.{last_entered_day}
use Rattle.mf_model.specs.Sound.{IsStageBy}
use Rattle.mf_model.specs.Stages.{stage_number}
use Rattle.mf_model.specs.declared.loan.Stage.{Stage}
use Rattle.mf_model.specs.declared.loan.Stage.TheVariants.{Submitted, Approved, Disbursed, Withdrawn, Rejected}
use Rattle.mf_store_values.specs.Flat.{approval_text, disbursal_text}
use Rattle.mf_store_values.proofs.AnswerLemmas.{no_answer}
use Rattle.mf_store_audit.specs.Catalogue.{IsNoNumber}
use Rattle.mf_store_audit.specs.Loans.{IsDayIf, IsNoStageText}

-- a status that loans have
-- a status that loans have
pub status_there : (n : ℕ) → (n ≡ 100) ⊎ ((n ≡ 200) ⊎ ((n ≡ 300) ⊎ ((n ≡ 400) ⊎ (n ≡ 500)))) → IsTrue false
    ↔ IsNoNumber stage_number n
status_there n (inl is) = no_answer (λ none. none Submitted (sym is))
status_there n (inr (inl is)) = no_answer (λ none. none (Approved 0) (sym is))
status_there n (inr (inr (inl is))) = no_answer (λ none. none (Disbursed 0 0) (sym is))
status_there n (inr (inr (inr (inl is)))) = no_answer (λ none. none Withdrawn (sym is))
status_there n (inr (inr (inr (inr is)))) = no_answer (λ none. none Rejected (sym is))

-- a stage that has this number and this text
record HasText (text_of : Stage → Option (List ℕ)) (n : ℕ) (text : Option (List ℕ)) : Type 0 where
  stage : Stage
  by : IsStageBy last_entered_day stage
  at : stage_number stage ≡ n
  is : text_of stage ≡ text

-- where each stage with a text has one that is needed so, and the other way round, a test of it tells whether none has
-- it
no_text_is : (text_of : Stage → Option (List ℕ)) (n : ℕ) (text : Option (List ℕ)) (none needed b : Bool) → none ≡ false
    → (IsTrue none ↔ IsNoNumber stage_number n) → (IsTrue b ↔ IsDayIf needed text)
    → ((s : Stage) → IsStageBy last_entered_day s → stage_number s ≡ n → text_of s ≡ text → IsDayIf needed text)
    → ((s : Stage) → stage_number s ≡ n → IsDayIf needed text → HasText text_of n text)
    → IsTrue (not b) ↔ IsNoStageText text_of n text
no_text_is text_of n text none needed false some status fits has had =
    (λ yes s by at is. true≢false (sym (fits.1 (has s by at is))), λ no_. refl)
no_text_is text_of n text none needed true some status fits has had = (
  λ no_. absurd (true≢false (sym no_)),
  λ never. absurd (true≢false (sym (status.1 (λ s at. (let h = had s at (fits.0 refl) in never h.stage h.by h.at h.is)))
      ∙ some)),
)

needs_approval : (n m : ℕ) (b : Bool) (text : Option (List ℕ)) → m ≡ n → ((m == 200) || (m == 300)) ≡ b → IsDayIf b text
    → IsDayIf ((n == 200) || (n == 300)) text
needs_approval n m b text e is d =
    subst (λ (v : Bool). IsDayIf v text) (sym is ∙ ap (λ (k : ℕ). (k == 200) || (k == 300)) e) d

for_approval : (n m : ℕ) (b : Bool) (text : Option (List ℕ)) → m ≡ n → ((m == 200) || (m == 300)) ≡ b
    → IsDayIf ((n == 200) || (n == 300)) text → IsDayIf b text
for_approval n m b text e is d = subst (λ (v : Bool). IsDayIf v text) (ap (λ (k : ℕ). (k == 200) || (k == 300)) (sym e)
    ∙ is) d

approval_needed : (n : ℕ) (text : Option (List ℕ)) (s : Stage) → IsStageBy last_entered_day s → stage_number s ≡ n
    → approval_text s ≡ text → IsDayIf ((n == 200) || (n == 300)) text
approval_needed n text Submitted by at is = needs_approval n 100 false text at refl (sym is)
approval_needed n text (Approved day) by at is = needs_approval n 200 true text at refl (day, by, is)
approval_needed n text (Disbursed first day) by at is = let le : first ≤ last_entered_day =
    omega (arith, by.0, by.1) in needs_approval n 300 true text at refl (first, le, is)
approval_needed n text Withdrawn by at is = needs_approval n 400 false text at refl (sym is)
approval_needed n text Rejected by at is = needs_approval n 500 false text at refl (sym is)

approval_had : (n : ℕ) (text : Option (List ℕ)) (s : Stage) → stage_number s ≡ n → IsDayIf ((n == 200) || (n == 300))
    text → HasText approval_text n text
approval_had n text Submitted at d =
    record { stage = Submitted; by = tt; at = at; is = sym (for_approval n 100 false text at refl d) }
approval_had n text (Approved day) at d = let o =
    for_approval n 200 true text at refl d in record { stage = Approved o.0; by = o.1; at = at; is = o.2 }
approval_had n text (Disbursed first day) at d = let o = for_approval n 300 true text at refl d in
    record { stage = Disbursed o.0 o.0; by = (omega arith, o.1); at = at; is = o.2 }
approval_had n text Withdrawn at d =
    record { stage = Withdrawn; by = tt; at = at; is = sym (for_approval n 400 false text at refl d) }
approval_had n text Rejected at d =
    record { stage = Rejected; by = tt; at = at; is = sym (for_approval n 500 false text at refl d) }

pub approval_is : (n : ℕ) (text : Option (List ℕ)) (none needed b : Bool) → none ≡ false
    → (IsTrue none ↔ IsNoNumber stage_number n) → needed ≡ ((n == 200) || (n == 300)) → (IsTrue b ↔ IsDayIf needed text)
    → IsTrue (not b) ↔ IsNoStageText approval_text n text
approval_is n text none needed b some status needs fits =
    no_text_is approval_text n text none needed b some status fits
    (λ s by at is. subst (λ (v : Bool). IsDayIf v text) (sym needs) (approval_needed n text s by at is))
    (λ s at d. approval_had n text s at (subst (λ (v : Bool). IsDayIf v text) needs d))

needs_disbursal : (n m : ℕ) (b : Bool) (text : Option (List ℕ)) → m ≡ n → (m == 300) ≡ b → IsDayIf b text
    → IsDayIf (n == 300) text
needs_disbursal n m b text e is d = subst (λ (v : Bool). IsDayIf v text) (sym is ∙ ap (λ (k : ℕ). k == 300) e) d

for_disbursal : (n m : ℕ) (b : Bool) (text : Option (List ℕ)) → m ≡ n → (m == 300) ≡ b → IsDayIf (n == 300) text
    → IsDayIf b text
for_disbursal n m b text e is d = subst (λ (v : Bool). IsDayIf v text) (ap (λ (k : ℕ). k == 300) (sym e) ∙ is) d

disbursal_needed : (n : ℕ) (text : Option (List ℕ)) (s : Stage) → IsStageBy last_entered_day s → stage_number s ≡ n
    → disbursal_text s ≡ text → IsDayIf (n == 300) text
disbursal_needed n text Submitted by at is = needs_disbursal n 100 false text at refl (sym is)
disbursal_needed n text (Approved day) by at is = needs_disbursal n 200 false text at refl (sym is)
disbursal_needed n text (Disbursed first day) by at is = needs_disbursal n 300 true text at refl (day, by.1, is)
disbursal_needed n text Withdrawn by at is = needs_disbursal n 400 false text at refl (sym is)
disbursal_needed n text Rejected by at is = needs_disbursal n 500 false text at refl (sym is)

disbursal_had : (n : ℕ) (text : Option (List ℕ)) (s : Stage) → stage_number s ≡ n → IsDayIf (n == 300) text
    → HasText disbursal_text n text
disbursal_had n text Submitted at d =
    record { stage = Submitted; by = tt; at = at; is = sym (for_disbursal n 100 false text at refl d) }
disbursal_had n text (Approved day) at d =
    record { stage = Approved 0; by = omega arith; at = at; is = sym (for_disbursal n 200 false text at refl d) }
disbursal_had n text (Disbursed first day) at d = let o = for_disbursal n 300 true text at refl d in
    record { stage = Disbursed o.0 o.0; by = (omega arith, o.1); at = at; is = o.2 }
disbursal_had n text Withdrawn at d =
    record { stage = Withdrawn; by = tt; at = at; is = sym (for_disbursal n 400 false text at refl d) }
disbursal_had n text Rejected at d =
    record { stage = Rejected; by = tt; at = at; is = sym (for_disbursal n 500 false text at refl d) }

pub disbursal_is : (n : ℕ) (text : Option (List ℕ)) (none needed b : Bool) → none ≡ false
    → (IsTrue none ↔ IsNoNumber stage_number n) → needed ≡ (n == 300) → (IsTrue b ↔ IsDayIf needed text)
    → IsTrue (not b)
    ↔ IsNoStageText disbursal_text n text
disbursal_is n text none needed b some status needs fits =
    no_text_is disbursal_text n text none needed b some status fits
    (λ s by at is. subst (λ (v : Bool). IsDayIf v text) (sym needs) (disbursal_needed n text s by at is))
    (λ s at d. disbursal_had n text s at (subst (λ (v : Bool). IsDayIf v text) needs d))
