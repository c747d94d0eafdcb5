-- Answers of yes or no, of some or none, and answers that may be a fault.
use Rattle.std.proofs.Common.{◌≡◌, ◌↔◌, ◌∙◌, Bool, true, false, IsTrue, Result, Ok, Err, IfOk, refl, sym, true≢false}
use Rattle.std.proofs.Common.{Option, Some, None}
use Rattle.std.specs.Option.{IfSome, is_some}
use Rattle.mf_base.specs.declared.fault.Fault.{Fault}

-- a test that said no
pub refuses : {P : Type 0} (b : Bool) → b ≡ false → (IsTrue b ↔ P) → P → ⊥
refuses b e h p = absurd (true≢false (sym (h.1 p) ∙ e))

pub no_answer : {P : Type 0} → (P → ⊥) → IsTrue false ↔ P
no_answer h = (λ t. absurd (true≢false (sym t)), λ p. absurd (h p))

pub yes_answer : {P : Type 0} → P → IsTrue true ↔ P
yes_answer p = (λ t. p, λ q. refl)

-- the value that a test said is there
pub there : {A : Type 0} (found : Option A) (P : A → Type 0) → IfSome found P → IsTrue (is_some found)
    → (x : A) × P x
there (Some x) P h told = (x, h)
there None P h told = absurd (true≢false (sym told))

pub both_if_ok : {A : Type 0} (r : Result A Fault) (P Q R : A → Type 0) → IfOk r P → IfOk r Q
    → ((a : A) → P a → Q a → R a) → IfOk r R
both_if_ok (Ok a) P Q R p q h = h a p q
both_if_ok (Err e) P Q R p q h = tt
