-- What tests and choices say.
use Rattle.std.proofs.Common.{◌≡◌, Bool, true, false, Option, Some, None, refl}
use Rattle.std.specs.Prelude.{cond, option_and_then}

-- what a test lets through
pub passed : {A : Type 0} (b : Bool) (o : Option A) (c : A) → cond b o None ≡ Some c → (b ≡ true) × (o ≡ Some c)
passed true o c is = (refl, is)
passed false o c is = absurd (cc)

-- nothing, where nothing can be there
pub nothing : {A : Type 0} (o : Option A) → ((c : A) → o ≡ Some c → ⊥) → o ≡ None
nothing None never = refl
nothing (Some c) never = absurd (never c refl)

pub after_two : {A B : Type 0} (f : A → Option B) (o : Option A) (c : B) → option_and_then f o ≡ Some c → (a : A)
    × (o ≡ Some a) × (f a ≡ Some c)
after_two f (Some a) c is = (a, refl, is)
after_two f None c is = absurd (cc)
