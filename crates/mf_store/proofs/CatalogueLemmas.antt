-- What was found.
use Rattle.std.proofs.Common.{◌≡◌, ℕ, zero, suc, Bool, List, [], find, filter, Option, None, Some, refl, sym, ◌∙◌}
use Rattle.std.specs.List.{AllByRecursion}
use Rattle.std.specs.Option.{option_map}
use Rattle.mf_model.specs.Institution.{item_numbered}
use Rattle.mf_store_values.proofs.FlatLemmas.{numbered-suc}
use Rattle.sqlite_keyed.proofs.ListLemmas.{all-filter, all-slice_get, slice_get-filter}

-- what was kept is what is found
pub some_is : {A : Type 0} {a b : A} → Some a ≡ Some b → b ≡ a
some_is h = cc

-- what is made of something that may be there is made of something that is there
pub mapped : {A R : Type 0} (make : A → R) (o : Option A) (row : R) → option_map make o ≡ Some row
    → (a : A) × (o ≡ Some a) × (row ≡ make a)
mapped make None row h = absurd (let never : None ≡ Some row = h in cc)
mapped make (Some a) row h = (a, refl, some_is h)

-- a row that was found is that of something that is there
pub known : {A R : Type 0} (make : A → R) (found : Option R) (row : R) (o : Option A) → found ≡ Some row
    → found ≡ option_map make o → (a : A) × (o ≡ Some a) × (row ≡ make a)
known make found row o is e = mapped make o row (sym e ∙ is)

-- where no row was found, nothing is there
pub unknown : {A R : Type 0} (make : A → R) (found : Option R) (o : Option A) → found ≡ None
    → found ≡ option_map make o → None ≡ o
unknown make found None is e = refl
unknown make found (Some a) is e = absurd (let never : Some (make a) ≡ None = sym e ∙ is in cc)

-- what holds of all holds of what is found
pub found_all : {A : Type 0} (P : A → Type 0) (p : A → Bool) (xs : List A) (x : A) → find p xs ≡ Some x
    → AllByRecursion P xs → P x
found_all P p xs x is all =
    all-slice_get P (filter p xs) 0 x (slice_get-filter p xs ∙ is) (all-filter P p xs all)

-- nothing has a number among no things
pub none_numbered : {A : Type 0} (n : ℕ) → item_numbered {A = A} [] n ≡ None
none_numbered zero = refl
none_numbered (suc n) = numbered-suc [] n
