-- What it means that nothing is found.
use Rattle.std.proofs.Common.{◌≡◌, ℕ, ◌+◌, List, [], ◌∷◌, ◌++◌, Option, Some, None, refl, sym, subst, inl, inr}
use Rattle.std.specs.List.{AllByRecursion}
use Rattle.mf_store_audit.specs.Places.{AreFound, AreInTurn, IsFirst, told_at}
use Rattle.mf_audit_laws.proofs.WalkLemmas.{Walk}

-- both parts of an empty list are
pub no_parts : {N : Type 0} (xs ys : List N) → [] ≡ xs ++ ys → (xs ≡ []) × (ys ≡ [])
no_parts [] ys e = (refl, sym e)
no_parts (x ∷ xs) ys e = absurd (cc)

-- where nothing is found in turn, nothing is found of the first and of the others
pub first_and_later : {N : Type 0} (Part : List N → Type 0) (Parts : List (List N → Type 0))
    → AreInTurn (Part ∷ Parts) [] → Part [] × AreInTurn Parts []
first_and_later {N} Part Parts h = go h.0 h.1 h.2 h.3 (no_parts h.0 h.1 h.4)
  where
    go : (first later : List N) → Part first → AreInTurn Parts later → (first ≡ []) × (later ≡ [])
        → Part [] × AreInTurn Parts []
    go first later part parts none = (subst Part none.0 part, subst (AreInTurn Parts) none.1 parts)

-- a list of which no condition is the first that holds has none that holds
pub none_first : {A : Type 0} (Holds : A → Type 0) (xs : List A) → IsFirst Holds xs None
    → AllByRecursion (λ x. ¬ Holds x) xs
none_first Holds [] none = tt
none_first Holds (x ∷ xs) (inl h) = absurd (let e = h.1 in cc)
none_first Holds (x ∷ xs) (inr h) = (h.0, none_first Holds xs h.1)

-- a row breaks none of the conditions
abbrev pub Keeps : {F R : Type 0} → List F → (F → Option R → R → Type 0) → Option R → R → Type 0
Keeps flaws breaks before row = AllByRecursion (λ flaw. ¬ breaks flaw before row) flaws

module _ {F R N : Type 0} (flaws : List F) (breaks : F → Option R → R → Type 0) (name : ℕ → F → N) where
  -- where nothing is found of rows, each keeps all conditions
  pub none_found : (place : ℕ) (before : Option R) (rows : List R) → AreFound flaws breaks name place before rows []
      → Walk (Keeps flaws breaks) before rows
  none_found place before [] are = tt
  none_found place before (row ∷ rows) are =
      let none = no_parts (told_at name place are.0) are.1 are.4 in (
        first_kept are.0 are.2 none.0,
        none_found (place + 1) (Some row) rows
            (subst (AreFound flaws breaks name (place + 1) (Some row) rows) none.1 are.3),
      )
    where
      first_kept : (first : Option F) → IsFirst (λ flaw. breaks flaw before row) flaws first
          → told_at name place first ≡ [] → Keeps flaws breaks before row
      first_kept None first none = none_first (λ flaw. breaks flaw before row) flaws first
      first_kept (Some flaw) first none = absurd (cc)

-- nothing is found of each of these
abbrev pub NoneOfEach : {N : Type 0} → List (List N → Type 0) → Type 0
NoneOfEach [] = Unit {0}
NoneOfEach (Part ∷ Parts) = Part [] × NoneOfEach Parts

pub none_of_each : {N : Type 0} (Parts : List (List N → Type 0)) → AreInTurn Parts [] → NoneOfEach Parts
none_of_each [] h = tt
none_of_each (Part ∷ Parts) h =
    let both = first_and_later Part Parts h in (both.0, none_of_each Parts both.1)
