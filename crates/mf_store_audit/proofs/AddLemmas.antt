-- Findings that are added in turn.
use Rattle.std.proofs.Common.{◌≡◌, ◌≢◌, ◌∙◌, ◌==◌, ℕ, Bool, true, false, List, [], ◌∷◌, ◌++◌, length, Option, refl}
use Rattle.std.proofs.Common.{sym, subst, arith}
use Rattle.std.specs.Prelude.{if◌then◌else◌}
use Rattle.std.specs.List.{AllByRecursion}
use Rattle.std.proofs.lemmas.List.{append-nil, append_assoc}
use Rattle.sqlite_keyed.proofs.ListLemmas.{all-append}
use Rattle.std.proofs.lemmas.Bool.Decides.{nat_tests}
use Rattle.mf_store_schema.specs.Rows.{Lists}
use Rattle.mf_store_schema.specs.declared.versions.Version.{Version}
use Rattle.mf_store_audit.specs.Findings.{Breaks, told_of_meta}
use Rattle.mf_store_audit.specs.declared.finding.Finding.{Finding}
use Rattle.mf_store_audit.specs.declared.finding.Finding.TheVariants as finding
use Rattle.mf_store_audit.specs.Places.{AreFoundIn, AreInTurn, AreOfRows, IsAt}

module _ {N : Type 0} where
  in_turn_then : (Ps Qs : List (List N → Type 0)) (xs ys : List N) → AreInTurn Ps xs → AreInTurn Qs ys
      → AreInTurn (Ps ++ Qs) (xs ++ ys)
  in_turn_then [] Qs xs ys none are = subst (λ l. AreInTurn Qs (l ++ ys)) (sym none) are
  in_turn_then (P ∷ Ps) Qs xs ys (first, later, here, rest, xs_are) are = (
    first,
    later ++ ys,
    here,
    in_turn_then Ps Qs later ys rest are,
    (λ t. xs_are t ++ ys) ∙ append_assoc first later ys,
  )

  pub alone : (P : List N → Type 0) (xs : List N) → P xs → AreInTurn (P ∷ []) xs
  alone P xs holds = (xs, [], holds, refl, sym (append-nil xs))

  module _ (Is : N → Type 0) (All InOrder : Type 0) where
    -- ones of which this holds were added, and where all were wanted of rows in order, these in turn
    abbrev pub AddsOf : List (List N → Type 0) → List N → List N → Type 0
    AddsOf parts before after = (found : List N) × (after ≡ before ++ found) × AllByRecursion Is found
        × (All → InOrder → AreInTurn parts found)

    pub adds_then : (Ps Qs : List (List N → Type 0)) (a b c : List N) → AddsOf Ps a b → AddsOf Qs b c
        → AddsOf (Ps ++ Qs) a c
    adds_then Ps Qs a b c (f, b_is, each, whole) (g, c_is, each_too, whole_too) = (
      f ++ g,
      c_is ∙ (λ t. b_is t ++ g) ∙ append_assoc a f g,
      all-append Is f g each each_too,
      λ all order. in_turn_then Ps Qs f g (whole all order) (whole_too all order),
    )

    -- this is told, where nothing was found before
    pub adds_told : (told a b : List N) → a ≡ [] → b ≡ told → AllByRecursion Is told
        → AddsOf ((λ found. found ≡ told) ∷ []) a b
    adds_told told a b none b_is each =
        (told, b_is ∙ (λ t. sym none t ++ told), each, λ all order. alone (λ found. found ≡ told) told refl)

    module _ {F R : Type 0} (flaws : List F) (breaks : F → Option R → R → Type 0) (name : ℕ → F → N) (rows : List R)
        (theirs : Type 0) where
      -- what is found of the rows of a table
      pub adds_found : (a b : List N) → (found : List N) × (b ≡ a ++ found) × AreOfRows breaks name rows found
          × (All → theirs → AreFoundIn flaws breaks name rows found) → ((place : ℕ) (flaw : F)
          → IsAt (breaks flaw) place rows → Is (name place flaw)) → (InOrder → theirs)
          → AddsOf (AreFoundIn flaws breaks name rows ∷ []) a b
      adds_found a b (found, b_is, of_rows, whole) is order = (
        found,
        b_is,
        each found of_rows,
        λ all up. alone (AreFoundIn flaws breaks name rows) found (whole all (order up)),
      )
        where
          each : (found : List N) → AreOfRows breaks name rows found → AllByRecursion Is found
          each [] none = tt
          each (n ∷ ns) ((place, flaw, n_is, at), later) = (subst Is (sym n_is) (is place flaw at), each ns later)

-- what is found, part by part
abbrev pub Parts : Type 1
Parts = List (List Finding → Type 0)

-- what is told of meta is so
pub meta_told : (v : Version) (today : ℕ) (lists : Lists) → AllByRecursion (Breaks v today lists)
    (told_of_meta lists.meta)
meta_told v today lists = go (length lists.meta == 1) refl
  where
    go : (b : Bool) → (length lists.meta == 1) ≡ b
        → AllByRecursion (Breaks v today lists) (if b then [] else finding.MetaRows ∷ [])
    go true is = tt
    go false is =
        let apart : length lists.meta ≢ 1 = grind (arith, nat_tests) in (apart, tt)
