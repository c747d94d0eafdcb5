-- Rows that are taken in turn, each of them put.
use Rattle.std.proofs.Common.{◌≡◌, ◌∙◌, List, [], ◌∷◌, ◌++◌, map, length, refl, sym, ap, append_assoc, arith}
use Rattle.std.proofs.lemmas.List.{append-nil, map-append}

module _ {A : Type 0} where
  -- one row taken, and done
  pub one_done : (rows done left more : List A) (x : A) → rows ≡ done ++ left → left ≡ x ∷ more
      → rows ≡ (done ++ x ∷ []) ++ more
  one_done rows done left more x all step = all ∙ ap (λ l. done ++ l) step ∙ sym (append_assoc done (x ∷ []) more)

  none_left : (left : List A) → length left ≡ 0 → left ≡ []
  none_left [] e = refl
  none_left (x ∷ left) e = absurd (omega arith)

  pub all_done : (rows done left : List A) → rows ≡ done ++ left → length left ≡ 0 → done ≡ rows
  all_done rows done left all none = sym (all ∙ ap (λ l. done ++ l) (none_left left none) ∙ append-nil done)

  -- one row more is put
  pub one_put : {B : Type 0} (put : A → B) (first old new : List B) (done : List A) (x : A) → new ≡ old ++ put x ∷ []
      → old ≡ first ++ map put done → new ≡ first ++ map put (done ++ x ∷ [])
  one_put put first old new done x pushed before =
      pushed ∙ ap (λ l. l ++ put x ∷ []) before ∙ append_assoc first (map put done) (put x ∷ []) ∙ ap (λ l. first ++ l)
      (sym (map-append put done (x ∷ [])))
