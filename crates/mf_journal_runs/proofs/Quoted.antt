-- Receipts and figures within a JSON string.
use Rattle.std.proofs.Common.{◌≡◌, ℕ, ◌<◌, ◌≤◌, inl, inr, Bool, true, false, cond, List, [], ◌∷◌, ◌++◌}
use Rattle.std.proofs.Common.{refl, sym, ap, ap₂, ◌∙◌, subst, arith, append_assoc}
use Rattle.std.specs.Prelude.{◌==◌, ◌||◌, ◌&&◌}
use Rattle.std.specs.Char.{is_ascii}
use Rattle.std.specs.List.{list_all}
use Rattle.std.proofs.lemmas.Bool.{and_parts, cases_eq, lt-ltb}
use Rattle.std.proofs.lemmas.Bool.Decides.{nat_tests}
use Rattle.json.specs.Print.{escape_byte, escape, quoted}
use Rattle.json.proofs.Printed.Strings.{escape_byte_plain}
use Rattle.mf_account.specs.Receipts.{is_printable}
use Rattle.mf_model.specs.Notes.{quoted_bytes}
use Rattle.mf_journal_runs.proofs.Figures.{AreFigures}

-- digits and dashes stand as they are
pub figures_escaped : (xs : List ℕ) → AreFigures xs → escape xs ≡ xs
figures_escaped [] h = refl
figures_escaped (x ∷ xs) h =
    let from = h.0.from in
    let below = h.0.below in
    ap₂ (λ (a b : List ℕ). a ++ b) (escape_byte_plain x (λ e. omega arith) (λ e. omega arith) (omega arith))
    (figures_escaped xs h.1)

-- a quote or a backslash has a backslash before it, and any other byte that can be printed stands as it is
one_byte : (b : ℕ) (t : Bool) → (b == 34 || b == 92) ≡ t → 33 ≤ b
    → escape_byte b ≡ cond t (92 ∷ b ∷ []) (b ∷ [])
unfolding escape_byte
one_byte b true e h = elim (cases_eq b 34) [
  | inl same ↦ subst (λ x. escape_byte x ≡ 92 ∷ x ∷ []) (sym same) refl
  | inr other ↦ subst (λ x. escape_byte x ≡ 92 ∷ x ∷ []) (sym (last other)) refl
]
  where
    last : (b ≡ 34 → ⊥) → b ≡ 92
    last other = grind (arith, nat_tests)
one_byte b false e h =
    escape_byte_plain b (λ same. grind (arith, nat_tests)) (λ same. grind (arith, nat_tests)) (omega arith)

quoted_by : (b : ℕ) (bs : List ℕ) (t : Bool) → (b == 34 || b == 92) ≡ t → escape bs ≡ quoted_bytes bs
    → cond t (92 ∷ b ∷ []) (b ∷ []) ++ escape bs ≡ cond t (92 ∷ b ∷ quoted_bytes bs) (b ∷ quoted_bytes bs)
quoted_by b bs true e h = ap (λ rest. 92 ∷ b ∷ rest) h
quoted_by b bs false e h = ap (λ rest. b ∷ rest) h

printable_from : (b : ℕ) → is_printable b ≡ true → 33 ≤ b
printable_from b h = grind (arith, nat_tests)

printable_below : (b : ℕ) → is_printable b ≡ true → b < 128
printable_below b h = grind (arith, nat_tests)

pub receipt_escaped : (bs : List ℕ) → list_all is_printable bs ≡ true → escape bs ≡ quoted_bytes bs
receipt_escaped [] h = refl
receipt_escaped (b ∷ bs) h =
    let parts = and_parts (is_printable b) (list_all is_printable bs) h in
    ap (λ (x : List ℕ). x ++ escape bs)
    (one_byte b (b == 34 || b == 92) refl (printable_from b parts.0))
    ∙ quoted_by b bs (b == 34 || b == 92) refl (receipt_escaped bs parts.1)

-- such bytes are ASCII
ascii_by : (b : ℕ) (rest : List ℕ) (t : Bool) → b < 128 → list_all is_ascii rest ≡ true
    → list_all is_ascii (cond t (92 ∷ b ∷ rest) (b ∷ rest)) ≡ true
ascii_by b rest true small h = ap₂ (λ x y. x && y) (lt-ltb b 128 small) h
ascii_by b rest false small h = ap₂ (λ x y. x && y) (lt-ltb b 128 small) h

pub quoted_ascii : (bs : List ℕ) → list_all is_printable bs ≡ true → list_all is_ascii (quoted_bytes bs) ≡ true
quoted_ascii [] h = refl
quoted_ascii (b ∷ bs) h =
    let parts = and_parts (is_printable b) (list_all is_printable bs) h in
    ascii_by b (quoted_bytes bs) (b == 34 || b == 92) (printable_below b parts.0) (quoted_ascii bs parts.1)

-- what follows a text in quotes
pub quoted_then : (s t rest : List ℕ) → escape s ≡ t → quoted s ++ rest ≡ 34 ∷ (t ++ 34 ∷ rest)
quoted_then s t rest e =
    ap (λ x. 34 ∷ x) (append_assoc (escape s) (34 ∷ []) rest) ∙ ap (λ (x : List ℕ). 34 ∷ (x ++ 34 ∷ rest)) e
