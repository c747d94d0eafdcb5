-- A text of plain bytes stands in quotes as it is.
use Rattle.std.proofs.Common.{◌≡◌, ℕ, true, List, [], ◌∷◌, ◌++◌, refl, sym, ap}
use Rattle.std.proofs.lemmas.Bool.{and_parts, not-true, eqb-false, leb-true}
use Rattle.std.specs.List.{list_all}
use Rattle.json.specs.Print.{escape, escape_byte, quoted}
use Rattle.json.proofs.Printed.Strings.{escape_byte_plain}
use Rattle.mf_wire_replies.specs.Json.{is_plain_byte}

escape_of_plain : (text : List ℕ) → list_all is_plain_byte text ≡ true → escape text ≡ text
escape_of_plain [] h = refl
escape_of_plain (x ∷ xs) h =
    let parts = and_parts (is_plain_byte x) _ h in
    let first = and_parts _ _ parts.0 in
    let marks = and_parts _ _ first.0 in
    let same : escape_byte x ≡ x ∷ [] =
    escape_byte_plain x (eqb-false x 34 (not-true _ marks.0)) (eqb-false x 92 (not-true _ marks.1))
    (leb-true 32 x first.1) in
    let rest = escape_of_plain xs parts.1 in
    λ i. same i ++ rest i

-- its JSON is the text between two quotes
pub quoted_plain : (text : List ℕ) → list_all is_plain_byte text ≡ true → 34 ∷ (text ++ 34 ∷ []) ≡ quoted text
quoted_plain text h = sym (ap (λ (x : List ℕ). 34 ∷ (x ++ 34 ∷ [])) (escape_of_plain text h))
