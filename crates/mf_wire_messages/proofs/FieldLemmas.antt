-- The values of the fields of a name.
use Rattle.std.proofs.Common.{◌≡◌, ◌<◌, ◌+◌, ℕ, Bool, true, false, cond, List, [], ◌∷◌}
use Rattle.std.proofs.Common.{◌++◌, refl, sym, ap, ◌∙◌, length}
use Rattle.std.proofs.Common.{take, map, get_or, append-nil, arith}
use Rattle.std.proofs.lemmas.List.{map_more}
use Rattle.std.specs.Str.{str_eq_ignore_ascii_case}
use Rattle.httparse.specs.Spans.{span_bytes, header_bytes}
use Rattle.httparse.specs.declared.spans.HeaderSpan.{HeaderSpan}
use Rattle.mf_wire_messages.specs.Framing.{FoundIn, told_at, IsFoundWithin}
use Rattle.mf_wire_messages.specs.Messages.{values_of, told_by}
use Rattle.mf_wire_messages.specs.declared.fields.Found.{Found}
use Rattle.mf_wire_messages.specs.declared.fields.Found.TheVariants.{Nothing, Once, Often}

cond-append : (t : Bool) (x : List ℕ) (xs ys : List (List ℕ)) → cond t (x ∷ (xs ++ ys)) (xs ++ ys) ≡ cond t (x ∷ xs) xs
    ++ ys
cond-append true x xs ys = refl
cond-append false x xs ys = refl

pub values_of-append : (name : List ℕ) (xs ys : List (List ℕ × List ℕ)) → values_of name (xs ++ ys) ≡ values_of name xs
    ++ values_of name ys
values_of-append name [] ys = refl
values_of-append name (x ∷ xs) ys =
    ap (λ vs. cond (str_eq_ignore_ascii_case x.0 name) (x.1 ∷ vs) vs) (values_of-append name xs ys)
    ∙ cond-append (str_eq_ignore_ascii_case x.0 name) x.1 (values_of name xs) (values_of name ys)

values_of-more : (head name : List ℕ) (fields : List HeaderSpan) (i : ℕ) (d : HeaderSpan) (t : Bool) → i < length fields
    → str_eq_ignore_ascii_case (span_bytes head (get_or fields i d).name) name ≡ t
    → values_of name (map (header_bytes head) (take (i + 1) fields))
    ≡ values_of name (map (header_bytes head) (take i fields)) ++ cond t (span_bytes head (get_or fields i d).value
    ∷ []) []
values_of-more head name fields i d t lt e =
    ap (values_of name) (map_more (header_bytes head) fields i d lt)
    ∙ values_of-append name (map (header_bytes head) (take i fields)) (header_bytes head (get_or fields i d) ∷ [])
    ∙ ap (λ b. values_of name (map (header_bytes head) (take i fields))
    ++ cond b (span_bytes head (get_or fields i d).value ∷ []) []) e

-- the field has the name
pub values_of-named : (head name : List ℕ) (fields : List HeaderSpan) (i : ℕ) (d : HeaderSpan) → i < length fields
    → str_eq_ignore_ascii_case (span_bytes head (get_or fields i d).name) name ≡ true
    → values_of name (map (header_bytes head) (take (i + 1) fields)) ≡ values_of name (map (header_bytes head)
    (take i fields)) ++ span_bytes head (get_or fields i d).value ∷ []
values_of-named head name fields i d lt e = values_of-more head name fields i d true lt e

-- the field has another name
pub values_of-other : (head name : List ℕ) (fields : List HeaderSpan) (i : ℕ) (d : HeaderSpan) → i < length fields
    → str_eq_ignore_ascii_case (span_bytes head (get_or fields i d).name) name ≡ false
    → values_of name (map (header_bytes head) (take (i + 1) fields)) ≡ values_of name (map (header_bytes head)
    (take i fields))
values_of-other head name fields i d lt e = values_of-more head name fields i d false lt e ∙ append-nil _

-- what is told by what is found of some values is what they tell
pub told_found : (bytes : List ℕ) (found : Found) (values : List (List ℕ)) → FoundIn bytes found values
    → told_at bytes found ≡ told_by values
told_found bytes Nothing values h = ap told_by (sym h)
told_found bytes (Once span) values h = ap told_by (sym h.1)
told_found bytes Often [] h = absurd (omega (arith, h))
told_found bytes Often (value ∷ []) h = absurd (omega (arith, h))
told_found bytes Often (value ∷ other ∷ values) h = refl

-- and lies within them
pub found_within : (bytes : List ℕ) (found : Found) (values : List (List ℕ)) → FoundIn bytes found values
    → IsFoundWithin (length bytes) found
found_within bytes Nothing values h = tt
found_within bytes (Once span) values h = h.0
found_within bytes Often values h = tt
