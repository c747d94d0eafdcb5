-- The text of a list, line by line.
use Rattle.std.proofs.Common.{◌≡◌, ◌<◌, ◌+◌, ℕ, Bool, true, false, List, [], ◌∷◌, ◌++◌, map, take, length, get_or, refl}
use Rattle.std.proofs.Common.{sym, ap, ◌∙◌}
use Rattle.std.proofs.lemmas.List.{append-nil, append_assoc, take_more, map-append}
use Rattle.json.specs.Print.{quoted}
use Rattle.serde_json.specs.Data.{Data, array, object, member, no_members}
use Rattle.serde_json.specs.View.{items_of}
use Rattle.serde_json.specs.Written.{comma_if, compact_text, items_text}
use Rattle.mf_wire_replies.specs.Json.{joined_values}

-- whether something stands before what comes next, past some values
abbrev pub past : Bool → List Data → Bool
past later [] = later
past later (d ∷ ds) = true

past_true : (ds : List Data) → past true ds ≡ true
past_true [] = refl
past_true (d ∷ ds) = refl

pub past_more : (later : Bool) (ds : List Data) (d : Data) → past later (ds ++ d ∷ []) ≡ true
past_more later [] d = refl
past_more later (e ∷ ds) d = refl

-- one more value
pub joined_more : (later : Bool) (ds : List Data) (d : Data) → joined_values later (ds ++ d ∷ [])
    ≡ joined_values later ds ++ (comma_if (past later ds) ++ compact_text d)
joined_more later [] d = ap (λ x. comma_if later ++ x) (append-nil (compact_text d))
joined_more later (e ∷ ds) d =
    let rest = comma_if (past true ds) ++ compact_text d in
    ap (λ x. comma_if later ++ (compact_text e ++ x)) (joined_more true ds d)
    ∙ ap (λ x. comma_if later ++ x) (sym (append_assoc (compact_text e) (joined_values true ds) rest))
    ∙ sym (append_assoc (comma_if later) (compact_text e ++ joined_values true ds) rest)
    ∙ ap (λ b. (comma_if later ++ (compact_text e ++ joined_values true ds)) ++ (comma_if b ++ compact_text d))
    (past_true ds)

-- the whole list, closed by its bracket
pub items_joined : (later : Bool) (ds : List Data) → items_text later (items_of ds) ≡ joined_values later ds ++ 93 ∷ []
items_joined later [] = refl
items_joined later (d ∷ ds) =
    ap (λ x. comma_if later ++ (compact_text d ++ x)) (items_joined true ds)
    ∙ ap (λ x. comma_if later ++ x) (sym (append_assoc (compact_text d) (joined_values true ds) (93 ∷ [])))
    ∙ sym (append_assoc (comma_if later) (compact_text d ++ joined_values true ds) (93 ∷ []))

-- ---- the lines of a list

one_more : {L : Type 0} (json : L → Data) (lines : List L) (n : ℕ) (item : L) → n < length lines
    → item ≡ get_or lines n item → map json (take (n + 1) lines) ≡ map json (take n lines) ++ json item ∷ []
one_more json lines n item low is =
    ap (map json) (take_more lines n item low) ∙ map-append json (take n lines) (get_or lines n item ∷ [])
    ∙ ap (λ x. map json (take n lines) ++ json x ∷ []) (sym is)

-- one more line is put
pub line_put : {L : Type 0} (json : L → Data) (lines : List L) (n : ℕ) (item : L) (later : Bool)
    (initial old new : List ℕ) → n < length lines → item ≡ get_or lines n item
    → later ≡ past false (map json (take n lines)) → old ≡ initial ++ joined_values false (map json (take n lines))
    → new ≡ old ++ (comma_if later ++ compact_text (json item))
    → (true ≡ past false (map json (take (n + 1) lines)))
    × (new ≡ initial ++ joined_values false (map json (take (n + 1) lines)))
line_put json lines n item later initial old new low is stands before puts =
    let ds = map json (take n lines) in
    let more = one_more json lines n item low is in
    let last = compact_text (json item) in (
      sym (ap (past false) more ∙ past_more false ds (json item)),
      puts ∙ ap (λ x. x ++ (comma_if later ++ last)) before
          ∙ append_assoc initial (joined_values false ds) (comma_if later ++ last)
          ∙ ap (λ b. initial ++ (joined_values false ds ++ (comma_if b ++ last))) stands
          ∙ ap (λ x. initial ++ x) (sym (joined_more false ds (json item)))
          ∙ ap (λ x. initial ++ joined_values false x) (sym more),
    )

-- a list
pub array_closed : (opened : List ℕ) (ds : List Data) → opened ≡ 91 ∷ []
    → (opened ++ joined_values false ds) ++ 93 ∷ [] ≡ compact_text (array (items_of ds))
array_closed opened ds is =
    ap (λ x. (x ++ joined_values false ds) ++ 93 ∷ []) is ∙ ap (λ x. 91 ∷ x) (sym (items_joined false ds))

-- an object whose one member is a list
pub list_closed : (name opened : List ℕ) (ds : List Data) → opened ≡ 123 ∷ (quoted name ++ 58 ∷ 91 ∷ [])
    → (opened ++ joined_values false ds) ++ (93 ∷ 125 ∷ []) ≡ compact_text (object (member name (array (items_of ds))
    no_members))
list_closed name opened ds is =
    append_assoc opened (joined_values false ds) (93 ∷ 125 ∷ [])
    ∙ ap (λ x. x ++ (joined_values false ds ++ 93 ∷ 125 ∷ [])) is
    ∙ ap (λ x. 123 ∷ x) (append_assoc (quoted name) (58 ∷ 91 ∷ []) (joined_values false ds ++ 93 ∷ 125 ∷ []))
    ∙ ap (λ x. 123 ∷ (quoted name ++ 58 ∷ 91 ∷ x)) (sym (append_assoc (joined_values false ds) (93 ∷ []) (125 ∷ []))
    ∙ ap (λ x. x ++ 125 ∷ []) (sym (items_joined false ds)))
