-- A piece of a stream, byte by byte.
use Rattle.std.proofs.Common.{◌≡◌, ℕ, ◌+◌, ◌<◌, List, [], ◌∷◌, ◌++◌, length, take, get_or, sym, ap, ◌∙◌, subst, Option}
use Rattle.std.proofs.lemmas.List.{take_more}
use Rattle.mf_wire_lines.specs.Cut.{request, without_return}
use Rattle.mf_wire_lines.specs.Reading.{ended_from, begun_from}
use Rattle.mf_wire_lines.specs.Run.{Run, Answered, Half, Broken}
use Rattle.mf_wire_lines.proofs.Pieces.{take_push, ended_alike, ended_at_end, begun_at_end, ended_within, begun_within}
use Rattle.mf_wire_lines.proofs.Pieces.{ended_rest}
use Rattle.mf_wire_lines.proofs.RunLemmas.{Answered-append, Answered-alike, Half-alike, Broken-half}

-- after these bytes, the buffer has the line that has begun, and the lines that ended are answered
abbrev pub Fed : {S : Type 0} → (S → List ℕ → List ℕ → S → Type 0) → S → S → List ℕ → List ℕ → List ℕ → Option (List ℕ)
    → Option (List ℕ) → ℕ → Type 0
Fed step old now begun bytes held before after n =
    (held ≡ take 65538 (begun_from begun bytes)) × Answered (Run step) old now (ended_from begun bytes) before after n

pub Fed-end : {S : Type 0} (step : S → List ℕ → List ℕ → S → Type 0) (old now new : S) (begun bytes held : List ℕ)
    (b : ℕ) (before between after : Option (List ℕ)) (n m : ℕ) → b ≡ 10
    → Fed step old now begun bytes held before between n → Answered (Run step) now new (request (without_return held))
    between after m
    → Fed step old new begun (bytes ++ b ∷ []) [] before after (n + m)
Fed-end step old now new begun bytes held b before between after n m e fed one = (
  sym (ap (take 65538) (begun_at_end begun bytes b e)),
  subst (λ ls. Answered (Run step) old new ls before after (n + m)) (sym (ended_at_end begun bytes b e))
      (Answered-append step old now new (ended_from begun bytes) (request (without_return (begun_from begun bytes)))
      before between after n m fed.1
      (Answered-alike step now new (without_return (take 65538 (begun_from begun bytes)))
      (without_return (begun_from begun bytes)) between after m (ended_alike (begun_from begun bytes))
      (subst (λ h. Answered (Run step) now new (request (without_return h)) between after m) fed.0 one))),
)

pub Fed-within : {S : Type 0} (step : S → List ℕ → List ℕ → S → Type 0) (old now : S) (begun bytes held : List ℕ)
    (b : ℕ) (before after : Option (List ℕ)) (n : ℕ) → (b ≡ 10 → ⊥)
    → Fed step old now begun bytes held before after n → Fed step old now begun (bytes ++ b ∷ [])
    (take 65538 (held ++ b ∷ [])) before after n
Fed-within step old now begun bytes held b before after n ne fed = (
  ap (λ h. take 65538 (h ++ b ∷ [])) fed.0 ∙ take_push 65538 (begun_from begun bytes) b
      ∙ ap (take 65538) (sym (begun_within begun bytes b ne)),
  subst (λ ls. Answered (Run step) old now ls before after n) (sym (ended_within begun bytes b ne)) fed.1,
)

-- the line that ends at this byte was answered by half
pub Fed-broken : {S : Type 0} (step : S → List ℕ → List ℕ → S → Type 0) (old now new : S) (begun piece held : List ℕ)
    (i : ℕ) (before between after : Option (List ℕ)) (n : ℕ) → i < length piece
    → get_or piece i 0 ≡ 10 → Fed step old now begun (take i piece) held before between n
    → Half step now new (without_return held) between after
    → Broken (Run step) old new (ended_from begun piece) before after n
Fed-broken step old now new begun piece held i before between after n lt e fed half =
    let rest = ended_rest begun piece (i + 1) in
    let line = begun_from begun (take i piece) in
    Broken-half step old now new (ended_from begun (take i piece)) rest.0 (ended_from begun piece) (without_return line)
    before between after n fed.1
    (Half-alike step now new (without_return (take 65538 line)) (without_return line) between after (ended_alike line)
    (subst (λ h. Half step now new (without_return h) between after) fed.0 half))
    (rest.1 ∙ ap (λ l. l ++ rest.0) (ap (ended_from begun) (take_more piece i 0 lt) ∙ ended_at_end begun (take i piece)
    (get_or piece i 0) e))
