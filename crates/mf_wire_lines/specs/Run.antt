-- Request lines answered one after another, whatever a desk makes of each.
use Rattle.std.specs.Prelude.{◌≡◌, ℕ, ◌<◌, List, [], ◌∷◌, ◌++◌, length, nat_le, MatchBool, Option, take}
use Rattle.std.specs.List.{concat}
use Rattle.std.specs.Io.KnownBytes.{Appends}
use Rattle.mf_base.specs.declared.fault.Fault.TheVariants.{F1}
use Rattle.mf_wire_lines.specs.Cut.{longest_line, request}
use Rattle.mf_wire_lines.specs.Replies.{fault_line}

-- From old, the desk may answer the line with the text and go on to new. A line that is too long is refused and changes
-- nothing.
abbrev pub LineStep : {S : Type 0} → (S → List ℕ → List ℕ → S → Type 0) → S → List ℕ → List ℕ → S → Type 0
LineStep step old line text new =
    MatchBool (nat_le (length line) longest_line) (step old line text new) ((text ≡ fault_line F1) × (new ≡ old))

-- the desk may give these texts to these lines, one after another
abbrev pub Run : {S : Type 0} → (S → List ℕ → List ℕ → S → Type 0) → S → List (List ℕ) → List (List ℕ) → S → Type 0
Run step old [] [] new = new ≡ old
Run {S = S} step old (line ∷ lines) (text ∷ texts) new =
    (mid : S) × LineStep step old line text mid × Run step mid lines texts new
Run step old [] (text ∷ texts) new = ⊥
Run step old (line ∷ lines) [] new = ⊥

-- these lines were answered in a run, and each reply was written whole
pub record Answered {S : Type 0} (run : S → List (List ℕ) → List (List ℕ) → S → Type 0) (old new : S)
    (lines : List (List ℕ)) (before after : Option (List ℕ)) (count : ℕ) : Type 0 where
  pub texts : List (List ℕ)
  pub ran : run old lines texts new
  pub written : Appends before after (concat texts)
  pub counted : count ≡ length texts

-- a beginning of these lines was answered in a run, and of the last reply only a beginning was written
pub record Broken {S : Type 0} (run : S → List (List ℕ) → List (List ℕ) → S → Type 0) (old new : S)
    (lines : List (List ℕ)) (before after : Option (List ℕ)) (count : ℕ) : Type 0 where
  pub done : List (List ℕ)
  pub line : List ℕ
  pub rest : List (List ℕ)
  pub among : lines ≡ done ++ line ∷ rest
  pub texts : List (List ℕ)
  pub text : List ℕ
  pub ran : run old (done ++ line ∷ []) (texts ++ text ∷ []) new
  pub part : ℕ
  pub short : part < length text
  pub written : Appends before after (concat texts ++ take part text)
  pub counted : count ≡ length texts

-- a request line was answered, and of its reply only a beginning was written
pub record Half {S : Type 0} (step : S → List ℕ → List ℕ → S → Type 0) (old new : S) (line : List ℕ)
    (before after : Option (List ℕ)) : Type 0 where
  pub asks : request line ≡ line ∷ []
  pub text : List ℕ
  pub stepped : LineStep step old line text new
  pub part : ℕ
  pub short : part < length text
  pub begun : Appends before after (take part text)
