-- What passes over connections.
use Rattle.std.specs.Prelude.{◌≡◌, ◌⊎◌, ℕ, ◌+◌, ◌<◌, List, [], ◌∷◌, ◌++◌, length, take, Option, Some, None}
use Rattle.mf_wire.specs.Exchanges.{Exchange}

-- the bytes that a connection's client sends, and those that were written to it
pub record Traffic : Type 0 where
  pub bytes : List ℕ
  pub text : List ℕ

-- Where it is known what passed over the connections that were ended, all is known of the one that was accepted: what
-- its client sends is still to be read, and nothing was written to it.
abbrev pub Begins : Option (List Traffic) → Option (List ℕ) → Option (List ℕ) → Option (List ℕ) → Type 0
Begins None heard unread written = Unit {0}
Begins (Some ended) heard unread written =
    (bytes : List ℕ) × (heard ≡ Some bytes) × (unread ≡ Some bytes) × (written ≡ Some [])

-- then the connection that is ended is one more, with what its client sent and what was written to it
abbrev pub Adds : Option (List Traffic) → Option (List ℕ) → Option (List ℕ) → Option (List Traffic) → Type 0
Adds None heard written after = Unit {0}
Adds (Some ended) heard written after = (bytes text : List ℕ) → heard ≡ Some bytes → written ≡ Some text
    → after ≡ Some (ended ++ record { bytes = bytes; text = text } ∷ [])

-- these connections were ended, after those that had been
abbrev pub Takes : Option (List Traffic) → Option (List Traffic) → List Traffic → Type 0
Takes None after more = Unit {0}
Takes (Some ended) None more = ⊥
Takes (Some ended) (Some all) more = all ≡ ended ++ more

-- the text is a beginning of the response, and not the whole
abbrev pub IsCutShort : List ℕ → List ℕ → Type 0
IsCutShort text response = (n : ℕ) × (n < length response) × (text ≡ take n response)

-- The exchanges are those of connections, in their order: each message came by its connection, and its response was
-- written to that one, whole or a beginning of it. Nothing was written to the other connections. So many of the
-- responses were written whole.
abbrev pub GoTo : List Traffic → List Exchange → ℕ → Type 0
GoTo [] [] whole = whole ≡ 0
GoTo [] (e ∷ es) whole = ⊥
GoTo (t ∷ ts) [] whole = (t.text ≡ []) × GoTo ts [] whole
GoTo (t ∷ ts) (e ∷ es) whole = ((t.text ≡ []) × GoTo ts (e ∷ es) whole)
    ⊎ ((e.bytes ≡ t.bytes) × (((t.text ≡ e.text) × (more : ℕ) × (whole ≡ more + 1) × GoTo ts es more)
    ⊎ (IsCutShort t.text e.text × GoTo ts es whole)))
