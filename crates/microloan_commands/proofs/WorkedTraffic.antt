-- Worked rows of what goes to which connection. A client that sends 1 is answered 7 8, and one that sends 2 is
-- answered 9.
use Rattle.std.proofs.Common.{inl, inr, ℕ, List, [], ◌∷◌, refl, arith, rules}
use Rattle.mf_wire.specs.Exchanges.{Exchange}
use Rattle.microloan_commands.specs.Traffic.{Traffic, GoTo}

abbrev sent_and_got : List ℕ → List ℕ → Traffic
sent_and_got bytes text = record { bytes = bytes; text = text }

abbrev exchanges : List Exchange
exchanges = record { bytes = 1 ∷ []; text = 7 ∷ 8 ∷ [] } ∷ record { bytes = 2 ∷ []; text = 9 ∷ [] } ∷ []

-- each gets its own, and a silent one nothing: two are whole
each_its_own : GoTo (sent_and_got [] [] ∷ sent_and_got (1 ∷ []) (7 ∷ 8 ∷ []) ∷ sent_and_got (2 ∷ []) (9 ∷ []) ∷ [])
    exchanges 2
each_its_own = inl (refl, inr (refl, inl (refl, 1, refl, inr (refl, inl (refl, 0, refl, refl)))))

-- the first takes one byte of its response: one is whole
a_beginning : GoTo (sent_and_got (1 ∷ []) (7 ∷ []) ∷ sent_and_got (2 ∷ []) (9 ∷ []) ∷ []) exchanges 1
a_beginning = inr (refl, inr ((1, omega arith, refl), inr (refl, inl (refl, 0, refl, refl))))

-- no byte goes to a silent one
none_to_the_silent : (whole : ℕ) → GoTo (sent_and_got [] (7 ∷ []) ∷ sent_and_got (1 ∷ []) (7 ∷ 8 ∷ [])
    ∷ sent_and_got (2 ∷ []) (9 ∷ []) ∷ []) exchanges whole → ⊥
none_to_the_silent whole h = search rules

-- no response goes to another
none_to_another : (whole : ℕ) → GoTo (sent_and_got (1 ∷ []) (9 ∷ []) ∷ sent_and_got (2 ∷ []) (7 ∷ 8 ∷ []) ∷ [])
    exchanges whole → ⊥
none_to_another whole h = search rules
