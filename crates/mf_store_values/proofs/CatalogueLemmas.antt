-- Flags and amounts, as a row keeps them.
use Rattle.std.proofs.Common.{◌≡◌, ℕ, pos, Bool, true, false, refl, arith}
use Rattle.mf_store_values.specs.Flat.{flag_number}

pub flag_is : (a b : Bool) → flag_number a ≡ flag_number b → a ≡ b
flag_is false false e = refl
flag_is true true e = refl
flag_is a b e = absurd (omega arith)

pub amount_is : (a b : ℕ) → pos a ≡ pos b → a ≡ b
amount_is a b e = cc
