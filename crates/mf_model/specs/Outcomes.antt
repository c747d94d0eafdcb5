-- How what is done with a request ends: a value, or a refusal.
use Rattle.std.specs.Prelude.{ℕ, ◌+◌, cond, nat_lt, Option, Some, None, Result, Ok, Err}
use Rattle.mf_base.specs.declared.fault.Fault.{Fault}
use Rattle.mf_base.specs.declared.fault.Fault.TheVariants.{F4, F18}

-- the number of what comes next where so many are used, up to a limit
abbrev pub next_of : ℕ → ℕ → Result ℕ Fault
next_of used limit = cond (nat_lt used limit) (Ok (used + 1)) (Err F18)

-- what is made of a value, or why there is none
abbrev pub with_value : {A B : Type 0} → Result A Fault → (A → B) → Result B Fault
with_value (Err e) make = Err e
with_value (Ok x) make = Ok (make x)

-- what is made of a thing that is there; F4 where it isn't
abbrev pub with_found : {A B : Type 0} → Option A → (A → B) → Result B Fault
with_found None make = Err F4
with_found (Some x) make = Ok (make x)

-- what comes of a thing that is there; F4 where it isn't
abbrev pub where_found : {A B : Type 0} → Option A → (A → Result B Fault) → Result B Fault
where_found None act = Err F4
where_found (Some x) act = act x

-- a refusal, or what comes where there is none
abbrev pub unless_refused : {B : Type 0} → Result (Unit {0}) Fault → Result B Fault → Result B Fault
unless_refused (Err e) next = Err e
unless_refused (Ok u) next = next
