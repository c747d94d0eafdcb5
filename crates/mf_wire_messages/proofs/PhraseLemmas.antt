-- Which numbers are a status, and their phrases.
use Rattle.std.proofs.Common.{◌≡◌, ℕ, arith, Bool, true, false, nat_le, nat_lt, cond, [], refl, sym, ap}
use Rattle.std.specs.Prelude.{◌&&◌, unwrap_or}
use Rattle.std.proofs.lemmas.Bool.Decides.{nat_tests}
use Rattle.http.specs.StatusCode.{IsStatusCode, reason_phrase}
use Rattle.mf_wire_messages.specs.Responses.{is_status, phrase_of}

status_test : (n : ℕ) → IsStatusCode n → is_status n ≡ true
status_test n h = grind (arith, nat_tests, h.0, h.1)

no_status_test : (n : ℕ) → (IsStatusCode n → ⊥) → is_status n ≡ false
no_status_test n other = at (nat_le 100 n) (nat_lt n 1000) refl refl
  where
    at : (least greatest : Bool) → nat_le 100 n ≡ least → nat_lt n 1000 ≡ greatest → (least && greatest) ≡ false
    at true true e f = absurd (other (grind (arith, nat_tests, e), grind (arith, nat_tests, f)))
    at true false e f = refl
    at false greatest e f = refl

pub phrase_of_status : (n : ℕ) → IsStatusCode n → unwrap_or (reason_phrase n) [] ≡ phrase_of n
phrase_of_status n h = sym (ap (λ b. cond b (unwrap_or (reason_phrase n) []) []) (status_test n h))

pub no_phrase : (n : ℕ) → (IsStatusCode n → ⊥) → [] ≡ phrase_of n
no_phrase n other = sym (ap (λ b. cond b (unwrap_or (reason_phrase n) []) []) (no_status_test n other))
