-- When entries can be one loan's, place by place.
use Rattle.std.proofs.Common.{◌≡◌, ◌≢◌, ℕ, zero, suc, ◌<◌, Bool, true, false, List, [], ◌∷◌, length, refl, ap, ◌∙◌}
use Rattle.std.proofs.Common.{arith}
use Rattle.std.specs.Prelude.{◌==◌, ◌&&◌, ◌||◌, not}
use Rattle.std.specs.List.{list_all}
use Rattle.std.proofs.lemmas.Bool.Decides.{nat_tests}
use Rattle.mf_account.specs.Told.{AreNumbered}
use Rattle.mf_account.specs.declared.entry.Entry.{Entry}
use Rattle.mf_account.specs.Kinds.{is_seal}
use Rattle.mf_account.specs.Standing.{is_before, entry_at}
use Rattle.mf_account.specs.Lawful.{is_last_of, are_seals_last}
use Rattle.mf_account.specs.Loan.{SealIsLast}

or_left : (a b : Bool) → a ≡ false → (a || b) ≡ true → b ≡ true
or_left false b e h = h
or_left true b e h = absurd (cc)

or_true : (a b : Bool) → (a ≡ false → b ≡ true) → (a || b) ≡ true
or_true true b h = refl
or_true false b h = h refl

-- a test that all of a list pass
pass_at : (test : Entry → Bool) (xs : List Entry) (i : ℕ) → list_all test xs ≡ true → i < length xs
    → test (entry_at xs i) ≡ true
pass_at test [] i all below = absurd (omega (arith, below))
pass_at test (x ∷ xs) zero all below = first (test x) all
  where
    first : (b : Bool) → (b && list_all test xs) ≡ true → b ≡ true
    first true h = refl
    first false h = h
pass_at test (x ∷ xs) (suc i) all below = pass_at test xs i (rest (test x) all) (omega (arith, below))
  where
    rest : (b : Bool) → (b && list_all test xs) ≡ true → list_all test xs ≡ true
    rest true h = h
    rest false h = absurd (cc)

all_pass : (test : Entry → Bool) (xs : List Entry) → ((i : ℕ) → i < length xs → test (entry_at xs i) ≡ true)
    → list_all test xs ≡ true
all_pass test [] each = refl
all_pass test (x ∷ xs) each = ap (λ b. b && list_all test xs) (each 0 (omega arith))
    ∙ all_pass test xs (λ i below. each (suc i) (omega (arith, below)))

pub seals_last : (entries : List Entry) → AreNumbered entries → are_seals_last entries ≡ true → SealIsLast entries
seals_last entries numbers all i j below_i below_j apart stands_i stands_j seal =
    let at_i = pass_at (λ (e : Entry). e.reversed || (not (is_seal e.kind) || is_last_of entries e)) entries i all
    below_i in
    let last = or_left (not (is_seal (entry_at entries i).kind)) (is_last_of entries (entry_at entries i)) (ap not seal)
    (or_left (entry_at entries i).reversed (not (is_seal (entry_at entries i).kind) || is_last_of entries
    (entry_at entries i)) stands_i at_i) in
    let at_j = pass_at (λ (f : Entry). f.reversed || ((f.seq == (entry_at entries i).seq) || is_before f
    (entry_at entries i))) entries j last below_j in
    let number_i = numbers i below_i in
    let number_j = numbers j below_j in
    let other : ((entry_at entries j).seq == (entry_at entries i).seq) ≡ false = grind (arith, nat_tests) in
    or_left ((entry_at entries j).seq == (entry_at entries i).seq) (is_before (entry_at entries j) (entry_at entries i))
    other
    (or_left (entry_at entries j).reversed (((entry_at entries j).seq == (entry_at entries i).seq) || is_before
    (entry_at entries j) (entry_at entries i)) stands_j at_j)

not_not : (b : Bool) → not b ≡ false → b ≡ true
not_not true h = refl
not_not false h = absurd (cc)

pub seals_pass : (entries : List Entry) → AreNumbered entries → SealIsLast entries → are_seals_last entries ≡ true
seals_pass entries numbers last =
    all_pass (λ (e : Entry). e.reversed || (not (is_seal e.kind) || is_last_of entries e)) entries (λ i below_i.
    or_true (entry_at entries i).reversed (not (is_seal (entry_at entries i).kind) || is_last_of entries
    (entry_at entries i)) (λ stands_i.
    or_true (not (is_seal (entry_at entries i).kind)) (is_last_of entries (entry_at entries i)) (λ seal.
    all_pass (λ (f : Entry). f.reversed || ((f.seq == (entry_at entries i).seq) || is_before f (entry_at entries i)))
    entries (λ j below_j.
    or_true (entry_at entries j).reversed (((entry_at entries j).seq == (entry_at entries i).seq) || is_before
    (entry_at entries j) (entry_at entries i)) (λ stands_j.
    or_true ((entry_at entries j).seq == (entry_at entries i).seq) (is_before (entry_at entries j) (entry_at entries i))
    (λ other.
    let number_i = numbers i below_i in
    let number_j = numbers j below_j in
    let apart : i ≢ j = λ same. grind (arith, nat_tests) in
    last i j below_i below_j apart stands_i stands_j (not_not (is_seal (entry_at entries i).kind) seal)))))))
