-- Texts that end with a dot: ranges, prefixes, and the number that stands last.
use Rattle.std.proofs.Common.{◌≡◌, ◌≢◌, ℕ, zero, suc, ◌+◌, ◌-◌, ◌*◌, ◌/◌, ◌%◌, ◌^◌, ◌<◌, ◌≤◌, Bool, true, false, cond}
use Rattle.std.proofs.Common.{not, Ordering, List, [], ◌∷◌, ◌++◌, length, get_or, take, refl, sym, ap, ◌∙◌, arith}
use Rattle.std.proofs.Common.{append_assoc}
use Rattle.std.specs.Prelude.{◌==◌, ◌&&◌, ◌||◌, decimal}
use Rattle.std.proofs.lemmas.Bool.Decides.{nat_tests}
use Rattle.std.proofs.lemmas.Fmt.{decimal_by_steps}
use Rattle.std.proofs.lemmas.Cmp.{same_from_slice_cmp}
use Rattle.std.proofs.lemmas.Grind.{common_steps}
use Rattle.std.specs.Ordering.{nat_cmp, is_lt, is_le}
use Rattle.std.specs.Cmp.Lexicographic.{slice_cmp}
use Rattle.mf_office.specs.Keys.{with_last_raised, is_before_by_bytes, is_in_range, EndsWithDot}

abbrev pub starts_with : List ℕ → List ℕ → Bool
starts_with [] text = true
starts_with (c ∷ cs) [] = false
starts_with (c ∷ cs) (d ∷ ds) = (c == d) && starts_with cs ds

abbrev pub same_text : List ℕ → List ℕ → Bool
same_text [] [] = true
same_text [] (d ∷ ds) = false
same_text (c ∷ cs) [] = false
same_text (c ∷ cs) (d ∷ ds) = (c == d) && same_text cs ds

pub raised_is : (q : List ℕ) → with_last_raised (q ++ 46 ∷ []) ≡ q ++ 47 ∷ []
raised_is [] = refl
raised_is (c ∷ []) = refl
raised_is (c ∷ d ∷ cs) = ap (λ x. c ∷ x) (raised_is (d ∷ cs))

nothing_before : (text : List ℕ) → is_before_by_bytes text [] ≡ false
nothing_before [] = refl
nothing_before (c ∷ cs) = refl

-- the range of a text that ends with a dot is what begins with it
pub range_is : (q text : List ℕ) → is_in_range (q ++ 46 ∷ []) (q ++ 47 ∷ []) text ≡ starts_with (q ++ 46 ∷ []) text
range_is [] [] = refl
range_is [] (c ∷ cs) = grind (arith, nat_tests, nothing_before cs)
range_is (d ∷ q) [] = refl
range_is (d ∷ q) (c ∷ cs) = grind (arith, nat_tests, range_is q cs)

abbrev pub NoDot : List ℕ → Type 0
NoDot [] = Unit {0}
NoDot (d ∷ ds) = (d ≢ 46) × NoDot ds

nothing_in_nothing : (q : List ℕ) → starts_with (q ++ 46 ∷ []) [] ≡ false
nothing_in_nothing [] = refl
nothing_in_nothing (c ∷ q) = refl

not_nothing : (q : List ℕ) → same_text (q ++ 46 ∷ []) [] ≡ false
not_nothing [] = refl
not_nothing (c ∷ q) = refl

dot_alone : (a ds : List ℕ) → same_text [] (a ++ (ds ++ 46 ∷ [])) ≡ false
dot_alone [] [] = refl
dot_alone [] (d ∷ ds) = refl
dot_alone (c ∷ a) ds = refl

pub last_part : (q ds : List ℕ) → NoDot ds → starts_with (q ++ 46 ∷ []) (ds ++ 46 ∷ []) ≡ same_text (q ++ 46 ∷ [])
    (ds ++ 46 ∷ [])
last_part [] [] h = refl
last_part (c ∷ q) [] h = grind (arith, nat_tests, nothing_in_nothing q, not_nothing q)
last_part [] (d ∷ ds) h = grind (arith, nat_tests)
last_part (c ∷ q) (d ∷ ds) h = ap (λ b. (c == d) && b) (last_part q ds h.1)

-- what ends with a dot and begins a text a, ds and a dot, begins a or is the whole
pub parts : (q a ds : List ℕ) → NoDot ds → starts_with (q ++ 46 ∷ []) (a ++ (ds ++ 46 ∷ []))
    ≡ (starts_with (q ++ 46 ∷ []) a || same_text (q ++ 46 ∷ []) (a ++ (ds ++ 46 ∷ [])))
parts q [] ds h = last_part q ds h ∙ ap (λ b. b || same_text (q ++ 46 ∷ []) (ds ++ 46 ∷ []))
    (sym (nothing_in_nothing q))
parts [] (c ∷ a) ds h = grind (arith, nat_tests, dot_alone a ds)
parts (b ∷ q) (c ∷ a) ds h = grind (arith, nat_tests, parts q a ds h)

pub same_self : (text : List ℕ) → same_text text text ≡ true
same_self [] = refl
same_self (c ∷ cs) = grind (arith, nat_tests, same_self cs)

pub same_is : (a b : List ℕ) → same_text a b ≡ true → a ≡ b
same_is [] [] h = refl
same_is [] (d ∷ ds) h = absurd (cc)
same_is (c ∷ cs) [] h = absurd (cc)
same_is (c ∷ cs) (d ∷ ds) h =
    let e : c ≡ d = grind (arith, nat_tests) in
    let t : same_text cs ds ≡ true = grind (arith, nat_tests) in
    let r : cs ≡ ds = same_is cs ds t in
    cc

-- the number that stands last, between dots
abbrev pub value : ℕ → List ℕ → ℕ
value n [] = n
value n (c ∷ cs) = value (10 * n + (c - 48)) cs

abbrev pub last_number : ℕ → ℕ → List ℕ → ℕ
last_number now before [] = before
last_number now before (c ∷ cs) = cond (c == 46) (last_number 0 now cs) (last_number (10 * now + (c - 48)) before cs)

pub after_dot : (q text : List ℕ) (now before : ℕ) → (z : ℕ) × (last_number now before (q ++ 46 ∷ text)
    ≡ last_number 0 z text)
after_dot [] text now before = (now, refl)
after_dot (c ∷ q) text now before =
    step (c == 46) (after_dot q text 0 now) (after_dot q text (10 * now + (c - 48)) before)
  where
    step : (b : Bool) → ((z : ℕ) × (last_number 0 now (q ++ 46 ∷ text) ≡ last_number 0 z text))
        → ((z : ℕ) × (last_number (10 * now + (c - 48)) before (q ++ 46 ∷ text) ≡ last_number 0 z text)) → (z : ℕ)
        × (cond b (last_number 0 now (q ++ 46 ∷ text)) (last_number (10 * now + (c - 48)) before (q ++ 46 ∷ text))
        ≡ last_number 0 z text)
    step true h k = h
    step false h k = k

pub last_of_digits : (ds : List ℕ) (now before : ℕ) → NoDot ds → last_number now before (ds ++ 46 ∷ []) ≡ value now ds
last_of_digits [] now before h = refl
last_of_digits (d ∷ ds) now before h = grind (arith, nat_tests, last_of_digits ds (10 * now + (d - 48)) before h.1)

value_push : (n : ℕ) (ds : List ℕ) (c : ℕ) → value n (ds ++ c ∷ []) ≡ 10 * value n ds + (c - 48)
value_push n [] c = refl
value_push n (d ∷ ds) c = value_push (10 * n + (d - 48)) ds c

NoDot_push : (ds : List ℕ) (c : ℕ) → NoDot ds → c ≢ 46 → NoDot (ds ++ c ∷ [])
NoDot_push [] c h ne = (ne, tt)
NoDot_push (d ∷ ds) c h ne = (h.0, NoDot_push ds c h.1 ne)

pub record Numeral (n : ℕ) (ds : List ℕ) : Type 0 where
  pub no_dot : NoDot ds
  pub value_is : value 0 ds ≡ n

pub decimal_is : (n : ℕ) → n < 2 ^ 64 → Numeral n (decimal n)
decimal_is n h = decimal_by_steps Numeral one more n h
  where
    one : (n : ℕ) → n < 10 → Numeral n ((48 + n) ∷ [])
    one n lt = record { no_dot = ((omega arith), tt); value_is = omega arith }

    more : (n : ℕ) (ds : List ℕ) → 10 ≤ n → Numeral (n / 10) ds → Numeral n (ds ++ ((48 + n % 10) ∷ []))
    more n ds ge h = record {
      no_dot = NoDot_push ds (48 + n % 10) h.no_dot (omega arith);
      value_is = value_push 0 ds (48 + n % 10) ∙ ap (λ k. 10 * k + ((48 + n % 10) - 48)) h.value_is ∙ omega arith;
    }

-- the order of bytes, as the code's `<` and `<=` answer it
pub before_is : (a b : List ℕ) (o : Ordering) → o ≡ slice_cmp nat_cmp a b → is_lt o ≡ is_before_by_bytes a b
before_is = same_from_slice_cmp nat_cmp is_lt is_before_by_bytes refl (λ _ _. refl) (λ _ _. refl)
    (λ x y xs ys o h. grind (arith, nat_tests))

pub not_after_is : (a b : List ℕ) (o : Ordering) → o ≡ slice_cmp nat_cmp a b → is_le o ≡ not (is_before_by_bytes b a)
not_after_is = same_from_slice_cmp nat_cmp is_le (λ a b. not (is_before_by_bytes b a)) refl (λ _ _. refl) (λ _ _. refl)
    (λ x y xs ys o h. grind (arith, nat_tests))

pub in_range_is : (low high text : List ℕ) (from below : Bool) → from ≡ is_le (slice_cmp nat_cmp low text)
    → below ≡ is_lt (slice_cmp nat_cmp text high) → (from && below) ≡ is_in_range low high text
in_range_is low high text from below f b =
    let f' : from ≡ not (is_before_by_bytes text low) = f ∙ not_after_is low text (slice_cmp nat_cmp low text) refl in
    let b' : below ≡ is_before_by_bytes text high = b ∙ before_is text high (slice_cmp nat_cmp text high) refl in
    cc

pub not_from : (low high text : List ℕ) (from : Bool) → from ≡ is_le (slice_cmp nat_cmp low text) → from ≡ false
    → from ≡ is_in_range low high text
not_from low high text from f off =
    let same : from ≡ (from && is_lt (slice_cmp nat_cmp text high)) =
    off ∙ ap (λ b. b && is_lt (slice_cmp nat_cmp text high)) (sym off) in
    same ∙ in_range_is low high text from (is_lt (slice_cmp nat_cmp text high)) f refl

-- the last byte of a key
pub ends_with_dot : (q : List ℕ) → EndsWithDot (q ++ 46 ∷ [])
ends_with_dot q = grind (arith, common_steps)

take_raised : (c : ℕ) (cs : List ℕ) (i : ℕ) → i ≡ length cs → take i (c ∷ cs) ++ 47 ∷ [] ≡ with_last_raised (c ∷ cs)
take_raised c [] zero e = refl
take_raised c (d ∷ cs) (suc i) e = ap (λ x. c ∷ x) (take_raised d cs i (omega arith))
take_raised c [] (suc i) e = absurd (omega arith)
take_raised c (d ∷ cs) zero e = absurd (omega arith)

pub raised-take : (text : List ℕ) → EndsWithDot text → take (length text - 1) text ++ 47 ∷ [] ≡ with_last_raised text
raised-take [] h = absurd (omega arith)
raised-take (c ∷ cs) h = take_raised c cs (length (c ∷ cs) - 1) (omega arith)

pub dot_not_empty : (text : List ℕ) → EndsWithDot text → 0 < length text
dot_not_empty [] h = absurd (omega arith)
dot_not_empty (c ∷ cs) h = omega arith

pub child_ends : (text parent number : List ℕ) → text ≡ parent ++ (number ++ 46 ∷ []) → EndsWithDot text
child_ends text parent number e = rw (e, ← append_assoc) (ends_with_dot (parent ++ number))

-- the code takes the last character off, and puts a slash there
pub raised-popped : (text rest : List ℕ) (n : ℕ) → EndsWithDot text → n ≡ length text
    → (0 < n → get_or text (n - 1) 0 < 128 → rest ≡ take (n - 1) text) → rest ++ 47 ∷ [] ≡ with_last_raised text
raised-popped text rest n dot len popped =
    let some : 0 < length text = dot_not_empty text dot in
    let byte : get_or text (n - 1) 0 ≡ 46 = ap (λ k. get_or text (k - 1) 0) len ∙ dot in
    let cut : rest ≡ take (n - 1) text = popped (omega arith) (omega arith) in
    ap (λ t. t ++ 47 ∷ []) (cut ∙ ap (λ k. take (k - 1) text) len) ∙ raised-take text dot
