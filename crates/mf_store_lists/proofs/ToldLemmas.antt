-- Rows that are read in turn, of each of which no line is told, or one.
use Rattle.std.proofs.Common.{◌≡◌, ◌<◌, ◌≤◌, ◌+◌, ℕ, Bool, List, [], ◌∷◌, ◌++◌, map, filter, length, take, drop}
use Rattle.std.proofs.Common.{get_or, nat_lt, true, false, cond, ◌&&◌, refl, sym, ap, ◌∙◌, arith}
use Rattle.std.specs.List.{AllByRecursion, flat_map}
use Rattle.std.proofs.lemmas.Bool.{le-ltb, lt-ltb}
use Rattle.std.proofs.lemmas.List.{append-nil, take-append-drop, take-append-le, take_all, length-map}
use Rattle.std.proofs.lemmas.List.Concat.{flat_map-cons}
use Rattle.std.proofs.lemmas.Grind.{flat_map-append}
use Rattle.sqlite.specs.Order.{Row}
use Rattle.mf_store_values.proofs.ReadLemmas.{row_at}
use Rattle.mf_store_lists.specs.Told.{told_if}

-- one more row is told of
pub told_more : {A L : Type 0} (P : A → Type 0) (row : A → Row) (told : A → List L) (rows : List Row) (n : ℕ)
    (item : Row) (xs ys : List L) (ls : List A) → rows ≡ map row ls → AllByRecursion P ls → n < length rows
    → item ≡ get_or rows n item → xs ≡ flat_map told (take n ls)
    → ((l : A) → P l → item ≡ row l → ys ≡ xs ++ told l) → ys ≡ flat_map told (take (n + 1) ls)
told_more P row told rows n item xs ys ls are all low is before adds =
    let at = row_at P row ls rows n item are all low is in
    let one = flat_map-cons told at.value [] ∙ append-nil (told at.value) in
    adds at.value at.holds at.row_is ∙ ap (λ l. l ++ told at.value) before
    ∙ sym (ap (flat_map told) at.more ∙ flat_map-append told (take n ls) (at.value ∷ [])
    ∙ ap (λ l. flat_map told (take n ls) ++ l) one)

-- all rows are told of
pub told_all : {A L : Type 0} (row : A → Row) (told : A → List L) (rows : List Row) (n : ℕ) (xs : List L) (ls : List A)
    → rows ≡ map row ls → length rows ≤ n → xs ≡ flat_map told (take n ls) → xs ≡ flat_map told ls
told_all row told rows n xs ls are past is =
    let many = ap length are ∙ length-map ls row in
    is ∙ ap (flat_map told) (take_all n ls (omega (arith, many, past)))

-- where as many are told as may be, the others are none of the first
pub first_told : {A L : Type 0} (told : A → List L) (most n : ℕ) (xs : List L) (ls : List A)
    → xs ≡ flat_map told (take n ls) → length xs ≡ most → xs ≡ take most (flat_map told ls)
first_told told most n xs ls is many =
    sym (ap (take most) (sym (ap (flat_map told) (take-append-drop n ls))
    ∙ flat_map-append told (take n ls) (drop n ls) ∙ ap (λ l. l ++ flat_map told (drop n ls)) (sym is))
    ∙ take-append-le most xs (flat_map told (drop n ls)) (omega (arith, many))
    ∙ take_all most xs (omega (arith, many)))

-- where no more are told than may be, they are the first
pub few_told : {L : Type 0} (most : ℕ) (xs ys : List L) → xs ≡ ys → length xs ≤ most → xs ≡ take most ys
few_told most xs ys is few = sym (take_all most xs few) ∙ ap (take most) is

told_one : {A L : Type 0} (b : Bool) (line : A → L) (x : A) (xs : List A)
    → told_if b (line x) ++ map line xs ≡ map line (cond b (x ∷ xs) xs)
told_one true line x xs = refl
told_one false line x xs = refl

-- what is told of those that are chosen
pub told_chosen : {A L : Type 0} (chosen : A → Bool) (line : A → L) (xs : List A)
    → flat_map (λ x. told_if (chosen x) (line x)) xs ≡ map line (filter chosen xs)
told_chosen chosen line [] = refl
told_chosen chosen line (x ∷ xs) =
    flat_map-cons (λ y. told_if (chosen y) (line y)) x xs
    ∙ ap (λ l. told_if (chosen x) (line x) ++ l) (told_chosen chosen line xs)
    ∙ told_one (chosen x) line x (filter chosen xs)

both_one : {A : Type 0} (a b : Bool) (p : A → Bool) (x : A) (xs : List A) → p x ≡ a
    → cond (a && b) (x ∷ filter p xs) (filter p xs) ≡ filter p (cond b (x ∷ xs) xs)
both_one true true p x xs is = sym (ap (λ c. cond c (x ∷ filter p xs) (filter p xs)) is)
both_one true false p x xs is = refl
both_one false true p x xs is = sym (ap (λ c. cond c (x ∷ filter p xs) (filter p xs)) is)
both_one false false p x xs is = refl

-- what passes two tests
pub both_chosen : {A : Type 0} (p q : A → Bool) (xs : List A)
    → filter (λ x. p x && q x) xs ≡ filter p (filter q xs)
both_chosen p q [] = refl
both_chosen p q (x ∷ xs) =
    ap (λ l. cond (p x && q x) (x ∷ l) l) (both_chosen p q xs) ∙ both_one (p x) (q x) p x (filter q xs) refl

-- ---- one row

-- nothing is told of it
pub none_told : {L : Type 0} (b : Bool) (y : L) (xs : List L) → b ≡ false → xs ≡ xs ++ told_if b y
none_told b y xs is = sym (append-nil xs) ∙ ap (λ c. xs ++ told_if c y) (sym is)

-- a line is
pub one_told : {L : Type 0} (b : Bool) (x y : L) (xs ys : List L) → b ≡ true → ys ≡ xs ++ x ∷ [] → x ≡ y
    → ys ≡ xs ++ told_if b y
one_told b x y xs ys is more same =
    more ∙ ap (λ z. xs ++ z ∷ []) same ∙ ap (λ c. xs ++ told_if c y) (sym is)

-- none with a number that isn't above one
pub early_not : (after number : ℕ) (b : Bool) → number ≤ after → (nat_lt after number && b) ≡ false
early_not after number b low = ap (λ c. c && b) (le-ltb after number low)

-- above it the rest decides
pub later_is : (after number : ℕ) (b : Bool) → after < number → (nat_lt after number && b) ≡ b
later_is after number b high = ap (λ c. c && b) (lt-ltb after number high)

-- a number that is at most another isn't above it
pub early : (after number : ℕ) → number ≤ after → nat_lt after number ≡ false
early after number low = le-ltb after number low

-- one that is above it is
pub later : (after number : ℕ) → after < number → nat_lt after number ≡ true
later after number high = lt-ltb after number high
