-- Writes that come one after another, and the buffer of a line.
use Rattle.std.proofs.Common.{◌≡◌, ℕ, ◌+◌, ◌<◌, ◌≤◌, List, [], ◌∷◌, ◌++◌, length, take, drop, set, sym, ◌∙◌, subst}
use Rattle.std.proofs.Common.{arith, length-append, Option}
use Rattle.std.proofs.lemmas.List.{take_all, take-append-le, take_more_set, length-take-le}
use Rattle.std.proofs.Math.Seq.{take-append-add, take-add}
use Rattle.std.specs.Io.KnownBytes.{Appends}
use Rattle.std.proofs.KnownBytes.{Appends-trans}

-- a beginning of the second after the first is a beginning of both
pub Appends-part : (a b c : Option (List ℕ)) (bs cs : List ℕ) (n : ℕ) → Appends a b bs → Appends b c (take n cs)
    → Appends a c (take (length bs + n) (bs ++ cs))
Appends-part a b c bs cs n p q =
    subst (Appends a c) (sym (take-append-add bs cs n)) (Appends-trans a b c bs (take n cs) p q)

-- a beginning of the first is a beginning of both
pub Appends-front : (a b : Option (List ℕ)) (bs cs : List ℕ) (n : ℕ) → n ≤ length bs → Appends a b (take n bs)
    → Appends a b (take n (bs ++ cs))
Appends-front a b bs cs n h p = subst (Appends a b) (sym (take-append-le n bs cs h)) p

pub push_fits : (items : List ℕ) (len b : ℕ) → length items ≡ 65538 → len < 65538 → take (len + 1) (set items len b)
    ≡ take 65538 (take len items ++ b ∷ [])
push_fits items len b e h =
    let room : len < length items = omega arith in
    let le : len ≤ length items = omega arith in
    let short : length (take len items ++ b ∷ []) ≤ 65538 =
    omega (arith, length-append (take len items) (b ∷ []), length-take-le len items le) in
    take_more_set items len b room ∙ sym (take_all 65538 _ short)

pub push_full : (items : List ℕ) (len b : ℕ) → length items ≡ 65538 → len ≤ 65538 → 65538 ≤ len → take len items
    ≡ take 65538 (take len items ++ b ∷ [])
push_full items len b e h f =
    let same : len ≡ 65538 = omega arith in
    let le : len ≤ length items = omega arith in
    let long : 65538 ≤ length (take len items) = omega (arith, length-take-le len items le) in
    let short : length (take len items) ≤ 65538 = omega (arith, length-take-le len items le) in
    sym (take-append-le 65538 (take len items) (b ∷ []) long ∙ take_all 65538 _ short)

-- the bytes, or a beginning of them
abbrev pub Part : Option (List ℕ) → Option (List ℕ) → List ℕ → Type 0
Part a b bs = (n : ℕ) × (n < length bs) × Appends a b (take n bs)

pub part_first : (a b : Option (List ℕ)) (bs cs : List ℕ) → Part a b bs → Part a b (bs ++ cs)
part_first a b bs cs p =
    (p.0, omega (arith, p.1, length-append bs cs), Appends-front a b bs cs p.0 (omega (arith, p.1)) p.2)

pub part_second : (a b c : Option (List ℕ)) (bs cs : List ℕ) → Appends a b bs → Part b c cs → Part a c (bs ++ cs)
part_second a b c bs cs p q =
    (length bs + q.0, omega (arith, q.1, length-append bs cs), Appends-part a b c bs cs q.0 p q.2)

-- one more write of the loop
pub put_more : (a b c : Option (List ℕ)) (bs : List ℕ) (done n : ℕ) → Appends a b (take done bs)
    → Appends b c (take n (drop done bs)) → Appends a c (take (done + n) bs)
put_more a b c bs done n p q = subst (Appends a c) (sym (take-add done n bs)) (Appends-trans a b c _ _ p q)
