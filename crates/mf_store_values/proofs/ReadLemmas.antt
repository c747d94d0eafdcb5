-- Rows that are read in turn, and what some of them are read as.
use Rattle.std.proofs.Common.{◌≡◌, ◌<◌, ◌≤◌, ◌+◌, ℕ, List, [], ◌∷◌, ◌++◌, map, length, take, get_or}
use Rattle.std.proofs.Common.{zero, suc, refl, sym, ap, ◌∙◌, subst, arith}
use Rattle.std.specs.List.{AllByRecursion}
use Rattle.std.proofs.lemmas.List.{take_more, map_push, length-map, get_or-map, take_all}
use Rattle.std.proofs.lemmas.List.Elements.{All-get_or, All-from_recursion}
use Rattle.sqlite.specs.Order.{Row}
use Rattle.mf_store_values.specs.Flat.{numbered_from}

-- the value whose row stands at a place
pub record IsAt {A R : Type 0} (P : A → Type 0) (row : A → R) (ls : List A) (n : ℕ) (item : R) : Type 0 where
  pub value : A
  pub holds : P value
  pub row_is : item ≡ row value
  pub more : take (n + 1) ls ≡ take n ls ++ value ∷ []

pub row_at : {A R : Type 0} (P : A → Type 0) (row : A → R) (ls : List A) (rows : List R) (n : ℕ) (item : R)
    → rows ≡ map row ls → AllByRecursion P ls → n < length rows → item ≡ get_or rows n item → IsAt P row ls n item
row_at P row [] rows n item are all low is = absurd (let none = ap length are in omega (arith, none, low))
row_at P row (d ∷ ls) rows n item are all low is =
    let many = ap length are ∙ length-map (d ∷ ls) row in
    let inside : n < length (d ∷ ls) = omega (arith, many, low) in
    record {
      value = get_or (d ∷ ls) n d;
      holds = All-get_or P (d ∷ ls) n d inside (All-from_recursion P (d ∷ ls) all);
      row_is = is ∙ ap (λ l. get_or l n item) are ∙ get_or-map row (d ∷ ls) n d item inside;
      more = take_more (d ∷ ls) n d inside;
    }

-- one more row is read
pub next_read : {A L R : Type 0} (P : A → Type 0) (row : A → R) (line : A → L) (ls : List A) (rows : List R) (n : ℕ)
    (x : L) {item : R} {xs ys : List L} → rows ≡ map row ls → AllByRecursion P ls → n < length rows
    → item ≡ get_or rows n item → ys ≡ xs ++ x ∷ [] → xs ≡ map line (take n ls)
    → ((l : A) → P l → item ≡ row l → x ≡ line l) → ys ≡ map line (take (n + 1) ls)
next_read P row line ls rows n x {item} are all low is more before reads =
    let at = row_at P row ls rows n item are all low is in
    more ∙ (λ t. before t ++ reads at.value at.holds at.row_is t ∷ [])
    ∙ sym (ap (map line) at.more ∙ map_push line (take n ls) at.value)

-- all rows are read
pub all_read : {A L R : Type 0} (row : A → R) (line : A → L) (ls : List A) (rows : List R) (n : ℕ) {xs : List L}
    → rows ≡ map row ls → length rows ≤ n → xs ≡ map line (take n ls) → xs ≡ map line ls
all_read row line ls rows n are past is =
    let many = ap length are ∙ length-map ls row in
    is ∙ ap (map line) (take_all n ls (omega (arith, many, past)))

-- the same of rows as a query gives them, for the crates above
pub mapped_more : {A L : Type 0} (P : A → Type 0) (row : A → Row) (line : A → L) (rows : List Row) (n : ℕ) (item : Row)
    (d : A) (x : L) (xs ys : List L) (ls : List A) → rows ≡ map row ls → AllByRecursion P ls → n < length rows
    → item ≡ get_or rows n item → ys ≡ xs ++ x ∷ []
    → xs ≡ map line (take n ls) → ((l : A) → P l → item ≡ row l → x ≡ line l) → ys ≡ map line (take (n + 1) ls)
mapped_more P row line rows n item d x xs ys ls = next_read P row line ls rows n x

pub mapped_all : {A L : Type 0} (row : A → Row) (line : A → L) (rows : List Row) (n : ℕ) (xs : List L) (ls : List A)
    → rows ≡ map row ls → length rows ≤ n → xs ≡ map line (take n ls) → xs ≡ map line ls
mapped_all row line rows n xs ls = all_read row line ls rows n

-- ---- rows with a number

length_numbered : {A : Type 0} (row : ℕ → A → Row) (n : ℕ) (xs : List A) → length (numbered_from row n xs) ≡ length xs
length_numbered row n [] = refl
length_numbered row n (a ∷ xs) = ap suc (length_numbered row (n + 1) xs)

numbered_at : {A : Type 0} (row : ℕ → A → Row) (n : ℕ) (xs : List A) (k : ℕ) (item : Row) (y : A) → k < length xs
    → get_or (numbered_from row n xs) k item ≡ row (n + k) (get_or xs k y)
numbered_at row n [] k item y low = absurd (omega arith)
numbered_at row n (a ∷ xs) zero item y low = ap (λ m. row m a) (let same : n ≡ n + 0 = omega arith in same)
numbered_at row n (a ∷ xs) (suc k) item y low = numbered_at row (n + 1) xs k item y (omega arith)
    ∙ ap (λ m. row m (get_or xs k y)) (let same : n + 1 + k ≡ n + suc k = omega arith in same)

pub read_more : {A : Type 0} (row : ℕ → A → Row) (rows : List Row) (k : ℕ) (item : Row) (y : A) (xs ys all : List A)
    → rows ≡ numbered_from row 1 all → k < length rows → item ≡ get_or rows k item → ys ≡ xs ++ y ∷ [] → xs ≡ take k all
    → ((number : ℕ) (a : A) → item ≡ row number a → y ≡ a) → ys ≡ take (k + 1) all
read_more row rows k item y xs ys all are low is more before reads =
    let low' : k < length all = subst (λ m. k < m) (ap length are ∙ length_numbered row 1 all) low in
    let here = reads (1 + k) (get_or all k y) (is ∙ ap (λ l. get_or l k item) are
    ∙ numbered_at row 1 all k item y low') in
    more ∙ (λ t. before t ++ here t ∷ []) ∙ sym (take_more all k y low')

pub read_all : {A : Type 0} (row : ℕ → A → Row) (rows : List Row) (k : ℕ) (xs all : List A)
    → rows ≡ numbered_from row 1 all → length rows ≤ k → xs ≡ take k all → xs ≡ all
read_all row rows k xs all are past is =
    let same : length rows ≡ length all = ap length are ∙ length_numbered row 1 all in
    is ∙ take_all k all (omega (arith, same, past))
