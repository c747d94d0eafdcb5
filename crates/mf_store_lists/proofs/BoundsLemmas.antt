-- Numbers that lie between bounds.
use Rattle.std.proofs.Common.{◌≡◌, ◌≢◌, ◌<◌, ◌+◌, ℕ, false, ◌||◌, ◌==◌, List, [], ◌∷◌, ◌++◌, map, length, take, get_or}
use Rattle.std.proofs.Common.{refl, sym, ap, ap₂, subst, ◌∙◌}
use Rattle.std.specs.List.{AllByRecursion, list_any}
use Rattle.std.proofs.lemmas.Bool.{ne_eqb}
use Rattle.std.proofs.lemmas.List.{take_more}
use Rattle.mf_lists.specs.declared.lines.ClientLine.{ClientLine}
use Rattle.mf_store_lists.specs.Counted.{IsBetween}
use Rattle.mf_store_lists.specs.declared.clients.Bounds.{Bounds}

-- what holds of all that a list is made of
pub all_back : {A B : Type 0} (P : B → Type 0) (f : A → B) (xs : List A) → AllByRecursion P (map f xs)
    → AllByRecursion (λ x. P (f x)) xs
all_back P f [] all = tt
all_back P f (x ∷ xs) all = (all.0, all_back P f xs all.1)

all_pushed : {A : Type 0} (P Q : A → Type 0) (xs : List A) (x : A) → ((y : A) → P y → Q y) → AllByRecursion P xs → Q x
    → AllByRecursion Q (xs ++ x ∷ [])
all_pushed P Q [] x weaker all here = (here, tt)
all_pushed P Q (y ∷ ys) x weaker all here = (weaker y all.0, all_pushed P Q ys x weaker all.1 here)

-- one more of a list
pub all_more : {A : Type 0} (P Q : A → Type 0) (xs : List A) (n : ℕ) (item : A) → ((y : A) → P y → Q y)
    → n < length xs → item ≡ get_or xs n item → AllByRecursion P (take n xs) → Q item
    → AllByRecursion Q (take (n + 1) xs)
all_more P Q xs n item weaker low is all here =
    subst (AllByRecursion Q) (sym (take_more xs n item low ∙ ap (λ x. take n xs ++ x ∷ []) (sym is)))
    (all_pushed P Q (take n xs) item weaker all here)

-- a number that lies outside is none of those that lie between
pub none_outside : (b : Bounds) (client : ℕ) (lines : List ClientLine) → ¬ IsBetween b client
    → AllByRecursion (λ (line : ClientLine). IsBetween b line.number) lines
    → list_any (λ (line : ClientLine). client == line.number) lines ≡ false
none_outside b client [] out all = refl
none_outside b client (l ∷ ls) out all =
    let apart : client ≢ l.number = λ same. out (subst (IsBetween b) (sym same) all.0) in
    ap₂ ◌||◌ (ne_eqb client l.number apart) (none_outside b client ls out all.1)
