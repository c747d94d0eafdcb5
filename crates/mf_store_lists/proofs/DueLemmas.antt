-- What is due of the loans of an office.
use Rattle.std.proofs.Common.{◌≡◌, ◌+◌, ◌≤◌, ℕ, Bool, true, false, true≢false, cond, ◌&&◌, ◌||◌, nat_le, nat_lt}
use Rattle.std.proofs.Common.{List, [], ◌∷◌, map, filter, take, Some, refl, sym, ap, ap₂, ◌∙◌, arith}
use Rattle.std.specs.Prelude.{sum_by}
use Rattle.std.specs.List.{enumerate_from, flat_map, list_any}
use Rattle.std.proofs.lemmas.List.Sums.{sum_by-cons}
use Rattle.sqlite_keyed.proofs.ListLemmas.{filter-map}
use Rattle.mf_alloc.specs.Sums.{Instalment, is_open, open_at}
use Rattle.mf_office.specs.declared.account.Account.{Account}
use Rattle.mf_lists.specs.declared.lines.DueLine.{DueLine}
use Rattle.mf_lists.specs.Lists.{due_after, due_line, is_due, portion_due, rows_in}
use Rattle.mf_model.specs.Institution.{Catalogue, Institution, Ledger, Rows}
use Rattle.mf_model.specs.Sound.{IsSound}
use Rattle.mf_model.specs.Store.{ledger_at}
use Rattle.mf_store_lists.specs.Due.{due_told, is_row_due, portion_of, portions_of}
use Rattle.mf_store_lists.proofs.CountLemmas.{active_is}
use Rattle.mf_store_lists.specs.Told.{told_if}
use Rattle.mf_store_lists.proofs.ToldLemmas.{told_chosen, both_chosen, early_not}

-- the lines that are told are those of the definition
pub dues_told : (day after : ℕ) (k : Catalogue) (rows : Rows)
    → take 200 (flat_map (due_told day after k rows) (enumerate_from 1 rows.loans)) ≡ due_after day after k rows
dues_told day after k rows =
    let due : ℕ × Ledger → Bool = λ l. is_due day k l.1 in
    let later : ℕ × Ledger → Bool = λ l. nat_lt after l.0 in
    let all = enumerate_from 1 rows.loans in
    ap (take 200) (told_chosen (λ l. later l && due l) (due_line day k rows) all
    ∙ ap (map (due_line day k rows)) (both_chosen later due all)
    ∙ sym (filter-map (λ (d : DueLine). nat_lt after d.loan) (due_line day k rows) (filter due all)))

-- ---- whether something is due

any_one : {A : Type 0} (q : A → Bool) (a b : Bool) (x : A) (fs : List A) → q x ≡ a
    → ((a && b) || list_any q fs) ≡ list_any q (cond b (x ∷ fs) fs)
any_one q true true x fs is = sym (ap (λ c. c || list_any q fs) is)
any_one q true false x fs is = refl
any_one q false true x fs is = sym (ap (λ c. c || list_any q fs) is)
any_one q false false x fs is = refl

any_filtered : {A : Type 0} (q p : A → Bool) (xs : List A) → list_any (λ x. q x && p x) xs ≡ list_any q (filter p xs)
any_filtered q p [] = refl
any_filtered q p (x ∷ xs) =
    ap (λ r. (q x && p x) || r) (any_filtered q p xs) ∙ any_one q (q x) (p x) x (filter p xs) refl

or_first : (a b c : Bool) → a ≡ true → (a || c) ≡ true
or_first true b c is = refl
or_first false b c is = absurd (true≢false (sym is))

or_second : (a c : Bool) → c ≡ true → (a || c) ≡ true
or_second true c is = refl
or_second false c is = is

and_part : (a b : Bool) → (a && b) ≡ true → a ≡ true
and_part true b is = refl
and_part false b is = is

or_so : (a b a' b' : Bool) → (a ≡ true → a' ≡ true) → (b ≡ true → b' ≡ true) → (a || b) ≡ true → (a' || b') ≡ true
or_so true b a' b' f g is = or_first a' a' b' (f refl)
or_so false b a' b' f g is = or_second a' b' (g is)

any_less : {A : Type 0} (q p : A → Bool) (xs : List A) → list_any (λ x. q x && p x) xs ≡ true → list_any q xs ≡ true
any_less q p [] is = is
any_less q p (x ∷ xs) is =
    or_so (q x && p x) (list_any (λ y. q y && p y) xs) (q x) (list_any q xs) (and_part (q x) (p x)) (any_less q p xs) is

and_implied : (a b : Bool) → (b ≡ true → a ≡ true) → b ≡ (a && b)
and_implied true b h = refl
and_implied false true h = sym (h refl)
and_implied false false h = refl

-- something of a loan is due by a day where an instalment that is due by it is open
pub due_is : (account : Account) (l : Ledger) (i : Institution) (day : ℕ) → IsSound i → ledger_at account i ≡ Some l
    → list_any (is_row_due day) (rows_in i.catalogue l)
    ≡ is_due day i.catalogue l
due_is account l i day sound there =
    let rows = rows_in i.catalogue l in
    let due : Instalment → Bool = λ row. nat_le row.due day in
    and_implied (list_any is_open rows) (list_any (λ row. is_open row && due row) rows) (any_less is_open due rows)
    ∙ ap₂ ◌&&◌ (active_is account l i sound there) (any_filtered is_open due rows)

-- ---- what is due

sum_filtered : {A : Type 0} (p : A → Bool) (f : A → ℕ) (xs : List A)
    → sum_by (λ x. cond (p x) (f x) 0) xs ≡ sum_by f (filter p xs)
sum_filtered p f [] = refl
sum_filtered {A} p f (x ∷ xs) =
    sum_by-cons (λ y. cond (p y) (f y) 0) x xs ∙ ap (λ n. cond (p x) (f x) 0 + n) (sum_filtered p f xs) ∙ one (p x)
  where
    one : (b : Bool) → cond b (f x) 0 + sum_by f (filter p xs) ≡ sum_by f (cond b (x ∷ filter p xs) (filter p xs))
    one true = sym (sum_by-cons f x (filter p xs))
    one false = omega arith

portion_is : (portion day : ℕ) (k : Catalogue) (l : Ledger)
    → portion_of portion day (rows_in k l) ≡ portion_due portion day k l
portion_is portion day k l =
    sum_filtered (λ (row : Instalment). nat_le row.due day) (λ row. open_at row portion) (rows_in k l)

-- by portion
pub portions_are : (day : ℕ) (k : Catalogue) (l : Ledger) → portions_of day (rows_in k l)
    ≡ portion_due 0 day k l ∷ portion_due 1 day k l ∷ portion_due 2 day k l ∷ portion_due 3 day k l ∷ []
portions_are day k l = λ t. portion_is 0 day k l t ∷ portion_is 1 day k l t ∷ portion_is 2 day k l t
    ∷ portion_is 3 day k l t ∷ []

-- none is told whose number isn't above one
pub none_due_before : (day after : ℕ) (k : Catalogue) (rows : Rows) (n : ℕ) (l : Ledger) → n ≤ after
    → due_told day after k rows (n, l) ≡ []
none_due_before day after k rows n l low =
    ap (λ b. told_if b (due_line day k rows (n, l))) (early_not after n (is_due day k l) low)
