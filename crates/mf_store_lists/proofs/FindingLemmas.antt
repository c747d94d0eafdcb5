-- Which clients are found.
use Rattle.std.proofs.Common.{◌≡◌, ◌+◌, ◌<◌, ◌≤◌, ◌↔◌, ℕ, zero, suc, Bool, true, false, true≢false, cond, ◌&&◌}
use Rattle.std.proofs.Common.{◌||◌, ◌==◌, List, [], ◌∷◌, map, filter, take, drop, length, Option, None}
use Rattle.std.proofs.Common.{Some, slice_get, slice_range, ◌-◌}
use Rattle.std.proofs.Common.{refl, sym, ap, ap₂, ◌∙◌, arith, inl, inr}
use Rattle.std.specs.Prelude.{option_map}
use Rattle.std.specs.List.{AllByRecursion, enumerate_from, flat_map, list_any}
use Rattle.std.specs.Str.{bytes_eq}
use Rattle.std.proofs.lemmas.Bool.{cases_Bool, eq-eqb, eqb-true, ne_eqb}
use Rattle.std.proofs.lemmas.List.{drop_all, drop_more, length-drop, take_all, take-map}
use Rattle.std.proofs.lemmas.Slice.Eq.{bytes_eq-Decides}
use Rattle.sqlite_keyed.proofs.SliceLemmas.{list_any_same}
use Rattle.sqlite_trees.proofs.ListLemmas.{filter_same}
use Rattle.mf_folding.specs.Folding.{folded}
use Rattle.mf_office.specs.declared.account.Account.{Account}
use Rattle.mf_office.specs.Numbers.{IsNumberUpTo}
use Rattle.mf_office.specs.Texts.{IsAccount}
use Rattle.mf_office.specs.Written.{account_text}
use Rattle.mf_lists.specs.Lists.{begins_with, counted_client, find_clients, has_loan, has_part, is_found, is_of_client}
use Rattle.mf_model.specs.Institution.{Institution, Ledger, item_numbered}
use Rattle.mf_model.specs.Sound.{IsSound, is_staff}
use Rattle.mf_model.specs.Store.{rows_at}
use Rattle.mf_model.proofs.Growing.{numbered_suc}
use Rattle.mf_store_values.proofs.SoundLemmas.{office_sound}
use Rattle.mf_store_lists.specs.Counted.{uncounted}
use Rattle.mf_store_lists.specs.Finding.{borrower_at, is_number, is_sought, number_of}
use Rattle.mf_store_lists.specs.Told.{told_if}
use Rattle.mf_store_lists.proofs.ToldLemmas.{told_chosen}

-- ---- a part in a text

-- a text that is shorter doesn't begin with a part
pub begins_not : (part text : List ℕ) → length text < length part → begins_with part text ≡ false
begins_not [] text short = absurd (omega arith)
begins_not (x ∷ xs) [] short = refl
begins_not (x ∷ xs) (y ∷ ys) short = ap (λ b. (x == y) && b) (begins_not xs ys (omega (arith, short)))
    ∙ and_no (x == y)
  where
    and_no : (a : Bool) → (a && false) ≡ false
    and_no true = refl
    and_no false = refl

-- what stands from a place on
pub rest_is : (text : List ℕ) (n : ℕ) → slice_range text n (length text) ≡ drop n text
rest_is text n =
    let long = length-drop n text in
    take_all (length text - n) (drop n text) (omega (arith, long))

-- a part stands at a place, or behind it
pub has_more : (part text : List ℕ) (n : ℕ) → n < length text → begins_with part (drop n text) ≡ false
    → has_part part text ≡ has_part part (drop n text) → has_part part text ≡ has_part part (drop (n + 1) text)
has_more part text n low apart before =
    let more = drop_more text n 0 low in
    before ∙ ap (has_part part) more ∙ ap (λ l. begins_with part l || has_part part (drop (n + 1) text)) (sym more)
    ∙ ap (λ b. b || has_part part (drop (n + 1) text)) apart

none_has : (part : List ℕ) → (length part == 0) ≡ has_part part []
none_has [] = refl
none_has (x ∷ xs) = ne_eqb (length (x ∷ xs)) 0 (omega arith)

-- behind a text's end stands nothing but the empty part
pub has_end : (part text : List ℕ) (n : ℕ) → length text ≤ n → has_part part text ≡ has_part part (drop n text)
    → (length part == 0) ≡ has_part part text
has_end part text n past before =
    none_has part ∙ sym (before ∙ ap (has_part part) (drop_all n text past))

-- ---- numbers

-- a text is an account's number, or it is that of none
pub number_told : (text : List ℕ) (office n : ℕ) (read : Option Account) → IsNumberUpTo 9999 office
    → IsNumberUpTo 999999 n
    → ((account : Account) → IsAccount account → (read ≡ Some account)
    ↔ (text ≡ account_text account.office account.number))
    → is_number (number_of office read) n ≡ bytes_eq text (account_text office n)
number_told text office n read there low exact =
    let account : Account = record { office = office; number = n } in
    let own = exact account (there, low) in
    let equal = bytes_eq-Decides text (account_text office n) in
    elim (cases_Bool (bytes_eq text (account_text office n))) [
      | inl equals ↦
          ap (λ (r : Option Account). is_number (number_of office r) n) (own.1 (equal.0 equals))
          ∙ ap (λ b. is_number (cond b (Some n) None) n) (eq-eqb office office refl) ∙ eq-eqb n n refl ∙ sym equals
      | inr differs ↦ other read refl differs ∙ sym differs
    ]
  where
    other : (r : Option Account) → read ≡ r → bytes_eq text (account_text office n) ≡ false
        → is_number (number_of office r) n ≡ false
    other None is differs = refl
    other (Some a) is differs =
        elim (cases_Bool (a.office == office)) [
          | inr apart ↦ ap (λ b. is_number (cond b (Some a.number) None) n) apart
          | inl same ↦
              ap (λ b. is_number (cond b (Some a.number) None) n) same
              ∙ elim (cases_Bool (a.number == n)) [
                | inr apart ↦ apart
                | inl own ↦
                    let account : Account = record { office = office; number = n } in
                    let equal = bytes_eq-Decides text (account_text office n) in
                    let told = (exact account (there, low)).0 (is ∙ (λ t. Some (record {
                      office = eqb-true a.office office same t;
                      number = eqb-true a.number n own t;
                    }))) in
                    absurd (true≢false (sym (equal.1 told) ∙ differs))
              ]
        ]

-- ---- the borrower of a loan

-- a test of what is there
abbrev passes : {X : Type 0} → (X → Bool) → Option X → Bool
passes q None = false
passes q (Some x) = q x

and_none : (a b : Bool) → b ≡ false → (a && b) ≡ false
and_none true b is = is
and_none false b is = refl

none_below : {X : Type 0} (q : X → Bool) (n m : ℕ) (xs : List X) → n < m
    → list_any (λ (c : ℕ × X). q c.1 && (n == c.0)) (enumerate_from m xs) ≡ false
none_below q n m [] low = refl
none_below q n m (x ∷ xs) low =
    ap₂ ◌||◌ (and_none (q x) (n == m) (ne_eqb n m (omega arith))) (none_below q n (m + 1) xs (omega arith))

or_no : (a : Bool) → (a || false) ≡ a
or_no true = refl
or_no false = refl

and_yes : (a b : Bool) → b ≡ true → (a && b) ≡ a
and_yes true b is = is
and_yes false b is = refl

any_numbered : {X : Type 0} (q : X → Bool) (m d : ℕ) (xs : List X)
    → list_any (λ (c : ℕ × X). q c.1 && (m + d == c.0)) (enumerate_from m xs) ≡ passes q (slice_get xs d)
any_numbered q m d [] = refl
any_numbered q m zero (x ∷ xs) =
    ap₂ ◌||◌ (and_yes (q x) (m + 0 == m) (eq-eqb (m + 0) m (omega arith)))
    (none_below q (m + 0) (m + 1) xs (omega arith)) ∙ or_no (q x)
any_numbered {X} q m (suc d) (x ∷ xs) =
    let next : m + suc d ≡ m + 1 + d = omega arith in
    ap₂ ◌||◌ (and_none (q x) (m + suc d == m) (ne_eqb (m + suc d) m (omega arith)))
    (ap (λ n. list_any (λ (c : ℕ × X). q c.1 && (n == c.0)) (enumerate_from (m + 1) xs)) next
    ∙ any_numbered q (m + 1) d xs)

number_any : {X : Type 0} (q : X → Bool) (n : ℕ) (xs : List X)
    → list_any (λ (c : ℕ × X). q c.1 && (n == c.0)) (enumerate_from 1 xs) ≡ passes q (item_numbered xs n)
number_any q zero xs = none_below q 0 1 xs (omega arith)
number_any {X} q (suc d) xs =
    ap (λ n. list_any (λ (c : ℕ × X). q c.1 && (n == c.0)) (enumerate_from 1 xs))
    (let same : suc d ≡ 1 + d = omega arith in same)
    ∙ any_numbered q 1 d xs ∙ ap (passes q) (sym (numbered_suc xs d))

none_named : {X : Type 0} (q : X → Bool) (m : ℕ) (xs : List X)
    → list_any (λ (c : ℕ × X). q c.1 && false) (enumerate_from m xs) ≡ false
none_named q m [] = refl
none_named q m (x ∷ xs) = ap₂ ◌||◌ (and_none (q x) false refl) (none_named q (m + 1) xs)

-- numbers of things, of which there are no more than 999,999, are in range
pub in_range : {X : Type 0} (n : ℕ) (xs : List X) → 1 ≤ n → n + length xs ≤ 1000000
    → AllByRecursion (λ (c : ℕ × X). IsNumberUpTo 999999 c.0) (enumerate_from n xs)
in_range n [] first few = tt
in_range n (x ∷ xs) first few =
    ((first, omega (arith, few)), in_range (n + 1) xs (omega arith) (omega (arith, few)))

mapped_all : {X : Type 0} {P Q : X → Type 0} → ((x : X) → P x → Q x) → (xs : List X) → AllByRecursion P xs
    → AllByRecursion Q xs
mapped_all f [] all = tt
mapped_all f (x ∷ xs) all = (f x all.0, mapped_all f xs all.1)

-- a number names what a text is
abbrev pub Names : ℕ → List ℕ → Option ℕ → Type 0
Names office text named = (n : ℕ) → IsNumberUpTo 999999 n → is_number named n ≡ bytes_eq text (account_text office n)

borrowed : (office client : ℕ) (named : Option ℕ) (i : Institution)
    → list_any (λ (l : ℕ × Ledger). is_of_client client l.1 && is_number named l.0)
    (enumerate_from 1 (rows_at office i).loans)
    ≡ is_number (borrower_at office named i) client
borrowed office client None i = none_named (is_of_client client) 1 (rows_at office i).loans
borrowed office client (Some n) i =
    number_any (is_of_client client) n (rows_at office i).loans ∙ found (item_numbered (rows_at office i).loans n)
  where
    found : (o : Option Ledger) → passes (is_of_client client) o
        ≡ is_number (option_map (λ l. l.client) (option_map (λ (l : Ledger). l.loan) o)) client
    found None = refl
    found (Some l) = refl

-- who has a loan of the number that a text is
borrower_is : (office client : ℕ) (text : List ℕ) (named : Option ℕ) (i : Institution) → IsSound i
    → Names office text named
    → is_number (borrower_at office named i) client ≡ has_loan office client text (rows_at office i)
borrower_is office client text named i sound names =
    let loans = (rows_at office i).loans in
    let few = (office_sound i.catalogue (is_staff i.offices) office i.offices sound.each).loan_limit in
    sym (borrowed office client named i)
    ∙ list_any_same (λ (l : ℕ × Ledger). is_of_client client l.1 && is_number named l.0)
    (λ l. is_of_client client l.1 && bytes_eq text (account_text office l.0)) (enumerate_from 1 loans)
    (mapped_all (λ (l : ℕ × Ledger) low. ap (λ b. is_of_client client l.1 && b) (names l.0 low))
    (enumerate_from 1 loans) (in_range 1 loans (omega arith) (omega (arith, few))))

-- ---- who is found

-- the test of a client
abbrev pub sought_by : ℕ → List ℕ → Option ℕ → Institution → ℕ × List ℕ → Bool
sought_by office part named i = is_sought (folded part) named (borrower_at office named i)

sought_is : (office : ℕ) (part : List ℕ) (named : Option ℕ) (i : Institution) → IsSound i → Names office part named
    → (c : ℕ × List ℕ) → IsNumberUpTo 999999 c.0
    → sought_by office part named i c ≡ is_found folded office part (rows_at office i) c
sought_is office part named i sound names c low =
    ap₂ (λ a b. has_part (folded part) (folded c.1) || (a || b)) (names c.0 low)
    (borrower_is office c.0 part named i sound names)

-- the clients that are found
abbrev pub page_found : ℕ → List ℕ → Option ℕ → Institution → List (ℕ × List ℕ)
page_found office part named i =
    take 50 (filter (sought_by office part named i) (enumerate_from 1 (rows_at office i).clients))

-- none of their loans is counted at first
pub found_uncounted : (office : ℕ) (part : List ℕ) (named : Option ℕ) (i : Institution)
    → take 50 (flat_map (λ c. told_if (sought_by office part named i c) (uncounted c))
    (enumerate_from 1 (rows_at office i).clients)) ≡ map uncounted (page_found office part named i)
found_uncounted office part named i =
    let all = enumerate_from 1 (rows_at office i).clients in
    let sought = sought_by office part named i in
    ap (take 50) (told_chosen sought uncounted all) ∙ take-map uncounted 50 (filter sought all)

-- they are those of the definition
pub found_counted : (office : ℕ) (part : List ℕ) (named : Option ℕ) (i : Institution) → IsSound i
    → Names office part named
    → map (counted_client i.catalogue (rows_at office i)) (page_found office part named i)
    ≡ find_clients folded office part i.catalogue (rows_at office i)
found_counted office part named i sound names =
    let rows = rows_at office i in
    let all = enumerate_from 1 rows.clients in
    let few = (office_sound i.catalogue (is_staff i.offices) office i.offices sound.each).client_limit in
    sym (take-map (counted_client i.catalogue rows) 50 (filter (sought_by office part named i) all))
    ∙ ap (λ l. take 50 (map (counted_client i.catalogue rows) l))
    (filter_same (sought_by office part named i) (is_found folded office part rows) all
    (mapped_all (λ c low. sought_is office part named i sound names c low) all
    (in_range 1 rows.clients (omega arith) (omega (arith, few)))))

-- where none of them is told, none is counted
pub none_mapped : {A B C : Type 0} (f : A → B) (g : A → C) (xs : List A) → map f xs ≡ [] → [] ≡ map g xs
none_mapped f g [] none = refl
none_mapped f g (x ∷ xs) none = absurd (cc)
