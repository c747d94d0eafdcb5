-- Parts that stand in the order of their entries are the loan's, where each entry's are.
use Rattle.std.proofs.Common.{◌≡◌, ◌≢◌, ℕ, suc, ◌+◌, ◌-◌, ◌<◌, ◌≤◌, Bool, true, false, true≢false, cond, map, List, []}
use Rattle.std.proofs.Common.{◌∷◌, ◌++◌, length, get_or, drop, arith, refl, ◌∙◌, ap, sym, subst, inl, inr}
use Rattle.std.specs.Prelude.{All, ◌==◌, filter}
use Rattle.std.specs.List.{AllByRecursion}
use Rattle.std.specs.List.Sorted.{IsNonDecreasingBy, IsPermutation, IsStableByKey, ties}
use Rattle.std.specs.Ordering.{nat_cmp, is_lt}
use Rattle.std.proofs.lemmas.Bool.Decides.{nat_tests}
use Rattle.std.proofs.lemmas.List.Elements.{All-from_recursion, recursion_from_All}
use Rattle.std.proofs.lemmas.List.Sorted.{All-permutation}
use Rattle.std.proofs.lemmas.Bool.{cases_lt, cases_eq, cond-true, cond-false, eq-eqb, ne_eqb, eqb-true}
use Rattle.std.proofs.lemmas.List.{length-map, get_or-map}
use Rattle.mf_account.specs.declared.settled.SettledPart.{SettledPart}
use Rattle.mf_account.specs.declared.entry.Entry.{Entry}
use Rattle.mf_account.specs.declared.replay.Standing.{Standing}
use Rattle.mf_account.specs.Applicable.{no_settled}
use Rattle.mf_account.specs.Told.{AreNumberedTo}
use Rattle.mf_account.specs.Effect.{State, Part, after_entry, parts_of}
use Rattle.mf_account.specs.Account.{Orders, parts_numbered, settled_by, first_state}
use Rattle.mf_account.specs.Change.{settled_in}
use Rattle.mf_account.specs.Standing.{standing_entries, no_entry, entry_at, entries_at, AreDistinct}
use Rattle.mf_account.specs.Loan.{DisbursedLoan, IsSoundDisbursed, schedule_of, orders_of, settled_of_loan}
use Rattle.mf_account.proofs.TailLemmas.{numbers-standing}
use Rattle.mf_account.proofs.ToldLemmas.{parts-numbered}

-- lists by ascending keys
module _ {X : Type 0} (key : X → ℕ) where
  abbrev of_key : ℕ → List X → List X
  of_key q xs = filter (λ x. key x == q) xs

  abbrev AtLeast : ℕ → List X → Type 0
  AtLeast q xs = AllByRecursion (λ x. q ≤ key x) xs

  abbrev pub Rises : List X → Type 0
  Rises [] = Unit {0}
  Rises (x ∷ xs) = AtLeast (key x) xs × Rises xs

  at_least_from : (q : ℕ) (xs : List X) → ((k : ℕ) (d : X) → k < length xs → q ≤ key (get_or xs k d)) → AtLeast q xs
  at_least_from q [] all = tt
  at_least_from q (x ∷ xs) all = (all 0 x (omega arith), at_least_from q xs (λ k d below. all (suc k) d (omega arith)))

  pub rises_from : (xs : List X) → IsNonDecreasingBy key xs → Rises xs
  rises_from [] up = tt
  rises_from (x ∷ xs) up = (
    at_least_from (key x) xs (λ k d below. up 0 (suc k) d (omega arith) (omega arith)),
    rises_from xs (λ i j d le below. up (suc i) (suc j) d (omega arith) (omega arith)),
  )

  own_first : (x : X) (xs : List X) → of_key (key x) (x ∷ xs) ≡ x ∷ of_key (key x) xs
  own_first x xs = cond-true (key x == key x) (x ∷ of_key (key x) xs) (of_key (key x) xs) (eq-eqb (key x) (key x) refl)

  other_first : (q : ℕ) (x : X) (xs : List X) → key x ≢ q → of_key q (x ∷ xs) ≡ of_key q xs
  other_first q x xs other = cond-false (key x == q) (x ∷ of_key q xs) (of_key q xs) (ne_eqb (key x) q other)

  -- none has a key below all of them
  none_below : (q : ℕ) (xs : List X) (least : ℕ) → q < least → AtLeast least xs → of_key q xs ≡ []
  none_below q [] least below all = refl
  none_below q (x ∷ xs) least below all = other_first q x xs (λ same. absurd (omega (arith, same, all.0)))
      ∙ none_below q xs least below all.1

  least_first : (x y : X) (xs ys : List X) → Rises (y ∷ ys) → of_key (key x) (x ∷ xs) ≡ of_key (key x) (y ∷ ys)
      → key y ≤ key x
  least_first x y xs ys up same =
      elim (cases_lt (key x) (key y)) [
        | inl less ↦
            let all : AtLeast (key y) (y ∷ ys) = (omega arith, up.0) in
            let none : of_key (key x) (y ∷ ys) ≡ [] = none_below (key x) (y ∷ ys) (key y) less all in
            let size : suc (length (of_key (key x) xs)) ≡ 0 = ap length (sym (own_first x xs) ∙ same ∙ none) in
            absurd (omega (arith, size))
        | inr more ↦ omega (arith, more)
      ]

  pub rises_unique : (xs ys : List X) → Rises xs → Rises ys → ((q : ℕ) → of_key q xs ≡ of_key q ys) → xs ≡ ys
  rises_unique [] [] up_x up_y same = refl
  rises_unique [] (y ∷ ys) up_x up_y same =
      let size : 0 ≡ suc (length (of_key (key y) ys)) = ap length (same (key y) ∙ own_first y ys) in
      absurd (omega (arith, size))
  rises_unique (x ∷ xs) [] up_x up_y same =
      let size : suc (length (of_key (key x) xs)) ≡ 0 = ap length (sym (own_first x xs) ∙ same (key x)) in
      absurd (omega (arith, size))
  rises_unique (x ∷ xs) (y ∷ ys) up_x up_y same =
      let down = least_first x y xs ys up_y (same (key x)) in
      let up = least_first y x ys xs up_x (sym (same (key y))) in
      let keys : key y ≡ key x = omega (arith, down, up) in
      let firsts : x ∷ of_key (key x) xs ≡ y ∷ of_key (key x) ys =
      sym (own_first x xs) ∙ same (key x) ∙ ap (λ q. of_key q (y ∷ ys)) (sym keys) ∙ own_first y ys
      ∙ ap (λ q. y ∷ of_key q ys) keys in
      let heads : x ≡ y = ap (λ l. get_or l 0 x) firsts in
      let rests : of_key (key x) xs ≡ of_key (key x) ys = ap (drop 1) firsts in
      let tails : (q : ℕ) → of_key q xs ≡ of_key q ys = λ q.
      elim (cases_eq q (key x)) [
        | inl is ↦ ap (λ n. of_key n xs) is ∙ rests ∙ ap (λ n. of_key n ys) (sym is)
        | inr other ↦
            sym (other_first q x xs (λ e. other (sym e)))
            ∙ same q
            ∙ other_first q y ys (λ e. other (sym e ∙ keys))
      ] in
      ap (λ z. z ∷ xs) heads ∙ ap (λ zs. y ∷ zs) (rises_unique xs ys up_x.1 up_y.1 tails)

-- a filter that says the same of each element
filter_same : {X : Type 0} (a b : X → Bool) (xs : List X) → AllByRecursion (λ x. a x ≡ b x) xs
    → filter a xs ≡ filter b xs
filter_same a b [] same = refl
filter_same a b (x ∷ xs) same =
    ap (λ c. cond c (x ∷ filter a xs) (filter a xs)) same.0 ∙ ap (λ zs. cond (b x) (x ∷ zs) zs)
    (filter_same a b xs same.1)

all_weaker : {X : Type 0} (P Q : X → Type 0) (xs : List X) → ((x : X) → P x → Q x) → AllByRecursion P xs
    → AllByRecursion Q xs
all_weaker P Q [] weaker all = tt
all_weaker P Q (x ∷ xs) weaker all = (weaker x all.0, all_weaker P Q xs weaker all.1)

-- what entries settle has their numbers, in their order
module _ (key : ℕ → ℕ) where
  abbrev part_key : SettledPart → ℕ
  part_key s = key s.seq

  abbrev entry_key : Entry → ℕ
  entry_key e = key e.seq

  at_least_numbered : (seq place : ℕ) (parts : List Part) (ys : List SettledPart) → AtLeast part_key (key seq) ys
      → AtLeast part_key (key seq) (parts_numbered seq place parts ++ ys)
  at_least_numbered seq place [] ys later = later
  at_least_numbered seq place (part ∷ parts) ys later = (omega arith, at_least_numbered seq (place + 1) parts ys later)

  at_least_behind : (q seq place : ℕ) (parts : List Part) (ys : List SettledPart) → q ≤ key seq → AtLeast part_key q ys
      → AtLeast part_key q (parts_numbered seq place parts ++ ys)
  at_least_behind q seq place [] ys le later = later
  at_least_behind q seq place (part ∷ parts) ys le later = (le, at_least_behind q seq (place + 1) parts ys le later)

  rises_numbered : (seq place : ℕ) (parts : List Part) (ys : List SettledPart) → AtLeast part_key (key seq) ys
      → Rises part_key ys → Rises part_key (parts_numbered seq place parts ++ ys)
  rises_numbered seq place [] ys later up = up
  rises_numbered seq place (part ∷ parts) ys later up =
      (at_least_numbered seq (place + 1) parts ys later, rises_numbered seq (place + 1) parts ys later up)

  at_least_settled : (q : ℕ) (orders : Orders) (es : List Entry) (from : State) → AtLeast entry_key q es
      → AtLeast part_key q (settled_by orders es from)
  at_least_settled q orders [] from all = tt
  at_least_settled q orders (e ∷ es) from all =
      at_least_behind q e.seq 1 (parts_of (orders e) e from) (settled_by orders es (after_entry (orders e) e from))
      all.0
      (at_least_settled q orders es (after_entry (orders e) e from) all.1)

  pub rises_settled : (orders : Orders) (es : List Entry) (from : State) → Rises entry_key es
      → Rises part_key (settled_by orders es from)
  rises_settled orders [] from up = tt
  rises_settled orders (e ∷ es) from up =
      rises_numbered e.seq 1 (parts_of (orders e) e from) (settled_by orders es (after_entry (orders e) e from))
      (at_least_settled (entry_key e) orders es (after_entry (orders e) e from) up.0)
      (rises_settled orders es (after_entry (orders e) e from) up.1)

-- what holds of the numbers of entries holds of those of their parts
module _ (P : ℕ → Type 0) where
  all_numbered : (seq place : ℕ) (parts : List Part) (ys : List SettledPart) → P seq
      → AllByRecursion (λ (s : SettledPart).
      P s.seq) ys → AllByRecursion (λ (s : SettledPart). P s.seq) (parts_numbered seq place parts ++ ys)
  all_numbered seq place [] ys own later = later
  all_numbered seq place (part ∷ parts) ys own later = (own, all_numbered seq (place + 1) parts ys own later)

  all_settled : (orders : Orders) (es : List Entry) (from : State) → AllByRecursion (λ (e : Entry). P e.seq) es
      → AllByRecursion (λ (s : SettledPart). P s.seq) (settled_by orders es from)
  all_settled orders [] from all = tt
  all_settled orders (e ∷ es) from all =
      all_numbered e.seq 1 (parts_of (orders e) e from) (settled_by orders es (after_entry (orders e) e from)) all.0
      (all_settled orders es (after_entry (orders e) e from) all.1)

  -- where some part has a number
  some_has : (seq : ℕ) (ys : List SettledPart) → AllByRecursion (λ (s : SettledPart). P s.seq) ys
      → 0 < length (settled_in seq ys) → P seq
  some_has seq [] all some = absurd (omega (arith, some))
  some_has seq (y ∷ ys) all some =
      elim (cases_eq y.seq seq) [
        | inl same ↦ subst P same all.0
        | inr other ↦
            let rest : settled_in seq (y ∷ ys) ≡ settled_in seq ys =
            cond-false (y.seq == seq) (y ∷ settled_in seq ys) (settled_in seq ys) (ne_eqb y.seq seq other) in
            let size = ap length rest in
            some_has seq ys all.1 (omega (arith, some, size))
      ]

  all_from_some : (xs : List SettledPart) → ((seq : ℕ) → 0 < length (settled_in seq xs) → P seq)
      → AllByRecursion (λ (s : SettledPart). P s.seq) xs
  all_from_some [] has = tt
  all_from_some (x ∷ xs) has =
      let own : settled_in x.seq (x ∷ xs) ≡ x ∷ settled_in x.seq xs =
      cond-true (x.seq == x.seq) (x ∷ settled_in x.seq xs) (settled_in x.seq xs) (eq-eqb x.seq x.seq refl) in
      let size = ap length own in (
        has x.seq (omega (arith, size)),
        all_from_some xs (λ seq some.
            elim (cases_eq x.seq seq) [
              | inl same ↦
                  let here : settled_in seq (x ∷ xs) ≡ x ∷ settled_in seq xs =
                  cond-true (x.seq == seq) (x ∷ settled_in seq xs) (settled_in seq xs) (eq-eqb x.seq seq same) in
                  let more = ap length here in
                  has seq (omega (arith, more))
              | inr other ↦
                  let rest : settled_in seq (x ∷ xs) ≡ settled_in seq xs =
                  cond-false (x.seq == seq) (x ∷ settled_in seq xs) (settled_in seq xs) (ne_eqb x.seq seq other) in
                  let same = ap length rest in
                  has seq (omega (arith, some, same))
            ]),
      )

-- the number of an entry that an order has
abbrev HasPlace : List ℕ → ℕ → Type 0
HasPlace order seq = (k : ℕ) × (k < length order) × (seq ≡ get_or order k 0 + 1)

module _ (order : List ℕ) (place : ℕ → ℕ) (at : (k : ℕ) → k < length order → place (get_or order k 0) ≡ k) where
  abbrev key_of : ℕ → ℕ
  key_of seq = place (seq - 1)

  key_at : (seq : ℕ) (has : HasPlace order seq) → key_of seq ≡ has.0
  key_at seq has =
      let less : seq - 1 ≡ get_or order has.0 0 = omega (arith, has.2) in
      ap place less ∙ at has.0 has.1

  -- the parts of one key are those of one entry
  one_key : (q : ℕ) (xs : List SettledPart) → q < length order
      → AllByRecursion (λ (s : SettledPart). HasPlace order s.seq) xs
      → of_key (λ (s : SettledPart). key_of s.seq) q xs ≡ settled_in (get_or order q 0 + 1) xs
  one_key q xs below all =
      filter_same (λ (s : SettledPart). key_of s.seq == q) (λ (s : SettledPart). s.seq == get_or order q 0 + 1) xs
      (all_weaker (λ (s : SettledPart). HasPlace order s.seq) (λ (s : SettledPart). (key_of s.seq == q)
      ≡ (s.seq == get_or order q 0 + 1)) xs
      (λ s has.
      elim (cases_eq s.seq (get_or order q 0 + 1)) [
        | inl same ↦
            let less : s.seq - 1 ≡ get_or order q 0 = omega (arith, same) in
            eq-eqb (key_of s.seq) q (ap place less ∙ at q below) ∙ sym (eq-eqb s.seq (get_or order q 0 + 1) same)
        | inr other ↦
            ne_eqb (key_of s.seq) q (λ is.
            let k : has.0 ≡ q = sym (key_at s.seq has) ∙ is in
            other (has.2 ∙ ap (λ n. get_or order n 0 + 1) k))
            ∙ sym (ne_eqb s.seq (get_or order q 0 + 1) other)
      ]) all)

  no_key : (q : ℕ) (xs : List SettledPart) → length order ≤ q
      → AllByRecursion (λ (s : SettledPart). HasPlace order s.seq) xs
      → of_key (λ (s : SettledPart). key_of s.seq) q xs ≡ []
  no_key q [] past all = refl
  no_key q (x ∷ xs) past all =
      other_first (λ (s : SettledPart). key_of s.seq) q x xs (λ is. let k = key_at x.seq all.0 in let below = all.0.1 in
      absurd (omega (arith, is, k, below, past)))
      ∙ no_key q xs past all.1

  same_keys : (xs ys : List SettledPart) → AllByRecursion (λ (s : SettledPart). HasPlace order s.seq) xs
      → AllByRecursion (λ (s : SettledPart). HasPlace order s.seq) ys
      → ((seq : ℕ) → settled_in seq xs ≡ settled_in seq ys)
      → (q : ℕ) → of_key (λ (s : SettledPart). key_of s.seq) q xs ≡ of_key (λ (s : SettledPart). key_of s.seq) q ys
  same_keys xs ys all_x all_y same q =
      elim (cases_lt q (length order)) [
        | inl below ↦ one_key q xs below all_x ∙ same (get_or order q 0 + 1) ∙ sym (one_key q ys below all_y)
        | inr past ↦ no_key q xs past all_x ∙ sym (no_key q ys past all_y)
      ]

-- the entry at a place of an order has the number of its place
number-at : (loan : DisbursedLoan) (order : List ℕ) (k : ℕ) (d : Entry) → IsSoundDisbursed loan
    → All (λ i. i < length loan.entries) order
    → k < length order → (get_or (entries_at loan.entries order) k d).seq ≡ get_or order k 0 + 1
number-at loan order k d sound within below =
    let size = length-map order (λ i. get_or loan.entries i no_entry) in
    ap (λ (e : Entry). e.seq) (get_or-map (λ i. get_or loan.entries i no_entry) order k 0 d below)
    ∙ sound.entries.numbers (get_or order k 0) (within k 0 below)

all_from : {X : Type 0} (P : X → Type 0) (xs : List X) → ((k : ℕ) (d : X) → k < length xs → P (get_or xs k d))
    → AllByRecursion P xs
all_from P [] all = tt
all_from P (x ∷ xs) all = (all 0 x (omega arith), all_from P xs (λ k d below. all (suc k) d (omega arith)))

-- no two places of an order are the same
pub apart-order : (loan : DisbursedLoan) (order : List ℕ) → IsSoundDisbursed loan
    → All (λ i. i < length loan.entries) order
    → entries_at loan.entries order ≡ standing_entries loan.entries → AreDistinct order
apart-order loan order sound within is i j less below same =
    let size : length order ≡ length (standing_entries loan.entries) =
    sym (length-map order (λ i. get_or loan.entries i no_entry)) ∙ ap length is in
    let one = number-at loan order i no_entry sound within (omega (arith, less, below)) in
    let other = number-at loan order j no_entry sound within below in
    let seqs : (entry_at (standing_entries loan.entries) i).seq ≡ (entry_at (standing_entries loan.entries) j).seq =
    ap (λ (x : List Entry). (entry_at x i).seq) (sym is) ∙ one ∙ ap (λ n. n + 1) same ∙ sym other
    ∙ ap (λ (x : List Entry). (entry_at x j).seq) is in
    numbers-standing loan.periods loan.day loan.entries i j sound.entries less (omega (arith, below, size)) seqs

-- sorted by the places of their entries, parts are the loan's where each entry's are
pub ordered-is : (loan : DisbursedLoan) (order : List ℕ) (place : ℕ → ℕ) (sorted : List SettledPart)
    → IsSoundDisbursed loan
    → All (λ i. i < length loan.entries) order → entries_at loan.entries order ≡ standing_entries loan.entries
    → ((k : ℕ) → k < length order → place (get_or order k 0) ≡ k) → ((seq : ℕ) → settled_in seq sorted ≡ settled_in seq
    (settled_of_loan loan)) → Rises (λ (s : SettledPart). place (s.seq - 1)) sorted → sorted ≡ settled_of_loan loan
ordered-is loan order place sorted sound within is at same up =
    let es : List Entry = entries_at loan.entries order in
    let size : length es ≡ length order = length-map order (λ i. get_or loan.entries i no_entry) in
    let number : (k : ℕ) (d : Entry) → k < length es → (get_or es k d).seq ≡ get_or order k 0 + 1 =
    λ k d below. number-at loan order k d sound within (omega (arith, size, below)) in
    let has : AllByRecursion (λ (e : Entry). HasPlace order e.seq) (standing_entries loan.entries) =
    subst (λ (x : List Entry). AllByRecursion (λ (e : Entry). HasPlace order e.seq) x) is
    (all_from (λ (e : Entry). HasPlace order e.seq) es (λ k d below. (
      k,
      omega (arith, size, below),
      number k d below,
    ))) in
    let keyed : (k : ℕ) (d : Entry) → k < length es → key_of order place at (get_or es k d).seq ≡ k = λ k d below.
    let less : (get_or es k d).seq - 1 ≡ get_or order k 0 = (let n = number k d below in omega (arith, n)) in
    ap place less ∙ at k (omega (arith, size, below)) in
    let rising : Rises (entry_key (key_of order place at)) (standing_entries loan.entries) =
    subst (Rises (entry_key (key_of order place at))) is
    (rises_from (entry_key (key_of order place at)) es (λ i j d le below.
    let one = keyed i d (omega (arith, le, below)) in
    let other = keyed j d below in
    omega (arith, one, other, le))) in
    let own : AllByRecursion (λ (s : SettledPart). HasPlace order s.seq) (settled_of_loan loan) = all_settled
    (HasPlace order) (orders_of loan) (standing_entries loan.entries) (first_state (schedule_of loan)) has in
    let seen : AllByRecursion (λ (s : SettledPart). HasPlace order s.seq) sorted =
    all_from_some (HasPlace order) sorted (λ seq some. let size = ap length (same seq) in some_has (HasPlace order) seq
    (settled_of_loan loan) own (omega (arith, some, size))) in
    rises_unique (part_key (key_of order place at)) sorted (settled_of_loan loan)
    up
    (rises_settled (key_of order place at) (orders_of loan) (standing_entries loan.entries)
    (first_state (schedule_of loan)) rising)
    (same_keys order place at sorted (settled_of_loan loan) seen own same)

-- ---- parts with the places of their entries

-- a part's place, by the places of entries
abbrev place_in : List ℕ → SettledPart → ℕ
place_in places s = get_or places (s.seq - 1) 0

abbrev pub with_place : List ℕ → SettledPart → Standing
with_place places s = record { place = place_in places s; part = s }

abbrev pub part_in : Standing → SettledPart
part_in p = p.part

-- each has the place of its part's entry
abbrev HasItsPlace : List ℕ → Standing → Type 0
HasItsPlace places p = p.place ≡ place_in places p.part

parts_back : (places : List ℕ) (xs : List SettledPart) → map part_in (map (with_place places) xs) ≡ xs
parts_back places [] = refl
parts_back places (x ∷ xs) = ap (λ l. x ∷ l) (parts_back places xs)

placed_so : (places : List ℕ) (xs : List SettledPart) → AllByRecursion (HasItsPlace places) (map (with_place places) xs)
placed_so places [] = tt
placed_so places (x ∷ xs) = (refl, placed_so places xs)

settled_map : (seq : ℕ) (ps : List Standing) → settled_in seq (map part_in ps)
    ≡ map part_in (filter (λ (p : Standing). p.part.seq == seq) ps)
settled_map seq [] = refl
settled_map seq (p ∷ ps) = go (p.part.seq == seq) (settled_map seq ps)
  where
    go : (c : Bool) → settled_in seq (map part_in ps) ≡ map part_in (filter (λ (q : Standing). q.part.seq == seq) ps)
        → cond c (p.part ∷ settled_in seq (map part_in ps)) (settled_in seq (map part_in ps))
        ≡ map part_in (cond c (p ∷ filter (λ (q : Standing). q.part.seq == seq) ps)
        (filter (λ (q : Standing). q.part.seq == seq) ps))
    go true rest = ap (λ l. p.part ∷ l) rest
    go false rest = rest

-- a filter after a wider one
filter_twice : {X : Type 0} (a b : X → Bool) (xs : List X) → AllByRecursion (λ x. a x ≡ true → b x ≡ true) xs
    → filter a (filter b xs) ≡ filter a xs
filter_twice a b [] wider = refl
filter_twice a b (x ∷ xs) wider = go (a x) (b x) refl refl (filter_twice a b xs wider.1)
  where
    go : (c e : Bool) → a x ≡ c → b x ≡ e → filter a (filter b xs) ≡ filter a xs
        → filter a (cond e (x ∷ filter b xs) (filter b xs)) ≡ cond c (x ∷ filter a xs) (filter a xs)
    go true true is_a is_b rest = ap (λ t. cond t (x ∷ filter a (filter b xs)) (filter a (filter b xs))) is_a
        ∙ ap (λ l. x ∷ l) rest
    go true false is_a is_b rest = absurd (true≢false (sym (wider.0 is_a) ∙ is_b))
    go false true is_a is_b rest = ap (λ t. cond t (x ∷ filter a (filter b xs)) (filter a (filter b xs))) is_a ∙ rest
    go false false is_a is_b rest = rest

-- the parts of one entry stand as they stood
parts_stay : (places : List ℕ) (seq : ℕ) (ps sorted : List Standing) → AllByRecursion (HasItsPlace places) ps
    → AllByRecursion (HasItsPlace places) sorted → ((q : ℕ) → filter (λ (p : Standing). p.place == q) sorted ≡ filter
    (λ (p : Standing). p.place == q) ps) → settled_in seq (map part_in sorted) ≡ settled_in seq (map part_in ps)
parts_stay places seq ps sorted so so_sorted stable =
    let own : Standing → Bool = λ p. p.part.seq == seq in
    let here : Standing → Bool = λ p. p.place == get_or places (seq - 1) 0 in
    let wider : (p : Standing) → HasItsPlace places p → own p ≡ true → here p ≡ true = λ p has is.
    eq-eqb p.place (get_or places (seq - 1) 0) (has ∙ ap (λ n. get_or places (n - 1) 0) (eqb-true p.part.seq seq is)) in
    settled_map seq sorted
    ∙ ap (map part_in) (sym (filter_twice own here sorted (all_weaker (HasItsPlace places) (λ p. own p ≡ true
    → here p ≡ true) sorted wider so_sorted))
    ∙ ap (filter own) (stable (get_or places (seq - 1) 0))
    ∙ filter_twice own here ps (all_weaker (HasItsPlace places) (λ p. own p ≡ true → here p ≡ true) ps wider so))
    ∙ sym (settled_map seq ps)

at_least_parts : (places : List ℕ) (q : ℕ) (ps : List Standing) → AllByRecursion (HasItsPlace places) ps
    → AtLeast (λ (p : Standing). p.place) q ps → AtLeast (place_in places) q (map part_in ps)
at_least_parts places q [] so all = tt
at_least_parts places q (p ∷ ps) so all = (omega (arith, so.0, all.0), at_least_parts places q ps so.1 all.1)

rises_parts : (places : List ℕ) (ps : List Standing) → AllByRecursion (HasItsPlace places) ps
    → Rises (λ (p : Standing). p.place) ps → Rises (place_in places) (map part_in ps)
rises_parts places [] so up = tt
rises_parts places (p ∷ ps) so up = (
  subst (λ q. AtLeast (place_in places) q (map part_in ps)) so.0 (at_least_parts places p.place ps so.1 up.0),
  rises_parts places ps so.1 up.1,
)

tied : (q : ℕ) (x p : Standing) → x.place ≡ q → ties (λ (a b : Standing). is_lt (nat_cmp a.place b.place)) x p
    ≡ (p.place == q)
tied q x p same = rw (sym same) (grind (arith, nat_tests))

filter_agreed : (a b : Standing → Bool) → ((p : Standing) → a p ≡ b p) → (ps : List Standing)
    → filter a ps ≡ filter b ps
filter_agreed a b same [] = refl
filter_agreed a b same (p ∷ ps) = (λ t. cond (same p t) (p ∷ filter_agreed a b same ps t) (filter_agreed a b same ps t))

stable_at : (ps sorted : List Standing) → IsStableByKey (λ (p : Standing). p.place) nat_cmp ps sorted → (q : ℕ)
    → filter (λ (p : Standing). p.place == q) sorted ≡ filter (λ (p : Standing). p.place == q) ps
stable_at ps sorted stable q =
    let x : Standing = record { place = q; part = no_settled } in
    let test = ties (λ (a b : Standing). is_lt (nat_cmp a.place b.place)) x in
    sym (filter_agreed test (λ (p : Standing). p.place == q) (λ p. tied q x p refl) sorted) ∙ stable x
    ∙ filter_agreed test (λ (p : Standing). p.place == q) (λ p. tied q x p refl) ps

moved_so : (places : List ℕ) (ps sorted : List Standing) → IsPermutation ps sorted → AllByRecursion (HasItsPlace places)
    ps → AllByRecursion (HasItsPlace places) sorted
moved_so places ps sorted moved so = recursion_from_All (HasItsPlace places) sorted
    (All-permutation (HasItsPlace places) ps sorted moved (All-from_recursion (HasItsPlace places) ps so))

-- sorted by place, the parts are the loan's where each entry's are
pub sorted-parts : (loan : DisbursedLoan) (order places : List ℕ) (xs : List SettledPart) (sorted : List Standing)
    → IsSoundDisbursed loan
    → All (λ i. i < length loan.entries) order → entries_at loan.entries order ≡ standing_entries loan.entries
    → ((k : ℕ) → k < length order → get_or places (get_or order k 0) 0 ≡ k)
    → ((seq : ℕ) → settled_in seq xs ≡ settled_in seq (settled_of_loan loan))
    → IsPermutation (map (with_place places) xs) sorted → IsNonDecreasingBy (λ (p : Standing). p.place) sorted
    → IsStableByKey (λ (p : Standing). p.place) nat_cmp (map (with_place places) xs) sorted → map part_in sorted
    ≡ settled_of_loan loan
sorted-parts loan order places xs sorted sound within is at same moved up stable =
    let ps : List Standing = map (with_place places) xs in
    let so = placed_so places xs in
    let so_sorted = moved_so places ps sorted moved so in
    ordered-is loan order (λ i. get_or places i 0) (map part_in sorted) sound within is at
    (λ seq. parts_stay places seq ps sorted so so_sorted (stable_at ps sorted stable) ∙ ap (settled_in seq)
    (parts_back places xs) ∙ same seq)
    (rises_parts places sorted so_sorted (rises_from (λ (p : Standing). p.place) sorted up))

-- where each entry's parts are the loan's, each part is of one of its entries
pub numbered-kept : (loan : DisbursedLoan) (xs : List SettledPart) → IsSoundDisbursed loan
    → ((seq : ℕ) → settled_in seq xs ≡ settled_in seq (settled_of_loan loan)) → AreNumberedTo (length loan.entries) xs
numbered-kept loan xs sound same =
    let n : ℕ = length loan.entries in
    let P : ℕ → Type 0 = λ seq. (1 ≤ seq) × (seq ≤ n) in
    let own : AllByRecursion (λ (s : SettledPart). P s.seq) (settled_of_loan loan) =
    recursion_from_All (λ (s : SettledPart). P s.seq) (settled_of_loan loan) (parts-numbered loan sound) in
    All-from_recursion (λ (s : SettledPart). P s.seq) xs
    (all_from_some P xs (λ seq some. let size = ap length (same seq) in some_has P seq (settled_of_loan loan) own
    (omega (arith, some, size))))
