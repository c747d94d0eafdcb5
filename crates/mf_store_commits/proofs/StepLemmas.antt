-- Rows by number, some of which are brought to what they are in another list: a loan's instalments, and its shares.
use Rattle.std.proofs.Common.{◌≡◌, ◌<◌, ◌≤◌, ◌+◌, ◌-◌, ℕ, zero, suc, Bool, false, true, List, [], ◌∷◌, ◌++◌, map}
use Rattle.std.proofs.Common.{filter, length, refl, sym, ap, ap₂, ◌∙◌, arith, inl, inr, Ordering, Less, Equal}
use Rattle.std.proofs.Common.{Greater, is_eq, nat_cmp, ◌⊎◌, get_or, not, take, append_assoc, add-one}
use Rattle.std.proofs.lemmas.Bool.{cases_eq}
use Rattle.std.proofs.lemmas.Bool.Decides.{nat_tests}
use Rattle.std.proofs.lemmas.List.{length-set, get_or-set_same, get_or-set_other, ext_get_or, map-append}
use Rattle.std.proofs.lemmas.List.Elements.{filter-append}
use Rattle.std.proofs.lemmas.Option.{slice_get-get_or}
use Rattle.std.specs.List.{AllByRecursion, Contains}
use Rattle.std.specs.Ordering.{ordering_then}
use Rattle.std.specs.Prelude.{set}
use Rattle.sqlite_keyed.proofs.ListLemmas.{all_weaker, filter_all, filter_none}
use Rattle.lru.proofs.Splits.{Contains-nil, Contains-cons, Contains-head, Contains-tail}
use Rattle.mf_alloc.specs.Rows.{row_at, no_row}
use Rattle.mf_alloc.specs.Sums.{Instalment}
use Rattle.mf_account.specs.declared.settled.SettledPart.{SettledPart}
use Rattle.mf_store_sql.specs.Keep.{put_item}
use Rattle.mf_store_schema.specs.Rows.{by_instalment, by_share, is_share_in}
use Rattle.mf_store_schema.specs.declared.instalments.InstalmentRow.{InstalmentRow}
use Rattle.mf_store_schema.specs.declared.shares.ShareRow.{ShareRow}
use Rattle.mf_store_values.proofs.BlockLemmas.{Around, AroundAt, around_same, blocks_from, set_around, within}
use Rattle.mf_store_values.proofs.FlatLemmas.{blocks_mapped, all_mapped}
use Rattle.mf_store_values.proofs.PutLemmas.{put_around, put_over, put_all, put_all_around, AreRising}
use Rattle.mf_store_values.specs.Flat.{instalment_in, share_in, numbered_from, placed_parts, parts_from}

-- what stands round one block stands round another
round : {R : Type 0} {P Q S T : R → Type 0} {old new block changed : List R} → ((s : R) → P s → S s)
    → ((s : R) → Q s → T s) → (w : Around P Q old new block changed) (b c : List R)
    → Around S T (w.first ++ (b ++ w.last)) (w.first ++ (c ++ w.last)) b c
round {P = P} {Q = Q} {S = S} {T = T} low high w b c = record {
  first = w.first;
  last = w.last;
  old_is = refl;
  new_is = refl;
  before = all_weaker P S low w.first w.before;
  after = all_weaker Q T high w.last w.after;
}

-- ---- steps that each bring the rows of one number

-- the rows after the step of each of these numbers
abbrev pub all_steps : {R : Type 0} → (ℕ → List R → List R) → List ℕ → List R → List R
all_steps step [] rows = rows
all_steps step (k ∷ ks) rows = all_steps step ks (step k rows)

-- each thing is as in the other list, or its number is one of these
abbrev pub AreBut : {B : Type 0} → B → List B → List ℕ → List B → Type 0
AreBut d new ks bs = (k : ℕ) → 1 ≤ k → k ≤ length bs → (get_or bs (k - 1) d ≡ get_or new (k - 1) d) ⊎ Contains ks k

-- the key of a number's rows: how it begins, and then what it ends with
abbrev key_by : {R : Type 0} → (R → Ordering) → (ℕ → R → Ordering) → ℕ → R → Ordering
key_by outer last k s = ordering_then (outer s) (last k s)

-- other rows stand round those of all numbers
module _ {B R : Type 0} (d : B) (new : List B) (block : ℕ → B → List R) (outer : R → Ordering) (last : ℕ → R → Ordering)
    (own : (k m : ℕ) (b : B) → AllByRecursion (λ s. (outer s ≡ Equal) × (last k s ≡ nat_cmp k m)) (block m b))
    (step : ℕ → List R → List R) (does : (k : ℕ) (b : B) (all other : List R) → 1 ≤ k → k ≤ length new
    → AroundAt (key_by outer last k) all other (block k b) (block k (get_or new (k - 1) d)) → step k all ≡ other) where
  -- the rows of a number that compares so with this one
  ranked : (k m : ℕ) (o : Ordering) → nat_cmp k m ≡ o → (b : B)
      → AllByRecursion (λ s. key_by outer last k s ≡ o) (block m b)
  ranked k m o is b = all_weaker (λ s. (outer s ≡ Equal) × (last k s ≡ nat_cmp k m)) (λ s. key_by outer last k s ≡ o)
      (λ s h. ap₂ ordering_then h.0 (h.1 ∙ is)) (block m b) (own k m b)

  -- the steps bring all rows to those of the other list
  pub steps_bring : (ks : List ℕ) (bs : List B) (all other : List R) → length bs ≡ length new → AreBut d new ks bs
      → ((k : ℕ) → Contains ks k → (1 ≤ k) × (k ≤ length new))
      → AroundAt outer all other (blocks_from block 1 bs) (blocks_from block 1 new) → all_steps step ks all ≡ other
  steps_bring [] bs all other long but there w =
      around_same (λ s. outer s ≡ Greater) (λ s. outer s ≡ Less) w (ap (blocks_from block 1) (ext_get_or d bs new long
      (λ i low. let place : i + 1 - 1 ≡ i = omega arith in
      elim (rw place at (but (i + 1) (omega arith) (omega (arith, low)))) [
        | inl same ↦ same
        | inr named ↦ absurd (Contains-nil (i + 1) named)
      ])))
  steps_bring (k ∷ ks) bs all other long but there w =
      let b = get_or new (k - 1) d in
      let is = there k (Contains-head k ks) in
      let least = is.0 in
      let most = is.1 in
      let cs : List B = set bs (k - 1) b in
      let size : length cs ≡ length bs = length-set bs (k - 1) b in
      let mid : List R = w.first ++ (blocks_from block 1 cs ++ w.last) in
      let P : R → Type 0 = λ s. key_by outer last k s ≡ Greater in
      let Q : R → Type 0 = λ s. key_by outer last k s ≡ Less in
      ap (all_steps step ks) (ap (step k) w.old_is ∙ does k (get_or bs (k - 1) d) _ mid least most (within P Q
      (round (λ s h. ap (λ o. ordering_then o (last k s)) h) (λ s h. ap (λ o. ordering_then o (last k s)) h) w
      (blocks_from block 1 bs) (blocks_from block 1 cs)) (set_around block P Q k
      (λ m c low. ranked k m Greater (grind (arith, nat_tests, low)) c)
      (λ m c high. ranked k m Less (grind (arith, nat_tests, high)) c) 1 (k - 1) (get_or bs (k - 1) d) b bs
      (omega (arith, least)) (slice_get-get_or bs (k - 1) d (omega (arith, least, most, long))))))
      ∙ steps_bring ks cs mid (w.first ++ (blocks_from block 1 new ++ w.last)) (size ∙ long)
      (λ j low high. elim (cases_eq j k) [
        | inl here ↦ inl (rw here (get_or-set_same bs (k - 1) b d (omega (arith, least, most, long))))
        | inr apart ↦ elim (but j low (omega (arith, high, size))) [
          | inl same ↦ inl (get_or-set_other bs (k - 1) (j - 1) b d (λ e. apart (omega (arith, e, low, least))) ∙ same)
          | inr named ↦ elim (Contains-cons k ks j named) [
            | inl this ↦ absurd (apart (sym this))
            | inr later ↦ inr later
          ]
        ]
      ]) (λ j has. there j (Contains-tail k ks j has)) (round (λ s h. h) (λ s h. h) w (blocks_from block 1 cs)
      (blocks_from block 1 new)) ∙ sym w.new_is

-- ---- keys of several parts

-- a key that is cut in two elsewhere
pub then_assoc : (a b c : Ordering) → ordering_then a (ordering_then b c) ≡ ordering_then (ordering_then a b) c
then_assoc Less b c = refl
then_assoc Equal b c = refl
then_assoc Greater b c = refl

-- between keys of one loan the rest decides
pub own_key : (x n : ℕ) (o : Ordering) → ordering_then (nat_cmp x x) (ordering_then (nat_cmp n n) o) ≡ o
own_key x n o = grind (arith, nat_tests)

own_place : (x n : ℕ) → ordering_then (nat_cmp x x) (nat_cmp n n) ≡ Equal
own_place x n = grind (arith, nat_tests)

-- numbered rows are put where there were none
module _ {A B R : Type 0} (cmp : R → R → Ordering) (f : B → R) (make : ℕ → A → B)
    (ranks : (k m : ℕ) (a b : A) → cmp (f (make k a)) (f (make m b)) ≡ nat_cmp k m) where
  rising : (m : ℕ) (xs : List A) → AreRising cmp (map f (numbered_from make m xs))
  rising m [] = tt
  rising m (a ∷ xs) = (
    all_mapped (λ q. cmp q (f (make m a)) ≡ Greater) f make (m + 1)
        (λ k b low. ranks k m b a ∙ grind (arith, nat_tests, low)) xs,
    rising (m + 1) xs,
  )

  put_fresh : {P Q : R → Type 0} {old new : List R} → ((k : ℕ) (a : A) (s : R) → P s → cmp (f (make k a)) s ≡ Greater)
      → ((k : ℕ) (a : A) (s : R) → Q s → cmp (f (make k a)) s ≡ Less) → (xs : List A)
      → Around P Q old new [] (map f (numbered_from make 1 xs))
      → put_all cmp (map f (numbered_from make 1 xs)) old ≡ new
  put_fresh low high xs w = put_all_around cmp (map f (numbered_from make 1 xs))
      (all_mapped _ f make 1 (λ k a least. (low k a, high k a)) xs) (rising 1 xs) w

-- ---- the rows of a loan's instalments

abbrev pair : ℕ → Instalment → ℕ × Instalment
pair n row = (n, row)

-- how the key of a loan's rows compares with that of a row
abbrev pub loan_place : ℕ → ℕ → InstalmentRow → Ordering
loan_place x n s = ordering_then (nat_cmp x s.office) (nat_cmp n s.loan)

module _ (x n : ℕ) where
  abbrev row : ℕ → Instalment → List InstalmentRow
  row k sums = instalment_in x n (k, sums) ∷ []

  -- the step of an instalment: its row is put, as it is in this list
  abbrev pub instalment_step : List Instalment → ℕ → List InstalmentRow → List InstalmentRow
  instalment_step new k rows = put_item by_instalment (instalment_in x n (k, row_at new k)) rows

  -- the key of an instalment's row, cut after the loan
  in_loan : (k : ℕ) (a : Instalment) (s : InstalmentRow) → by_instalment (instalment_in x n (k, a)) s
      ≡ ordering_then (loan_place x n s) (nat_cmp k s.number)
  in_loan k a s = then_assoc (nat_cmp x s.office) (nat_cmp n s.loan) (nat_cmp k s.number)

  -- the puts that a change names make the rows before it of those after it
  pub instalments_put_around : {all other : List InstalmentRow} (old new : List Instalment) (ks : List ℕ)
      → length old ≡ length new → AreBut no_row new ks old → ((k : ℕ) → Contains ks k → (1 ≤ k) × (k ≤ length new))
      → AroundAt (loan_place x n) all other (map (instalment_in x n) (numbered_from pair 1 old))
      (map (instalment_in x n) (numbered_from pair 1 new)) → all_steps (instalment_step new) ks all ≡ other
  instalments_put_around {all} {other} old new ks long but there w =
      steps_bring no_row new row (loan_place x n) (λ k s. nat_cmp k s.number) (λ k m b. ((own_place x n, refl), tt))
      (instalment_step new) (λ k b was now least most v. put_around by_instalment (instalment_in x n (k, row_at new k))
      (λ s h. in_loan k (row_at new k) s ∙ h) (λ s h. in_loan k (row_at new k) s ∙ h) v
      (put_over by_instalment (instalment_in x n (k, row_at new k)) (instalment_in x n (k, b)) []
      (own_key x n (nat_cmp k k) ∙ grind (arith, nat_tests)) tt)) ks old all other long but there
      (rw (blocks_mapped (instalment_in x n) pair 1 old, blocks_mapped (instalment_in x n) pair 1 new) at w)

  -- all rows of a loan that had none
  pub fresh_put_around : {all other : List InstalmentRow} (rows : List Instalment)
      → AroundAt (loan_place x n) all other [] (map (instalment_in x n) (numbered_from pair 1 rows))
      → put_all by_instalment (map (instalment_in x n) (numbered_from pair 1 rows)) all ≡ other
  fresh_put_around = put_fresh by_instalment (instalment_in x n) pair (λ k m a b. own_key x n (nat_cmp k m))
      (λ k a s h. in_loan k a s ∙ ap (λ o. ordering_then o (nat_cmp k s.number)) h)
      (λ k a s h. in_loan k a s ∙ ap (λ o. ordering_then o (nat_cmp k s.number)) h)

-- ---- the rows of what its entries settle

-- what entries of these numbers settle, entry by entry
abbrev listed : (ℕ → List SettledPart) → ℕ → ℕ → List (List SettledPart)
listed f m zero = []
listed f m (suc c) = f m ∷ listed f (m + 1) c

length-listed : (f : ℕ → List SettledPart) (m c : ℕ) → length (listed f m c) ≡ c
length-listed f m zero = refl
length-listed f m (suc c) = ap suc (length-listed f (m + 1) c)

at_listed : (f : ℕ → List SettledPart) (m c i s : ℕ) → i < c → m + i ≡ s → get_or (listed f m c) i [] ≡ f s
at_listed f m zero i s low is = absurd (omega (arith, low))
at_listed f m (suc c) zero s low is = ap f (omega (arith, is))
at_listed f m (suc c) (suc i) s low is = at_listed f (m + 1) c i s (omega (arith, low)) (omega (arith, is))

-- how the key of a loan's rows compares with that of a row
abbrev pub share_place : ℕ → ℕ → ShareRow → Ordering
share_place x n s = ordering_then (nat_cmp x s.office) (nat_cmp n s.loan)

module _ (x n : ℕ) where
  -- the rows of one entry
  abbrev entry_parts : ℕ → List SettledPart → List ShareRow
  entry_parts seq parts = map (share_in x n) (placed_parts seq parts)

  -- a row is not of an entry
  abbrev not_of : ℕ → ShareRow → Bool
  not_of seq r = not (is_share_in x n seq r)

  -- the step of an entry: its rows are removed, and put as it settles now
  abbrev pub share_step : (ℕ → List SettledPart) → ℕ → List ShareRow → List ShareRow
  share_step new seq rows = put_all by_share (entry_parts seq (new seq)) (filter (not_of seq) rows)

  -- the key of an entry's rows
  abbrev key : ℕ → ShareRow → Ordering
  key seq s = ordering_then (share_place x n s) (nat_cmp seq s.seq)

  in_blocks : (f : ℕ → List SettledPart) (m c : ℕ) → map (share_in x n) (parts_from f m c)
      ≡ blocks_from entry_parts m (listed f m c)
  in_blocks f m zero = refl
  in_blocks f m (suc c) = map-append (share_in x n) (placed_parts m (f m)) (parts_from f (m + 1) c)
      ∙ ap (λ l. entry_parts m (f m) ++ l) (in_blocks f (m + 1) c)

  -- whether a row is of an entry is told by the entry's key
  told : (seq : ℕ) (s : ShareRow) → not_of seq s ≡ not (is_eq (key seq s))
  told seq s = ap (λ o. not (is_eq o)) (then_assoc (nat_cmp x s.office) (nat_cmp n s.loan) (nat_cmp seq s.seq))

  -- the key of a row of an entry, cut after the entry
  in_entry : (seq k : ℕ) (t : SettledPart) (s : ShareRow) → by_share (share_in x n (seq, (k, t))) s
      ≡ ordering_then (key seq s) (nat_cmp k s.place)
  in_entry seq k t s = then_assoc (nat_cmp x s.office) (nat_cmp n s.loan) (ordering_then (nat_cmp seq s.seq)
      (nat_cmp k s.place)) ∙ then_assoc (share_place x n s) (nat_cmp seq s.seq) (nat_cmp k s.place)

  -- the rows of one entry are removed, and others put in their place
  replaced : {old new : List ShareRow} (seq : ℕ) (was is : List SettledPart) → AroundAt (key seq) old new
      (entry_parts seq was) (entry_parts seq is) → put_all by_share (entry_parts seq is) (filter (not_of seq) old) ≡ new
  replaced seq was is w =
      let first = filter_all (not_of seq) w.first (others Greater refl w.first w.before) in
      let mid = filter_none (not_of seq) (entry_parts seq was) (all_mapped (λ s. not_of seq s ≡ false) (share_in x n)
      (λ k t. (seq, (k, t))) 1 (λ k t low. own) was) in
      let last = filter_all (not_of seq) w.last (others Less refl w.last w.after) in
      rw (w.old_is, filter-append (not_of seq) w.first, filter-append (not_of seq) (entry_parts seq was))
      (rw (first, mid, last) (put_fresh by_share (share_in x n) (λ k t. (seq, (k, t)))
      (λ k m a b. own_key x n (ordering_then (nat_cmp seq seq) (nat_cmp k m)) ∙ grind (arith, nat_tests))
      (λ k t s h. in_entry seq k t s ∙ ap (λ o. ordering_then o (nat_cmp k s.place)) h)
      (λ k t s h. in_entry seq k t s ∙ ap (λ o. ordering_then o (nat_cmp k s.place)) h) is
      (round (λ s h. h) (λ s h. h) w [] (entry_parts seq is)) ∙ sym w.new_is))
    where
      others : (o : Ordering) → not (is_eq o) ≡ true → (rows : List ShareRow)
          → AllByRecursion (λ s. key seq s ≡ o) rows → AllByRecursion (λ s. not_of seq s ≡ true) rows
      others o apart rows all = all_weaker (λ s. key seq s ≡ o) (λ s. not_of seq s ≡ true)
          (λ s h. told seq s ∙ ap (λ o. not (is_eq o)) h ∙ apart) rows all

      own : not (is_eq (ordering_then (nat_cmp x x) (ordering_then (nat_cmp n n) (nat_cmp seq seq)))) ≡ false
      own = grind (arith, nat_tests)

  -- the steps of what a change names make the rows before it of those after it
  pub shares_replaced_around : {all other : List ShareRow} (c : ℕ) (old new : ℕ → List SettledPart) (ss : List ℕ)
      → ((s : ℕ) → Contains ss s → (1 ≤ s) × (s ≤ c))
      → ((s : ℕ) → 1 ≤ s → s ≤ c → (old s ≡ new s) ⊎ Contains ss s)
      → AroundAt (share_place x n) all other (map (share_in x n) (parts_from old 1 c))
      (map (share_in x n) (parts_from new 1 c)) → all_steps (share_step new) ss all ≡ other
  shares_replaced_around {all} {other} c old new ss there but w =
      let size = length-listed old 1 c in
      let long = length-listed new 1 c in
      steps_bring [] (listed new 1 c) entry_parts (share_place x n) (λ k s. nat_cmp k s.seq)
      (λ k m parts. all_mapped _ (share_in x n) (λ k t. (m, (k, t))) 1 (λ k t low. (own_place x n, refl)) parts)
      (share_step new) (λ s was before now least most v. replaced s was (new s)
      (rw (placed new s least (omega (arith, most, long))) at v))
      ss (listed old 1 c) all other (size ∙ sym long)
      (λ s least most. let low : s ≤ c = omega (arith, most, size) in
      rw (placed old s least low, placed new s least low) (but s least low))
      (λ s has. let all = there s has in (all.0, omega (arith, all.1, long)))
      (rw (in_blocks old 1 c, in_blocks new 1 c) at w)
    where
      placed : (f : ℕ → List SettledPart) (s : ℕ) → 1 ≤ s → s ≤ c → get_or (listed f 1 c) (s - 1) [] ≡ f s
      placed f s least most = at_listed f 1 c (s - 1) s (omega (arith, least, most)) (omega (arith, least))

-- ---- numbered things that are pushed in turn

numbered_more : {A R : Type 0} (make : ℕ → A → R) (m n : ℕ) (xs : List A) (x : A) → n < length xs
    → numbered_from make m (take (suc n) xs) ≡ numbered_from make m (take n xs) ++ make (m + n) (get_or xs n x) ∷ []
numbered_more make m n [] x low = absurd (omega (arith, low))
numbered_more make m zero (y ∷ xs) x low = ap (λ k. make k y ∷ []) (let same : m ≡ m + 0 = omega arith in same)
numbered_more make m (suc n) (y ∷ xs) x low = ap (λ l. make m y ∷ l)
    (numbered_more make (m + 1) n xs x (omega (arith, low)) ∙ ap (λ k. numbered_from make (m + 1) (take n xs)
    ++ make k (get_or xs n x) ∷ []) (let same : m + 1 + n ≡ m + suc n = omega arith in same))

-- one more of numbered things
pub numbered_pushed : {A R B : Type 0} (f : R → B) (make : ℕ → A → R) (xs : List A) (n : ℕ) (x : A)
    (first old new : List B) → n < length xs → x ≡ get_or xs n x → new ≡ old ++ f (make (n + 1) x) ∷ [] → old ≡ first
    ++ map f (numbered_from make 1 (take n xs)) → new ≡ first ++ map f (numbered_from make 1 (take (n + 1) xs))
numbered_pushed f make xs n x first old new low is more before =
    rw (more, before, append_assoc first, add-one n, numbered_more make 1 n xs x low, map-append f)
    (ap₂ (λ k y. first ++ (map f (numbered_from make 1 (take n xs)) ++ f (make k y) ∷ [])) (omega arith) is)
