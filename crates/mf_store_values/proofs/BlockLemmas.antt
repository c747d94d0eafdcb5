-- Rows in blocks, by keys that ascend: what stands round one block, and what is found in it.
use Rattle.std.proofs.Common.{◌≡◌, ◌<◌, ◌≤◌, ◌+◌, ◌-◌, ℕ, zero, suc, Bool, true, false, cond, List, [], ◌∷◌, ◌++◌}
use Rattle.std.proofs.Common.{filter, length, map}
use Rattle.std.proofs.Common.{slice_get, Option, None, Some, refl, sym, ap, ap₂, ◌∙◌, subst, arith, true≢false, ◌==◌}
use Rattle.std.proofs.Common.{nat_lt, Ordering, Less, Greater, is_eq, nat_cmp}
use Rattle.std.specs.Prelude.{set}
use Rattle.std.specs.List.{AllByRecursion}
use Rattle.std.specs.Option.{is_some}
use Rattle.std.specs.Ordering.{ordering_then}
use Rattle.std.proofs.lemmas.Bool.Decides.{nat_tests}
use Rattle.std.proofs.lemmas.List.{append-nil, append_assoc, map-append}
use Rattle.std.proofs.lemmas.List.Elements.{filter-append}
use Rattle.sqlite_keyed.proofs.ListLemmas.{all-append, all_of, filter_none}
use Rattle.mf_model.specs.Institution.{Office, Rows, office_at, with_rows, with_office, no_rows, item_numbered}
use Rattle.mf_model.specs.Institution.{with_numbered}
use Rattle.mf_model.proofs.Growing.{numbered_suc}
use Rattle.mf_model.specs.Store.{rows_of}
use Rattle.mf_model.specs.Tree.{Above, Ascending, is_there}

-- ---- one block among others

module _ {R : Type 0} (P Q : R → Type 0) where
  -- Two lists of rows that differ in one block: the same rows stand before it in both, of which P holds, and the same
  -- after it, of which Q holds.
  pub record Around (old new block changed : List R) : Type 0 where
    pub first : List R
    pub last : List R
    pub old_is : old ≡ first ++ (block ++ last)
    pub new_is : new ≡ first ++ (changed ++ last)
    pub before : AllByRecursion P first
    pub after : AllByRecursion Q last

  -- they are the same where the block is
  pub around_same : {old new block changed : List R} → Around old new block changed → block ≡ changed → old ≡ new
  around_same w is = w.old_is ∙ ap (λ b. w.first ++ (b ++ w.last)) is ∙ sym w.new_is

  -- more rows before
  further : (more : List R) {old new block changed : List R} → AllByRecursion P more → Around old new block changed
      → Around (more ++ old) (more ++ new) block changed
  further more {block = block} {changed = changed} all w = record {
    first = more ++ w.first;
    last = w.last;
    old_is = ap (λ l. more ++ l) w.old_is ∙ sym (append_assoc more w.first (block ++ w.last));
    new_is = ap (λ l. more ++ l) w.new_is ∙ sym (append_assoc more w.first (changed ++ w.last));
    before = all-append P more w.first all w.before;
    after = w.after;
  }

  -- a block within a block
  pub within : {old new mid other block changed : List R} → Around old new mid other → Around mid other block changed
      → Around old new block changed
  within {block = block} {changed = changed} w v = record {
    first = w.first ++ v.first;
    last = v.last ++ w.last;
    old_is = w.old_is ∙ ap (λ m. w.first ++ (m ++ w.last)) v.old_is ∙ shift block;
    new_is = w.new_is ∙ ap (λ m. w.first ++ (m ++ w.last)) v.new_is ∙ shift changed;
    before = all-append P w.first v.first w.before v.before;
    after = all-append Q v.last w.last v.after w.after;
  }
    where
      shift : (b : List R) → w.first ++ ((v.first ++ (b ++ v.last)) ++ w.last) ≡ (w.first ++ v.first)
          ++ (b ++ (v.last ++ w.last))
      shift b = ap (λ l. w.first ++ l) (append_assoc v.first (b ++ v.last) w.last
          ∙ ap (λ l. v.first ++ l) (append_assoc b v.last w.last)) ∙ sym (append_assoc w.first v.first
          (b ++ (v.last ++ w.last)))

-- the same in lists of other things that are made of these
pub around_mapped : {A R : Type 0} (f : A → R) {old new block changed : List A} → Around (λ _. Unit {0}) (λ _. Unit {0})
    old new block changed → Around (λ _. Unit {0}) (λ _. Unit {0}) (map f old) (map f new) (map f block) (map f changed)
around_mapped f {block = block} {changed = changed} w = record {
  first = map f w.first;
  last = map f w.last;
  old_is = ap (map f) w.old_is ∙ shift block;
  new_is = ap (map f) w.new_is ∙ shift changed;
  before = all_of (λ _. Unit {0}) (λ _. tt) (map f w.first);
  after = all_of (λ _. Unit {0}) (λ _. tt) (map f w.last);
}
  where
    shift : (b : _) → map f (w.first ++ (b ++ w.last)) ≡ map f w.first ++ (map f b ++ map f w.last)
    shift b = map-append f w.first (b ++ w.last) ∙ ap (λ l. map f w.first ++ l) (map-append f b w.last)

-- the same, by how the key of the block compares with those of the others
abbrev pub AroundAt : {R : Type 0} → (R → Ordering) → List R → List R → List R → List R → Type 0
AroundAt place = Around (λ s. place s ≡ Greater) (λ s. place s ≡ Less)

-- ---- blocks numbered by their places

pub numbered-suc : {A : Type 0} (xs : List A) (k : ℕ) → item_numbered xs (suc k) ≡ slice_get xs k
numbered-suc xs k = numbered_suc xs k

pub with_numbered_later : {A : Type 0} (d : ℕ) (change : A → A) (b : A) (xs : List A)
    → with_numbered (suc (suc d)) change (b ∷ xs) ≡ b ∷ with_numbered (suc d) change xs
with_numbered_later d change b xs =
    let later : (suc (suc d) == 1) ≡ false = grind (arith, nat_tests) in
    let place : suc (suc d) - 1 ≡ suc d = omega arith in
    ap (λ t. cond t (change b ∷ xs) (b ∷ with_numbered (suc (suc d) - 1) change xs)) later
    ∙ ap (λ n. b ∷ with_numbered n change xs) place

-- the thing of a number, changed, is set in its place
pub numbered_set : {A : Type 0} (change : A → A) (d : ℕ) (a : A) (xs : List A) → slice_get xs d ≡ Some a
    → with_numbered (suc d) change xs ≡ set xs d (change a)
numbered_set change d a [] at = absurd (let k : None ≡ Some a = at in cc)
numbered_set change zero a (x ∷ xs) at = let k : Some x ≡ Some a = at in let is : x ≡ a = cc in
    ap (λ y. change y ∷ xs) is
numbered_set change (suc d) a (x ∷ xs) at = with_numbered_later d change x xs
    ∙ ap (λ l. x ∷ l) (numbered_set change d a xs at)

module _ {B R : Type 0} (block : ℕ → B → List R) where
  -- the rows of each, the first with this number
  abbrev pub blocks_from : ℕ → List B → List R
  blocks_from m [] = []
  blocks_from m (b ∷ bs) = block m b ++ blocks_from (m + 1) bs

  -- the rows of one that is there
  abbrev pub block_of : ℕ → Option B → List R
  block_of n None = []
  block_of n (Some b) = block n b

  -- what holds of the rows of each number holds of all
  pub all_from : (P : R → Type 0) (m : ℕ) (bs : List B) → ((k : ℕ) (b : B) → m ≤ k → AllByRecursion P (block k b))
      → AllByRecursion P (blocks_from m bs)
  all_from P m [] h = tt
  all_from P m (b ∷ bs) h = all-append P (block m b) (blocks_from (m + 1) bs) (h m b (omega arith))
      (all_from P (m + 1) bs (λ k d low. h k d (omega (arith, low))))

  module _ (P Q : R → Type 0) (n : ℕ) (low : (m : ℕ) (b : B) → m < n → AllByRecursion P (block m b))
      (high : (m : ℕ) (b : B) → n < m → AllByRecursion Q (block m b)) where
    -- one of them is another
    pub set_around : (m d : ℕ) (b c : B) (bs : List B) → n ≡ m + d → slice_get bs d ≡ Some b
        → Around P Q (blocks_from m bs) (blocks_from m (set bs d c)) (block n b) (block n c)
    set_around m d b c [] is at = absurd (let k : None ≡ Some b = at in cc)
    set_around m zero b c (a ∷ bs) is at =
        let k : Some a ≡ Some b = at in
        let this : a ≡ b = cc in
        let same : m ≡ n = omega (arith, is) in
        record {
          first = [];
          last = blocks_from (m + 1) bs;
          old_is = λ t. block (same t) (this t) ++ blocks_from (m + 1) bs;
          new_is = λ t. block (same t) c ++ blocks_from (m + 1) bs;
          before = tt;
          after = all_from Q (m + 1) bs (λ k d past. high k d (omega (arith, past, same)));
        }
    set_around m (suc d) b c (a ∷ bs) is at = further P Q (block m a) (low m a (omega (arith, is)))
        (set_around (m + 1) d b c bs (omega (arith, is)) at)

    -- the one of this number is changed
    pub numbered_around : (change : B → B) (b : B) (bs : List B) → item_numbered bs n ≡ Some b
        → Around P Q (blocks_from 1 bs) (blocks_from 1 (with_numbered n change bs)) (block n b) (block n (change b))
    numbered_around change b bs at = go n refl at
      where
        go : (k : ℕ) → n ≡ k → item_numbered bs k ≡ Some b → Around P Q (blocks_from 1 bs)
            (blocks_from 1 (with_numbered k change bs)) (block n b) (block n (change b))
        go zero is at = absurd (let k : None ≡ Some b = at in cc)
        go (suc d) is at =
            let found = sym (numbered-suc bs d) ∙ at in
            subst (λ cs. Around P Q (blocks_from 1 bs) (blocks_from 1 cs) (block n b) (block n (change b)))
            (sym (numbered_set change d b bs found)) (set_around 1 d b (change b) bs (omega (arith, is)) found)

    -- one more
    pub push_around : (m : ℕ) (b : B) (bs : List B) → n ≡ m + length bs
        → Around P Q (blocks_from m bs) (blocks_from m (bs ++ b ∷ [])) [] (block n b)
    push_around m b [] is = record {
      first = [];
      last = [];
      old_is = refl;
      new_is = ap (λ k. block k b ++ []) (let same : m ≡ n = omega (arith, is) in same);
      before = tt;
      after = tt;
    }
    push_around m b (a ∷ bs) is = further P Q (block m a) (low m a (omega (arith, is)))
        (push_around (m + 1) b bs (omega (arith, is)))

  -- what only one number's rows may pass
  module _ (p : R → Bool) (n : ℕ) (alone : (m : ℕ) (b : B) → (n == m) ≡ false → AllByRecursion (λ s. p s ≡ false)
      (block m b)) where
    filter_from : (m d : ℕ) (bs : List B) → n ≡ m + d → filter p (blocks_from m bs)
        ≡ filter p (block_of n (slice_get bs d))
    filter_from m d [] is = refl
    filter_from m zero (b ∷ bs) is =
        let same : m ≡ n = omega (arith, is) in
        filter-append p (block m b) (blocks_from (m + 1) bs)
        ∙ ap₂ ◌++◌ (ap (λ k. filter p (block k b)) same) (filter_none p (blocks_from (m + 1) bs)
        (all_from (λ s. p s ≡ false) (m + 1) bs (λ k a past. alone k a (grind (arith, nat_tests, past, same)))))
        ∙ append-nil (filter p (block n b))
    filter_from m (suc d) (b ∷ bs) is =
        filter-append p (block m b) (blocks_from (m + 1) bs)
        ∙ ap₂ ◌++◌ (filter_none p (block m b) (alone m b (grind (arith, nat_tests, is))))
        (filter_from (m + 1) d bs (omega (arith, is)))

    pub filter_numbered : (bs : List B) → filter p (blocks_from 1 bs) ≡ filter p (block_of n (item_numbered bs n))
    filter_numbered = go n refl
      where
        go : (k : ℕ) → n ≡ k → (bs : List B) → filter p (blocks_from 1 bs)
            ≡ filter p (block_of n (item_numbered bs k))
        go zero is bs = filter_none p (blocks_from 1 bs) (all_from (λ s. p s ≡ false) 1 bs (λ m b least. alone m b
            (grind (arith, nat_tests, least, is))))
        go (suc d) is bs = filter_from 1 d bs (omega (arith, is))
            ∙ ap (λ o. filter p (block_of n o)) (sym (numbered_suc bs d))

-- ---- blocks by office

-- no rows of offices with greater numbers change
with_above : (x : ℕ) (new : Rows) (fs : List Office) → Above x fs → with_rows x new fs ≡ fs
with_above x new [] up = refl
with_above x new (f ∷ fs) up =
    let low : x < f.number = up.0 in
    let other : (f.number == x) ≡ false = grind (arith, nat_tests) in
    λ t. record f { rows = cond (other t) new f.rows } ∷ with_above x new fs up.1 t

-- an office that is there has a number above that of an office before it
below : (x : ℕ) {n : ℕ} (fs : List Office) → Above n fs → is_some (office_at x fs) ≡ true → n < x
below x [] h there = absurd (true≢false (sym there))
below x {n} (f ∷ fs) h there = go (f.number == x) refl there (below x fs h.1)
  where
    go : (b : Bool) → (f.number == x) ≡ b → is_some (cond b (Some f) (office_at x fs)) ≡ true
        → (is_some (office_at x fs) ≡ true → n < x) → n < x
    go true e there more = let low : n < f.number = h.0 in let same : f.number ≡ x =
        grind (arith, nat_tests) in omega arith
    go false e there more = more there

module _ {R : Type 0} (block : ℕ → Rows → List R) where
  -- the rows of each office, in the order of the offices
  abbrev pub in_blocks : List Office → List R
  in_blocks [] = []
  in_blocks (f ∷ fs) = block f.number f.rows ++ in_blocks fs

  -- what holds of the rows of each office above x holds of all
  pub all_above : (P : R → Type 0) (x : ℕ) (fs : List Office) → Above x fs
      → ((y : ℕ) (rows : Rows) → x < y → AllByRecursion P (block y rows)) → AllByRecursion P (in_blocks fs)
  all_above P x [] up h = tt
  all_above P x (f ∷ fs) up h = all-append P (block f.number f.rows) (in_blocks fs) (h f.number f.rows up.0)
      (all_above P x fs up.1 h)

  -- one office has other rows
  pub office_around : (P Q : R → Type 0) (x : ℕ)
      → ((y : ℕ) (rows : Rows) → y < x → AllByRecursion P (block y rows))
      → ((y : ℕ) (rows : Rows) → x < y → AllByRecursion Q (block y rows))
      → (new : Rows) (fs : List Office) → Ascending fs → is_there fs x ≡ true
      → Around P Q (in_blocks fs) (in_blocks (with_rows x new fs)) (block x (rows_of (office_at x fs))) (block x new)
  office_around P Q x low high new [] up there = absurd (true≢false (sym there))
  office_around P Q x low high new (f ∷ fs) up there =
      go (f.number == x) refl there (office_around P Q x low high new fs up.1)
    where
      go : (b : Bool) → (f.number == x) ≡ b → is_some (cond b (Some f) (office_at x fs)) ≡ true
          → (is_there fs x ≡ true → Around P Q (in_blocks fs) (in_blocks (with_rows x new fs))
          (block x (rows_of (office_at x fs))) (block x new))
          → Around P Q (in_blocks (f ∷ fs)) (block f.number (cond b new f.rows) ++ in_blocks (with_rows x new fs))
          (block x (rows_of (cond b (Some f) (office_at x fs)))) (block x new)
      go true e there rest =
          let same : f.number ≡ x = grind (arith, nat_tests) in
          let above : Above x fs = subst (λ n. Above n fs) same up.0 in
          record {
            first = [];
            last = in_blocks fs;
            old_is = ap (λ n. block n f.rows ++ in_blocks fs) same;
            new_is = λ t. block (same t) new ++ in_blocks (with_above x new fs above t);
            before = tt;
            after = all_above Q x fs above high;
          }
      go false e there rest =
          further P Q (block f.number f.rows) (low f.number f.rows (below x fs up.0 there)) (rest there)

  -- where an office's new rows make the same rows of this kind
  pub blocks_same : (x : ℕ) (new : Rows) (fs : List Office) → Ascending fs
      → block x new ≡ block x (rows_of (office_at x fs)) → in_blocks fs ≡ in_blocks (with_rows x new fs)
  blocks_same x new [] up is = refl
  blocks_same x new (f ∷ fs) up is = go (f.number == x) refl is (blocks_same x new fs up.1)
    where
      go : (b : Bool) → (f.number == x) ≡ b → block x new ≡ block x (rows_of (cond b (Some f) (office_at x fs)))
          → (block x new ≡ block x (rows_of (office_at x fs)) → in_blocks fs ≡ in_blocks (with_rows x new fs))
          → in_blocks (f ∷ fs) ≡ block f.number (cond b new f.rows) ++ in_blocks (with_rows x new fs)
      go true e is more =
          let same : f.number ≡ x = grind (arith, nat_tests) in
          ap₂ ◌++◌ (subst (λ n. block n f.rows ≡ block n new) (sym same) (sym is))
          (ap in_blocks (sym (with_above x new fs (subst (λ n. Above n fs) same up.0))))
      go false e is more = ap (λ l. block f.number f.rows ++ l) (more is)

  -- a new office without any
  pub blocks_new : (new : Office) (fs : List Office) → block new.number new.rows ≡ []
      → in_blocks fs ≡ in_blocks (with_office new fs)
  blocks_new new [] is = sym (ap (λ b. b ++ []) is)
  blocks_new new (f ∷ fs) is = go (nat_lt new.number f.number) (blocks_new new fs is)
    where
      go : (b : Bool) → in_blocks fs ≡ in_blocks (with_office new fs)
          → in_blocks (f ∷ fs) ≡ in_blocks (cond b (new ∷ f ∷ fs) (f ∷ with_office new fs))
      go true more = sym (ap (λ b. b ++ in_blocks (f ∷ fs)) is)
      go false more = ap (λ l. block f.number f.rows ++ l) more

  -- what only one office's rows may pass
  pub filter_office : (p : R → Bool) (x : ℕ) → ((y : ℕ) (rows : Rows) → (y == x) ≡ false
      → AllByRecursion (λ r. p r ≡ false) (block y rows)) → block x no_rows ≡ [] → (fs : List Office) → Ascending fs
      → filter p (in_blocks fs) ≡ filter p (block x (rows_of (office_at x fs)))
  filter_office p x alone empty [] up = sym (ap (filter p) empty)
  filter_office p x alone empty (f ∷ fs) up = filter-append p (block f.number f.rows) (in_blocks fs)
      ∙ go (f.number == x) refl (filter_office p x alone empty fs up.1)
    where
      go : (b : Bool) → (f.number == x) ≡ b
          → filter p (in_blocks fs) ≡ filter p (block x (rows_of (office_at x fs)))
          → filter p (block f.number f.rows) ++ filter p (in_blocks fs)
          ≡ filter p (block x (rows_of (cond b (Some f) (office_at x fs))))
      go true e more =
          let same : f.number ≡ x = grind (arith, nat_tests) in
          ap₂ ◌++◌ (ap (λ n. filter p (block n f.rows)) same) (filter_none p (in_blocks fs)
          (all_above (λ r. p r ≡ false) f.number fs up.0
          (λ y rows low. alone y rows (grind (arith, nat_tests, low, same)))))
          ∙ append-nil (filter p (block x f.rows))
      go false e more = ap₂ ◌++◌ (filter_none p (block f.number f.rows) (alone f.number f.rows e)) more

-- ---- blocks by office and number

module _ {B R : Type 0} (of : Rows → List B) (none : of no_rows ≡ []) (block : ℕ → ℕ → B → List R) where
  -- the rows of an office
  abbrev pub own : ℕ → Rows → List R
  own x rows = blocks_from (block x) 1 (of rows)

  -- an office is there that has something of some number
  pub seen : (x n : ℕ) (b : B) (fs : List Office) → item_numbered (of (rows_of (office_at x fs))) n ≡ Some b
      → is_there fs x ≡ true
  seen x n b fs = go n (office_at x fs)
    where
      go : (n : ℕ) (o : Option Office) → item_numbered (of (rows_of o)) n ≡ Some b → is_some o ≡ true
      go zero None h = absurd (let k : None ≡ Some b = h in cc)
      go (suc n) None h = absurd (let k : None ≡ Some b = sym (ap (λ l. item_numbered l (suc n)) none
          ∙ numbered_suc [] n) ∙ h in cc)
      go n (Some f) h = refl

  module _ (P Q : R → Type 0) (x n : ℕ) (low : (y m : ℕ) (b : B) → ordering_then (nat_cmp x y) (nat_cmp n m) ≡ Greater
      → AllByRecursion P (block y m b)) (high : (y m : ℕ) (b : B) → ordering_then (nat_cmp x y) (nat_cmp n m) ≡ Less
      → AllByRecursion Q (block y m b)) (new : Rows) (fs : List Office) (up : Ascending fs) where
    around_own : is_there fs x ≡ true → Around P Q (in_blocks own fs) (in_blocks own (with_rows x new fs))
        (own x (rows_of (office_at x fs))) (own x new)
    around_own = office_around own P Q x
        (λ y rows past. all_from (block y) P 1 (of rows) (λ m b least. low y m b (grind (arith, nat_tests, past))))
        (λ y rows past. all_from (block y) Q 1 (of rows) (λ m b least. high y m b (grind (arith, nat_tests, past)))) new
        fs up

    lower : (m : ℕ) (b : B) → m < n → AllByRecursion P (block x m b)
    lower m b past = low x m b (grind (arith, nat_tests, past))

    higher : (m : ℕ) (b : B) → n < m → AllByRecursion Q (block x m b)
    higher m b past = high x m b (grind (arith, nat_tests, past))

    -- one of an office is changed
    pub changed_around : (change : B → B) (b : B) → item_numbered (of (rows_of (office_at x fs))) n ≡ Some b
        → of new ≡ with_numbered n change (of (rows_of (office_at x fs)))
        → Around P Q (in_blocks own fs) (in_blocks own (with_rows x new fs)) (block x n b) (block x n (change b))
    changed_around change b at is =
        let old = of (rows_of (office_at x fs)) in
        within P Q (around_own (seen x n b fs at))
        (subst (λ bs. Around P Q (own x (rows_of (office_at x fs))) (blocks_from (block x) 1 bs) (block x n b)
        (block x n (change b))) (sym is) (numbered_around (block x) P Q n lower higher change b old at))

    -- one more of an office
    pub pushed_around : (b : B) → is_there fs x ≡ true → n ≡ length (of (rows_of (office_at x fs))) + 1
        → of new ≡ of (rows_of (office_at x fs)) ++ b ∷ []
        → Around P Q (in_blocks own fs) (in_blocks own (with_rows x new fs)) [] (block x n b)
    pushed_around b there last is =
        let old = of (rows_of (office_at x fs)) in
        within P Q (around_own there)
        (subst (λ bs. Around P Q (own x (rows_of (office_at x fs))) (blocks_from (block x) 1 bs) [] (block x n b))
        (sym is) (push_around (block x) P Q n lower higher 1 b old (omega (arith, last))))

  -- what only the rows of (x, n) may pass
  pub filter_own : (p : R → Bool) (x n : ℕ) → ((y m : ℕ) (b : B)
      → is_eq (ordering_then (nat_cmp x y) (nat_cmp n m)) ≡ false → AllByRecursion (λ s. p s ≡ false) (block y m b))
      → (fs : List Office) → Ascending fs → filter p (in_blocks own fs)
      ≡ filter p (block_of (block x) n (item_numbered (of (rows_of (office_at x fs))) n))
  filter_own p x n alone fs up =
      filter_office own p x (λ y rows other. all_from (block y) (λ s. p s ≡ false) 1 (of rows) (λ m b least. alone y m b
      (grind (arith, nat_tests, other)))) (ap (blocks_from (block x) 1) none) fs up
      ∙ filter_numbered (block x) p n (λ m b other. alone x m b (grind (arith, nat_tests, other)))
      (of (rows_of (office_at x fs)))
