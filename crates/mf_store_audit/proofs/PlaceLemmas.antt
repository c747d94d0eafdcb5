-- Rows at their places, and rows that are looked up.
use Rattle.std.proofs.Common.{◌≡◌, ◌≢◌, ◌<◌, ◌≤◌, ◌+◌, ◌-◌, ◌∙◌, ◌==◌, ℕ, zero, suc, Bool, true, false, List, []}
use Rattle.std.proofs.Common.{◌∷◌, ◌++◌, length, get_or, Option, Some, None, refl, sym, ap, subst, arith, inl, inr}
use Rattle.std.specs.Prelude.{◌||◌, cond, slice_get}
use Rattle.std.specs.List.{list_any, Contains}
use Rattle.std.specs.Option.{IfSome}
use Rattle.sqlite_keyed.proofs.ListLemmas.{all-append}
use Rattle.std.proofs.Math.ListN.{take}
use Rattle.std.proofs.Math.Seq.{take-suc}
use Rattle.std.proofs.lemmas.Bool.Decides.{nat_tests}
use Rattle.std.proofs.lemmas.List.{append-nil, append_assoc, get_or_default, length-take-le}
use Rattle.std.proofs.lemmas.Option.{slice_get_read}
use Rattle.mf_store_audit.specs.Places.{row_before, IsOneOf, IsAt, IsFirst, AreFound, AreFoundIn, AreOfRows, told_at}

module _ {R : Type 0} where
  -- the row at a place is one of the rows
  pub contains_item : (rows : List R) (i : ℕ) (row : R) → i < length rows → row ≡ get_or rows i row → Contains rows row
  contains_item rows i row below is = (i, below, sym is)

  pub among_there : (rows : List R) (row : R) → IsOneOf rows row → Contains rows row
  among_there [] row x = elim x [ ]
  among_there (r ∷ rs) row (inl is) = (0, omega arith, is)
  among_there (r ∷ rs) row (inr later) =
      let at = among_there rs row later in
      (suc at.0, (let below : at.0 < length rs = at.1 in omega arith), at.2)

  -- a look-up that found nothing
  pub none_there : (p : R → Bool) (rows : List R) → ((row : R) → Contains rows row → false ≡ p row)
      → false ≡ list_any p rows
  none_there p [] none = refl
  none_there p (r ∷ rs) none =
      let here : false ≡ p r = none r (0, omega arith, refl) in
      let others : false ≡ list_any p rs =
      none_there p rs (λ row at. none row (suc at.0, (let below : at.0 < length rs = at.1 in omega arith), at.2)) in
      λ t. here t || others t

  -- what was said of each row before a place
  abbrev pub SaidTo : (R → Type 0) → List R → ℕ → Type 0
  SaidTo Says rows i = (k : ℕ) (d : R) → k < i → k < length rows → Says (get_or rows k d)

  pub said_more : (Says : R → Type 0) (rows : List R) (i : ℕ) (row : R) → row ≡ get_or rows i row → Says row
      → SaidTo Says rows i → SaidTo Says rows (i + 1)
  said_more Says rows i row is says so_far k d below inside = go (k == i) refl
    where
      go : (b : Bool) → (k == i) ≡ b → Says (get_or rows k d)
      go true e =
          let here : k ≡ i = grind (arith, nat_tests) in
          subst Says (is ∙ (λ t. get_or rows (sym here t) row) ∙ get_or_default rows k row d inside) says
      go false e = let apart : k ≢ i = grind (arith, nat_tests) in so_far k d (omega (arith, apart, below)) inside

  pub said_all : (Says : R → Type 0) (rows : List R) (i : ℕ) → length rows ≤ i → SaidTo Says rows i → (row : R)
      → Contains rows row → Says row
  said_all Says rows i all said row at = let below : at.0 < length rows =
      at.1 in subst Says at.2 (said at.0 row (omega arith) below)

-- ---- the first condition that a row breaks

module _ {A : Type 0} (Holds : A → Type 0) where
  -- it holds of one of the list, and of none before it
  pub first_is : (xs : List A) (i : ℕ) (a : A) → i < length xs → a ≡ get_or xs i a → Holds a
      → SaidTo (λ b. ¬ Holds b) xs i → IsFirst Holds xs (Some a)
  first_is [] i a inside is holds none = absurd (omega (arith, inside))
  first_is (b ∷ bs) zero a inside is holds none = inl (subst Holds is holds, ap Some is)
  first_is (b ∷ bs) (suc i) a inside is holds none =
      let below : i < length bs = omega (arith, inside) in
      inr (
        none 0 b (omega arith) (omega arith),
        first_is bs i a below is holds (λ k d low in_. none (suc k) d (omega (arith, low)) (omega (arith, in_))),
      )

  -- it holds of none of the list
  pub first_none : (xs : List A) (i : ℕ) → length xs ≤ i → SaidTo (λ b. ¬ Holds b) xs i → IsFirst Holds xs None
  first_none [] i past none = refl
  first_none (b ∷ bs) i past none =
      let more : length bs + 1 ≤ i = omega (arith, past) in
      inr (
        none 0 b (omega (arith, more)) (omega arith),
        first_none bs (length bs) (omega arith) (λ k d low in_. none (suc k) d (omega (arith, low, more)) (omega (
          arith,
          in_,
        ))),
      )

-- ---- what is found of rows

module _ {F R N : Type 0} (flaws : List F) (breaks : F → Option R → R → Type 0) (name : ℕ → F → N) where
  -- the last of rows behind another row
  abbrev pub last_of : Option R → List R → Option R
  last_of before [] = before
  last_of before (r ∷ rs) = last_of (Some r) rs

  row_added : (place : ℕ) (before : Option R) (rows : List R) (found : List N) (row : R) (first : Option F)
      → AreFound flaws breaks name place before rows found
      → IsFirst (λ flaw. breaks flaw (last_of before rows) row) flaws first
      → AreFound flaws breaks name place before (rows ++ row ∷ []) (found ++ told_at name (place + length rows) first)
  row_added place before [] found row first are is =
      let here : place + length {A = R} [] ≡ place = omega arith in (
        first,
        [],
        is,
        refl,
        (λ t. are t ++ told_at name (here t) first) ∙ sym (append-nil (told_at name place first)),
      )
  row_added place before (r ∷ rs) found row first are is =
      let there : place + length (r ∷ rs) ≡ place + 1 + length rs = omega arith in
      let told = told_at name (place + 1 + length rs) first in (
        are.0,
        are.1 ++ told,
        are.2,
        row_added (place + 1) (Some r) rs are.1 row first are.3 is,
        (λ t. are.4 t ++ told_at name (there t) first) ∙ append_assoc (told_at name place are.0) are.1 told,
      )

  -- the row before a place, behind another row
  before_at : Option R → List R → ℕ → Option R
  before_at before rows zero = before
  before_at before rows (suc k) = slice_get rows k

  before_is : (rows : List R) (place : ℕ) → row_before rows place ≡ before_at None rows place
  unfolding before_at
  before_is rows zero = refl
  before_is rows (suc k) =
      let later : (suc k == 0) ≡ false = grind (arith, nat_tests) in
      let at : suc k - 1 ≡ k = omega arith in
      λ t. cond (later t) None (slice_get rows (at t))

  last_taken : (before : Option R) (rows : List R) (k : ℕ) → k ≤ length rows
      → before_at before rows k ≡ last_of before (take k rows)
  unfolding before_at
  last_taken before rows zero inside = refl
  last_taken before [] (suc k) inside = absurd (omega (arith, inside))
  last_taken before (r ∷ rs) (suc zero) inside = refl
  last_taken before (r ∷ rs) (suc (suc k)) inside = last_taken (Some r) rs (suc k) (omega (arith, inside))

  -- one row more
  table_more : (rows : List R) (place : ℕ) (row : R) (before : Option R) (found : List N) (first : Option F)
      → place < length rows → row ≡ get_or rows place row → before ≡ row_before rows place
      → IsFirst (λ flaw. breaks flaw before row) flaws first
      → AreFoundIn flaws breaks name (take place rows) found
      → AreFoundIn flaws breaks name (take (place + 1) rows) (found ++ told_at name place first)
  table_more rows place row before found first inside is last firsts are =
      let one : place + 1 ≡ suc place = omega arith in
      let low : place ≤ length rows = omega (arith, inside) in
      let long : length (take place rows) ≡ place = length-take-le place rows low in
      let at : 0 + length (take place rows) ≡ place = omega (arith, long) in
      let ends : take (place + 1) rows ≡ take place rows ++ row ∷ [] = (λ t. take (one t) rows)
      ∙ take-suc rows place row inside ∙ (λ t. take place rows ++ sym is t ∷ []) in
      let told : before ≡ last_of None (take place rows) = last ∙ before_is rows place ∙ last_taken None rows
      place low in
      let more = row_added 0 None (take place rows) found row first are
      (subst (λ (o : Option R). IsFirst (λ flaw. breaks flaw o row) flaws first) told firsts) in
      subst (λ (l : List R). AreFoundIn flaws breaks name l (found ++ told_at name place first)) (sym ends)
      (subst (λ (k : ℕ). AreFoundIn flaws breaks name (take place rows ++ row ∷ []) (found ++ told_at name k first)) at
      more)

  -- what was added to a list while the rows before a place were gone over
  abbrev pub AreAdded : Type 0 → Bool → List R → List N → List N → ℕ → Type 0
  AreAdded InOrder all rows start items place =
      (found : List N) × (items ≡ start ++ found) × AreOfRows breaks name rows found
      × (all ≡ true → InOrder → AreFoundIn flaws breaks name (take place rows) found)
      × (all ≡ false → (found ≡ []) × (start ≡ []))

  pub one_more : (InOrder : Type 0) (all : Bool) (rows : List R) (start items more : List N) (place : ℕ) (row : R)
      (before : Option R) (first : Option F) → place < length rows → row ≡ get_or rows place row
      → before ≡ row_before rows place → IfSome first (λ flaw. breaks flaw before row)
      → (InOrder → IsFirst (λ flaw. breaks flaw before row) flaws first) → (all ≡ false → first ≡ None)
      → more ≡ items ++ told_at name place first
      → AreAdded InOrder all rows start items place → AreAdded InOrder all rows start more (place + 1)
  one_more InOrder all rows start items more place row before first inside is last broken firsts none more_is
      (found, items_are, of_rows, are, not_all) = (
        found ++ told_at name place first,
        more_is ∙ (λ t. items_are t ++ told_at name place first) ∙ append_assoc start found (told_at name place first),
        all-append (λ n. (k : ℕ) × (flaw : F) × (n ≡ name k flaw) × IsAt (breaks flaw) k rows) found
            (told_at name place first) of_rows (told first broken),
        λ whole order. table_more rows place row before found first inside is last (firsts order) (are whole order),
        λ one. let its = not_all one in ((λ t. its.0 t ++ told_at name place (none one t)), its.1),
      )
    where
      told : (o : Option F) → IfSome o (λ flaw. breaks flaw before row) → AreOfRows breaks name rows
          (told_at name place o)
      told None b = tt
      told (Some flaw) b = (
        (
          place,
          flaw,
          refl,
          record {
            row = row;
            at = slice_get_read rows (length rows) place row refl inside is;
            holds = subst (λ (o : Option R). breaks flaw o row) last b;
          },
        ),
        tt,
      )

  -- nothing was added before the first row
  pub none_yet : (InOrder : Type 0) (all : Bool) (rows : List R) (start : List N) → (all ≡ false → start ≡ [])
      → AreAdded InOrder all rows start start zero
  none_yet InOrder all rows start no_others =
      ([], sym (append-nil start), tt, λ whole order. refl, λ one. (refl, no_others one))
