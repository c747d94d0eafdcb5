-- A path walked over the rows of a router: through words, and past a part that a parameter takes.
use Rattle.std.proofs.Common.{◌≡◌, ◌≢◌, ℕ, zero, suc, ◌+◌, ◌-◌, ◌<◌, Bool, true, false, cond, List, [], ◌∷◌}
use Rattle.std.proofs.Common.{◌++◌, length, length-append, drop, Option, Some, None, refl, sym, ap, ap₂, ◌∙◌, arith}
use Rattle.std.specs.Prelude.{◌==◌, ◌&&◌, ltb, nat_eq}
use Rattle.std.specs.Cmp.Lexicographic.{pointwise}
use Rattle.std.specs.List.{list_all, list_any}
use Rattle.std.proofs.Math.Seq.{drop-append_seam}
use Rattle.std.proofs.lemmas.Bool.{and_parts, lt-ltb, ne_eqb}
use Rattle.std.proofs.lemmas.Bool.Decides.{nat_tests}
use Rattle.matchit.specs.Rows.{RowsOf, param_token, catch_all_token}
use Rattle.matchit.specs.Seek.{segment, has_slash, cuts, better, own, step, or_else, longest_from, longest_suffix}
use Rattle.matchit.specs.Seek.{with_suffix, param_step, seek}
use Rattle.mf_journal_runs.proofs.Figures.{AreFigures}

-- tokens that end here, or go on with a parameter; with a slash; or go on at all
abbrev pub begins_param : List ℕ → Bool
begins_param [] = true
begins_param (x ∷ t) = x == param_token

abbrev pub ends_or_slash : List ℕ → Bool
ends_or_slash [] = true
ends_or_slash (x ∷ t) = x == 47

abbrev pub has_more : List ℕ → Bool
has_more [] = false
has_more (x ∷ t) = true

same_number : (x y : ℕ) → (x == y) ≡ true → x ≡ y
same_number x y h = grind (arith, nat_tests)

apart : (x b : ℕ) → (x == param_token) ≡ true → b ≢ param_token → (x == b) ≡ false
apart x b h other = let same = same_number x param_token h in ne_eqb x b (λ e. other (sym e ∙ same))

-- a part of a path goes up to the slash after it
pub segment_is : (seg rest : List ℕ) → AreFigures seg → segment (seg ++ 47 ∷ rest) ≡ seg ++ 47 ∷ []
segment_is [] rest h = refl
segment_is (x ∷ xs) rest h =
    ap (λ b. cond b (x ∷ []) (x ∷ segment (xs ++ 47 ∷ rest))) (ne_eqb x 47 h.0.other)
    ∙ ap (λ s. x ∷ s) (segment_is xs rest h.1)

cuts_slash : (seg : List ℕ) → 0 < length seg → cuts (seg ++ 47 ∷ []) (47 ∷ []) ≡ true
cuts_slash seg some =
    let whole = seg ++ 47 ∷ [] in
    let count : length whole ≡ length seg + 1 = length-append seg (47 ∷ []) in
    let before : length whole - 1 ≡ length seg = omega arith in
    ap₂ (λ a b. a && b) (lt-ltb 1 (length whole) (omega arith))
    (ap (λ n. pointwise nat_eq (47 ∷ []) (drop n whole)) before
    ∙ ap (pointwise nat_eq (47 ∷ [])) (drop-append_seam seg (47 ∷ [])))

-- how much a parameter takes, and the rows that go on after it
abbrev ParamStep : Type 0 → Type 0
ParamStep K = ℕ × RowsOf K

module _ {K : Type 0} where
  -- no rows lead nowhere
  none_left : (path : List ℕ) → (param_step {K = K} [] path).1 ≡ []
  unfolding param_step
  none_left path = either (has_slash path)
    where
      all : ParamStep K
      all = (length path, [])

      none : ParamStep K
      none = (0, [])

      either : (b : Bool) → (cond b none all).1 ≡ []
      either true = refl
      either false = refl

  pub seek_none : (skip : ℕ) (path : List ℕ) → seek {K = K} skip [] path ≡ None
  unfolding seek
  seek_none skip [] = refl
  seek_none (suc skip) (b ∷ path) = seek_none skip path
  seek_none zero (b ∷ path) =
      ap (λ o. or_else o (or_else (seek {K = K} ((param_step {K = K} [] (b ∷ path)).0 - 1)
      (param_step {K = K} [] (b ∷ path)).1 path) None)) (seek_none 0 path)
      ∙ ap (λ o. or_else o None) (ap (λ rs. seek {K = K} ((param_step {K = K} [] (b ∷ path)).0 - 1) rs path)
      (none_left (b ∷ path)) ∙ seek_none ((param_step {K = K} [] (b ∷ path)).0 - 1) path)

  pub seek_skips : (skip : ℕ) (rs : RowsOf K) (path : List ℕ) → seek skip rs path ≡ seek 0 rs (drop skip path)
  unfolding seek
  seek_skips zero rs path = refl
  seek_skips (suc skip) rs [] = refl
  seek_skips (suc skip) rs (b ∷ path) = seek_skips skip rs path

  or_nothing : (o : Option K) → or_else o None ≡ o
  or_nothing None = refl
  or_nothing (Some k) = refl

  -- where no row begins with a parameter, a byte of a word
  pub seek_word : (rs : RowsOf K) (b : ℕ) (path : List ℕ) → step param_token rs ≡ [] → step catch_all_token rs ≡ []
      → seek 0 rs (b ∷ path) ≡ seek 0 (step b rs) path
  unfolding seek
  seek_word rs b path no_param no_rest =
      ap (λ ps. or_else (seek 0 (step b rs) path) (or_else (seek ((param_step ps (b ∷ path)).0 - 1)
      (param_step ps (b ∷ path)).1 path) (own (step catch_all_token rs)))) no_param
      ∙ ap (λ rest. or_else (seek 0 (step b rs) path) (or_else (seek ((param_step {K = K} [] (b ∷ path)).0 - 1)
      (param_step {K = K} [] (b ∷ path)).1 path) (own rest))) no_rest
      ∙ ap (λ o. or_else (seek 0 (step b rs) path) (or_else o None))
      (ap (λ rest. seek {K = K} ((param_step {K = K} [] (b ∷ path)).0 - 1) rest path) (none_left (b ∷ path))
      ∙ seek_none ((param_step {K = K} [] (b ∷ path)).0 - 1) path)
      ∙ or_nothing (seek 0 (step b rs) path)

  -- the rows that go on after a word
  abbrev pub down : List ℕ → RowsOf K → RowsOf K
  down [] rs = rs
  down (b ∷ word) rs = down word (step b rs)

  abbrev pub is_nothing : RowsOf K → Bool
  is_nothing [] = true
  is_nothing (row ∷ rest) = false

  -- no parameter may stand within the word
  abbrev pub has_no_params : List ℕ → RowsOf K → Bool
  has_no_params [] rs = true
  has_no_params (b ∷ word) rs = is_nothing (step param_token rs) && (is_nothing (step catch_all_token rs)
      && has_no_params word (step b rs))

  pub nothing_is : (rs : RowsOf K) → is_nothing rs ≡ true → rs ≡ []
  nothing_is [] h = refl
  nothing_is (row ∷ rest) h = absurd (cc)

  pub seek_words : (word : List ℕ) (rs : RowsOf K) (path : List ℕ) → has_no_params word rs ≡ true
      → seek 0 rs (word ++ path) ≡ seek 0 (down word rs) path
  seek_words [] rs path h = refl
  seek_words (b ∷ word) rs path h =
      let first = and_parts (is_nothing (step param_token rs)) _ h in
      let second = and_parts (is_nothing (step catch_all_token rs)) (has_no_params word (step b rs)) first.1 in
      seek_word rs b (word ++ path) (nothing_is (step param_token rs) first.0)
      (nothing_is (step catch_all_token rs) second.0) ∙ seek_words word (step b rs) path second.1

  -- where no row begins with the byte, a parameter takes it
  pub seek_part : (rs : RowsOf K) (b : ℕ) (path : List ℕ) → step b rs ≡ [] → step catch_all_token rs ≡ []
      → seek 0 rs (b ∷ path) ≡ seek ((param_step (step param_token rs) (b ∷ path)).0 - 1)
      (param_step (step param_token rs) (b ∷ path)).1 path
  unfolding seek
  seek_part rs b path no_word no_rest =
      ap (λ ws. or_else (seek 0 ws path) (or_else (seek ((param_step (step param_token rs) (b ∷ path)).0 - 1)
      (param_step (step param_token rs) (b ∷ path)).1 path) (own (step catch_all_token rs)))) no_word
      ∙ ap (λ o. or_else o (or_else (seek ((param_step (step param_token rs) (b ∷ path)).0 - 1)
      (param_step (step param_token rs) (b ∷ path)).1 path) (own (step catch_all_token rs)))) (seek_none 0 path)
      ∙ ap (λ rest. or_else (seek ((param_step (step param_token rs) (b ∷ path)).0 - 1)
      (param_step (step param_token rs) (b ∷ path)).1 path) (own rest)) no_rest
      ∙ or_nothing (seek ((param_step (step param_token rs) (b ∷ path)).0 - 1)
      (param_step (step param_token rs) (b ∷ path)).1 path)

  -- a byte with which no row goes on, since each goes on with a parameter or ends
  pub step_other : (b : ℕ) (rs : RowsOf K) → b ≢ param_token → list_all (λ row. begins_param row.0) rs ≡ true
      → step b rs ≡ []
  step_other b [] other h = refl
  step_other b (([], k) ∷ rest) other h = step_other b rest other h
  step_other b ((x ∷ t, k) ∷ rest) other h =
      let parts = and_parts (x == param_token) (list_all (λ row. begins_param row.0) rest) h in
      ap (λ v. cond v ((t, k) ∷ step b rest) (step b rest)) (apart x b parts.0 other) ∙ step_other b rest other parts.1

  -- of rows that end or go on with a slash, the longest ending of a part and its slash is the slash
  slash_stays : (seg : List ℕ) (rs : RowsOf K) → list_all (λ row. ends_or_slash row.0) rs ≡ true
      → longest_from seg (47 ∷ []) rs ≡ 47 ∷ []
  slash_stays seg [] h = refl
  slash_stays seg (([], k) ∷ rest) h = slash_stays seg rest h
  slash_stays seg ((x ∷ t, k) ∷ rest) h =
      let parts = and_parts (x == 47) (list_all (λ row. ends_or_slash row.0) rest) h in
      ap (λ b. longest_from seg (better seg (47 ∷ []) (cond b (x ∷ []) (x ∷ segment t))) rest) parts.0
      ∙ slash_stays seg rest parts.1

  slash_found : (seg : List ℕ) (rs : RowsOf K) → cuts seg (47 ∷ []) ≡ true
      → list_all (λ row. ends_or_slash row.0) rs ≡ true → list_any (λ row. has_more row.0) rs ≡ true
      → longest_suffix seg rs ≡ 47 ∷ []
  slash_found seg [] c h some = absurd (cc)
  slash_found seg (([], k) ∷ rest) c h some = slash_found seg rest c h some
  slash_found seg ((x ∷ t, k) ∷ rest) c h some =
      let parts = and_parts (x == 47) (list_all (λ row. ends_or_slash row.0) rest) h in
      ap (λ b. longest_from seg (better seg [] (cond b (x ∷ []) (x ∷ segment t))) rest) parts.0
      ∙ ap (λ y. longest_from seg (better seg [] (y ∷ [])) rest) (same_number x 47 parts.0)
      ∙ ap (λ b. longest_from seg (cond b (47 ∷ []) []) rest) c
      ∙ slash_stays seg rest parts.1

  -- a parameter takes a part up to its slash, and the rows go on that go on with a slash
  pub param_takes : (rs : RowsOf K) (seg rest : List ℕ) → AreFigures seg → 0 < length seg
      → list_all (λ row. ends_or_slash row.0) rs ≡ true → list_any (λ row. has_more row.0) rs ≡ true
      → param_step rs (seg ++ 47 ∷ rest) ≡ (length seg, with_suffix (47 ∷ []) rs)
  unfolding param_step
  param_takes rs seg rest figures some h more =
      let path = seg ++ 47 ∷ rest in
      let whole = seg ++ 47 ∷ [] in
      let count : length whole - 1 ≡ length seg = omega (arith, length-append seg (47 ∷ [])) in
      ap (λ s. taken path s (longest_suffix s rs)) (segment_is seg rest figures)
      ∙ ap (taken path whole) (slash_found whole rs (cuts_slash seg some) h more)
      ∙ ap (λ (n : ℕ). let p : ParamStep K = (n, with_suffix (47 ∷ []) rs) in p) count
    where
      taken : List ℕ → List ℕ → List ℕ → ParamStep K
      taken path s longest = cond (ltb 0 (length longest)) (length s - length longest, with_suffix longest rs)
          (cond (has_slash path) (0, []) (length path, rs))

  -- so the path goes on after the part
  pub seek_past : (rs : RowsOf K) (x : ℕ) (xs rest : List ℕ) → AreFigures (x ∷ xs)
      → list_all (λ row. begins_param row.0) rs ≡ true → step catch_all_token rs ≡ []
      → list_all (λ row. ends_or_slash row.0) (step param_token rs) ≡ true
      → list_any (λ row. has_more row.0) (step param_token rs) ≡ true
      → seek 0 rs ((x ∷ xs) ++ 47 ∷ rest) ≡ seek 0 (with_suffix (47 ∷ []) (step param_token rs)) (47 ∷ rest)
  seek_past rs x xs rest figures params no_rest h more =
      let below = figures.0.below in
      let other : x ≢ param_token = λ e. omega arith in
      let some : 0 < length (x ∷ xs) = omega arith in
      let one : length (x ∷ xs) - 1 ≡ length xs = omega arith in
      seek_part rs x (xs ++ 47 ∷ rest) (step_other x rs other params) no_rest
      ∙ ap (λ (p : ParamStep K). seek (p.0 - 1) p.1 (xs ++ 47 ∷ rest))
      (param_takes (step param_token rs) (x ∷ xs) rest figures some h more)
      ∙ ap (λ n. seek n (with_suffix (47 ∷ []) (step param_token rs)) (xs ++ 47 ∷ rest)) one
      ∙ seek_skips (length xs) (with_suffix (47 ∷ []) (step param_token rs)) (xs ++ 47 ∷ rest)
      ∙ ap (seek 0 (with_suffix (47 ∷ []) (step param_token rs))) (drop-append_seam xs (47 ∷ rest))
