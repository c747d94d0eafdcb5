-- What an update of a row under the same key makes of it.
use Rattle.std.proofs.Common.{◌≡◌, ℕ, ℤ, zero, suc, ◌+◌, ◌-◌, ◌≤◌, true, false, List, [], ◌∷◌, ◌++◌, map, length}
use Rattle.std.proofs.Common.{inl, inr, refl, sym, ap, ap₂, ◌∙◌, arith, is_eq, true≢false, Equal}
use Rattle.std.specs.List.{range_with_len}
use Rattle.std.proofs.lemmas.List.{map-append, length-map, append_assoc, length-append}
use Rattle.std.proofs.lemmas.Map.Lookups.{exact_signed, exact_bytes}
use Rattle.sqlite.specs.declared.types.Value.{Value}
use Rattle.sqlite.specs.declared.types.Value.TheVariants.{Int, Text as Words, Blob}
use Rattle.sqlite.specs.Order.{Row, column, value_cmp}
use Rattle.sqlite.specs.Rows.{shown}
use Rattle.sqlite.specs.Term.{Term, col, eval, eval_all}
use Rattle.sqlite_value.proofs.OrderLemmas.{value_cmp-Int, value_cmp-Text, value_cmp-Blob}
use Rattle.mf_store_sql.proofs.CompareLemmas.{both_equal, equal_is, tied_back}
use Rattle.mf_store_sql.specs.Columns.{Columns, sql_column, sql_table}
use Rattle.mf_store_sql.specs.Rows.{columns_cmp, ArePlain, IsPlainValue}
use Rattle.mf_store_sql.specs.Meanings.{columns_of, are_always}
use Rattle.mf_store_sql.proofs.ColumnLemmas.{columns_at, all_columns, reads_row, IsThere, is_there}
use Rattle.mf_store_sql.proofs.ColumnLemmas.{columns_split}

-- ---- the columns that `excluded` names

place_next : (v : Value) (at n : ℕ) (row : Row) → map (λ k. column (v ∷ row) (k + 1)) (range_with_len at n)
    ≡ columns_at at n row
place_next v at zero row = refl
place_next v at (suc n) row = ap₂ (λ w vs. w ∷ vs) (ap (column (v ∷ row)) next)
    (ap (λ k. map (λ j. column (v ∷ row) (j + 1)) (range_with_len k n)) next ∙ place_next v (suc at) n row)
  where
    next : at + 1 ≡ suc at
    next = omega arith

-- the row as an update is shown it
pub shown_is : (tree : ℕ) (t : Columns) (id : ℤ) (row : Row) → length row ≡ length t.columns
    → shown (sql_table tree t) (Int id ∷ row) ≡ Int id ∷ row
shown_is tree t id row many = ap (λ vs. Int id ∷ vs)
    (ap (λ n. map (λ k. column (Int id ∷ row) (k + 1)) (range_with_len 0 n))
    (length-map t.columns sql_column ∙ sym many)
    ∙ place_next (Int id) 0 (length row) row ∙ all_columns row)

-- ---- columns behind others

pub behind : (pre row : Row) (at : ℕ) → column (pre ++ row) (length pre + at) ≡ column row at
behind [] row at = ap (column row) (let e : 0 + at ≡ at = omega arith in e)
behind (v ∷ pre) row at = ap (column (v ∷ pre ++ row)) (let e : suc (length pre) + at ≡ suc (length pre + at) =
    omega arith in e) ∙ behind pre row at

pub reads_behind : (pre row : Row) (env : List Row) (at n : ℕ) → eval_all (columns_of 0 (length pre + at) n)
    ((pre ++ row) ∷ env) ≡ columns_at at n row
reads_behind pre row env at zero = refl
reads_behind pre row env at (suc n) = ap₂ (λ w vs. w ∷ vs) (behind pre row at)
    (ap (λ k. eval_all (columns_of 0 k n) ((pre ++ row) ∷ env)) (let e : suc (length pre + at) ≡ length pre + suc at =
    omega arith in e) ∙ reads_behind pre row env (suc at) n)

-- ---- the same key

-- an integer comes before a text, and both before bytes
int_text : (n : ℤ) (t : List ℕ) → is_eq (value_cmp (Int n) (Words t)) ≡ false
unfolding value_cmp
int_text n t = refl

int_bytes : (n : ℤ) (b : List ℕ) → is_eq (value_cmp (Int n) (Blob b)) ≡ false
unfolding value_cmp
int_bytes n b = refl

text_bytes : (t b : List ℕ) → is_eq (value_cmp (Words t) (Blob b)) ≡ false
unfolding value_cmp
text_bytes t b = refl

value_same : (v w : Value) → IsPlainValue v → IsPlainValue w → is_eq (value_cmp v w) ≡ true → w ≡ v
value_same v w p q h = go (is_there v p) (is_there w q)
  where
    equal : (a b : Value) → v ≡ a → w ≡ b → value_cmp a b ≡ Equal
    equal a b f g = sym (ap₂ value_cmp f g) ∙ equal_is _ h

    apart : (a b : Value) → v ≡ a → w ≡ b → is_eq (value_cmp a b) ≡ false → w ≡ v
    apart a b f g other = absurd (true≢false (sym h ∙ ap is_eq (ap₂ value_cmp f g) ∙ other))

    go : IsThere v → IsThere w → w ≡ v
    go (inl (m, f)) (inl (n, g)) = g ∙ sym (ap (λ k. Int k) (exact_signed m n (sym (value_cmp-Int m n)
        ∙ equal (Int m) (Int n) f g))) ∙ sym f
    go (inl (m, f)) (inr (inl (t, g))) = apart (Int m) (Words t) f g (int_text m t)
    go (inl (m, f)) (inr (inr (b, g))) = apart (Int m) (Blob b) f g (int_bytes m b)
    go (inr (inl (t, f))) (inl (n, g)) = apart (Words t) (Int n) f g (tied_back (Words t) (Int n) ∙ int_text n t)
    go (inr (inl (s, f))) (inr (inl (t, g))) = g ∙ sym (ap (λ k. Words k) (exact_bytes s t (sym (value_cmp-Text s t)
        ∙ equal (Words s) (Words t) f g))) ∙ sym f
    go (inr (inl (t, f))) (inr (inr (b, g))) = apart (Words t) (Blob b) f g (text_bytes t b)
    go (inr (inr (b, f))) (inl (n, g)) = apart (Blob b) (Int n) f g (tied_back (Blob b) (Int n) ∙ int_bytes n b)
    go (inr (inr (b, f))) (inr (inl (t, g))) = apart (Blob b) (Words t) f g (tied_back (Blob b) (Words t)
        ∙ text_bytes t b)
    go (inr (inr (a, f))) (inr (inr (b, g))) = g ∙ sym (ap (λ k. Blob k) (exact_bytes a b (sym (value_cmp-Blob a b)
        ∙ equal (Blob a) (Blob b) f g))) ∙ sym f

-- rows whose first columns are equal have the same values there
pub same_columns : (at n : ℕ) (x y : Row) → ArePlain at n x → ArePlain at n y → is_eq (columns_cmp at n x y) ≡ true
    → columns_at at n y ≡ columns_at at n x
same_columns at zero x y p q h = refl
same_columns at (suc n) x y p q h = let both = both_equal _ _ h in ap₂ (λ v vs. v ∷ vs)
    (value_same (column x at) (column y at) p.0 q.0 both.0) (same_columns (suc at) n x y p.1 q.1 both.1)

-- what the update makes of a row: its rowid twice, and the columns of the new one
pub updated : (tree : ℕ) (t : Columns) (id i : ℤ) (x y : Row) → are_always t.key t.columns ≡ true
    → length x ≡ length t.columns → t.key ≤ length t.columns → ArePlain 0 t.key x → ArePlain 0 t.key y
    → is_eq (columns_cmp 0 t.key x y) ≡ true
    → eval_all (col 1 0 ∷ col 1 0 ∷ columns_of 1 1 t.key ++ columns_of 0 (length t.columns + 2 + t.key)
    (length t.columns - t.key)) ((x ++ Int i ∷ shown (sql_table tree t) (Int id ∷ x)) ∷ (Int i ∷ y) ∷ [])
    ≡ Int i ∷ Int i ∷ x
updated tree t id i x y always many few p q h =
    let w = length t.columns in
    let k = t.key in
    let given = x ++ Int i ∷ shown (sql_table tree t) (Int id ∷ x) in
    let env = given ∷ (Int i ∷ y) ∷ [] in
    let pre = x ++ Int i ∷ Int id ∷ [] in
    let as_two : given ≡ pre ++ x = ap (λ r. x ++ Int i ∷ r) (shown_is tree t id x many) ∙ sym (append_assoc x (Int i
    ∷ Int id ∷ []) x) in
    let long : length pre ≡ w + 2 = length-append x (Int i ∷ Int id ∷ []) ∙ ap (λ n. n + 2) many in
    let first : eval_all (columns_of 1 1 k) env ≡ columns_at 0 k x = reads_row given i 0 k y
    ∙ same_columns 0 k x y p q h in
    let rest : eval_all (columns_of 0 (w + 2 + k) (w - k)) env ≡ columns_at k (w - k) x =
    ap₂ (λ g n. eval_all (columns_of 0 (n + k) (w - k)) (g ∷ (Int i ∷ y) ∷ [])) as_two (sym long)
    ∙ reads_behind pre x ((Int i ∷ y) ∷ []) k (w - k) in
    let both : eval_all (columns_of 1 1 k ++ columns_of 0 (w + 2 + k) (w - k)) env ≡ x =
    map-append (λ (e : Term). eval e env) (columns_of 1 1 k) (columns_of 0 (w + 2 + k) (w - k)) ∙ ap₂ ◌++◌ first rest
    ∙ ap (λ n. columns_at 0 k x ++ columns_at n (w - k) x) (let e : k ≡ 0 + k = omega arith in e)
    ∙ columns_split 0 k (w - k) x
    ∙ ap (λ n. columns_at 0 n x) (let e : k + (w - k) ≡ length x = omega (arith, few, many) in e)
    ∙ all_columns x in
    ap (λ vs. Int i ∷ Int i ∷ vs) both
