-- Columns of a row, by their places, as terms read them.
use Rattle.std.proofs.Common.{◌≡◌, ℕ, ℤ, zero, suc, ◌+◌, ◌≤◌, Bool, true, false, List, [], ◌∷◌, ◌++◌, map, length, refl}
use Rattle.std.proofs.Common.{sym, ap, ap₂, ◌∙◌, arith, true≢false, cond, pos, None, Some, ◌⊎◌, inl, inr}
use Rattle.sqlite.specs.declared.types.Value.{Value}
use Rattle.sqlite.specs.declared.types.Value.TheVariants.{Int, Text as Words, Blob}
use Rattle.sqlite.specs.Order.{Row, column}
use Rattle.sqlite.specs.Term.{eval_all}
use Rattle.sqlite_sql.specs.Ops.{is_null}
use Rattle.sqlite.specs.Kind.TheVariants as kind
use Rattle.mf_store_sql.proofs.CompareLemmas.{cast_int, cast_null}
use Rattle.sqlite.specs.Cast.{cast}
use Rattle.sqlite_rules.specs.Cast.{cast_all}
use Rattle.mf_store_sql.specs.Columns.{Field, Number, Amount, Text, Bytes, MaybeNumber, MaybeText, Named}
use Rattle.mf_store_sql.specs.Columns.{sql_column, sql_kind, is_always}
use Rattle.mf_store_sql.specs.Rows.{IsKeepable, AreKeepable, IsPlainValue, ArePlain}
use Rattle.mf_store_sql.specs.Meanings.{columns_of, are_always}

-- so many columns of a row, from this one on
abbrev pub columns_at : ℕ → ℕ → Row → Row
columns_at at zero row = []
columns_at at (suc n) row = column row at ∷ columns_at (suc at) n row

pub columns_later : (at n : ℕ) (v : Value) (row : Row) → columns_at (suc at) n (v ∷ row) ≡ columns_at at n row
columns_later at zero v row = refl
columns_later at (suc n) v row = ap (λ vs. column row at ∷ vs) (columns_later (suc at) n v row)

-- all columns are the row
pub all_columns : (row : Row) → columns_at 0 (length row) row ≡ row
all_columns [] = refl
all_columns (v ∷ row) = ap (λ vs. v ∷ vs) (columns_later 0 (length row) v row ∙ all_columns row)

-- what terms read of the parameters
pub reads_parameters : (env : List Row) (at n : ℕ) (row : Row) → eval_all (columns_of 0 at n) (row ∷ env)
    ≡ columns_at at n row
reads_parameters env at zero row = refl
reads_parameters env at (suc n) row = ap (λ vs. column row at ∷ vs) (reads_parameters env (suc at) n row)

-- columns, and those that follow
pub columns_split : (at n m : ℕ) (row : Row) → columns_at at n row ++ columns_at (at + n) m row
    ≡ columns_at at (n + m) row
columns_split at zero m row = ap₂ (λ k j. columns_at k j row) (let e : at + 0 ≡ at = omega arith in e)
    (let e : m ≡ 0 + m = omega arith in e)
columns_split at (suc n) m row = ap (λ vs. column row at ∷ vs)
    (ap (λ k. columns_at (suc at) n row ++ columns_at k m row) (let e : at + suc n ≡ suc at + n = omega arith in e)
    ∙ columns_split (suc at) n m row)
    ∙ ap (λ k. columns_at at k row) (let e : suc (n + m) ≡ suc n + m = omega arith in e)

-- what terms read of a row of the table, its rowid before it
pub reads_row : (params : Row) (id : ℤ) (at n : ℕ) (row : Row) → eval_all (columns_of 1 (suc at) n) (params ∷ (Int id
    ∷ row) ∷ []) ≡ columns_at at n row
reads_row params id at zero row = refl
reads_row params id at (suc n) row = ap (λ vs. column row at ∷ vs) (reads_row params id (suc at) n row)

-- ---- fields

pub as_many : (cs : List Named) (row : Row) → AreKeepable cs row → length row ≡ length cs
as_many [] [] fit = refl
as_many [] (v ∷ vs) fit = absurd fit
as_many (c ∷ cs) [] fit = absurd fit
as_many (c ∷ cs) (v ∷ vs) fit = ap suc (as_many cs vs fit.1)

kept : (f : Field) (v : Value) → IsKeepable f v → cast (sql_kind f) v ≡ v
kept Number v (n, is) = ap (cast kind.Integer) is ∙ cast_int _ ∙ sym is
kept Amount v (n, is) = ap (cast kind.Integer) is ∙ cast_int n ∙ sym is
kept Text v (t, is) = ap (cast kind.Text) is ∙ sym is
kept Bytes v fit = refl
kept MaybeNumber v (None, is) = ap (cast kind.Integer) is ∙ cast_null ∙ sym is
kept MaybeNumber v (Some n, is) = ap (cast kind.Integer) is ∙ cast_int _ ∙ sym is
kept MaybeText v (None, is) = ap (cast kind.Text) is ∙ sym is
kept MaybeText v (Some t, is) = ap (cast kind.Text) is ∙ sym is

-- each column keeps its field as it is
pub all_kept : (cs : List Named) (row : Row) → AreKeepable cs row → cast_all (map sql_column cs) row ≡ row
all_kept [] row fit = refl
all_kept (c ∷ cs) [] fit = refl
all_kept (c ∷ cs) (v ∷ vs) fit = ap₂ ◌∷◌ (kept c.field v fit.0) (all_kept cs vs fit.1)

plain_later : (at n : ℕ) (v : Value) (row : Row) → ArePlain at n row → ArePlain (suc at) n (v ∷ row)
plain_later at zero v row h = tt
plain_later at (suc n) v row h = (h.0, plain_later (suc at) n v row h.1)

both_on : (b c : Bool) → cond b c false ≡ true → (b ≡ true) × (c ≡ true)
both_on true c h = (refl, h)
both_on false c h = absurd (true≢false (sym h))

pub few_always : (n : ℕ) (cs : List Named) → are_always n cs ≡ true → n ≤ length cs
few_always zero cs h = omega arith
few_always (suc n) [] h = absurd (true≢false (sym h))
few_always (suc n) (c ∷ cs) h = let l = few_always n cs (both_on (is_always c.field) _ h).1 in omega (arith, l)

pub are_plain : (n : ℕ) (cs : List Named) (row : Row) → are_always n cs ≡ true → AreKeepable cs row → ArePlain 0 n row
are_plain zero cs row h fit = tt
are_plain (suc n) [] row h fit = absurd (true≢false (sym h))
are_plain (suc n) (c ∷ cs) [] h fit = absurd fit
are_plain (suc n) (c ∷ cs) (v ∷ vs) h fit = let both = both_on (is_always c.field) _ h in
    ((c.field, both.0, fit.0), plain_later 0 n v vs (are_plain n cs vs both.1 fit.1))

-- what a value that is always there is: an integer, a text or bytes
abbrev pub IsThere : Value → Type 0
IsThere v = ((n : ℤ) × (v ≡ Int n)) ⊎ (((t : List ℕ) × (v ≡ Words t)) ⊎ ((b : List ℕ) × (v ≡ Blob b)))

pub is_there : (v : Value) → IsPlainValue v → IsThere v
is_there v (Number, a, fit) = inl (pos fit.0, fit.1)
is_there v (Amount, a, fit) = inl fit
is_there v (Text, a, fit) = inr (inl fit)
is_there v (Bytes, a, fit) = inr (inr fit)
is_there v (MaybeNumber, a, fit) = absurd (true≢false (sym a))
is_there v (MaybeText, a, fit) = absurd (true≢false (sym a))

pub not_null : (v : Value) → IsPlainValue v → is_null v ≡ false
not_null v h = go (is_there v h)
  where
    go : IsThere v → is_null v ≡ false
    go (inl number) = ap is_null number.1
    go (inr (inl text)) = ap is_null text.1
    go (inr (inr bytes)) = ap is_null bytes.1
