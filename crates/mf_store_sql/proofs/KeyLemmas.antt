-- What SQL's comparisons make of keys.
use Rattle.std.proofs.Common.{◌≡◌, ℕ, ℤ, zero, suc, false, List, [], ◌∷◌, map, refl, ap, ◌∙◌, Equal, is_eq}
use Rattle.std.specs.Ordering.{ordering_then}
use Rattle.std.specs.Cmp.{IsTotalOrder}
use Rattle.std.specs.List.{list_all}
use Rattle.std.proofs.lemmas.Cmp.{on_total, then_total}
use Rattle.sqlite.specs.declared.types.Value.{Value}
use Rattle.sqlite.specs.declared.types.Value.TheVariants.{Int}
use Rattle.sqlite.specs.Order.{Row, column, value_cmp}
use Rattle.sqlite.specs.Term.{holds, eval_all}
use Rattle.sqlite.specs.Query.{key_cmp}
use Rattle.sqlite.specs.Ops.{binary, is_true}
use Rattle.sqlite.specs.Collation.TheVariants.{Binary}
use Rattle.sqlite_sql.specs.Ops.{is_null}
use Rattle.sqlite_sql.specs.declared.ops.BinaryOp.TheVariants.{Compare}
use Rattle.sqlite_sql.specs.declared.ops.CompareOp.TheVariants.{Eq}
use Rattle.sqlite_schema.specs.Rules.{agree}
use Rattle.sqlite_value.specs.declared.keys.Key.{Key}
use Rattle.sqlite_value.specs.Keys.{first_key}
use Rattle.sqlite_value.proofs.OrderLemmas.{value_cmp_total}
use Rattle.mf_store_sql.proofs.CompareLemmas.{truth_back, tied_back, key_step}
use Rattle.mf_store_sql.specs.Columns.{upwards}
use Rattle.mf_store_sql.specs.Rows.{columns_cmp, ArePlain}
use Rattle.mf_store_sql.specs.Meanings.{tests_from, order_from}
use Rattle.mf_store_sql.proofs.ColumnLemmas.{columns_at, not_null}

-- ---- the order of keys is one

equal_total : IsTotalOrder (λ (a b : Row). Equal)
equal_total = record { antisymm = λ x y. refl; trans = λ x y z h k. h; congr = λ x y z h. refl }

pub columns_total : (at n : ℕ) → IsTotalOrder (columns_cmp at n)
columns_total at zero = equal_total
columns_total at (suc n) = then_total (on_total (λ (r : Row). column r at) value_cmp_total) (columns_total (suc at) n)

-- ---- equality of values that are there

-- with the sides as a row and a parameter stand
pub equals_back : (a b : Value) → is_null a ≡ false → is_null b ≡ false
    → is_true (binary (Compare Eq Binary) a b) ≡ is_eq (value_cmp b a)
unfolding binary
equals_back a b h k = rw (h, k) (truth_back _ ∙ tied_back a b)

-- ---- the tests of a query

pub tested : (at n : ℕ) (params row : Row) (id : ℤ) → ArePlain at n params → ArePlain at n row
    → list_all (holds (params ∷ (Int id ∷ row) ∷ [])) (tests_from at n) ≡ is_eq (columns_cmp at n params row)
tested at zero params row id p r = refl
tested at (suc n) params row id p r = key_step _ _ _ _ (equals_back (column row at) (column params at)
    (not_null _ r.0) (not_null _ p.0)) (tested (suc at) n params row id p.1 r.1)

-- ---- the order of a query

keys_later : (ks : List Key) (at : ℕ) (v w : Value) (a b : Row) → key_cmp (suc at) ks (v ∷ a) (w ∷ b)
    ≡ key_cmp at ks a b
keys_later [] at v w a b = refl
keys_later (k ∷ ks) at v w a b = ap (ordering_then _) (keys_later ks (suc at) v w a b)

pub sorted_by : (at n : ℕ) (a b : Row)
    → key_cmp 0 (map (λ k. k.1) (order_from at n)) (columns_at at n a) (columns_at at n b)
    ≡ columns_cmp at n a b
sorted_by at zero a b = refl
sorted_by at (suc n) a b = ap (ordering_then (value_cmp (column a at) (column b at)))
    (keys_later (map (λ k. k.1) (order_from (suc at) n)) 0 _ _ _ _ ∙ sorted_by (suc at) n a b)

pub sorts : (params : Row) (id : ℤ) (at n : ℕ) (row : Row)
    → eval_all (map (λ k. k.0) (order_from at n)) (params ∷ (Int id
    ∷ row) ∷ []) ≡ columns_at at n row
sorts params id at zero row = refl
sorts params id at (suc n) row = ap (λ vs. column row at ∷ vs) (sorts params id (suc at) n row)

-- ---- the key of an index

pub agrees : (at n : ℕ) (id i : ℤ) (new row : Row) → ArePlain at n new → ArePlain at n row
    → agree (record { digits = 0 }) (upwards (suc at) n) (Int i ∷ row) (upwards (suc at) n) (Int id ∷ new)
    ≡ is_eq (columns_cmp at n new row)
unfolding first_key
agrees at zero id i new row p r = refl
agrees at (suc n) id i new row p r = key_step _ _ _ _ (equals_back (column row at) (column new at)
    (not_null _ r.0) (not_null _ p.0)) (agrees (suc at) n id i new row p.1 r.1)
