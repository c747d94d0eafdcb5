-- SQL's comparisons and casts of the values that items are stored as.
use Rattle.std.proofs.Common.{◌≡◌, ℕ, ℤ, pos, Bool, true, false, ◌&&◌, ◌||◌, cond, List, refl, sym, ap, ap₂, ◌∙◌, arith}
use Rattle.std.proofs.Common.{Ordering, Less, Equal, Greater, is_eq, is_ge, is_lt, is_gt, nat_cmp, true≢false, Option}
use Rattle.std.proofs.Common.{None, Some}
use Rattle.std.specs.Ordering.{ordering_then, ordering_reverse}
use Rattle.std.proofs.lemmas.Bool.{and_parts}
use Rattle.std.proofs.lemmas.Bool.Decides.{nat_tests}
use Rattle.std.proofs.lemmas.Int.{ints}
use Rattle.sqlite.specs.Cast.{cast}
use Rattle.sqlite.specs.Ops.{unary, binary, is_true, from_truth}
use Rattle.sqlite.specs.Kind.TheVariants as kind
use Rattle.sqlite.specs.Values.{bound_value}
use Rattle.sqlite.specs.Values as sql
use Rattle.sqlite.specs.declared.types.Value.{Value}
use Rattle.sqlite.specs.declared.types.Value.TheVariants.{Null, Int, Text}
use Rattle.sqlite.specs.Order.{value_cmp}
use Rattle.sqlite.specs.Collation.TheVariants.{Binary}
use Rattle.sqlite_sql.specs.declared.ops.BinaryOp.TheVariants.{Compare}
use Rattle.sqlite_sql.specs.declared.ops.CompareOp.TheVariants.{Eq, Lt, Ge, Gt}
use Rattle.sqlite_value.proofs.OrderLemmas.{value_cmp-Int, value_cmp-Text, value_cmp_total}
use Rattle.std.specs.Cmp.Lexicographic.{slice_cmp}
use Rattle.mf_store_sql.specs.Keep.{same_id}
use Rattle.mf_store_sql.specs.Values.{or_null}

pub truth_back : (b : Bool) → is_true (from_truth (Some b)) ≡ b
truth_back true = refl
truth_back false = refl

pub int_cmp-pos : (a b : ℕ) → value_cmp (Int (pos a)) (Int (pos b)) ≡ nat_cmp a b
int_cmp-pos a b = value_cmp-Int (pos a) (pos b) ∙ grind (arith, ints, nat_tests)

pub equals : (a b : ℕ) → is_true (binary (Compare Eq Binary) (Int (pos a)) (Int (pos b))) ≡ is_eq (nat_cmp a b)
unfolding binary
equals a b = truth_back _ ∙ ap is_eq (int_cmp-pos a b)

pub equals_id : (a b : ℤ) → is_true (binary (Compare Eq Binary) (Int a) (Int b)) ≡ same_id a b
unfolding binary
equals_id a b = truth_back _

pub at_least_text : (a b : List ℕ) → is_true (binary (Compare Ge Binary) (Text a) (Text b))
    ≡ is_ge (slice_cmp nat_cmp a b)
unfolding binary
at_least_text a b = truth_back _ ∙ ap is_ge (value_cmp-Text a b)

pub below_text : (a b : List ℕ) → is_true (binary (Compare Lt Binary) (Text a) (Text b)) ≡ is_lt (slice_cmp nat_cmp a b)
unfolding binary
below_text a b = truth_back _ ∙ ap is_lt (value_cmp-Text a b)

pub above_number : (a b : ℕ) → is_true (binary (Compare Gt Binary) (Int (pos a)) (Int (pos b))) ≡ is_gt (nat_cmp a b)
unfolding binary
above_number a b = truth_back _ ∙ ap is_gt (int_cmp-pos a b)

pub eq_back : (a b : ℕ) → is_eq (nat_cmp a b) ≡ is_eq (nat_cmp b a)
eq_back a b = grind (arith, nat_tests)

-- the comparison with the sides as a row and a parameter stand
pub equals_back : (a b : ℕ) → is_true (binary (Compare Eq Binary) (Int (pos a)) (Int (pos b))) ≡ is_eq (nat_cmp b a)
equals_back a b = equals a b ∙ eq_back a b

reversed_eq : (o : Ordering) → is_eq (ordering_reverse o) ≡ is_eq o
reversed_eq Less = refl
reversed_eq Equal = refl
reversed_eq Greater = refl

-- values are equal either way
pub tied_back : (a b : Value) → is_eq (value_cmp a b) ≡ is_eq (value_cmp b a)
tied_back a b = ap is_eq (value_cmp_total.antisymm a b) ∙ reversed_eq (value_cmp b a)

pub equal_is : (o : Ordering) → is_eq o ≡ true → o ≡ Equal
equal_is Less h = absurd (true≢false (sym h))
equal_is Equal h = refl
equal_is Greater h = absurd (true≢false (sym h))

pub eq_then : (o p : Ordering) → is_eq (ordering_then o p) ≡ (is_eq o && is_eq p)
eq_then Less p = refl
eq_then Equal p = refl
eq_then Greater p = refl

pub and_true : (b : Bool) → (b && true) ≡ b
and_true true = refl
and_true false = refl

pub or_false : (b : Bool) → (b || false) ≡ b
or_false true = refl
or_false false = refl

-- ---- the numbers of keys that are equal

pub both_equal : (o p : Ordering) → is_eq (ordering_then o p) ≡ true → (is_eq o ≡ true) × (is_eq p ≡ true)
both_equal o p h = and_parts _ _ (sym (eq_then o p) ∙ h)

-- ---- casts

either : {V : Type 0} (b : Bool) (x : V) → cond b x x ≡ x
either true x = refl
either false x = refl

pub cast_null : cast kind.Integer Null ≡ Null
unfolding unary
cast_null = either _ Null

pub cast_int : (n : ℤ) → cast kind.Integer (Int n) ≡ Int n
unfolding unary
cast_int n = either _ (Int n)

-- ---- a key of several columns, test by test

pub key_step : (a b : Bool) (o p : Ordering) → a ≡ is_eq o → b ≡ is_eq p → (a && b) ≡ is_eq (ordering_then o p)
key_step a b o p h k = ap₂ ◌&&◌ h k ∙ sym (eq_then o p)

-- ---- parameters

-- an absent number is bound as NULL
pub bound_number : (n : Option ℕ) → bound_value (sql.or_null (λ k. Int (pos k)) n) ≡ or_null n
bound_number None = refl
bound_number (Some k) = refl
