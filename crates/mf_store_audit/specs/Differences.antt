-- The rows in which two lists differ, by their keys.
use Rattle.std.specs.Prelude.{◌≡◌, ◌⊎◌, ℕ, List}
use Rattle.std.specs.List.{AllByRecursion, Contains}
use Rattle.std.specs.List.Sorted.{IsStrictlySortedBy}
use Rattle.std.specs.Ordering.{nat_cmp, ordering_then}
use Rattle.std.specs.declared.cmp.Ordering.{Ordering}
use Rattle.mf_store_audit.specs.declared.finding.RowKey.{RowKey}

-- a row's key, as a finding has it
abbrev pub row_key : ℕ × ℕ × ℕ → RowKey
row_key key = record { office = key.0; loan = key.1; number = key.2 }

-- one of these rows has this key, and others lack it
pub record Lacks {R : Type 0} (key : R → ℕ × ℕ × ℕ) (rows others : List R) (at : RowKey) : Type 0 where
  pub row : R
  pub key_is : row_key (key row) ≡ at
  pub there : Contains rows row
  pub lacking : ¬ Contains others row

-- two lists differ in a row with this key
abbrev pub Differ : {R : Type 0} → (R → ℕ × ℕ × ℕ) → List R → List R → RowKey → Type 0
Differ key made stored at = Lacks key made stored at ⊎ Lacks key stored made at

-- the order of such keys
abbrev pub by_row_key : RowKey → RowKey → Ordering
by_row_key a b =
    ordering_then (nat_cmp a.office b.office) (ordering_then (nat_cmp a.loan b.loan) (nat_cmp a.number b.number))

-- the keys of the rows in which two lists differ, in order, each once
pub record AreDifferences {R : Type 0} (key : R → ℕ × ℕ × ℕ) (made stored : List R) (keys : List RowKey)
    : Type 0 where
  pub each : AllByRecursion (Differ key made stored) keys
  pub every : (at : RowKey) → Differ key made stored at → Contains keys at
  pub order : IsStrictlySortedBy by_row_key keys
