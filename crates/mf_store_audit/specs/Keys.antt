-- Rows by their keys: an office, a loan and a number, 0 for what a table has none of.
use Rattle.std.specs.Prelude.{ℕ, ◌==◌, ◌&&◌, Bool}
use Rattle.std.specs.declared.cmp.Ordering.{Ordering}
use Rattle.std.specs.Ordering.{nat_cmp, ordering_then}
use Rattle.mf_store_schema.specs.declared.instalments.InstalmentRow.{InstalmentRow}
use Rattle.mf_store_schema.specs.declared.shares.ShareRow.{ShareRow}

-- the order of keys: by office, by loan, by number
abbrev pub by_key : {R : Type 0} → (R → ℕ × ℕ × ℕ) → R → R → Ordering
by_key key a b =
    ordering_then (nat_cmp (key a).0 (key b).0)
    (ordering_then (nat_cmp (key a).1 (key b).1) (nat_cmp (key a).2 (key b).2))

-- two rows are of one office and one loan
abbrev pub is_beside : {R : Type 0} → (R → ℕ × ℕ × ℕ) → R → R → Bool
is_beside key a b = ((key b).1 == (key a).1) && ((key b).0 == (key a).0)

-- the number in a row's key
abbrev pub number_in_key : {R : Type 0} → (R → ℕ × ℕ × ℕ) → R → ℕ
number_in_key key a = (key a).2

-- a row has this key
abbrev pub is_at : {R : Type 0} → (R → ℕ × ℕ × ℕ) → ℕ × ℕ × ℕ → R → Bool
is_at key wanted a = ((key a).1 == wanted.1) && (((key a).0 == wanted.0) && ((key a).2 == wanted.2))

-- the key of an instalment
abbrev pub instalment_key : InstalmentRow → ℕ × ℕ × ℕ
instalment_key row = (row.office, row.loan, row.number)

-- the key of a share, but for its place within its entry
abbrev pub share_key : ShareRow → ℕ × ℕ × ℕ
share_key row = (row.office, row.loan, row.seq)
