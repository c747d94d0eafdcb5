-- The same entries, entered in another order, or a repayment in two.
use Rattle.std.specs.Prelude.{◌≡◌, ◌≢◌, ◌⊎◌, ℕ, ◌+◌, List, ◌∷◌, ◌++◌, map, None}
use Rattle.mf_account.specs.declared.entry.Entry.{Entry}
use Rattle.mf_account.specs.declared.entry.Kind.TheVariants.{Repay}

-- what of an entry counts in its account: all but its number, its receipt and who made it
abbrev pub what_counts : Entry → Entry
what_counts e = record e { seq = 0; receipt = None; staff = record { office = 1; staff = 1 } }

-- the same entries in another order, but that those of one day stand in the order in which they stood: neighbours of
-- different days change places, as often as one likes
pub data AreSwapped : List Entry → List Entry → Type 0 where
  unmoved : (entries : List Entry) → AreSwapped entries entries
  swapped : (before : List Entry) (a b : Entry) (behind : List Entry) → a.day ≢ b.day
      → AreSwapped (before ++ a ∷ b ∷ behind) (before ++ b ∷ a ∷ behind)
  again : (xs ys zs : List Entry) → AreSwapped xs ys → AreSwapped ys zs → AreSwapped xs zs

-- the entries of two loans are so, in what counts of each
abbrev pub AreReordered : List Entry → List Entry → Type 0
AreReordered xs ys = AreSwapped (map what_counts xs) (map what_counts ys)

-- a repayment among entries stands in others as two, of the same day, that come to its amount
pub record IsCutInTwo (entries others : List Entry) : Type 0 where
  pub before : List Entry
  pub payment : Entry
  pub behind : List Entry
  pub first : ℕ
  pub second : ℕ
  pub kind : payment.kind ≡ Repay
  pub amount : payment.amount ≡ first + second
  pub entries_are : entries ≡ before ++ payment ∷ behind
  pub others_are : map what_counts others
      ≡ map what_counts (before ++ record payment { amount = first } ∷ record payment { amount = second } ∷ behind)

-- two entries that may change places: they are of different days, or both are repayments
abbrev pub MayChangePlaces : Entry → Entry → Type 0
MayChangePlaces a b = (a.day ≢ b.day) ⊎ ((a.kind ≡ Repay) × (b.kind ≡ Repay))

-- the same entries in another order, where repayments of one day may change places too
pub data AreReshuffled : List Entry → List Entry → Type 0 where
  as_they_were : (entries : List Entry) → AreReshuffled entries entries
  exchanged : (before : List Entry) (a b : Entry) (behind : List Entry) → MayChangePlaces a b
      → AreReshuffled (before ++ a ∷ b ∷ behind) (before ++ b ∷ a ∷ behind)
  further : (xs ys zs : List Entry) → AreReshuffled xs ys → AreReshuffled ys zs → AreReshuffled xs zs

-- the entries of two loans are so, in what counts of each
abbrev pub AreInAnyOrder : List Entry → List Entry → Type 0
AreInAnyOrder xs ys = AreReshuffled (map what_counts xs) (map what_counts ys)
