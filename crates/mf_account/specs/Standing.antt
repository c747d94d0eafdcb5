-- The standing entries of a loan, in order.
use Rattle.std.specs.Prelude.{◌≡◌, ◌≢◌, ℕ, ◌<◌, ◌-◌, Option, option_map, slice_get, length, slice_index, Bool, ◌&&◌}
use Rattle.std.specs.Prelude.{◌||◌, ◌==◌, nat_lt, if◌then◌else◌, List, [], ◌∷◌, fold, map, slice_index_or, slice_set}
use Rattle.std.specs.Prelude.{None, false, ◌+◌}
use Rattle.mf_alloc.specs.declared.row.Portion.TheVariants.{Principal}
use Rattle.mf_account.specs.declared.entry.Kind.{Kind}
use Rattle.mf_account.specs.declared.entry.Kind.TheVariants.{Repay}
use Rattle.mf_account.specs.declared.entry.Entry.{Entry}
use Rattle.mf_account.specs.declared.replay.Place.{Place}

-- by day, then by number
abbrev pub is_before : Entry → Entry → Bool
is_before a b = nat_lt a.day b.day || ((a.day == b.day) && nat_lt a.seq b.seq)

-- an entry put into its place
abbrev pub order_with : Entry → List Entry → List Entry
order_with entry [] = entry ∷ []
order_with entry (first ∷ others) =
    if is_before entry first then entry ∷ first ∷ others else first ∷ order_with entry others

-- those not reversed, each in its place
abbrev pub with_entry : List Entry → Entry → List Entry
with_entry order entry = if entry.reversed then order else order_with entry order

-- the entries that are not reversed, by day and then by number
abbrev pub standing_entries : List Entry → List Entry
standing_entries entries = fold with_entry [] entries

-- an entry for what is not there
abbrev pub no_entry : Entry
no_entry = record {
  seq = 0;
  kind = Repay;
  day = 0;
  amount = 0;
  instalment = 0;
  portion = Principal;
  receipt = None;
  staff = record { office = 1; staff = 1 };
  reversed = false;
}

-- the entries at places of a list
abbrev pub entries_at : List Entry → List ℕ → List Entry
entries_at entries places = map (λ i. slice_index_or entries i no_entry) places

-- the entry at a place, counted from 0
abbrev pub entry_at : List Entry → ℕ → Entry
entry_at entries i = slice_index_or entries i no_entry

-- the kind of the last of some entries
abbrev pub last_kind_of : List Entry → Option Kind
last_kind_of entries = option_map (λ (e : Entry). e.kind) (slice_get entries (length entries - 1))

-- an entry marked as reversed, or as not
abbrev pub with_mark : List Entry → ℕ → Bool → List Entry
with_mark entries i mark = slice_set entries i (record (entry_at entries i) { reversed = mark })

-- none of a list comes before an entry
abbrev pub NoneBefore : Entry → List Entry → Type 0
NoneBefore e [] = Unit {0}
NoneBefore e (x ∷ xs) = (is_before x e ≡ false) × NoneBefore e xs

-- no later entry comes before an earlier one
abbrev pub IsInOrder : List Entry → Type 0
IsInOrder [] = Unit {0}
IsInOrder (x ∷ xs) = NoneBefore x xs × IsInOrder xs

-- the places of the entries not reversed, in a list whose first has the place k
abbrev pub places_from : ℕ → List Entry → List Place
places_from k [] = []
places_from k (e ∷ es) = if e.reversed then places_from (k + 1) es else record { day = e.day; at = k }
    ∷ places_from (k + 1) es

-- no place stands twice
abbrev pub AreDistinct : List ℕ → Type 0
AreDistinct order = (i j : ℕ) → i < j → j < length order → slice_index order i ≢ slice_index order j
