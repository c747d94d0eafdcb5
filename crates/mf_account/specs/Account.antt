-- An account: the effects of the standing entries in order, from the fresh schedule with nothing paid.
use Rattle.std.specs.Prelude.{ℕ, ◌+◌, ◌==◌, nat_lt, ◌&&◌, not, if◌then◌else◌, List, [], ◌∷◌, ◌++◌, map, filter, sum_by}
use Rattle.std.specs.Prelude.{slice_index}
use Rattle.std.specs.List.{list_any}
use Rattle.mf_schedule.specs.declared.instalment.FreshInstalment.{FreshInstalment}
use Rattle.mf_alloc.specs.declared.row.Cell.{Cell}
use Rattle.mf_alloc.specs.declared.row.Share.{Share}
use Rattle.mf_alloc.specs.Sums.{Instalment, is_open, fresh_row}
use Rattle.mf_alloc.specs.Order.{order_at}
use Rattle.mf_account.specs.declared.entry.Entry.{Entry}
use Rattle.mf_account.specs.declared.settled.SettledPart.{SettledPart}
use Rattle.mf_account.specs.Kinds.{is_write_off}
use Rattle.mf_account.specs.Effect.{State, Part, after_entry, parts_of}
use Rattle.mf_account.specs.Standing.{standing_entries}

-- the order of cells at an entry
abbrev pub Orders : Type 0
Orders = Entry → ℕ → Cell

-- the order of cells of rows at an entry: that at its day
abbrev pub orders_by : (ℕ → ℕ → ℕ → Cell) → List Instalment → Orders
orders_by cells rows entry = order_at cells rows entry.day

-- the state after entries in order
abbrev pub after_entries : Orders → List Entry → State → State
after_entries orders [] before = before
after_entries orders (entry ∷ entries) before = after_entries orders entries (after_entry (orders entry) entry before)

-- an entry's parts, with its number and their places
abbrev pub parts_numbered : ℕ → ℕ → List Part → List SettledPart
parts_numbered seq place [] = []
parts_numbered seq place (part ∷ parts) =
    record { seq = seq; place = place; cell = part.cell; how = part.how; amount = part.amount }
    ∷ parts_numbered seq (place + 1) parts

-- what was settled, without the entry that settled it
abbrev pub part_of : SettledPart → Part
part_of settled = record { cell = settled.cell; how = settled.how; amount = settled.amount }

-- all that entries in order settle
abbrev pub settled_by : Orders → List Entry → State → List SettledPart
settled_by orders [] before = []
settled_by orders (entry ∷ entries) before =
    parts_numbered entry.seq 1 (parts_of (orders entry) entry before)
    ++ settled_by orders entries (after_entry (orders entry) entry before)

-- an instalment with nothing paid
abbrev pub row_of : FreshInstalment → Instalment
row_of instalment = fresh_row instalment.due (0 ∷ instalment.fees ∷ instalment.interest ∷ instalment.principal ∷ [])

-- a state of the fresh schedule, with nothing paid
abbrev pub first_state : List FreshInstalment → State
first_state schedule = record { rows = map row_of schedule; overpaid = 0; refunded = 0 }

-- the account of a schedule and entries
abbrev pub state_of : Orders → List FreshInstalment → List Entry → State
state_of orders schedule entries = after_entries orders (standing_entries entries) (first_state schedule)

-- what the standing entries settle, entry by entry in their order, from the fresh schedule on
abbrev pub settled_of : Orders → List FreshInstalment → List Entry → List SettledPart
settled_of orders schedule entries = settled_by orders (standing_entries entries) (first_state schedule)

-- the parts of one entry, as shares
abbrev pub share_of : SettledPart → Share
share_of part = record { cell = part.cell; amount = part.amount }

-- what an entry settled, as shares of cells
abbrev pub shares_in : ℕ → List SettledPart → List Share
shares_in seq settled = map share_of (filter (λ (s : SettledPart). s.seq == seq) settled)

-- the status of a disbursed loan: 601 written off, 300 active, 700 overpaid, 600 closed
abbrev pub status_of : List Entry → State → ℕ
status_of entries state =
    if list_any (λ (e : Entry). not e.reversed && is_write_off e.kind) entries then 601
    else (if list_any is_open state.rows then 300
    else (if nat_lt 0 state.overpaid then 700 else 600))

-- a portion's sum over all rows, of what is owed, paid, waived, written off or outstanding
abbrev pub sum_at : (Instalment → List ℕ) → ℕ → List Instalment → ℕ
sum_at sums p rows = sum_by (λ row. slice_index (sums row) p) rows
