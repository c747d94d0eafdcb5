-- The kinds of entries and the ways of settling: their names in requests and replies, and the numbers by which tables
-- keep them, each from 1.
use Rattle.std.specs.Prelude.{ℕ, List, [], ◌∷◌, codes}
use Rattle.mf_account.specs.declared.entry.Kind.{Kind}
use Rattle.mf_account.specs.declared.entry.Kind.TheVariants.{Repay, Fee, Penalty, Waive, WriteOff, Refund}
use Rattle.mf_account.specs.declared.settled.How.{How}
use Rattle.mf_account.specs.declared.settled.How.TheVariants.{Paid, Waived, WrittenOff}

-- the name of a kind of entry
abbrev pub entry_kind_name : Kind → List ℕ
entry_kind_name Repay = codes "repayment"
entry_kind_name Fee = codes "fee"
entry_kind_name Penalty = codes "penalty"
entry_kind_name Waive = codes "waiver"
entry_kind_name WriteOff = codes "write-off"
entry_kind_name Refund = codes "refund"

-- the number of a kind of entry
abbrev pub entry_kind_number : Kind → ℕ
entry_kind_number Repay = 1
entry_kind_number Fee = 2
entry_kind_number Penalty = 3
entry_kind_number Waive = 4
entry_kind_number WriteOff = 5
entry_kind_number Refund = 6

-- the kinds of entries, in the order of their numbers
abbrev pub entry_kinds : List Kind
entry_kinds = Repay ∷ Fee ∷ Penalty ∷ Waive ∷ WriteOff ∷ Refund ∷ []

-- the name of a way of settling, as a loan's sums have it
abbrev pub how_name : How → List ℕ
how_name Paid = codes "paid"
how_name Waived = codes "waived"
how_name WrittenOff = codes "written_off"

-- the number of a way of settling
abbrev pub how_number : How → ℕ
how_number Paid = 1
how_number Waived = 2
how_number WrittenOff = 3

-- the ways of settling, in the order of their numbers
abbrev pub ways : List How
ways = Paid ∷ Waived ∷ WrittenOff ∷ []
