-- The effect of an entry with one payment: its own money and what is overpaid are laid on the line together.
use Rattle.std.specs.Prelude.{ℕ, ◌+◌, ◌-◌, List, ◌++◌, map}
use Rattle.mf_alloc.specs.declared.row.Cell.{Cell}
use Rattle.mf_alloc.specs.declared.row.Share.{Share}
use Rattle.mf_alloc.specs.Sums.{Instalment}
use Rattle.mf_alloc.specs.Payment.{shares_of, rest_of}
use Rattle.mf_account.specs.declared.entry.Entry.{Entry}
use Rattle.mf_account.specs.declared.settled.How.TheVariants.{Paid}
use Rattle.mf_account.specs.Kinds.{money_in, money_out}
use Rattle.mf_account.specs.Effect.{State, Part, with_charge, with_settled, parts_cleared}

-- a share that was paid
abbrev pub paid_part : Share → Part
paid_part share = record { cell = share.cell; how = Paid; amount = share.amount }

-- the rows once the entry has charged, and once it has cleared
abbrev pub rows_charged : Entry → State → List Instalment
rows_charged entry before = with_charge entry.kind entry before.rows

-- rows with what an entry waives or writes off in them
abbrev pub with_cleared : (ℕ → Cell) → Entry → List Instalment → List Instalment
with_cleared order entry charged = with_settled charged (parts_cleared order entry charged)

-- the rows after an entry's charge and its clearing, before its money is laid on them
abbrev pub rows_cleared : (ℕ → Cell) → Entry → State → List Instalment
rows_cleared order entry before = with_cleared order entry (rows_charged entry before)

-- the entry's money, and what is overpaid and not given back
abbrev pub money_to_pay : Entry → State → ℕ
money_to_pay entry before = money_in entry.kind entry.amount + (before.overpaid - money_out entry.kind before.overpaid)

-- the shares in which an entry's money is paid
abbrev pub shares_at_once : (ℕ → Cell) → Entry → State → List Share
shares_at_once order entry before = shares_of order (rows_cleared order entry before) (money_to_pay entry before)

-- what an entry settles: what it clears, then what it pays
abbrev pub parts_at_once : (ℕ → Cell) → Entry → State → List Part
parts_at_once order entry before =
    parts_cleared order entry (rows_charged entry before) ++ map paid_part (shares_at_once order entry before)

-- the state after an entry
abbrev pub after_at_once : (ℕ → Cell) → Entry → State → State
after_at_once order entry before = record {
  rows = with_settled (rows_charged entry before) (parts_at_once order entry before);
  overpaid = rest_of order (rows_cleared order entry before) (money_to_pay entry before);
  refunded = before.refunded + money_out entry.kind before.overpaid;
}
