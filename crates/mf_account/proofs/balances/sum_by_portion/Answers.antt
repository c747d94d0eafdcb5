use Rattle.std.proofs.Common.{ℕ, ◌<◌, ◌^◌, List, arith}
use Rattle.mf_alloc.specs.Sums.{Instalment}
use Rattle.mf_account.specs.declared.balances.Column.{Column}
use Rattle.mf_account.specs.declared.balances.Column.TheVariants.{Owed, Paid, Waived, WrittenOff}
use Rattle.mf_account.specs.Account.{sum_at}
use Rattle.mf_account.specs.Balance.{column_of, HasRoomAt}
use Rattle.mf_account.proofs.balances.sum_by_portion.Goals as goal

-- there is room for each column
room : (column : Column) (p : ℕ) (rows : List Instalment) → HasRoomAt p rows → sum_at (column_of column) p rows < 2 ^ 64
room Owed p rows fits = fits.owed
room Paid p rows fits = fits.paid
room Waived p rows fits = fits.waived
room WrittenOff p rows fits = fits.written_off

pub sum_of_portion-requires-3-clause-room : goal.sum_of_portion-requires-3-clause-room
sum_of_portion-requires-3-clause-room c = room c.args.column 2 c.args.rows.now (c.requires 2 (omega arith))

pub sum_of_portion-requires-4-clause-room : goal.sum_of_portion-requires-4-clause-room
sum_of_portion-requires-4-clause-room c = room c.args.column 3 c.args.rows.now (c.requires 3 (omega arith))
