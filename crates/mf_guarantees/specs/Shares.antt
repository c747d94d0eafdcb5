-- What an entry settles, beside its amount.
use Rattle.std.specs.Prelude.{◌≤◌}
use Rattle.mf_alloc.specs.Payment.{amount_of_shares}
use Rattle.mf_statement.specs.declared.lines.EntryLine.{EntryLine}

-- the shares that are told of an entry come to at most the amount that is told of it
abbrev pub SettlesAtMostItsAmount : EntryLine → Type 0
SettlesAtMostItsAmount told = amount_of_shares told.shares ≤ told.amount
