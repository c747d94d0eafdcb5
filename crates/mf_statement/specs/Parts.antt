-- What the parts of one entry come to.
use Rattle.std.specs.Prelude.{ℕ, ◌+◌, List, [], ◌∷◌, ◌++◌, map}
use Rattle.std.specs.List.{range_with_len}
use Rattle.mf_account.specs.declared.entry.Entry.{Entry}
use Rattle.mf_account.specs.declared.settled.SettledPart.{SettledPart}
use Rattle.mf_account.specs.Account.{share_of, shares_in}
use Rattle.mf_statement.specs.declared.entries.EntryParts.{EntryParts}
use Rattle.mf_statement.specs.declared.lines.EntryLine.{EntryLine}
use Rattle.mf_statement.specs.Lines.{cleared_by_part, cleared_in, amount_told}

-- an entry that settled nothing
abbrev pub no_parts : EntryParts
no_parts = record { cleared = 0; shares = [] }

-- those of an entry
abbrev pub parts_in : ℕ → List SettledPart → EntryParts
parts_in seq settled = record { cleared = cleared_in seq settled; shares = shares_in seq settled }

-- those of each of the entries from 1 to n
abbrev pub table : List SettledPart → ℕ → List EntryParts
table settled n = map (λ seq. parts_in seq settled) (range_with_len 1 n)

-- one part more
abbrev pub with_part : EntryParts → SettledPart → EntryParts
with_part own s = record { cleared = own.cleared + cleared_by_part s; shares = own.shares ++ share_of s ∷ [] }

-- an entry as it is told, with what its parts come to
abbrev pub line_with : ℕ → Entry → EntryParts → EntryLine
line_with refunded e own = record { entry = e; amount = amount_told e.kind e own.cleared refunded; shares = own.shares }
