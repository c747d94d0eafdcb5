-- What a query shows of a database.
use Rattle.std.specs.Prelude.{◌≡◌, ℕ, false, List}
use Rattle.sqlite.specs.Order.{Row}
use Rattle.sqlite.specs.Effect.{Database, Reads}
use Rattle.sqlite.specs.Given.{IsPlain}
use Rattle.sqlite.specs.Listing.{understood, reads_listing}
use Rattle.sqlite.proofs.Callers.{command_of}

-- the rows are the answer, over this database, of a plain text that does not ask for the list of tables
abbrev pub Answers : List ℕ → Row → Database → List Row → Type 0
Answers sql params db rows = IsPlain (understood db.schema sql) → reads_listing db.schema sql ≡ false
    → Reads (command_of (understood db.schema sql)) db params rows
