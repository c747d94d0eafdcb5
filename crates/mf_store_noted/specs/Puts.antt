-- Writes of a commit among those that the journal notes.
use Rattle.std.specs.Prelude.{◌≡◌, List, [], ◌∷◌}
use Rattle.mf_store_schema.specs.declared.writes.StoreWrite.{StoreWrite}
use Rattle.mf_store_journal.specs.declared.noting.NotedWrite.{NotedWrite}
use Rattle.mf_store_journal.specs.declared.noting.NotedWrite.TheVariants.{Put, Begin, AddLine}

-- it puts just this
abbrev pub IsPut : NotedWrite → StoreWrite → Type 0
IsPut (Put w) write = w.now ≡ write
IsPut (Begin head) write = ⊥
IsPut (AddLine kept) write = ⊥

-- they put these, in order
abbrev pub ArePuts : List NotedWrite → List StoreWrite → Type 0
ArePuts [] [] = Unit {0}
ArePuts [] (write ∷ writes) = ⊥
ArePuts (put ∷ puts) [] = ⊥
ArePuts (put ∷ puts) (write ∷ writes) = IsPut put write × ArePuts puts writes
