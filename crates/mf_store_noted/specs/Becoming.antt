-- What writes make of the rows of an institution, whether a journal is kept beside them or not.
use Rattle.std.specs.Prelude.{◌≡◌, List, Option, Some}
use Rattle.mf_model.specs.Institution.{Institution}
use Rattle.mf_model.specs.Sound.{IsSound}
use Rattle.mf_journal.specs.declared.following.Head.{Head}
use Rattle.mf_store_sql.specs.Writes.{AllFit, after_all}
use Rattle.mf_store_schema.specs.Writes.{after_write, FitsLists}
use Rattle.mf_store_schema.specs.declared.writes.StoreWrite.{StoreWrite}
use Rattle.mf_store_noted.specs.Kept.{IsBegun, tables_kept}

-- the writes make the one sound institution's rows of the other's, beside a journal that begins here or none
pub record BecomesKept (journal : Option Head) (writes : List StoreWrite) (i j : Institution) : Type 0 where
  pub sound : IsSound j
  pub same_journal : j.journal ≡ i.journal
  pub fits : AllFit after_write FitsLists writes (Some (tables_kept journal i))
  pub is : after_all after_write writes (Some (tables_kept journal i)) ≡ Some (tables_kept journal j)

-- the same wherever the institution's journal begins, if it keeps one
abbrev pub BecomesBeside : List StoreWrite → Institution → Institution → Type 0
BecomesBeside writes i j = (journal : Option Head) → IsBegun journal i → BecomesKept journal writes i j
