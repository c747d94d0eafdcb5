-- What a list of writes makes of the lists that tables keep.
use Rattle.std.specs.Prelude.{◌≡◌, ℕ, true, List, [], ◌∷◌, Ok, IsTrue}
use Rattle.sqlite.specs.Order.{Row}
use Rattle.sqlite.specs.Schema.{Schema}
use Rattle.sqlite.specs.Tree.{Trees}
use Rattle.sqlite.specs.Effect.{Database}
use Rattle.sqlite.specs.State.{State, Executes}

-- the statement ran, and the transaction goes on
pub record Ran (sql : List ℕ) (params : Row) (old new : State) : Type 0 where
  pub mode : new.in_transaction ≡ true
  pub was_open : IsTrue old.is_open
  pub count : ℕ
  pub ran : Executes sql params old new (Ok count)

-- the database has the schema of these lists, and its tables keep them
pub record Serves {L : Type 0} (schema : L → Schema) (Holds : Trees → L → Type 0) (db : Database) (lists : L) : Type
    0 where
  pub schema_is : db.schema ≡ schema lists
  pub holds : Holds db.trees lists

-- the lists after the writes, the first of them first
abbrev pub after_all : {W L : Type 0} → (W → L → L) → List W → L → L
after_all after [] lists = lists
after_all after (w ∷ ws) lists = after_all after ws (after w lists)

-- each write fits the lists that those before it leave
abbrev pub AllFit : {W L : Type 0} → (W → L → L) → (W → L → Type 0) → List W → L → Type 0
AllFit after Fits [] lists = Unit {0}
AllFit after Fits (w ∷ ws) lists = Fits w lists × AllFit after Fits ws (after w lists)

-- whatever lists the tables kept, these are the ones now
abbrev pub Turns : {L : Type 0} → (Database → L → Type 0) → (L → Type 0) → (L → L) → Database → Database → Type 0
Turns {L} Stands Fits change old new = (lists : L) → Stands old lists → Fits lists → Stands new (change lists)

-- the transaction goes on, and its tables are changed so
pub record Steps {L : Type 0} (Stands : Database → L → Type 0) (Fits : L → Type 0) (change : L → L)
    (old new : State) : Type 0 where
  pub mode : new.in_transaction ≡ true
  pub was_open : IsTrue old.is_open
  pub turns : Turns Stands Fits change old.now new.now

-- the connection is open, and nothing waits for a commit
pub record IsSettled (s : State) : Type 0 where
  pub is_open : IsTrue s.is_open
  pub committed : s.committed ≡ s.now

-- the trees that a stop may leave keep these lists
pub record MayHold {L : Type 0} (Stands : Database → L → Type 0) (Holds : Trees → L → Type 0) (Fits : L → Type 0)
    (change : L → L) (old : State) (trees : Trees) : Type 0 where
  pub was_open : IsTrue old.is_open
  pub holds : (lists : L) → Stands old.now lists → Fits lists → Holds trees (change lists)
