-- What CREATE TABLE makes, of one table and of several.
use Rattle.std.proofs.Common.{◌≡◌, ◌≤◌, ◌-◌, ℕ, false, List, [], ◌∷◌, ◌++◌, Ok, map, length, take, drop, get_or, IsTrue}
use Rattle.std.proofs.Common.{arith, refl, sym, ap, ◌∙◌, subst}
use Rattle.std.specs.List.{AllByRecursion}
use Rattle.std.proofs.lemmas.List.{take_all}
use Rattle.sqlite.specs.Table.{Table}
use Rattle.sqlite.specs.Schema.{Schema}
use Rattle.sqlite.specs.Change.{created, next_tree}
use Rattle.sqlite.specs.Command.TheVariants.{CreateTable}
use Rattle.sqlite.specs.Does.{Tally, lacks_sequence}
use Rattle.sqlite.specs.Effect.{Database}
use Rattle.sqlite.specs.Listing.{understood}
use Rattle.sqlite.specs.State.{State, Executes}
use Rattle.sqlite.proofs.Callers.{statement_of, runs_as}
use Rattle.sqlite_keyed.proofs.ListLemmas.{all_of, all_both}
use Rattle.sqlite_catalog.specs.Listing.{IsSound}
use Rattle.mf_store_sql.specs.Columns.{Columns, sql_table}
use Rattle.mf_store_sql.specs.Making.{IsDefined, AreDefined, AreMade, Makes}
use Rattle.mf_store_sql.specs.Texts.{create_text}
use Rattle.mf_store_sql.specs.Writes.{Ran}
use Rattle.mf_store_sql.proofs.WriteLemmas.{went, same_value}

makes_one : (before : Schema) (tree : ℕ) (t : Columns) (old new : State) (count : ℕ) → IsDefined before tree t
    → old.now.schema ≡ before → Executes (create_text t) [] old new (Ok count)
    → AreMade before ((tree, t) ∷ []) old.now new.now
makes_one before tree t old new count d has h =
    let sql = create_text t in
    let table = sql_table 0 t in
    let text = statement_of sql (understood before sql) in
    let w = runs_as sql [] old new before has CreateTable d.command d.plain count h in
    let all = went w.changed in
    let first = went all.1 in
    let made = first.1 in
    let both : Ok made.table ≡ Ok table = sym made.defined ∙ d.table_is in
    let same : made.table ≡ table = cc in
    let after : first.0.schema ≡ created before table =
    made.is ∙ ap (λ s. created s made.table) has ∙ ap (created before) same in
    let plain : lacks_sequence first.0.schema ≡ false = ap lacks_sequence after ∙ d.uncounted in
    let now : new.now ≡ first.0 = ap (λ (p : Tally × Database). p.1) (same_value all.2)
    ∙ same_value (rw plain at first.2) in
    let fresh : first.0.trees (next_tree before) ≡ [] = subst (λ s. first.0.trees (next_tree s) ≡ []) has made.empty in
    let kept = subst (λ (s : Schema). AllByRecursion (λ (t : Table). first.0.trees t.tree ≡ old.now.trees t.tree)
    s.tables) has made.others in
    record {
      schema_is = ap (λ (d : Database). d.schema) now ∙ after;
      sound = subst (λ s. IsSound s new.now.trees) (ap (λ (d : Database). d.schema) now ∙ after) w.sound;
      fresh = (
        subst (λ n. new.now.trees n ≡ []) d.tree_is (ap (λ (d : Database). d.trees (next_tree before)) now ∙ fresh),
        tt,
      );
      others = subst (λ (d : Database). AllByRecursion (λ (t : Table). d.trees t.tree ≡ old.now.trees t.tree)
          before.tables) (sym now) kept;
    }

-- ---- several tables

all_split : {X : Type 0} (P : X → Type 0) (xs : List X) (y : X) → AllByRecursion P (xs ++ y ∷ [])
    → AllByRecursion P xs × P y
all_split P [] y all = (tt, all.0)
all_split P (x ∷ xs) y all = let rest = all_split P xs y all.1 in ((all.0, rest.0), rest.1)

-- the first and those after it
pub first_and_others : {X : Type 0} (xs : List X) (x : X) → 1 ≤ length xs
    → get_or xs 0 x ∷ take (length xs - 1) (drop 1 xs) ≡ xs
first_and_others [] x some = absurd (omega (arith, some))
first_and_others (y ∷ xs) x some = ap (λ l. y ∷ l) (take_all _ xs (omega arith))

-- no text makes no table
pub makes_none : (s : State) → IsTrue s.in_transaction → Makes [] s s
makes_none s inside = record {
  mode = inside;
  was_open = λ some. absurd (some refl);
  made = made;
}
  where
    made : (before : Schema) (ts : List (ℕ × Columns)) → [] ≡ map (λ (t : ℕ × Columns). create_text t.1) ts
        → AreDefined before ts → s.now.schema ≡ before → IsSound before s.now.trees → AreMade before ts s.now s.now
    made before [] is d has sound = record {
      schema_is = has;
      sound = sound;
      fresh = tt;
      others = all_of (λ (t : Table). s.now.trees t.tree ≡ s.now.trees t.tree) (λ t. refl) before.tables;
    }
    made before (t ∷ ts) is d has sound = absurd (cc)

-- a text makes its table, and others make theirs beside it
pub makes_more : (sql : List ℕ) (sqls : List (List ℕ)) (old mid new : State) → Ran sql [] old mid → Makes sqls mid new
    → Makes (sql ∷ sqls) old new
makes_more sql sqls old mid new ran others = record {
  mode = others.mode;
  was_open = λ some. ran.was_open;
  made = made;
}
  where
    made : (before : Schema) (ts : List (ℕ × Columns)) → sql ∷ sqls ≡ map (λ (t : ℕ × Columns). create_text t.1) ts
        → AreDefined before ts → old.now.schema ≡ before → IsSound before old.now.trees
        → AreMade before ts old.now new.now
    made before [] is d has sound = absurd (cc)
    made before (t ∷ ts) is d has sound =
        let own : sql ≡ create_text t.1 = cc in
        let rest : sqls ≡ map (λ (t : ℕ × Columns). create_text t.1) ts = cc in
        let one = makes_one before t.0 t.1 old mid ran.count d.0 has
        (subst (λ s. Executes s [] old mid (Ok ran.count)) own ran.ran) in
        let more = others.made (created before (sql_table 0 t.1)) ts rest d.1 one.schema_is one.sound in
        let table : Table = record (sql_table 0 t.1) { tree = next_tree before } in
        let both = all_split (λ (t : Table). new.now.trees t.tree ≡ mid.now.trees t.tree) before.tables table
        more.others in
        record {
          schema_is = more.schema_is;
          sound = more.sound;
          fresh = (subst (λ n. new.now.trees n ≡ mid.now.trees n) (d.0).tree_is both.1 ∙ one.fresh.0, more.fresh);
          others = all_both (λ (t : Table). new.now.trees t.tree ≡ mid.now.trees t.tree) (λ (t : Table).
              mid.now.trees t.tree ≡ old.now.trees t.tree) (λ (t : Table). new.now.trees t.tree ≡ old.now.trees t.tree)
              (λ t p q. p ∙ q) before.tables both.0 one.others;
        }
