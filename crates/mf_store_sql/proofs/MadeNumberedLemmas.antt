-- What the text that makes a numbered table does.
use Rattle.std.proofs.Common.{◌≡◌, ℕ, false, List, [], Ok, sym, ap, ◌∙◌, subst}
use Rattle.std.specs.List.{AllByRecursion}
use Rattle.sqlite.specs.Change.{created, next_tree}
use Rattle.sqlite.specs.Command.TheVariants.{CreateTable}
use Rattle.sqlite.specs.Does.{Tally, lacks_sequence}
use Rattle.sqlite.specs.Effect.{Database}
use Rattle.sqlite.specs.Listing.{understood}
use Rattle.sqlite.specs.Schema.{Schema}
use Rattle.sqlite.specs.State.{State, Executes}
use Rattle.sqlite.specs.Table.{Table}
use Rattle.sqlite.proofs.Callers.{statement_of, runs_as}
use Rattle.sqlite_catalog.specs.Listing.{IsSound}
use Rattle.mf_store_sql.specs.Numbered.{Numbered, numbered_table, create_numbered, KeepsLines}
use Rattle.mf_store_sql.specs.NumberedMeanings.{IsNumberedBy, IsMade, MakesNumbered}
use Rattle.mf_store_sql.specs.Writes.{Ran}
use Rattle.mf_store_sql.proofs.WriteLemmas.{went, same_value}

pub keeps_no_lines : (t : Numbered) → KeepsLines t [] []
keeps_no_lines t = record { kept = record { rows = tt; rising = tt }; fitting = tt }

is_made : (before : Schema) (tree : ℕ) (t : Numbered) (old new : State) (count : ℕ) → IsNumberedBy before tree t
    → old.now.schema ≡ before → Executes (create_numbered t) [] old new (Ok count)
    → IsMade before tree t old.now new.now
is_made before tree t old new count d has h =
    let sql = create_numbered t in
    let table = numbered_table 0 t in
    let text = statement_of sql (understood before sql) in
    let w = runs_as sql [] old new before has CreateTable d.command d.plain count h in
    let all = went w.changed in
    let first = went all.1 in
    let made = first.1 in
    let both : Ok made.table ≡ Ok table = sym made.defined ∙ d.table_is in
    let same : made.table ≡ table = cc in
    let after : first.0.schema ≡ created before table =
    made.is ∙ ap (λ s. created s made.table) has ∙ ap (created before) same in
    let plain : lacks_sequence first.0.schema ≡ false = ap lacks_sequence after ∙ d.uncounted in
    let now : new.now ≡ first.0 = ap (λ (p : Tally × Database). p.1) (same_value all.2)
    ∙ same_value (rw plain at first.2) in
    let fresh : first.0.trees (next_tree before) ≡ [] = subst (λ s. first.0.trees (next_tree s) ≡ []) has made.empty in
    let kept = subst (λ (s : Schema). AllByRecursion (λ (o : Table). first.0.trees o.tree ≡ old.now.trees o.tree)
    s.tables) has made.others in
    let none : new.now.trees tree ≡ [] = subst (λ n. new.now.trees n ≡ []) d.tree_is
    (ap (λ (d : Database). d.trees (next_tree before)) now ∙ fresh) in
    record {
      schema_is = ap (λ (d : Database). d.schema) now ∙ after;
      sound = subst (λ s. IsSound s new.now.trees) (ap (λ (d : Database). d.schema) now ∙ after) w.sound;
      fresh = subst (λ rows. KeepsLines t rows []) (sym none) (keeps_no_lines t);
      others = subst (λ (d : Database). AllByRecursion (λ (o : Table). d.trees o.tree ≡ old.now.trees o.tree)
          before.tables) (sym now) kept;
    }

-- whatever table the text makes
pub makes_numbered : (sql : List ℕ) (old new : State) → Ran sql [] old new → MakesNumbered sql old new
makes_numbered sql old new ran = record {
  mode = ran.mode;
  was_open = ran.was_open;
  made = λ before tree t is d has. is_made before tree t old new ran.count d has
      (subst (λ s. Executes s [] old new (Ok ran.count)) is ran.ran);
}
