-- What a statement that writes rows of one table does to them.
use Rattle.std.proofs.Common.{◌≡◌, ◌⊎◌, inl, inr, ℕ, false, List, slice_get, None, Some, Ok, Err, Result, Option, ℤ}
use Rattle.std.proofs.Common.{cond, is_lt, int_cmp, MatchBool, sym, ap, subst, length, unwrap_or, ◌∙◌}
use Rattle.sqlite.specs.Order.{Row}
use Rattle.sqlite.specs.Tree.{Trees}
use Rattle.sqlite.specs.Table.{Table}
use Rattle.sqlite.specs.Schema.{Schema}
use Rattle.sqlite.specs.Command.{Command}
use Rattle.sqlite.specs.Edit.{Edit, taken_by}
use Rattle.sqlite.specs.Rowids.TheVariants.{Chosen, Above}
use Rattle.sqlite_rules.specs.Edit.{Applies}
use Rattle.sqlite.specs.Effect.{Database}
use Rattle.sqlite.specs.Does.{Tally, Does, AtPlace, OnTable, OnRows, WritesRows}
use Rattle.sqlite.specs.Rows.{Written, Task, Then, Gives, Edited, Counts, CountsIn, rowids_for, count_of, sequence}
use Rattle.sqlite.specs.declared.error.Error.{Error}
use Rattle.sqlite_catalog.specs.Listing.{IsSound}
use Rattle.sqlite.specs.Listing.{understood}
use Rattle.sqlite.specs.State.{State, mode_of, Runs, Writes, Executes}
use Rattle.mf_store_sql.specs.Meanings.{IsQuiet}
use Rattle.sqlite.proofs.Callers.{IsPlain, command_of, statement_of, runs_as, one_step}

pub went : {B E R : Type 0} {b : B} {Stops : E → Type 0} → ((stop : E) × Stops stop × (Ok b ≡ Err stop)) ⊎ R → R
went (inl stopped) = absurd (let e = stopped.2 in cc)
went (inr on) = on

pub same_value : {B E : Type 0} {a b : B} → ◌≡◌ {A = Result B E} (Ok a) (Ok b) → a ≡ b
same_value e = cc

-- what a part of a statement does to the rows of its table
module _ (task : Task) (quiet : IsQuiet task.schema task.table.tree) (db : Trees) where
  pub edited_by : (edit : Edit) (next : Trees) → edit.table.tree ≡ task.table.tree
      → Edited task.schema task.keys db edit (Ok next) → Applies task.schema task.keys db edit next
  edited_by edit next same h = one_step task.schema task.keys db next edit (subst (IsQuiet task.schema)
      (sym same) quiet task.keys (taken_by db edit) edit.news) h

  -- where the edit is the whole of the part
  pub wrote : (edit : Edit) → edit.table.tree ≡ task.table.tree → (rows : List Row) (last : Option ℤ) (one : Written)
      → Then (Edited task.schema task.keys db edit) (λ next. Gives (record { trees = next; rows = rows; last = last }))
      (Ok one) → Applies task.schema task.keys db edit one.trees
  wrote edit same rows last one h =
      let w = went h in subst (Applies task.schema task.keys db edit) (sym (ap (λ (it : Written). it.trees)
      (same_value w.2))) (edited_by edit w.0 same w.1)

-- a table that counts no rowids
module _ (task : Task) (uncounted : task.table.is_counted ≡ false) where
  pub chosen : (top : ℤ) → rowids_for task.table top ≡ Chosen
  chosen top = ap (λ b. cond b (Above top) Chosen) uncounted

  pub not_counted : (mid next : Trees) (counter : Option Row) (last : ℤ) → Counts task mid counter last (Ok next)
      → next ≡ mid
  not_counted mid next counter last h =
      same_value (subst (λ b. MatchBool (cond b (is_lt (int_cmp (count_of counter) last)) false)
      (CountsIn task mid counter last (sequence task.schema) (Ok next)) (Gives mid (Ok next))) uncounted h)

module _ (schema : Schema) (at : ℕ) (table : Table) (there : slice_get schema.tables at ≡ Some table) (sql : List ℕ)
    (params : Row) (old new : State)
    (has : old.now.schema ≡ schema) (plain : IsPlain (understood schema sql)) (count : ℕ) where
  abbrev pub task : Task
  task = record { limit = old.step_limit; keys = (mode_of old).keys; schema = schema; table = table; params = params }

  -- what a statement wrote that ran
  pub opened : (command : Command) → command_of (understood schema sql) ≡ command
      → Executes sql params old new (Ok count)
      → (Runs old new None command (statement_of sql (understood schema sql)) params count
      → Writes old new None command (statement_of sql (understood schema sql)) params count)
      → ((out : Result (Tally × Database) (Option Error)) → Does old.step_limit (mode_of old) params
      (record old.now { schema = schema }) (statement_of sql (understood schema sql)) None command out
      → OnTable old.step_limit (mode_of old) params (record old.now { schema = schema }) at (λ task.
      OnRows task (mode_of old) None command old.now.trees) out)
      → (rows : List Row) × (last : Option ℤ) × WritesRows task old.now.trees command (Ok (record {
        trees = new.now.trees;
        rows = rows;
        last = last;
      })) × (new.now.schema ≡ schema) × IsSound schema new.now.trees × (count ≡ length rows)
  opened command is h as_write on =
      let w = as_write (runs_as sql params old new schema has command is plain count h) in
      let changed = subst (λ s. Does old.step_limit (mode_of old) params (record old.now { schema = s })
      (statement_of sql (understood schema sql)) None command (Ok (w.tally, new.now))) has w.changed in
      let ran : OnRows task (mode_of old) None command old.now.trees (Ok (w.tally, new.now)) =
      subst (λ o. AtPlace (λ t. OnRows (record task { table = t }) (mode_of old) None command old.now.trees) o
      (Ok (w.tally, new.now))) there (on _ changed) in
      let done = went ran in
      let it : Written = done.0 in
      let ends = same_value (went (went done.2).2).2 in
      let now : new.now ≡ record { schema = schema; trees = it.trees } = ap (λ (p : Tally × Database). p.1) ends in
      let named : new.now.schema ≡ schema = ap (λ (d : Database). d.schema) now in (
        it.rows,
        it.last,
        subst (λ (n : Trees). WritesRows task old.now.trees command (Ok (record {
          trees = n;
          rows = it.rows;
          last = it.last;
        }))) (sym (ap (λ (d : Database). d.trees) now)) done.1,
        named,
        subst (λ s. IsSound s new.now.trees) named w.sound,
        w.counted ∙ ap (λ (p : Tally × Database). unwrap_or (p.0).rows 0) ends,
      )
