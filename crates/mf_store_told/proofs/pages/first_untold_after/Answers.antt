use Rattle.std.proofs.Common.{◌≡◌, ◌==◌, ℕ, true, arith, sym, ◌∙◌}
use Rattle.std.proofs.lemmas.List.{nil_from_length}
use Rattle.sqlite.specs.Held.{state}
use Rattle.mf_store_journal.proofs.GoingLemmas.{still_unchanged}
use Rattle.mf_store_told.proofs.ToldLemmas.{going_first, going_on, going_stops, going_whole}
use Rattle.mf_store_told.proofs.pages.first_untold_after.Goals as goal

empty : (n : ℕ) → true ≡ (n == 0) → n ≡ 0
empty n e = grind arith

pub pages-init : goal.pages-init
pages-init g c = record {
  mode = c.requires.alone;
  going = going_first c.args.after (state g.S.Store c.args.connection.now);
}

pub pages-preserved : goal.pages-preserved
pages-preserved g c = record {
  mode = c.rows_after.ensures.mode;
  going = going_on c.args.after (state g.S.Store c.args.connection.now) (state g.S.Store c.pages.connection)
      (state g.S.Store c.rows_after.new.connection) c.pages.number c.in_ok-rows.rows.items c.pages.invariant.going
      c.rows_after.ensures.kept c.in_ok-rows.ensures.rows c.in_ok-number.number
      (omega (arith, c.in_ok-number.ensures.number, c.len.ensures, (c.in_ok-rows.rows.ok).0))
      (λ h lines are. rw c.in-Ok-None.field-0-is at (c.in-Ok-None.ensures.none h lines
      (c.deref.ensures.value ∙ are)));
}

pub returns-in_err-rows-clause-kept : goal.returns-in_err-rows-clause-kept
returns-in_err-rows-clause-kept g c =
    still_unchanged (state g.S.Store c.args.connection.now) (state g.S.Store c.pages.connection)
    (state g.S.Store c.rows_after.new.connection) (c.pages.invariant.going).kept c.rows_after.ensures.kept

pub returns-then-is_empty-clause-kept : goal.returns-then-is_empty-clause-kept
returns-then-is_empty-clause-kept g c =
    still_unchanged (state g.S.Store c.args.connection.now) (state g.S.Store c.pages.connection)
    (state g.S.Store c.rows_after.new.connection) (c.pages.invariant.going).kept c.rows_after.ensures.kept

pub returns-then-is_empty-clause-untold : goal.returns-then-is_empty-clause-untold
returns-then-is_empty-clause-untold g c =
    let rows = c.in_ok-rows.rows in
    going_whole c.args.after (state g.S.Store c.args.connection.now) (state g.S.Store c.pages.connection)
    (state g.S.Store c.rows_after.new.connection) c.pages.number rows.items c.pages.invariant.going
    c.rows_after.ensures.kept c.in_ok-rows.ensures.rows
    (nil_from_length rows.items (sym (rows.ok).0 ∙ empty _ c.if-is_empty.ensures))

pub returns-in_err-found-in-Ok-Some-clause-kept : goal.returns-in_err-found-in-Ok-Some-clause-kept
returns-in_err-found-in-Ok-Some-clause-kept g c =
    still_unchanged (state g.S.Store c.args.connection.now) (state g.S.Store c.pages.connection)
    (state g.S.Store c.rows_after.new.connection) (c.pages.invariant.going).kept c.rows_after.ensures.kept

pub returns-in-Ok-Some-clause-kept : goal.returns-in-Ok-Some-clause-kept
returns-in-Ok-Some-clause-kept g c =
    still_unchanged (state g.S.Store c.args.connection.now) (state g.S.Store c.pages.connection)
    (state g.S.Store c.rows_after.new.connection) (c.pages.invariant.going).kept c.rows_after.ensures.kept

pub returns-in-Ok-Some-clause-untold : goal.returns-in-Ok-Some-clause-untold
returns-in-Ok-Some-clause-untold g c =
    going_stops c.args.after (state g.S.Store c.args.connection.now) (state g.S.Store c.pages.connection)
    (state g.S.Store c.rows_after.new.connection) c.pages.number c.in_ok-rows.rows.items c.pages.invariant.going
    c.rows_after.ensures.kept c.in_ok-rows.ensures.rows c.in-Ok-Some.place c.in_ok-found-in-Ok-Some.found
    c.in_ok-found-in-Ok-Some.ensures.number
    (λ h lines are. rw c.in-Ok-Some.field-0-is at (c.in-Ok-Some.ensures.first h lines (c.deref.ensures.value ∙ are)))

pub returns-in-Err-clause-kept : goal.returns-in-Err-clause-kept
returns-in-Err-clause-kept g c =
    still_unchanged (state g.S.Store c.args.connection.now) (state g.S.Store c.pages.connection)
    (state g.S.Store c.rows_after.new.connection) (c.pages.invariant.going).kept c.rows_after.ensures.kept

pub returns-in_err-number-clause-kept : goal.returns-in_err-number-clause-kept
returns-in_err-number-clause-kept g c =
    still_unchanged (state g.S.Store c.args.connection.now) (state g.S.Store c.pages.connection)
    (state g.S.Store c.rows_after.new.connection) (c.pages.invariant.going).kept c.rows_after.ensures.kept
