use Rattle.std.proofs.Common.{◌≡◌, ◌==◌, ℕ, true, arith, sym, ◌∙◌}
use Rattle.std.proofs.lemmas.List.{nil_from_length}
use Rattle.sqlite.specs.Held.{state}
use Rattle.mf_store_journal.proofs.GoingLemmas.{still_unchanged}
use Rattle.mf_store_played.proofs.PlayLemmas.{going_first, going_on, going_stops, going_whole}
use Rattle.mf_store_played.proofs.pages.play_pages.Goals as goal

empty : (n : ℕ) → true ≡ (n == 0) → n ≡ 0
empty n e = grind arith

pub pages-init : goal.pages-init
pages-init g c = record {
  mode = c.requires.alone;
  going = going_first g.T.InstitutionStore c.args.after (state g.S.Store c.args.connection.now) c.args.store.now;
}

pub pages-preserved : goal.pages-preserved
pages-preserved g c = record {
  mode = c.rows_after.ensures.mode;
  going = going_on g.T.InstitutionStore c.args.after (state g.S.Store c.args.connection.now)
      (state g.S.Store c.pages.connection)
      (state g.S.Store c.rows_after.new.connection) c.args.store.now c.pages.store c.pages.number
      c.in_ok-rows.rows.items c.pages.invariant.going c.rows_after.ensures.kept c.in_ok-rows.ensures.rows
      c.play_page.new.store c.play_page.ensures.premise c.in_ok-number.number
      (omega (arith, c.in_ok-number.ensures.number, c.len.ensures, (c.in_ok-rows.rows.ok).0))
      (λ h lines are. rw c.in-Ok-Ok.field-0-is at (c.in-Ok-Ok.ensures {u = tt}).plays h lines
      (c.deref.ensures.value ∙ are));
}

pub returns-in_err-rows-clause-kept : goal.returns-in_err-rows-clause-kept
returns-in_err-rows-clause-kept g c =
    still_unchanged (state g.S.Store c.args.connection.now) (state g.S.Store c.pages.connection)
    (state g.S.Store c.rows_after.new.connection) (c.pages.invariant.going).kept c.rows_after.ensures.kept

pub returns-then-is_empty-clause-kept : goal.returns-then-is_empty-clause-kept
returns-then-is_empty-clause-kept g c =
    still_unchanged (state g.S.Store c.args.connection.now) (state g.S.Store c.pages.connection)
    (state g.S.Store c.rows_after.new.connection) (c.pages.invariant.going).kept c.rows_after.ensures.kept

pub returns-then-is_empty-clause-plays : goal.returns-then-is_empty-clause-plays
returns-then-is_empty-clause-plays g c =
    let rows = c.in_ok-rows.rows in
    going_whole g.T.InstitutionStore c.args.after (state g.S.Store c.args.connection.now)
    (state g.S.Store c.pages.connection)
    (state g.S.Store c.rows_after.new.connection) c.args.store.now c.pages.store c.pages.number rows.items
    c.pages.invariant.going c.rows_after.ensures.kept c.in_ok-rows.ensures.rows
    (nil_from_length rows.items (sym (rows.ok).0 ∙ empty _ c.if-is_empty.ensures))

pub returns-in_err-told-in-Ok-Err-clause-kept : goal.returns-in_err-told-in-Ok-Err-clause-kept
returns-in_err-told-in-Ok-Err-clause-kept g c =
    still_unchanged (state g.S.Store c.args.connection.now) (state g.S.Store c.pages.connection)
    (state g.S.Store c.rows_after.new.connection) (c.pages.invariant.going).kept c.rows_after.ensures.kept

pub returns-in-Ok-Err-clause-kept : goal.returns-in-Ok-Err-clause-kept
returns-in-Ok-Err-clause-kept g c =
    still_unchanged (state g.S.Store c.args.connection.now) (state g.S.Store c.pages.connection)
    (state g.S.Store c.rows_after.new.connection) (c.pages.invariant.going).kept c.rows_after.ensures.kept

pub returns-in-Ok-Err-clause-plays : goal.returns-in-Ok-Err-clause-plays
returns-in-Ok-Err-clause-plays g c =
    going_stops g.T.InstitutionStore c.args.after (state g.S.Store c.args.connection.now)
    (state g.S.Store c.pages.connection)
    (state g.S.Store c.rows_after.new.connection) c.args.store.now c.pages.store c.pages.number
    c.in_ok-rows.rows.items c.pages.invariant.going c.rows_after.ensures.kept c.in_ok-rows.ensures.rows
    c.play_page.new.store c.play_page.ensures.premise c.in-Ok-Err.place c.in_ok-told-in-Ok-Err.told c.in-Ok-Err.why
    c.in_ok-told-in-Ok-Err.ensures.number
    (λ h lines are. rw c.in-Ok-Err.field-0-is at (c.in-Ok-Err.ensures {u = tt}).plays h lines
    (c.deref.ensures.value ∙ are))

pub returns-in-Err-clause-kept : goal.returns-in-Err-clause-kept
returns-in-Err-clause-kept g c =
    still_unchanged (state g.S.Store c.args.connection.now) (state g.S.Store c.pages.connection)
    (state g.S.Store c.rows_after.new.connection) (c.pages.invariant.going).kept c.rows_after.ensures.kept

pub returns-in_err-number-clause-kept : goal.returns-in_err-number-clause-kept
returns-in_err-number-clause-kept g c =
    still_unchanged (state g.S.Store c.args.connection.now) (state g.S.Store c.pages.connection)
    (state g.S.Store c.rows_after.new.connection) (c.pages.invariant.going).kept c.rows_after.ensures.kept
