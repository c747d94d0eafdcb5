use Rattle.std.proofs.Common.{◌≡◌, ◌==◌, ℕ, true, arith, sym, ap, ◌∙◌}
use Rattle.std.proofs.lemmas.List.{nil_from_length}
use Rattle.sqlite.specs.Held.{state}
use Rattle.mf_store_journal.specs.Reading.{page_above}
use Rattle.mf_store_journal.proofs.GoingLemmas.{still_unchanged, going_first, going_on, going_whole, going_stops}
use Rattle.mf_store_journal.proofs.checking.follow_from.Goals as goal

empty : (n : ℕ) → true ≡ (n == 0) → n ≡ 0
empty n e = grind arith

pub pages-init : goal.pages-init
pages-init g c = record {
  mode = c.requires.alone;
  going = going_first c.args.beginning (state g.S.Store c.args.connection.now);
}

pub pages-preserved : goal.pages-preserved
pages-preserved g c =
    let was = c.pages.invariant in record {
      mode = c.rows_after.ensures.mode;
      going = going_on c.args.beginning c.pages.head (state g.S.Store c.args.connection.now)
          (state g.S.Store c.pages.connection) (state g.S.Store c.rows_after.new.connection) c.in_ok-rows.rows.items
          was.going c.rows_after.ensures.kept
          (λ clean lines keeps. c.in_ok-rows.ensures.rows clean lines keeps
          ∙ ap (λ n. page_above n lines) c.in-Some.ensures.some) c.in-Ok.next
          (λ lines are. c.in-Ok.ensures.follow lines (c.deref.ensures.value ∙ are));
    }

pub returns-in_err-rows-clause-kept : goal.returns-in_err-rows-clause-kept
returns-in_err-rows-clause-kept g c =
    still_unchanged (state g.S.Store c.args.connection.now) (state g.S.Store c.pages.connection)
    (state g.S.Store c.rows_after.new.connection) (c.pages.invariant.going).kept c.rows_after.ensures.kept

pub returns-in-Err-clause-kept : goal.returns-in-Err-clause-kept
returns-in-Err-clause-kept g c =
    still_unchanged (state g.S.Store c.args.connection.now) (state g.S.Store c.pages.connection)
    (state g.S.Store c.rows_after.new.connection) (c.pages.invariant.going).kept c.rows_after.ensures.kept

pub returns-in-Err-clause-found : goal.returns-in-Err-clause-found
returns-in-Err-clause-found g c clean lines keeps can rest are =
    let old = state g.S.Store c.args.connection.now in
    let now = state g.S.Store c.pages.connection in
    let new = state g.S.Store c.rows_after.new.connection in
    let was = c.pages.invariant in
    going_stops c.args.beginning c.pages.head old now new c.in_ok-rows.rows.items was.going c.rows_after.ensures.kept
    (λ clean lines keeps. c.in_ok-rows.ensures.rows clean lines keeps
    ∙ ap (λ n. page_above n lines) c.in-Some.ensures.some) c.in-Err.flaw
    (λ lines are. c.in-Err.ensures.flawed lines (c.deref.ensures.value ∙ are))
    (λ clean. (still_unchanged old now new (was.going).kept c.rows_after.ensures.kept).was_open clean
    (c.in_ok-rows.ensures.open clean)) clean lines keeps rest are

pub returns-then-is_empty-clause-kept : goal.returns-then-is_empty-clause-kept
returns-then-is_empty-clause-kept g c =
    still_unchanged (state g.S.Store c.args.connection.now) (state g.S.Store c.pages.connection)
    (state g.S.Store c.rows_after.new.connection) (c.pages.invariant.going).kept c.rows_after.ensures.kept

pub returns-then-is_empty-clause-found : goal.returns-then-is_empty-clause-found
returns-then-is_empty-clause-found g c clean lines keeps can rest are =
    let old = state g.S.Store c.args.connection.now in
    let now = state g.S.Store c.pages.connection in
    let new = state g.S.Store c.rows_after.new.connection in
    let was = c.pages.invariant in
    let rows = c.in_ok-rows.rows in
    going_whole c.args.beginning c.pages.head old now new rows.items was.going c.rows_after.ensures.kept
    (λ clean lines keeps. c.in_ok-rows.ensures.rows clean lines keeps
    ∙ ap (λ n. page_above n lines) c.in-Some.ensures.some)
    (nil_from_length rows.items (sym (rows.ok).0 ∙ empty _ c.if-is_empty.ensures))
    (λ clean. (still_unchanged old now new (was.going).kept c.rows_after.ensures.kept).was_open clean
    (c.in_ok-rows.ensures.open clean)) clean lines keeps can rest are
