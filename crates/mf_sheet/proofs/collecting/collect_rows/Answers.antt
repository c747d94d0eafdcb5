use Rattle.std.proofs.Common.{◌≡◌, ◌≢◌, ℕ, List, ◌∷◌, ◌++◌, length, Option, inr, refl, sym, ap, ◌∙◌, subst, arith}
use Rattle.std.specs.Io.KnownBytes.{Appends}
use Rattle.std.specs.Vec.Iter.{into_iter_items}
use Rattle.mf_base.specs.declared.fault.Cause.TheVariants.{Write}
use Rattle.mf_sheet_lines.specs.Results.{heading}
use Rattle.mf_sheet_lines.specs.declared.results.SheetResult.{SheetResult}
use Rattle.mf_sheet.specs.Runs.{AnswersFields, AnswersEach}
use Rattle.mf_wire_lines.specs.Streams.{stream_of}
use Rattle.mf_sheet.specs.Ends.{SheetStreams, EndsBy}
use Rattle.mf_sheet.proofs.Rows.{Going-start, Going-more, one_taken, one_done, all_done, count_below, ends_whole}
use Rattle.mf_sheet.proofs.Rows.{ends_in_F20, cuts_record}
use Rattle.mf_sheet.proofs.collecting.collect_rows.Goals as goal

pub loop-row-init : goal.loop-row-init
loop-row-init g c =
    let gives = c.into_iter-row-iterator.ensures.into_iter_gives in
    record {
      all = sym gives.0;
      left = omega (arith, gives.1, ap length gives.0, c.args.rows.ok);
      going = Going-start _ c.args.store.now (g.W.Sink.written c.args.sink.now);
      sound = refl;
    }

pub overflow_add-answered : goal.overflow_add-answered
overflow_add-answered g c =
    let among = one_taken _ _ _ _ _ c.loop-row.invariant.all c.in-Some.ensures.steps.0 in
    let below = count_below _ _ _ _ _ _ _ _ _ _ among c.loop-row.invariant.going in
    omega (arith, below, c.args.rows.ok, c.args.rows.small)

pub loop-row-preserved : goal.loop-row-preserved
loop-row-preserved g c = record {
  all = one_done _ _ _ _ (one_taken _ _ _ _ _ c.loop-row.invariant.all c.in-Some.ensures.steps.0);
  left = let steps = c.in-Some.ensures.steps in omega (arith, ap length steps.0, steps.1, c.loop-row.invariant.left);
  going = Going-more _ _ c.loop-row.store c.collect_row.new.store c.loop-row.yielded c.in-Some.row c.in-Ok.outcome _
      (g.W.Sink.written c.loop-row.sink) _ c.loop-row.answered
      c.loop-row.invariant.going c.in-Ok.ensures.answered c.in-Ok.ensures.written
      (c.is_end.ensures.goes_on c.if-is_end.false);
  sound = c.in-Ok.ensures.sound ∙ c.loop-row.invariant.sound;
}

pub returns-then-is_end : goal.returns-then-is_end
returns-then-is_end g c = record {
  ends = λ before first.
      let among = one_taken _ _ _ _ _ c.loop-row.invariant.all c.in-Some.ensures.steps.0 in
      ends_in_F20 _ c.args.store.now _ c.loop-row.yielded (g.W.Sink.written c.args.sink.now) c.loop-row.answered first
      c.loop-row.store c.collect_row.new.store c.in-Some.row c.in-Ok.outcome _ (g.W.Sink.written c.loop-row.sink) among
      c.in-Ok.ensures.answered
      (c.in-Ok.ensures.sound ∙ c.loop-row.invariant.sound) (c.is_end.ensures.end c.if-is_end.true)
      c.in-Ok.ensures.written c.loop-row.invariant.going;
}

pub returns : goal.returns
returns g c = record {
  ends = λ before first.
      ends_whole _ c.args.store.now _ c.loop-row.yielded (g.W.Sink.written c.args.sink.now) c.loop-row.answered first
      c.loop-row.store (all_done _ _ _ c.loop-row.invariant.all (sym c.loop-row.invariant.left
      ∙ c.in-None.ensures.steps.0)) c.loop-row.invariant.sound c.loop-row.invariant.going;
}

pub returns-in-Err : goal.returns-in-Err
returns-in-Err g c = record { ends = λ before first. at before first }
  where
    step : g.row.S.Denot → List (List ℕ) → SheetResult → g.row.S.Denot → Type 0
    step = AnswersFields g.S.InstitutionStore c.args.told.now c.args.caller.now

    among : c.args.rows.items ≡ c.loop-row.yielded ++ c.in-Some.row ∷ into_iter_items c.next.new.self
    among = one_taken _ _ _ _ _ c.loop-row.invariant.all c.in-Some.ensures.steps.0

    streams : Option (List ℕ) → SheetStreams
    streams before = record {
      rows = c.args.rows.items;
      sink = record (stream_of g.W.Sink.written g.W.Sink.faults c.args.sink.now c.collect_row.new.sink)
          { before = before };
    }

    at : (before : Option (List ℕ)) → Appends before (g.W.Sink.written c.args.sink.now) heading
        → EndsBy (AnswersEach step) c.args.store.now c.collect_row.new.store (streams before) Write c.loop-row.answered
    at before first =
        let w = c.in-Err.ensures.write in (
          subst (λ n. g.W.Sink.faults c.collect_row.new.sink ≢ n) c.loop-row.invariant.sound c.in-Err.ensures.fault,
          inr (
              cuts_record step c.args.store.now (streams before) c.loop-row.yielded (g.W.Sink.written c.args.sink.now)
              c.loop-row.answered first
              c.loop-row.store c.collect_row.new.store c.in-Some.row w.0 _ (g.W.Sink.written c.loop-row.sink) among w.1
              w.2.0 w.2.1 w.2.2 c.loop-row.invariant.going
              ),
        )
