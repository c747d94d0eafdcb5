use Rattle.std.proofs.Common.{◌≡◌, take, sym, ◌∙◌, subst, arith, rules}
use Rattle.std.proofs.lemmas.List.{take_all}
use Rattle.sqlite.specs.State.{HasCleanDisk}
use Rattle.sqlite.specs.Held.{state}
use Rattle.sqlite.proofs.StateLemmas.{survives_then}
use Rattle.sqlite.proofs.Callers.{survives_begin}
use Rattle.mf_store_sql.specs.Writes.{Serves, AllFit, after_all, MayHold}
use Rattle.mf_store_sql.proofs.ApplyLemmas.{turns_then, keeps_then}
use Rattle.mf_store_sql.proofs.apply.Goals as goal

pub loop-write-preserved : goal.loop-write-preserved
loop-write-preserved g c =
    let first = state g.S.Store c.transaction-tx.result.conn.now in
    let mid = state g.S.Store c.loop-write.tx.conn.now in
    let last = state g.S.Store c.write.new.tx.conn.now in
    let before = λ (clean : HasCleanDisk last). let early : HasCleanDisk mid =
    omega (arith, c.write.ensures.survives.clean) in early in
    let step = λ (clean : HasCleanDisk last). c.in_ok-write.ensures.ok clean (c.loop-write.invariant.mode
    (before clean)) in record {
      same = c.write.ensures.same_reference ∙ c.loop-write.invariant.same;
      survives = survives_then first mid last _ _ (λ _. ⊥) (λ _ db none. none) (λ _ db none. none)
          c.loop-write.invariant.survives c.write.ensures.survives;
      kept = λ clean. keeps_then first mid last (c.loop-write.invariant.kept (before clean))
          (c.write.ensures.kept clean);
      mode = λ clean. (step clean).mode;
      was_open = λ clean _. (c.loop-write.invariant.kept (before clean)).was_open (step clean).was_open;
      turns = λ clean. turns_then g.W.Write.after g.W.Write.Fits (Serves g.W.Write.schema g.W.Write.Holds) first.now
          mid.now last.now c.args.writes.now c.loop-write.write-index c.write-item.result c.loop-write-test.true
          c.write-item.is
          (c.loop-write.invariant.turns (before clean)) (step clean).turns;
    }

pub returns-clause-crash : goal.returns-clause-crash
returns-clause-crash g c =
    let old = c.args.connection.now in
    let last = c.loop-write.tx.conn.now in
    let begun = c.transaction-tx.ensures.begun in
    let all = c.args.writes.now in
    let after = g.W.Write.after in
    let fits = AllFit after g.W.Write.Fits in
    let stands = Serves g.W.Write.schema g.W.Write.Holds in
    let whole : take c.loop-write.write-index all ≡ all = take_all _ all (omega arith) in
    let P = MayHold stands g.W.Write.Holds (fits all) (after_all after all) (state g.S.Store old) in
    let done = survives_then (state g.S.Store old) (state g.S.Store last) (state g.S.Store c.commit.new.self.0) _ _ P
    (λ _ db none. absurd none)
    (λ clean db is. let early : HasCleanDisk (state g.S.Store last) = omega (
      arith,
      clean,
      c.commit.ensures.survives.clean,
    ) in record {
      was_open = rw begun at (c.loop-write.invariant.was_open early (omega arith));
      holds = λ m s fit. subst (λ t. g.W.Write.Holds t (after_all after all m)) (sym is)
          (subst (λ ws. g.W.Write.Holds (state g.S.Store last).now.trees (after_all after ws m)) whole
          (c.loop-write.invariant.turns early m (rw begun s) (subst (λ ws. fits ws m) (sym whole) fit)).holds);
    })
    (survives_begin g.S.Store old (state g.S.Store last) _ (rw begun at c.loop-write.invariant.survives))
    c.commit.ensures.survives in
    search (rules, done)
