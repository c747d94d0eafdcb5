use Rattle.std.proofs.Common.{◌≡◌, [], ◌∷◌, ◌++◌, Err, refl, ◌∙◌, rules}
use Rattle.sqlite.specs.Held.{state}
use Rattle.mf_store_schema.proofs.CallLemmas.{goes_on}
use Rattle.mf_store_values.proofs.FoldLemmas.{tells_none, tells_more, tells_line}
use Rattle.mf_store_values.proofs.RowsLemmas.{no_ok, clean_before, survives_same, kept_same, kept_then, unread_sums}
use Rattle.mf_store_values.proofs.RowsLemmas.{so_far_none, so_far_more, folds_given, folds_refused, folds_shown}
use Rattle.mf_store_values.proofs.RowsLemmas.{given_great}
use Rattle.mf_store_values.proofs.SumLemmas.{over_at_end, over_at_row}
use Rattle.mf_store_values.specs.declared.fold.NoLine.TheVariants.{Unread}
use Rattle.mf_store_values.proofs.fold.fold_instalments.Goals as goal

pub rows-init : goal.rows-init
rows-init g c =
    let h = c.args.rows.now.conn.now in
    record {
      same_reference = refl;
      survives = survives_same (state g.S.Store h);
      kept = λ clean. kept_same g.S.Store h;
      mode = λ off. off;
      taken = [];
      given = so_far_none g.S.Store h;
      tells = tells_none c.args.day c.args.line.now c.new-read.result c.new-read.ensures;
    }

pub returns-in_err-next_instalment-clause-folds : goal.returns-in_err-next_instalment-clause-folds
returns-in_err-next_instalment-clause-folds g c = folds_refused g.S.Store c.args.day c.args.line.now c.rows.line
    c.from_residual.result c.from_residual.ensures.0 c.rows.invariant.given c.next_instalment.ensures.survives
    c.in_err-next_instalment.ensures.refuses

pub returns-in_err-take-in-Some-clause-folds : goal.returns-in_err-take-in-Some-clause-folds
returns-in_err-take-in-Some-clause-folds g c =
    let takes = rw c.in-Some.is at c.in_ok-next_instalment.ensures.takes in
    folds_given g.S.Store c.args.day c.args.line.now c.take.new.line c.from_residual-in_err-take-in-Some.result
    c.from_residual-in_err-take-in-Some.ensures.0 (so_far_more g.S.Store takes.0 c.rows.invariant.given
    c.next_instalment.ensures.survives (λ clean. (takes.1 clean, c.in_ok-next_instalment.ensures.same clean)))

pub rows-preserved : goal.rows-preserved
rows-preserved g c =
    let was = c.rows.invariant in
    let now = c.in_ok-next_instalment.ensures in
    let takes = rw c.in-Some.is at now.takes in
    record {
      same_reference = now.same_reference ∙ was.same_reference;
      survives = goes_on _ _ _ was.survives now.survives;
      kept = λ clean. kept_then g.S.Store _ _ _ (was.kept (clean_before now.survives clean)) (now.kept clean);
      mode = λ off. now.mode (was.mode off);
      taken = was.taken ++ takes.0 ∷ [];
      given = so_far_more g.S.Store takes.0 was.given now.survives (λ clean. (takes.1 clean, now.same clean));
      tells = tells_more c.args.day was.taken takes.0 c.in-Some.found c.args.line.now c.rows.read c.take.new.self
          c.rows.line c.take.new.line takes.2 c.in_ok-take-in-Some.ensures.value was.tells;
    }

pub returns-clause-folds : goal.returns-clause-folds
returns-clause-folds g c = folds_given g.S.Store c.args.day c.args.line.now c.rows.line (Err Unread) refl
    c.rows.invariant.given

pub returns-in_err-next_instalment-clause-sums : goal.returns-in_err-next_instalment-clause-sums
returns-in_err-next_instalment-clause-sums g c =
    let e : c.from_residual.result ≡ Err c.in_err-next_instalment.field-0.0 = search rules in
    rw e (unread_sums g.S.Store c.args.rows.now.conn.now c.next_instalment.new.rows.conn.now c.args.line.now
    c.in_err-next_instalment.field-0.0 c.in_err-next_instalment.ensures.unread)

pub returns-clause-sums : goal.returns-clause-sums
returns-clause-sums g c = unread_sums g.S.Store c.args.rows.now.conn.now c.rows.rows.conn.now c.args.line.now Unread
    refl

pub returns-in-None-clause-folds : goal.returns-in-None-clause-folds
returns-in-None-clause-folds g c =
    let was = c.rows.invariant in
    folds_shown g.S.Store c.args.day c.args.line.now c.count.new.line _ was.given c.next_instalment.ensures.survives
    (rw c.in-None.is at c.in_ok-next_instalment.ensures.takes) (tells_line c.args.day was.taken c.args.line.now
    c.rows.read c.rows.line c.count.new.line c.in_ok-count-in-None.ensures.line was.tells)

pub returns-in_err-count-in-None-clause-folds : goal.returns-in_err-count-in-None-clause-folds
returns-in_err-count-in-None-clause-folds g c =
    let r = c.from_residual-in_err-count-in-None in
    folds_shown g.S.Store c.args.day c.args.line.now c.count.new.line r.result c.rows.invariant.given
    c.next_instalment.ensures.survives (rw c.in-None.is at c.in_ok-next_instalment.ensures.takes)
    (no_ok r.result _ r.ensures.0)

pub returns-in_err-count-in-None-clause-sums : goal.returns-in_err-count-in-None-clause-sums
returns-in_err-count-in-None-clause-sums g c =
    let was = c.rows.invariant in
    given_great g.S.Store c.next_instalment.new.rows.conn.now c.args.line.now
    c.from_residual-in_err-count-in-None.result was.given (clean_before c.next_instalment.ensures.survives)
    (over_at_end c.args.day was.taken c.args.line.now c.rows.read c.rows.line c.in_err-count-in-None.ensures.too_much
    was.tells)

pub returns-in_err-take-in-Some-clause-sums : goal.returns-in_err-take-in-Some-clause-sums
returns-in_err-take-in-Some-clause-sums g c =
    let was = c.rows.invariant in
    let takes = rw c.in-Some.is at c.in_ok-next_instalment.ensures.takes in
    given_great g.S.Store c.next_instalment.new.rows.conn.now c.args.line.now
    c.from_residual-in_err-take-in-Some.result (so_far_more g.S.Store takes.0 was.given
    c.next_instalment.ensures.survives (λ clean. (takes.1 clean, c.in_ok-next_instalment.ensures.same clean)))
    (λ clean. clean) (over_at_row c.args.day was.taken takes.0 c.in-Some.found c.args.line.now c.rows.read c.rows.line
    takes.2 c.in_err-take-in-Some.ensures.too_much was.tells)
