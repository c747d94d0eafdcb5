use Rattle.std.proofs.Common.{◌≤◌, ◌+◌, ℕ, arith, ◌∙◌, sym, refl, true≢false}
use Rattle.mf_account.specs.Change.{HasOtherParts}
use Rattle.mf_account.proofs.ChangeLemmas.{below-all}
use Rattle.mf_account.proofs.DifferLemmas.{IsRun, least-up, walked-other, walked-same, end-none}
use Rattle.mf_account.proofs.change.differing_seqs.Goals as goal

pub loop-i-preserved-in_ok-push : goal.loop-i-preserved-in_ok-push
loop-i-preserved-in_ok-push c =
    let so_far = c.loop-i.invariant.walked in
    let q : ℕ = c.least_seq-seq.result in
    let more : so_far.0 ≤ q = least-up c.args.before.now c.args.after.now c.loop-i.i c.loop-i.k so_far.0 q
    so_far.1.before_is so_far.1.after_is c.least_seq-seq.ensures.one in
    let run_i : IsRun q c.args.before.now c.loop-i.i c.own_end-next_i.result = record {
      from = c.own_end-next_i.ensures.from;
      within = c.own_end-next_i.ensures.within;
      own = c.own_end-next_i.ensures.own;
      last = c.own_end-next_i.ensures.last;
      least = c.least_seq-seq.ensures.before;
    } in
    let run_k : IsRun q c.args.after.now c.loop-i.k c.own_end-next_k.result = record {
      from = c.own_end-next_k.ensures.from;
      within = c.own_end-next_k.ensures.within;
      own = c.own_end-next_k.ensures.own;
      last = c.own_end-next_k.ensures.last;
      least = c.least_seq-seq.ensures.after;
    } in
    record {
      walked = (
        q + 1,
        walked-other c.args.before.now c.args.after.now c.loop-i.i c.loop-i.k c.own_end-next_i.result
            c.own_end-next_k.result so_far.0 q c.loop-i.changed.items c.push.new.self.items
            c.requires.before c.requires.after so_far.1 more run_i run_k
            (λ is. true≢false (sym (c.has_same_parts.ensures.1 is) ∙ c.if-not-has_same_parts.true))
            c.in_ok-push.ensures.items,
      );
    }

pub loop-i-preserved : goal.loop-i-preserved
loop-i-preserved c =
    let so_far = c.loop-i.invariant.walked in
    let q : ℕ = c.least_seq-seq.result in
    let more : so_far.0 ≤ q = least-up c.args.before.now c.args.after.now c.loop-i.i c.loop-i.k so_far.0 q
    so_far.1.before_is so_far.1.after_is c.least_seq-seq.ensures.one in
    let run_i : IsRun q c.args.before.now c.loop-i.i c.own_end-next_i.result = record {
      from = c.own_end-next_i.ensures.from;
      within = c.own_end-next_i.ensures.within;
      own = c.own_end-next_i.ensures.own;
      last = c.own_end-next_i.ensures.last;
      least = c.least_seq-seq.ensures.before;
    } in
    let run_k : IsRun q c.args.after.now c.loop-i.k c.own_end-next_k.result = record {
      from = c.own_end-next_k.ensures.from;
      within = c.own_end-next_k.ensures.within;
      own = c.own_end-next_k.ensures.own;
      last = c.own_end-next_k.ensures.last;
      least = c.least_seq-seq.ensures.after;
    } in
    record {
      walked = (
        q + 1,
        walked-same c.args.before.now c.args.after.now c.loop-i.i c.loop-i.k c.own_end-next_i.result
            c.own_end-next_k.result so_far.0 q c.loop-i.changed.items c.loop-i.changed.items
            c.requires.before c.requires.after so_far.1 more run_i run_k
            (c.has_same_parts.ensures.0 c.if-not-has_same_parts.false) refl,
      );
    }

pub returns-clause-seqs : goal.returns-clause-seqs
returns-clause-seqs c =
    let so_far = c.loop-i.invariant.walked in
    below-all so_far.0 (HasOtherParts c.args.before.now c.args.after.now) c.loop-i.changed.items so_far.1.found
    (λ seq from differ. differ (
    end-none so_far.0 seq c.args.before.now c.loop-i.i so_far.1.before_is (omega (arith, c.if-i-before.false)) from
    ∙ sym (end-none so_far.0 seq c.args.after.now c.loop-i.k so_far.1.after_is (omega (arith, c.if-k-after.false))
    from)))
