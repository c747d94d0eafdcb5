use Rattle.std.proofs.Common.{◌≡◌, ℕ, ◌+◌, ◌-◌, map, ap, ◌∙◌, arith}
use Rattle.std.specs.List.{range_with_len}
use Rattle.mf_schedule.specs.Fresh.{instalment_of, scheduled_interest, fresh_schedule, total_interest, total_owed}
use Rattle.mf_schedule.specs.Fresh.{total_principal}
use Rattle.mf_schedule.specs.Plan.{interest_of, principal_of}
use Rattle.mf_schedule.proofs.GraceLemmas.{held_before, after_grace-within, after_grace-beyond, held_before-within}
use Rattle.mf_schedule.proofs.GraceLemmas.{held_before-beyond}
use Rattle.mf_schedule.proofs.LoanLemmas.{balance_of-le, fresh_rows-more, principal_of-step, scheduled-interest-sum}
use Rattle.mf_schedule.proofs.LoanLemmas.{scheduled-principal-sum}
use Rattle.mf_schedule.proofs.BoundLemmas.{scheduled_interest-le, scheduled_owed-le}
use Rattle.mf_schedule.proofs.schedule.fresh.Goals as goal
use Rattle.mf_schedule.proofs.schedule.fresh.Goals.{then-i-terms, else-i-terms}

pub overflow_sub-balance : goal.overflow_sub-balance
overflow_sub-balance c =
    omega (
      arith,
      principal_of-step c.args.terms.now c.args.principal c.args.n c.loop-i.i c.requires.limits
          (omega arith) (omega arith),
    )

pub amount_of_charge-requires-clause-amount : goal.amount_of_charge-requires-clause-amount
amount_of_charge-requires-clause-amount c =
    omega (
      arith,
      principal_of-step c.args.terms.now c.args.principal c.args.n c.loop-i.i c.requires.limits
          (omega arith) (omega arith),
      balance_of-le c.args.terms.now c.args.principal c.args.n c.loop-i.i
          c.requires.limits,
      c.requires.limits.most_principal,
    )

pub loop-i-preserved : goal.loop-i-preserved
loop-i-preserved c =
    let terms = c.args.terms.now in
    let i = c.loop-i.i in
    let planned = interest_of terms c.args.principal c.args.n in
    let part : c.principal-part.result ≡ principal_of terms c.args.principal c.args.n i =
    c.principal-part.ensures.value in
    let interest : c.if-i-terms.interest ≡ scheduled_interest terms c.args.principal c.args.n i =
    elim c.if-i-terms.branch [
      | then-i-terms w ↦ omega (
        arith,
        w.interest-is,
        after_grace-within terms.interest_grace planned i
            w.if-i-terms.true,
      )
      | else-i-terms w ↦ omega (
        arith,
        w.interest-is,
        after_grace-beyond terms.interest_grace planned i (omega arith)
            w.if-i-terms.false,
      )
    ] in
    let held : c.if-i-terms.held ≡ held_before terms.interest_grace planned (i + 1) = elim c.if-i-terms.branch [
      | then-i-terms w ↦ omega (
        arith,
        w.held-is,
        held_before-within terms.interest_grace planned i (omega arith)
            w.if-i-terms.true,
      )
      | else-i-terms w ↦ omega (arith, w.held-is, held_before-beyond terms.interest_grace planned i w.if-i-terms.false)
    ] in
    record {
      made = fresh_rows-more terms c.args.principal c.args.n c.args.day i c.loop-i.rows.items _ c.due_day.result
          c.principal-part.result c.if-i-terms.interest c.amount_of_charge.result (omega arith) c.loop-i.invariant.made
          c.in_ok-push.ensures.items c.due_day.ensures part interest c.amount_of_charge.ensures;
      count = omega (arith, c.in_ok-push.ensures.len);
      left = omega (
        arith,
        principal_of-step terms c.args.principal c.args.n i c.requires.limits (omega arith)
            (omega arith),
      );
      back = held;
      small = elim c.if-i-terms.branch [
        | then-i-terms w ↦ omega (arith, w.held-is)
        | else-i-terms w ↦ omega (
          arith,
          w.held-is,
        )
      ];
    }

pub returns-clause-all_principal : goal.returns-clause-all_principal
returns-clause-all_principal c =
    let place : c.loop-i.i - 1 ≡ c.args.n = omega arith in
    ap total_principal (c.loop-i.invariant.made
    ∙ ap (λ (x : ℕ). map (instalment_of c.args.terms.now c.args.principal c.args.n c.args.day) (range_with_len 1 x))
    place)
    ∙ scheduled-principal-sum c.args.terms.now c.args.principal c.args.n c.args.day c.requires.limits

pub returns-clause-all_interest : goal.returns-clause-all_interest
returns-clause-all_interest c =
    let place : c.loop-i.i - 1 ≡ c.args.n = omega arith in
    ap total_interest (c.loop-i.invariant.made
    ∙ ap (λ (x : ℕ). map (instalment_of c.args.terms.now c.args.principal c.args.n c.args.day) (range_with_len 1 x))
    place)
    ∙ scheduled-interest-sum c.args.terms.now c.args.principal c.args.n c.args.day c.requires.limits

pub returns-clause-little_interest : goal.returns-clause-little_interest
returns-clause-little_interest c =
    let place : c.loop-i.i - 1 ≡ c.args.n = omega arith in
    let rows : c.loop-i.rows.items ≡ fresh_schedule c.args.terms.now c.args.principal c.args.n c.args.day =
    c.loop-i.invariant.made ∙ ap (λ (x : ℕ). map (instalment_of c.args.terms.now c.args.principal c.args.n
    c.args.day) (range_with_len 1 x)) place in
    omega (
      arith,
      ap total_interest rows,
      scheduled_interest-le c.args.terms.now c.args.principal c.args.n c.args.day
          c.requires.limits,
    )

pub returns-clause-little_owed : goal.returns-clause-little_owed
returns-clause-little_owed c =
    let place : c.loop-i.i - 1 ≡ c.args.n = omega arith in
    let rows : c.loop-i.rows.items ≡ fresh_schedule c.args.terms.now c.args.principal c.args.n c.args.day =
    c.loop-i.invariant.made ∙ ap (λ (x : ℕ). map (instalment_of c.args.terms.now c.args.principal c.args.n
    c.args.day) (range_with_len 1 x)) place in
    omega (
      arith,
      ap total_owed rows,
      scheduled_owed-le c.args.terms.now c.args.principal c.args.n c.args.day
          c.requires.limits,
    )
