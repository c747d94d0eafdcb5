use Rattle.std.proofs.Common.{refl, ◌≡◌, ℕ, ◌+◌, ◌<◌, ◌-◌, List, ◌∷◌, length, drop, get_or, arith, sym, ap}
use Rattle.std.proofs.Common.{◌∙◌, add-one}
use Rattle.std.proofs.Math.Seq.{drop-cons}
use Rattle.std.proofs.lemmas.List.{drop_all}
use Rattle.mf_schedule.specs.declared.instalment.FreshInstalment.{FreshInstalment}
use Rattle.mf_lists.specs.Rate.{after_days, millionths_asked, asked_by_all, bears}
use Rattle.mf_lists.proofs.RateLemmas.{enough-by_then, bears-next, bears-not, none-borne, asked-cons, asked-owed}
use Rattle.mf_lists.proofs.rate.bears.Goals as goal

-- what is left of instalments: the next one, and the others
next_of : (rows : List FreshInstalment) (i : ℕ) (row : FreshInstalment) → i < length rows → row ≡ get_or rows i row
    → drop i rows ≡ row ∷ drop (i + 1) rows
next_of rows i row within is =
    drop-cons rows i row within
    ∙ ap (λ (n : ℕ). get_or rows i row ∷ drop n rows) (sym (add-one i))
    ∙ ap (λ (x : FreshInstalment). x ∷ drop (i + 1) rows) (sym is)

-- the balance of a due day, by the days that the code counts
on_due : (rate days due day b : ℕ) → days ≡ due - day → after_days rate days b ≡ after_days rate (due - day) b
on_due rate days due day b e = ap (λ (n : ℕ). after_days rate n b) e

pub loop-row-init : goal.loop-row-init
loop-row-init c =
    let asked = asked-owed c.args.rows.now in
    record {
      same = refl;
      to_come = omega (arith, asked, c.owed_together.ensures);
      small = omega (arith, c.owed_together.ensures);
      small_balance = omega arith;
    }

pub returns-then-balance-to_come : goal.returns-then-balance-to_come
returns-then-balance-to_come c =
    let rows = c.args.rows.now in
    let at = c.loop-row in
    let row = c.row-item.result in
    let left = next_of rows at.row-index row (omega arith) c.row-item.is in
    let asked = ap asked_by_all left in
    let days = on_due c.args.rate c.days_between.result row.due at.day at.balance c.days_between.ensures in
    sym (ap (bears c.args.rate at.day at.balance) left
    ∙ enough-by_then c.args.rate at.day at.balance row (drop (at.row-index + 1) rows)
    (omega (arith, asked, days, at.invariant.to_come, c.grown-balance.ensures.below)))
    ∙ at.invariant.same

pub returns-then-asked-balance : goal.returns-then-asked-balance
returns-then-asked-balance c =
    let rows = c.args.rows.now in
    let at = c.loop-row in
    let row = c.row-item.result in
    let left = next_of rows at.row-index row (omega arith) c.row-item.is in
    let days = on_due c.args.rate c.days_between.result row.due at.day at.balance c.days_between.ensures in
    let grown = c.grown-balance.ensures.value (omega arith) in
    sym (ap (bears c.args.rate at.day at.balance) left
    ∙ bears-not c.args.rate at.day at.balance row (drop (at.row-index + 1) rows)
    (omega (arith, days, grown, c.asked-asked.ensures)))
    ∙ at.invariant.same

pub loop-row-preserved : goal.loop-row-preserved
loop-row-preserved c =
    let rows = c.args.rows.now in
    let at = c.loop-row in
    let row = c.row-item.result in
    let others = drop (at.row-index + 1) rows in
    let left = next_of rows at.row-index row (omega arith) c.row-item.is in
    let days = on_due c.args.rate c.days_between.result row.due at.day at.balance c.days_between.ensures in
    let grown = c.grown-balance.ensures.value (omega arith) in
    let asked = ap asked_by_all left ∙ asked-cons row others in
    let balance : c.grown-balance.result - c.asked-asked.result
    ≡ after_days c.args.rate (row.due - at.day) at.balance - millionths_asked row =
    omega (arith, days, grown, c.asked-asked.ensures) in
    let next = bears-next c.args.rate at.day at.balance row others
    (omega (arith, days, grown, c.asked-asked.ensures)) in
    record {
      same =
          ap (λ (b : ℕ). bears c.args.rate row.due b others) balance ∙ sym next
          ∙ sym (ap (bears c.args.rate at.day at.balance) left) ∙ at.invariant.same;
      to_come = omega (arith, asked, at.invariant.to_come, c.asked-asked.ensures);
      small = omega arith;
      small_balance = omega arith;
    }

pub returns : goal.returns
returns c =
    let at = c.loop-row in
    sym (none-borne c.args.rate at.day at.balance (drop at.row-index c.args.rows.now)
    (drop_all at.row-index c.args.rows.now (omega arith)))
    ∙ at.invariant.same
