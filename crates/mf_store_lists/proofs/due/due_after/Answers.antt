use Rattle.std.proofs.Common.{◌≤◌, length, ap, ◌∙◌, arith, inl, inr}
use Rattle.std.specs.List.{enumerate_from}
use Rattle.mf_model.specs.declared.store.Counts.{Counts}
use Rattle.mf_model.specs.Store.{rows_at}
use Rattle.mf_store_lists.specs.Due.{due_told}
use Rattle.mf_store_lists.proofs.DueLemmas.{dues_told}
use Rattle.mf_store_lists.proofs.LookedUpLemmas.{told_whole}
use Rattle.mf_store_lists.proofs.NumberedLemmas.{loan_rows, loans_there}
use Rattle.mf_store_lists.proofs.ToldLemmas.{few_told, first_told}
use Rattle.mf_store_lists.proofs.due.due_after.Goals as goal

pub returns-then-is_whole-clause-value : goal.returns-then-is_whole-clause-value
returns-then-is_whole-clause-value g c clean i s =
    let office = c.args.office in
    let rows = rows_at office i in
    let told = due_told c.args.day c.args.after i.catalogue rows in
    let near = c.in_ok-reached.ensures in
    let mid = near.asks.kept.premise clean in
    let count = ap (λ (n : Counts). n.loans) (c.in_ok-counts.ensures.value mid i s) in
    let last : c.last_near-last.result ≤ length rows.loans = omega (arith, c.last_near-last.ensures, count) in
    let lines = near.value clean i (c.in_ok-counts.ensures.asks.kept.same mid i s) last c.new-lines.ensures.items in
    let whole = c.is_whole.ensures c.if-is_whole.true in
    let most = near.few (omega (arith, ap length c.new-lines.ensures.items)) in
    c.new.ensures ∙ elim whole.1 [
      | inl all ↦ few_told 200 _ _ (told_whole told rows.loans _ _ (omega (arith, all, count)) lines) most
      | inr full ↦ first_told told 200 _ _ (enumerate_from 1 rows.loans) lines
          (omega (arith, full, most, c.len.ensures))
    ] ∙ dues_told c.args.day c.args.after i.catalogue rows

pub returns-clause-value : goal.returns-clause-value
returns-clause-value g c clean i s =
    let office = c.args.office in
    let rows = rows_at office i in
    let put = c.in_ok-put_rows.ensures in
    let near = c.in_ok-reached.ensures in
    let third = put.asks.kept.premise clean in
    let read = c.in_ok-rows.ensures in
    let second = read.asks.kept.premise third in
    let first = near.asks.kept.premise second in
    let counted = c.in_ok-counts.ensures.asks.kept.same first i s in
    let count = ap (λ (n : Counts). n.loans) (c.in_ok-counts.ensures.value first i s) in
    let last : c.last_near-last.result ≤ length rows.loans = omega (arith, c.last_near-last.ensures, count) in
    let lines = near.value second i counted last c.new-lines.ensures.items in
    let most = near.few (omega (arith, ap length c.new-lines.ensures.items)) in
    let here = near.asks.kept.same second i counted in
    c.new-2.ensures
    ∙ put.value clean i (read.asks.kept.same third i here) office (enumerate_from 1 rows.loans) (loans_there office i)
    (c.deref.ensures.value ∙ read.rows third i here ∙ loan_rows office c.get.result i c.get.ensures.value s.sound)
    most lines ∙ dues_told c.args.day c.args.after i.catalogue rows
