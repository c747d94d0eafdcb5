use Rattle.std.proofs.Common.{◌≡◌, ◌++◌, List, length, sym, ap, ◌∙◌, arith}
use Rattle.std.proofs.lemmas.List.{length-append}
use Rattle.std.proofs.lemmas.Result.{on_ok_weaker}
use Rattle.mf_alloc.specs.Sums.{Instalment}
use Rattle.mf_store_commits.specs.ChangeWrites.{schedule_put}
use Rattle.mf_store_values.specs.Flat.{numbered_from}
use Rattle.mf_store.proofs.LoanLemmas.{fresh_rows}
use Rattle.mf_store.proofs.store.Store.put_schedule_of.Goals as goal

pub returns-clause-writes : goal.returns-clause-writes
returns-clause-writes g c clean i s =
    let old = c.args.writes.now.items in
    let loan = c.args.loan.now in
    let day = sym c.disbursal_day.ensures ∙ c.in-Some.is in
    let fresh = fresh_rows i.catalogue loan c.in-Some.day c.new.result.items c.in_ok-fresh.fresh
    (c.in_ok-fresh.ensures.value clean i s) c.new.ensures.items day in
    let put = schedule_put c.args.office c.args.number in
    on_ok_weaker c.put_schedule.result (λ writes. writes
    ∙ ap (λ (rows : List Instalment). old ++ put (numbered_from (λ n row. (n, row)) 1 rows)) c.rows.ensures.rows
    ∙ ap (λ items. old ++ put items) (sym fresh)) c.put_schedule.ensures.writes

pub returns-clause-more : goal.returns-clause-more
returns-clause-more g c =
    let old = c.args.writes.now.items in
    let put = schedule_put c.args.office c.args.number (numbered_from (λ n row. (n, row)) 1 c.rows.result.now) in
    on_ok_weaker c.put_schedule.result (λ writes. let long = length-append old put in
    let size : length c.put_schedule.new.writes.items ≡ length (old ++ put) =
    ap length writes in omega (arith, long, size)) c.put_schedule.ensures.writes
