use Rattle.std.proofs.Common.{false}
use Rattle.std.specs.Fn.{FnReturnsAt}
use Rattle.std.proofs.lemmas.Fn.{says_at}
use Rattle.mf_store_audit.proofs.PlaceLemmas.{contains_item, said_more, said_all}
use Rattle.mf_store_audit.proofs.rows.find_row.Goals as goal

pub returns-then-passes-clause-found : goal.returns-then-passes-clause-found
returns-then-passes-clause-found g c =
    let found = c.in-Some.ensures.lookup in (
      contains_item c.args.rows.now c.in-Ok.place c.in-Some.row.now found.3.0 found.1,
      says_at g.F.Fn c.passes.ensures
          c.if-passes.true,
    )

pub returns-then-passes-2-clause-found : goal.returns-then-passes-2-clause-found
returns-then-passes-2-clause-found g c = (
  contains_item c.args.rows.now c.loop-row.row-index c.row-item.result c.loop-row-test.true c.row-item.is,
  says_at g.F.Fn c.passes-in-loop-row.ensures c.if-passes-2.true,
)

pub loop-row-preserved : goal.loop-row-preserved
loop-row-preserved g c =
    said_more (λ row. FnReturnsAt g.F.Fn c.args.passes row false) c.args.rows.now c.loop-row.row-index c.row-item.result
    c.row-item.is (says_at g.F.Fn c.passes-in-loop-row.ensures c.if-passes-2.false) c.loop-row.invariant

pub returns-clause-none : goal.returns-clause-none
returns-clause-none g c none = said_all (λ row. FnReturnsAt g.F.Fn c.args.passes row false) c.args.rows.now
    c.loop-row.row-index c.loop-row-test.false c.loop-row.invariant
