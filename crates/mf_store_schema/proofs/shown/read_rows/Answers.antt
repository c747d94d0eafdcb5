use Rattle.std.proofs.Common.{rules, ◌≡◌, None, Some, refl, sym, ◌∙◌, subst, []}
use Rattle.sqlite.specs.Given.{row_if}
use Rattle.mf_store_schema.specs.Read.{AreReadAs}
use Rattle.mf_store_schema.proofs.ShownLemmas.{begin, one_more, all_shown}
use Rattle.mf_store_schema.proofs.shown.read_rows.Goals as goal

pub rows-init : goal.rows-init
rows-init g c =
    let none = subst (λ l. AreReadAs g.T.Table.stored l []) (sym c.new.ensures.items) tt in (
      refl,
      begin g.S.Store g.T.Table.stored (g.T.Table.columns).columns c.args.rows.now.conn.now
          (Some c.new.result) none,
    )

pub rows-preserved : goal.rows-preserved
rows-preserved g c =
    let next = c.advance.new.self.conn.now in
    let some : row_if c.advance.new.self.has_row next ≡ Some c.in-Some.row.now = search rules in (
      c.advance.ensures.same_reference ∙ c.rows.invariant.0,
      one_more g.S.Store g.T.Table.stored (g.T.Table.columns).columns c.args.rows.now.conn.now c.rows.rows.conn.now next
          c.rows.records c.rows.invariant.1 c.advance.ensures.survives c.in_ok-records.records c.in-Some.row.now
          c.advance.ensures.mode c.in-Ok.ensures.same (λ clean. rw some at c.in-Ok.ensures.ok clean)
          c.in_ok-records.ensures.read,
    )

pub returns-in_default-get-clause-read : goal.returns-in_default-get-clause-read
returns-in_default-get-clause-read g c clean =
    let next = c.advance.new.self.conn.now in
    let none : row_if c.advance.new.self.has_row next ≡ None = search rules in
    all_shown g.S.Store g.T.Table.stored (g.T.Table.columns).columns c.args.rows.now.conn.now c.rows.rows.conn.now next
    c.rows.records c.rows.invariant.1 c.advance.ensures.survives clean (rw none at c.in-Ok.ensures.ok clean)
