use Rattle.std.proofs.Common.{inl, inr, sym, ap, subst, ◌∙◌}
use Rattle.std.specs.Option.{option_copied}
use Rattle.sqlite.specs.Given.{Advances}
use Rattle.mf_store_values.proofs.fold.next_instalment.Goals as goal

pub returns-in-Ok-placed_in_row-clause-takes : goal.returns-in-Ok-placed_in_row-clause-takes
returns-in-Ok-placed_in_row-clause-takes g c = (
  c.in-Some.row.now,
  (λ clean. subst (Advances g.S.Store c.args.rows.now.conn.now c.advance.new.self.conn.now) (sym c.get.ensures
      ∙ ap option_copied c.in-Some.is) (c.in-Ok.ensures.ok clean)),
  c.in-Ok-placed_in_row.ensures.row,
)

pub returns-in_default-clause-refuses : goal.returns-in_default-clause-refuses
returns-in_default-clause-refuses g c = inr (λ clean. (c.in_default.field-0, c.in_default.ensures.err clean))

pub returns-in-Err-clause-refuses : goal.returns-in-Err-clause-refuses
returns-in-Err-clause-refuses g c = inl (
  c.in-Some.row.now,
  λ clean. (
    subst (Advances g.S.Store c.args.rows.now.conn.now c.advance.new.self.conn.now) (sym c.get.ensures
        ∙ ap option_copied c.in-Some.is) (c.in-Ok.ensures.ok clean),
    c.in-Ok.ensures.same clean,
  ),
)
