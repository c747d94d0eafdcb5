use Rattle.std.proofs.Common.{inl, inr, false, subst, sym, refl}
use Rattle.std.proofs.lemmas.Bool.{cases_Bool}
use Rattle.sqlite.specs.Held.{state}
use Rattle.sqlite.specs.State.{KeepsCommit}
use Rattle.sqlite.specs.Values.{bound}
use Rattle.sqlite.proofs.InsideLemmas.{inside_keeps}
use Rattle.mf_store_schema.proofs.table.run.Goals as goal

pub returns-in-Err-clause-kept : goal.returns-in-Err-clause-kept
returns-in-Err-clause-kept g c clean =
    let old = c.args.tx.now.conn.now in
    let new = c.execute.new.self.conn.now in
    elim (cases_Bool old.in_transaction) [
      | inl inside ↦ inside_keeps (state g.S.Store old) (state g.S.Store new) 0 false c.args.sql.now
          (bound c.args.params.now) c.execute.result (c.execute.ensures.runs clean inside)
      | inr outside ↦ subst (λ h. KeepsCommit (state g.S.Store old) (state g.S.Store h))
          (sym (c.execute.ensures.ended outside).1) (record { was_open = λ is_open. is_open; committed = λ _. refl })
    ]
