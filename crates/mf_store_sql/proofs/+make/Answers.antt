use Rattle.std.proofs.Common.{map, sym, subst, arith}
use Rattle.std.proofs.lemmas.Result.{on_ok_weaker}
use Rattle.std.proofs.lemmas.List.{nil_from_length}
use Rattle.sqlite.specs.Held.{state}
use Rattle.sqlite.specs.State.{HasCleanDisk}
use Rattle.mf_store_sql.specs.Making.{Makes}
use Rattle.mf_store_sql.proofs.MakeLemmas.{first_and_others, makes_none, makes_more}
use Rattle.mf_store_sql.proofs.+make.Goals as goal

pub returns-in-empty-clause-ok : goal.returns-in-empty-clause-ok
returns-in-empty-clause-ok g t c clean inside =
    let s = state g.S.Store c.args.tx.now.conn.now in
    subst (λ texts. Makes (map (λ text. text.now) texts) s s) (sym (nil_from_length c.args.texts.now
    (omega (arith, c.in-empty.len_below))))
    (makes_none s inside)

pub returns-in_ok-run-in-len1-up-clause-ok : goal.returns-in_ok-run-in-len1-up-clause-ok
returns-in_ok-run-in-len1-up-clause-ok g t c clean inside =
    let early : HasCleanDisk (state g.S.Store c.run.new.tx.conn.now) =
    omega (arith, c.make.ensures.survives.clean, clean) in
    let ran = c.in_ok-run-in-len1-up.ensures.ok early inside in
    let old = state g.S.Store c.args.tx.now.conn.now in
    let mid = state g.S.Store c.run.new.tx.conn.now in
    let new = state g.S.Store c.make.new.tx.conn.now in
    on_ok_weaker c.make.result (λ made. subst (λ texts. Makes (map (λ text. text.now) texts) old new)
    (first_and_others c.args.texts.now _ c.in-len1-up.len_at_least) (makes_more _ _ old mid new ran made))
    (c.make.ensures.ok clean ran.mode)
