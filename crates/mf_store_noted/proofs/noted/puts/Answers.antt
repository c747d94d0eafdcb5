use Rattle.std.proofs.Common.{◌+◌, ◌++◌, ◌∷◌, ◌∙◌, [], sym, subst, take, get_or, arith}
use Rattle.std.proofs.lemmas.List.{get_or_default, take_all, take_more}
use Rattle.mf_store_schema.specs.declared.writes.StoreWrite.TheVariants.{MakeTables}
use Rattle.mf_store_noted.specs.Puts.{ArePuts}
use Rattle.mf_store_noted.proofs.NotedLemmas.{put_more}
use Rattle.mf_store_noted.proofs.noted.puts.Goals as goal

pub loop-write-preserved : goal.loop-write-preserved
loop-write-preserved c =
    let writes = c.args.writes.now in
    let at = c.loop-write.write-index in
    subst (λ ns. ArePuts ns (take (at + 1) writes)) (sym c.in_ok-push.ensures.items)
    (subst (ArePuts (c.loop-write.noted.items ++ _ ∷ []))
    (sym (take_more writes at MakeTables c.loop-write-test.true))
    (put_more c.loop-write.noted.items (take at writes) c.loop-write.invariant _ (get_or writes at MakeTables)
    (c.write-item.is ∙ get_or_default writes at c.write-item.result MakeTables c.loop-write-test.true)))

pub returns-clause-puts : goal.returns-clause-puts
returns-clause-puts c = subst (ArePuts c.loop-write.noted.items) (take_all c.loop-write.write-index c.args.writes.now
    (omega (arith, c.loop-write-test.false))) c.loop-write.invariant
