use Rattle.std.proofs.Common.{pos, [], ◌∷◌, rules}
use Rattle.std.proofs.lemmas.Result.{on_ok_weaker}
use Rattle.sqlite.specs.Held.{state}
use Rattle.sqlite.specs.declared.types.Value.TheVariants.{Int}
use Rattle.mf_store_schema.proofs.CallLemmas.{ran_with}
use Rattle.mf_store_schema.proofs.RemoveLemmas.{delete_shares}
use Rattle.mf_store_schema.proofs.PutLemmas.{removing_shares}
use Rattle.mf_store_schema.proofs.shares.EntryKey.remove_shares.Goals as goal

pub returns-clause-ok : goal.returns-clause-ok
returns-clause-ok g c clean inside =
    let old = state g.S.Store c.args.tx.now.conn.now in
    let new = state g.S.Store c.run.new.tx.conn.now in
    let e = c.args.self.now in
    on_ok_weaker c.run.result (λ ran. removing_shares e old new (ran_with delete_shares old new _ (Int (pos e.office)
    ∷ Int (pos e.loan) ∷ Int (pos e.seq) ∷ []) (search rules) ran)) (c.run.ensures.ok clean inside)
