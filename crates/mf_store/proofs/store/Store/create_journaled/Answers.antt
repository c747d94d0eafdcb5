use Rattle.std.proofs.Common.{[], refl}
use Rattle.mf_store_noted.proofs.CanBeLemmas.{can_be_none}
use Rattle.mf_store.proofs.FirstLemmas.{unfounded_journaled}
use Rattle.mf_store.proofs.KeptLemmas.{first_known}
use Rattle.mf_store.proofs.store.Store.create_journaled.Goals as goal

pub returns-in-Ok-found_journaled-clause-stands : goal.returns-in-Ok-found_journaled-clause-stands
returns-in-Ok-found_journaled-clause-stands g c clean none =
    first_known g.S.Store _ _ _ _ c.in-Ok.ensures.nothing (record {
      kept = c.in-Ok-found_journaled.ensures.made clean none;
      keeps = ([], refl, record { can_be = can_be_none _ c.founding_head-begins.ensures.can; stands = refl });
    })

pub returns-in-Err-found_journaled-clause-given_back : goal.returns-in-Err-found_journaled-clause-given_back
returns-in-Err-found_journaled-clause-given_back g c =
    let e = c.in-Err-found_journaled.ensures in
    unfounded_journaled g.S.Store c.args.connection c.found_journaled.new.connection c.args.day
    c.founding_head-begins.result c.founding_head-begins.ensures.head e.premise e.was_open e.same e.shuts e.stop
