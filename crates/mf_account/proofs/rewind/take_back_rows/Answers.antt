use Rattle.std.proofs.Common.{List, map, subst, sym}
use Rattle.mf_alloc.specs.Sums.{Instalment, AreWithin}
use Rattle.mf_account.specs.Account.{part_of}
use Rattle.mf_account.specs.Undo.{without_charge}
use Rattle.mf_account.proofs.BoundLemmas.{within-without_settled}
use Rattle.mf_account.proofs.rewind.take_back_rows.Goals as goal

pub returns-clause-apart : goal.returns-clause-apart
returns-clause-apart c back within =
    let own = c.uncharge.ensures.apart back (subst AreWithin (sym c.unsettle_all.ensures)
    (within-without_settled c.args.rows.now (map part_of c.args.own.now) within)) in
    subst (λ (r : List Instalment). AreWithin (without_charge c.args.entry.now.kind c.args.entry.now r))
    c.unsettle_all.ensures own
