use Rattle.std.proofs.Common.{sym, ap, ◌∙◌, not}
use Rattle.mf_store_noted.specs.Kept.{begins_of}
use Rattle.mf_store_noted.proofs.BesideLemmas.{begun_of}
use Rattle.mf_store_noted.proofs.TurnedLemmas.{settled_leaves}
use Rattle.mf_store.proofs.KeptLemmas.{first_known}
use Rattle.mf_store.proofs.store.Store.over.Goals as goal

pub returns-clause-stands : goal.returns-clause-stands
returns-clause-stands g c i tabled = first_known g.S.Store _ _ _ i c.requires.nothing tabled

pub returns-clause-leaves : goal.returns-clause-leaves
returns-clause-leaves g c live i tabled =
    let h = c.args.connection in
    let settled = c.is_autocommit-settled.ensures.settled (c.is_autocommit-settled.ensures.value
    ∙ ap not c.requires.alone) live in
    settled_leaves g.S.Store (begins_of c.args.journal) h (λ trees still may.
    g.met.S.Store.settled h.store trees still may)
    (record { is_open = live; committed = sym settled }) i
    (begun_of c.args.journal i tabled.keeps) tabled.kept
