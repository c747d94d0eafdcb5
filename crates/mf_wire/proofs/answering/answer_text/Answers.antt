use Rattle.std.proofs.Common.{refl}
use Rattle.mf_wire.proofs.Calling.{told_given_up}
use Rattle.mf_wire.proofs.answering.answer_text.Goals as goal

pub returns-in_default-clause-calls : goal.returns-in_default-clause-calls
returns-in_default-clause-calls g c =
    told_given_up _ _ _ c.args.store.now (g.met.S.InstitutionStore.more c.args.store.now) refl
