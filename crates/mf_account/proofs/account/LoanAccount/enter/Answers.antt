use Rattle.std.proofs.Common.{refl}
use Rattle.mf_account.proofs.SoundLemmas.{sound-entered}
use Rattle.mf_account.proofs.account.LoanAccount.enter.Goals as goal

pub add-requires-clause-sound : goal.add-requires-clause-sound
add-requires-clause-sound c = sound-entered c.args.self.now.loan c.args.entry c.args.business_day
    c.in-None.ensures.sound c.requires (c.in-None.ensures.admitted refl)
