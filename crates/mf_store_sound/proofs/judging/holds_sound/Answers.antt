use Rattle.std.proofs.Common.{refl}
use Rattle.mf_store_schema.proofs.ReadLemmas.{at_some}
use Rattle.mf_store_sound.proofs.judging.holds_sound.Goals as goal

pub returns-in-Ok-Some-clause-exact : goal.returns-in-Ok-Some-clause-exact
returns-in-Ok-Some-clause-exact g c clean ours rowids =
    let read = c.in-Ok-Some in (
      λ yes. at_some read.field-0 _ read.field-0-0 read.field-0-is (read.ensures.sound clean ours rowids),
      λ opened. refl,
    )
