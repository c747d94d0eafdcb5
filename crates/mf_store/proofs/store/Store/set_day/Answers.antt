use Rattle.std.proofs.Common.{refl, ◌∙◌}
use Rattle.mf_store.proofs.DayLemmas.{day_becomes_beside}
use Rattle.mf_store.proofs.KeptLemmas.{stays_same}
use Rattle.mf_store.proofs.NewsLemmas.{day_tells}
use Rattle.mf_store.proofs.store.Store.set_day.Goals as goal

pub returns : goal.returns
returns g c =
    c.make.ensures _ _ (stays_same g.S.Store c.args.self.now) (λ clean i s admitted. (
      day_becomes_beside c.args.day i _ s.sound admitted.sound refl (c.schema_number.ensures i s)
          (c.new.ensures ∙ c.in_ok-text.ensures.ok),
      day_tells c.args.day i,
    ))
