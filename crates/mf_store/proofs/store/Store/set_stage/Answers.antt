use Rattle.std.proofs.Common.{refl, sym, subst}
use Rattle.mf_model.specs.declared.commit.Commit.TheVariants.{SetStage}
use Rattle.mf_model.specs.Store.{after_commit}
use Rattle.mf_store_noted.specs.Becoming.{BecomesBeside}
use Rattle.mf_store.proofs.MadeLemmas.{beside}
use Rattle.mf_store.proofs.NewsLemmas.{stage_tells}
use Rattle.mf_store.proofs.store.Store.set_stage.Goals as goal

pub returns : goal.returns
returns g c =
    let commit = SetStage c.args.loan c.args.stage in
    c.make.ensures _ _ c.in_ok-writes.ensures.kept (λ clean i s admitted.
    let carried = c.in_ok-writes.ensures.carries clean i s admitted in (
      subst (λ ws. BecomesBeside ws i (after_commit commit i)) (sym c.deref.ensures.value)
          (beside refl refl carried.spares carried.becomes),
      stage_tells c.args.loan c.args.stage i,
    ))
