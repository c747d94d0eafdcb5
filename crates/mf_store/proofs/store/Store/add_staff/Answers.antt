use Rattle.std.proofs.Common.{length, refl, sym, ap, ◌∙◌}
use Rattle.mf_model.specs.Store.{rows_at}
use Rattle.mf_model.specs.declared.store.Counts.{Counts}
use Rattle.mf_model.specs.Tree.{is_there}
use Rattle.mf_store_commits.proofs.CommitLemmas.{staff_becomes, same_staff}
use Rattle.mf_store.proofs.MadeLemmas.{beside}
use Rattle.mf_store.proofs.NewsLemmas.{staff_tells}
use Rattle.mf_store.proofs.store.Store.add_staff.Goals as goal

pub returns : goal.returns
returns g c =
    let office = c.get-office.ensures.value in
    c.make.ensures _ _ c.in_ok-counts.ensures.asks.kept (λ clean i s admitted.
    let told = c.in_ok-counts.ensures.value clean i s in
    let here = ap (is_there i.offices) (sym office) ∙ told.0 in (
      beside refl refl (refl, tt) (staff_becomes c.args.office c.args.name c.args.role i _ s.sound admitted.sound here
          (same_staff _ _ _ _ _ _ _ _ office (ap (λ (k : Counts). k.staff) told.1
          ∙ ap (λ x. length (rows_at x i).staff) office) c.number.ensures c.of_name.ensures)),
      staff_tells c.get-office.result c.args.office c.args.name c.args.role i c.in_ok-counts.counts office here told.1,
    ))
