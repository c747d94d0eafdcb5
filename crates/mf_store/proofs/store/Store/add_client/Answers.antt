use Rattle.std.proofs.Common.{length, refl, sym, ap, ◌∙◌}
use Rattle.mf_model.specs.Store.{rows_at}
use Rattle.mf_model.specs.declared.store.Counts.{Counts}
use Rattle.mf_model.specs.Tree.{is_there}
use Rattle.mf_store_commits.proofs.CommitLemmas.{client_becomes, same_client}
use Rattle.mf_store.proofs.MadeLemmas.{beside}
use Rattle.mf_store.proofs.NewsLemmas.{client_tells}
use Rattle.mf_store.proofs.store.Store.add_client.Goals as goal

pub returns : goal.returns
returns g c =
    let office = c.get-office.ensures.value in
    c.make.ensures _ _ c.in_ok-counts.ensures.asks.kept (λ clean i s admitted.
    let told = c.in_ok-counts.ensures.value clean i s in
    let here = ap (is_there i.offices) (sym office) ∙ told.0 in (
      beside refl refl (refl, tt) (client_becomes c.args.office c.args.name i _ s.sound admitted.sound here
          (same_client _ _ _ _ _ _ office (ap (λ (k : Counts). k.clients) told.1
          ∙ ap (λ x. length (rows_at x i).clients) office) c.of_name.ensures)),
      client_tells c.get-office.result c.args.office c.args.name i c.in_ok-counts.counts office here told.1,
    ))
