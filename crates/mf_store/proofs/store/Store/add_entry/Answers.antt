use Rattle.std.proofs.Common.{refl, sym, subst, ◌∙◌}
use Rattle.mf_model.specs.Notes.{noted_now}
use Rattle.mf_model.specs.Store.{OneMore, after_commit}
use Rattle.mf_model.specs.declared.commit.Commit.TheVariants.{AddEntry}
use Rattle.mf_store_noted.specs.Becoming.{BecomesBeside}
use Rattle.mf_store.specs.Stands.{WritesNoted}
use Rattle.mf_store.proofs.AccountLemmas.{account_handed}
use Rattle.mf_store.proofs.KeptLemmas.{stays_same}
use Rattle.mf_store.proofs.MadeLemmas.{account_commits, beside}
use Rattle.mf_store.proofs.NewsLemmas.{entry_tells}
use Rattle.mf_store.proofs.store.Store.add_entry.Goals as goal

pub returns : goal.returns
returns g c =
    let commit = AddEntry c.args.loan c.args.account in
    let noted = noted_now c.args.note.now in
    let writes = c.deref.result.now in
    account_commits g.S.Store commit c.args.loan _ c.args.self.now _ c.learn_commit.new.self writes noted
    c.write-made.result (stays_same g.S.Store c.args.self.now) (entry_tells c.args.loan c.args.account)
    (λ i admitted. account_handed c.args.loan OneMore c.args.account i admitted.handed)
    (λ i j known told is. c.learn_commit.ensures.same i j known told (λ made. is (sym c.is_ok.ensures.value ∙ made)))
    (λ i s admitted. let carried = c.in_ok-writes.ensures.carries i s.sound admitted in
    subst (λ ws. BecomesBeside ws i (after_commit commit i)) (sym c.deref.ensures.value)
    (beside refl refl carried.spares carried.becomes))
    (subst (λ k. WritesNoted g.S.Store writes noted c.args.self.now k c.write-made.result) (sym c.self.view_is)
    c.write-made.ensures)
