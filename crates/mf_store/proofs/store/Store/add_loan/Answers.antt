use Rattle.std.proofs.Common.{◌≡◌, ◌+◌, false, [], ◌∷◌, refl, sym, subst, ap, ◌∙◌, rules}
use Rattle.std.specs.Option.{is_some}
use Rattle.mf_model.specs.declared.commit.Commit.TheVariants.{AddLoan}
use Rattle.mf_model.specs.declared.store.Counts.{Counts}
use Rattle.mf_model.specs.Store.{IsAdmitted, after_commit}
use Rattle.mf_model.specs.Tree.{is_there}
use Rattle.mf_model.specs.Stages.{disbursed_on}
use Rattle.mf_store_noted.specs.Becoming.{BecomesBeside}
use Rattle.mf_store_commits.proofs.CommitLemmas.{none_there}
use Rattle.mf_store.proofs.MadeLemmas.{beside}
use Rattle.mf_store.proofs.NewsLemmas.{loan_tells}
use Rattle.mf_store.proofs.store.Store.add_loan.Goals as goal

pub returns : goal.returns
returns g c =
    let loan = c.args.loan in
    let office = c.get-office.ensures.value in
    let undisbursed : is_some (disbursed_on loan.stage) ≡ false = search rules in
    c.make.ensures _ _ c.in_ok-counts.ensures.asks.kept (λ clean i s admitted.
    let told = c.in_ok-counts.ensures.value clean i s in
    let carried = c.in_ok-write.ensures.carries i s.sound (subst (λ x. IsAdmitted (AddLoan x loan) i) (sym office)
    admitted) told.0 (ap (λ (k : Counts). k.loans + 1) told.1) (none_there (disbursed_on loan.stage) undisbursed) in (
      subst (λ x. BecomesBeside (c.in_ok-write.write ∷ []) i (after_commit (AddLoan x loan) i)) office
          (beside refl refl carried.spares carried.becomes),
      loan_tells c.get-office.result c.args.office loan i c.in_ok-counts.counts office
          (ap (is_there i.offices) (sym office) ∙ told.0) told.1,
    ))
