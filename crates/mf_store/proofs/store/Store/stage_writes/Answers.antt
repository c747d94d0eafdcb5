use Rattle.std.proofs.Common.{◌≡◌, ◌++◌, ◌∷◌, [], Some, false, sym, subst, ap, ◌∙◌, refl, rules}
use Rattle.std.specs.Option.{is_some}
use Rattle.mf_model.specs.declared.commit.Commit.TheVariants.{SetStage}
use Rattle.mf_model.specs.Institution.{Ledger}
use Rattle.mf_model.specs.Loans.{with_stage}
use Rattle.mf_model.specs.Stages.{disbursed_on}
use Rattle.mf_model.specs.Store.{ledger_at}
use Rattle.mf_model.specs.declared.loan.Loan.{Loan}
use Rattle.mf_store_schema.specs.declared.writes.StoreWrite.TheVariants.{PutLoan}
use Rattle.mf_store_commits.specs.ChangeWrites.{schedule_put}
use Rattle.mf_store_commits.specs.Suiting.{Carries}
use Rattle.mf_store_values.specs.Flat.{instalments_kept, kept_of, loan_in}
use Rattle.mf_store_commits.proofs.CommitLemmas.{none_there}
use Rattle.mf_store_commits.proofs.ChangedRowLemmas.{schedule_spares}
use Rattle.mf_store.proofs.CatalogueLemmas.{known}
use Rattle.mf_store_commits.proofs.EnteredLemmas.{no_entries}
use Rattle.mf_store.proofs.KeptLemmas.{stays_then}
use Rattle.mf_store_commits.proofs.LoanLemmas.{staged_becomes, loan_of, stage_suits}
use Rattle.mf_store.proofs.store.Store.stage_writes.Goals as goal

pub returns-clause-kept : goal.returns-clause-kept
returns-clause-kept g c = stays_then g.S.Store _ _ _
    c.in_ok-before.ensures.asks.kept c.in_ok-put_schedule_of.ensures.kept

pub returns-clause-carries : goal.returns-clause-carries
returns-clause-carries g c clean i s admitted =
    let loan = c.args.loan in
    let stage = c.args.stage in
    let none : is_some (disbursed_on c.in-Some.before.stage) ≡ false = search rules in
    let first = c.in_ok-put_schedule_of.ensures.kept.premise clean in
    let k = known loan_of c.in_ok-before.field-0 c.in-Some.before (ledger_at loan i) c.in-Some.is
    (c.in_ok-before.ensures.value first i s) in
    let l : Ledger = k.0 in
    let there : ledger_at loan i ≡ Some l = k.1 in
    let same : c.in-Some.before ≡ l.loan = k.2 in
    let before = none_there (disbursed_on l.loan.stage) (ap (λ (m : Loan). is_some (disbursed_on m.stage)) (sym same)
    ∙ none) in
    let without = no_entries loan l i s.sound there before in
    let now = c.with_stage-now.ensures ∙ ap (λ (m : Loan). record m { stage = stage }) same in
    let row = c.in_ok-row.ensures.row ∙ (λ t. loan_in (c.get-office.ensures.value t) (c.get-number.ensures.value t)
    (now t)) in
    let first_write =
    c.in_ok-push.ensures.items ∙ ap (λ ws. ws ++ PutLoan c.in_ok-row.row ∷ []) c.new-writes.ensures.items in
    let schedule = c.in_ok-put_schedule_of.ensures.writes clean i (c.in_ok-before.ensures.asks.kept.same first i s)
    ∙ ap (λ ws. ws ++ schedule_put c.get-office.result c.get-number.result (kept_of instalments_kept i.catalogue
    (record { loan = c.with_stage-now.result; entries = [] }))) first_write in
    let writes = schedule ∙ (λ t. PutLoan (row t) ∷ schedule_put (c.get-office.ensures.value t)
    (c.get-number.ensures.value t) (kept_of instalments_kept i.catalogue (record {
      loan = now t;
      entries = sym without t;
    }))) in
    subst (λ ws. Carries (SetStage loan stage) ws i) (sym writes) (record {
      becomes = staged_becomes loan stage l i s.sound there before without admitted.sound;
      spares = (
        refl,
        schedule_spares loan.office loan.number (kept_of instalments_kept i.catalogue
            (with_stage stage l)),
      );
      suits = stage_suits loan (record l.loan { stage = stage }) l i s.sound there (kept_of instalments_kept i.catalogue
          (with_stage stage l)) (loan_in loan.office loan.number (record l.loan { stage = stage })) refl;
    })
