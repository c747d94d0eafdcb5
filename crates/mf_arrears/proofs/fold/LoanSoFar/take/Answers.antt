use Rattle.std.proofs.Common.{◌≡◌, ◌+◌, ◌^◌, ◌≤◌, ap, sym, subst, ◌∙◌}
use Rattle.std.proofs.lemmas.Result.{on_ok_weaker, on_err_weaker}
use Rattle.mf_alloc.specs.Sums.{open_at}
use Rattle.mf_arrears.specs.Folding.{LoanSoFar, IsSoFar, step, with_row}
use Rattle.mf_arrears.proofs.FoldLemmas.{same_loan, next_loan}
use Rattle.mf_arrears.proofs.SumLemmas.{same_over, next_over}
use Rattle.mf_arrears.proofs.fold.LoanSoFar.take.Goals as goal
use Rattle.mf_arrears.proofs.fold.LoanSoFar.take.Goals.{then-loan-self+in_ok-count, else-loan-self}

pub returns-clause-value : goal.returns-clause-value
returns-clause-value c =
    let own : c.self.inside.loan ≡ c.args.self.now.loan = ap (λ (r : LoanSoFar). r.loan) c.self.view_is in
    on_ok_weaker c.add.result (λ added office p at. elim c.if-loan-self.branch [
      | then-loan-self+in_ok-count w ↦
          next_loan office c.args.today p c.args.self.now c.if-loan-self.self c.add.new.self c.args.line.now
          c.if-loan-self.line c.args.found.0 c.args.found.1 (λ e. w.if-loan-self.true (e ∙ sym own))
          (w.self-is ∙ w.self-then-loan-self.view_is ∙ w.new.ensures) added
          (λ x loans is. w.line-is ∙ w.in_ok-count.ensures.line x loans is) at
      | else-loan-self w ↦
          subst (λ l. IsSoFar office (step c.args.today p c.args.found) c.add.new.self l) (sym w.line-is)
          (same_loan office c.args.today p c.args.self.now c.add.new.self c.args.line.now c.args.found.0 c.args.found.1
          (w.if-loan-self.false ∙ own) (added ∙ ap (λ s. with_row s c.args.found.1) w.self-is) at)
    ]) c.add.ensures.value

pub returns-clause-too_much : goal.returns-clause-too_much
returns-clause-too_much c =
    let own : c.self.inside.loan ≡ c.args.self.now.loan = ap (λ (r : LoanSoFar). r.loan) c.self.view_is in
    on_err_weaker c.add.result (λ much office p at small next. elim c.if-loan-self.branch [
      | then-loan-self+in_ok-count w ↦
          next_over office c.args.today p c.args.self.now c.if-loan-self.self c.args.line.now c.args.found.0
          c.args.found.1 (λ e. w.if-loan-self.true (e ∙ sym own))
          (ap (λ (r : LoanSoFar). r.principal) (w.self-is ∙ w.self-then-loan-self.view_is ∙ w.new.ensures)) much at next
      | else-loan-self w ↦
          same_over office c.args.today p c.args.self.now c.args.line.now c.args.found.0 c.args.found.1
          (w.if-loan-self.false ∙ own) (subst (λ (s : LoanSoFar). 2 ^ 64 ≤ s.principal + open_at c.args.found.1 3)
          w.self-is much) at next
    ]) c.add.ensures.too_much
