use Rattle.std.proofs.Common.{◌≡◌, ◌≤◌, ◌∙◌, ap, sym, subst, arith, length}
use Rattle.mf_account.specs.Change.{KeptAccount, IsChange, IsReplayed}
use Rattle.mf_account.specs.Loan.{DisbursedLoan, settled_of_loan}
use Rattle.mf_account.specs.Rewind.{IsRedone}
use Rattle.mf_account.proofs.RedoneLemmas.{change-tails, tail-from}
use Rattle.mf_account.proofs.account.LoanAccount.change_to.Goals as goal

pub offset_bounds-deref-kept : goal.offset_bounds-deref-kept
offset_bounds-deref-kept c =
    let same : length c.deref.result.now ≡ length c.args.self.now.settled =
    ap length c.deref.ensures.value ∙ ap (λ (a : KeptAccount). length a.settled) c.self.view_is in
    omega (arith, c.requires.within, same, c.deref.ensures.len, c.self.inside.settled.ok)

pub change_between-requires-clause-few : goal.change_between-requires-clause-few
change_between-requires-clause-few c =
    omega (arith, c.self.invariant.safe.bounded.size, c.self.invariant.sound.limits.most_periods)

pub change_between-requires-clause-size : goal.change_between-requires-clause-size
change_between-requires-clause-size c =
    let same : c.self.inside.loan.periods ≡ c.args.self.now.loan.periods =
    ap (λ (a : KeptAccount). a.loan.periods) c.self.view_is in
    c.requires.size ∙ sym same ∙ sym c.self.invariant.safe.bounded.size

pub returns-clause-change : goal.returns-clause-change
returns-clause-change c replayed new sound periods more redone =
    let old : DisbursedLoan = c.self.inside.loan in
    let true_to : IsReplayed (record {
      loan = old;
      state = c.self.inside.book;
      settled = c.self.inside.settled.items;
      change = c.self.inside.change;
    }) = subst IsReplayed (sym c.self.view_is) replayed in
    let own : IsRedone old new c.args.book.now c.args.kept c.args.parts.now = subst (λ (a : KeptAccount).
    IsRedone a.loan new c.args.book.now c.args.kept c.args.parts.now) (sym c.self.view_is) redone in
    let same : old.periods ≡ c.args.self.now.loan.periods = ap (λ (a : KeptAccount). a.loan.periods) c.self.view_is in
    let longer : length old.entries ≤ length new.entries =
    subst (λ (a : KeptAccount). length a.loan.entries ≤ length new.entries) (sym c.self.view_is) more in
    subst (λ (a : KeptAccount). IsChange a.loan new c.in_ok-change.change) c.self.view_is
    (change-tails old new c.self.inside.book c.args.book.now c.args.kept _ c.args.parts.now c.in_ok-change.change
    c.self.invariant.sound sound longer true_to.state
    (tail-from c.deref.result.now (settled_of_loan old) c.args.kept (c.deref.ensures.value ∙ true_to.settled)) own
    (c.self.invariant.safe.bounded.size ∙ same ∙ sym periods) c.in_ok-change.ensures.rows
    c.in_ok-change.ensures.seqs)
