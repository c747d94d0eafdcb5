use Rattle.std.proofs.Common.{sym, subst}
use Rattle.mf_store.specs.Facts.{AreTrueOf}
use Rattle.mf_store.proofs.KeptLemmas.{accounts_become, accounts_learnt}
use Rattle.mf_store.proofs.known.Known.learn_account.Goals as goal

pub returns-in-Some : goal.returns-in-Some
returns-in-Some c = (λ i known so.
    let room = subst (λ f. AreTrueOf f i) (sym c.self.view_is) (c.make_room.ensures i known) in
    accounts_become _ i _ room (accounts_learnt c.self.inside.accounts c.push.new.self c.args.loan c.args.account
    c.push.result i (rw c.key_of_loan.ensures at c.push.ensures.entries) c.push.ensures.err so room.accounts))

pub returns-in_default-pushed_out : goal.returns-in_default-pushed_out
returns-in_default-pushed_out c = (λ i known so.
    let room = subst (λ f. AreTrueOf f i) (sym c.self.view_is) (c.make_room.ensures i known) in
    accounts_become _ i _ room (accounts_learnt c.self.inside.accounts c.push.new.self c.args.loan c.args.account
    c.push.result i (rw c.key_of_loan.ensures at c.push.ensures.entries) c.push.ensures.err so room.accounts))

pub returns-in_default : goal.returns-in_default
returns-in_default c = (λ i known so.
    let room = subst (λ f. AreTrueOf f i) (sym c.self.view_is) (c.make_room.ensures i known) in
    accounts_become _ i _ room (accounts_learnt c.self.inside.accounts c.push.new.self c.args.loan c.args.account
    c.push.result i (rw c.key_of_loan.ensures at c.push.ensures.entries) c.push.ensures.err so room.accounts))
