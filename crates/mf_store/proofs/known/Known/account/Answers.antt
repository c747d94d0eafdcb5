use Rattle.std.proofs.Common.{◌≡◌, Some}
use Rattle.std.specs.Borrow.{Bor}
use Rattle.mf_account.specs.Change.{KeptAccount}
use Rattle.mf_model.specs.Store.{account_at}
use Rattle.mf_store.proofs.KeptLemmas.{found_true}
use Rattle.mf_store.proofs.known.Known.account.Goals as goal

pub returns : goal.returns
returns c = rw (← c.self.view_is) (λ i known. found_true (λ (x : Bor KeptAccount). x.now) (λ (x : KeptAccount).
    account_at c.args.loan i ≡ Some x) _ c.peek.result (rw c.key_of_loan.ensures at c.peek.ensures)
    (known.accounts c.args.loan))
