-- Where the money of a sound loan is.
use Rattle.std.proofs.Common.{◌≡◌, ◌<◌, List, Some, sym, sum}
use Rattle.mf_office.specs.declared.account.Account.{Account}
use Rattle.mf_alloc.specs.Sums.{AreWithin}
use Rattle.mf_account.specs.Balance.{balances_of}
use Rattle.mf_account.specs.Loan.{DisbursedLoan, IsSoundDisbursed, state_of_loan, fee_of_loan}
use Rattle.mf_account.proofs.ConserveLemmas.{balances-repaid, balances-principal, balances-apart, balances_by-whole}
use Rattle.mf_account.proofs.SoundLemmas.{good-sound}
use Rattle.mf_model.specs.Institution.{Institution}
use Rattle.mf_model.specs.Run.{Line, last}
use Rattle.mf_model.specs.Sound.{IsSound, AreInRange}
use Rattle.mf_model.specs.Store.{ledger_at, account_of}
use Rattle.mf_model.proofs.Lasting.{account_of_loan}
use Rattle.mf_model.proofs.SoundLemmas.{last_sound}
use Rattle.mf_guarantees.specs.Money.{IsAccountedFor}
use Rattle.mf_guarantees.specs.Sources.{HasSources}
use Rattle.mf_guarantees.proofs.SourceLemmas.{sources}

pub accounted : (loan : DisbursedLoan) → IsSoundDisbursed loan → IsAccountedFor loan
accounted loan sound = record {
  lent = sym (balances-principal loan sound);
  owed = λ portion small.
      sym (balances_by-whole (fee_of_loan loan) (state_of_loan loan) (good-sound loan sound).within portion small);
  repaid = sym (balances-repaid loan sound);
}

-- a loan that a run leaves is sound
pub sound_after : (lines : List Line) (i : Institution) (loan : Account) (account : DisbursedLoan) → IsSound i
    → AreInRange lines → account_of (last lines i).catalogue (ledger_at loan (last lines i)) ≡ Some account
    → IsSoundDisbursed account
sound_after lines i loan account s r there =
    account_of_loan (last lines i) loan account (last_sound lines i s r) there

pub accounted_after : (lines : List Line) (i : Institution) (loan : Account) (account : DisbursedLoan) → IsSound i
    → AreInRange lines → account_of (last lines i).catalogue (ledger_at loan (last lines i)) ≡ Some account
    → IsAccountedFor account
accounted_after lines i loan account s r there = accounted account (sound_after lines i loan account s r there)

pub apart_after : (lines : List Line) (i : Institution) (loan : Account) (account : DisbursedLoan) → IsSound i
    → AreInRange lines → account_of (last lines i).catalogue (ledger_at loan (last lines i)) ≡ Some account
    → 0 < (balances_of account).overpaid → sum (balances_of account).outstanding ≡ 0
apart_after lines i loan account s r there = balances-apart account (sound_after lines i loan account s r there)

pub within_after : (lines : List Line) (i : Institution) (loan : Account) (account : DisbursedLoan) → IsSound i
    → AreInRange lines → account_of (last lines i).catalogue (ledger_at loan (last lines i)) ≡ Some account
    → AreWithin (state_of_loan account).rows
within_after lines i loan account s r there = (good-sound account (sound_after lines i loan account s r there)).within

pub sources_after : (lines : List Line) (i : Institution) (loan : Account) (account : DisbursedLoan) → IsSound i
    → AreInRange lines → account_of (last lines i).catalogue (ledger_at loan (last lines i)) ≡ Some account
    → HasSources account
sources_after lines i loan account s r there = sources account (sound_after lines i loan account s r there)
