-- How many penalties stand on an instalment.
use Rattle.std.specs.Prelude.{ℕ, ◌≤◌, List}
use Rattle.std.specs.List.{count_by}
use Rattle.mf_office.specs.declared.account.Account.{Account}
use Rattle.mf_account.specs.declared.entry.Entry.{Entry}
use Rattle.mf_account.specs.Refusals.{is_penalty_on}
use Rattle.mf_model.specs.Institution.{Institution}
use Rattle.mf_model.specs.Store.{ledger_at}
use Rattle.mf_guarantees.specs.Entered.{entries_held}

-- how many of a loan's entries are penalties that stand on an instalment
abbrev pub standing_penalties : ℕ → List Entry → ℕ
standing_penalties instalment entries = count_by (is_penalty_on instalment) entries

-- on no instalment of any loan more than one stands
abbrev pub NoneBearsTwo : Institution → Type 0
NoneBearsTwo i = (loan : Account) (instalment : ℕ) →
    standing_penalties instalment (entries_held (ledger_at loan i)) ≤ 1
