-- The lines by portion that are read from a store.
use Rattle.std.specs.Prelude.{◌≡◌, ℕ, ◌==◌, List, [], ◌++◌, map, filter, Option, Some, None}
use Rattle.std.specs.List.{range_with_len}
use Rattle.mf_account.specs.Balance.{balances_by}
use Rattle.mf_account.specs.Change.{KeptAccount}
use Rattle.mf_account.specs.Loan.{fee_of_loan}
use Rattle.mf_account.specs.declared.balances.Balances.{Balances}
use Rattle.mf_ledger_play.specs.declared.held.HeldLoan.{HeldLoan}
use Rattle.mf_model.specs.Accounts.{no_balances}
use Rattle.mf_model.specs.Institution.{Institution}
use Rattle.mf_model.specs.Store.{rows_at}
use Rattle.mf_model.specs.declared.store.InstitutionStore.{Ghosts}
use Rattle.mf_portions.specs.Portions.{lines_of, portion_lines}
use Rattle.mf_portions.specs.Table.{table_text}
use Rattle.mf_portions.specs.declared.lines.PortionLine.{PortionLine}

-- the sums of a loan, from its account as it is kept
abbrev pub kept_balances : Option KeptAccount → Balances
kept_balances None = no_balances
kept_balances (Some a) = balances_by (fee_of_loan a.loan) a.state

-- the sums of those loans that are of a product
abbrev pub held_balances : ℕ → List HeldLoan → List Balances
held_balances product held =
    map (λ (h : HeldLoan). kept_balances h.account) (filter (λ (h : HeldLoan). h.product == product) held)

-- the table of an institution
abbrev pub portions_text : Institution → List ℕ
portions_text i = table_text [] (portion_lines i)

module _ {S : Type 0} (store : Ghosts S) where
  -- the store stands for what it stood for, and this is told of it
  pub record Tells {X : Type 0} (of : Institution → List X) (told : List X) (old new : S) : Type 0 where
    pub premise : store.clean new → store.clean old
    pub same : store.clean new → (i : Institution) → store.stands old i → store.stands new i
    pub told_is : store.clean new → (i : Institution) → store.stands old i → told ≡ of i

  -- the store stands for what it stood for, and the lines of this office, of so many products, stand behind the others
  pub record PutsOffice (office products : ℕ) (was now : List PortionLine) (old new : S) : Type 0 where
    pub premise : store.clean new → store.clean old
    pub same : store.clean new → (i : Institution) → store.stands old i → store.stands new i
    pub put : store.clean new → (i : Institution) → store.stands old i
        → now ≡ was ++ lines_of i.catalogue office (rows_at office i).loans (range_with_len 1 products)
