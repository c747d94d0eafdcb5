use Rattle.std.proofs.Common.{◌≡◌, ℕ, ◌<◌, ◌∙◌, ap, sym, subst, arith, length, List}
use Rattle.std.specs.Prelude.{All}
use Rattle.mf_catalog.specs.declared.terms.StrategyName.{StrategyName}
use Rattle.mf_schedule.specs.declared.instalment.FreshInstalment.{FreshInstalment}
use Rattle.mf_account.specs.declared.entry.Entry.{Entry}
use Rattle.mf_account.specs.Account.{orders_by, first_state, state_of, settled_of}
use Rattle.mf_account.specs.Standing.{standing_entries, entries_at}
use Rattle.mf_account.specs.Applicable.{AreApplicable}
use Rattle.mf_account.specs.Loan.{DisbursedLoan, cells_of, schedule_of, orders_of, state_of_loan, settled_of_loan}
use Rattle.mf_account.proofs.SoundLemmas.{length-schedule, applicable-sound}
use Rattle.mf_account.proofs.RedoneLemmas.{cells_named, fits-named}
use Rattle.mf_account.specs.declared.settled.SettledPart.{SettledPart}
use Rattle.mf_account.specs.Effect.{State}
use Rattle.mf_account.specs.Safe.{IsSafe}
use Rattle.mf_account.proofs.ToldLemmas.{safe-sound}
use Rattle.mf_account.proofs.account.LoanAccount.replay.Goals as goal

pub replay_entries-requires-clause-few : goal.replay_entries-requires-clause-few
replay_entries-requires-clause-few c =
    let loan : DisbursedLoan = c.args.loan in
    let size : length c.deref.result.now ≡ loan.periods =
    ap length (c.deref.ensures.value ∙ c.in_ok-schedule.ensures.schedule) ∙ length-schedule loan in
    omega (arith, size, c.requires.limits.most_periods)

pub replay_entries-requires-clause-within : goal.replay_entries-requires-clause-within
replay_entries-requires-clause-within c =
    subst (λ (o : List ℕ). All (λ i. i < length c.entries-2.result.now) o) (sym c.deref-2.ensures.value)
    (subst (λ (e : List Entry). All (λ i. i < length e) c.in_ok-order.order.items) (c.entries.ensures
    ∙ sym c.entries-2.ensures) c.in_ok-order.ensures.within)

pub replay_entries-requires-clause-order : goal.replay_entries-requires-clause-order
replay_entries-requires-clause-order c =
    ap (entries_at c.entries-2.result.now) c.deref-2.ensures.value
    ∙ subst (λ (e : List Entry). entries_at e c.in_ok-order.order.items ≡ standing_entries e) (c.entries.ensures
    ∙ sym c.entries-2.ensures) c.in_ok-order.ensures.order

pub replay_entries-requires-clause-fits : goal.replay_entries-requires-clause-fits
replay_entries-requires-clause-fits c =
    let loan : DisbursedLoan = c.args.loan in
    subst (λ (s : List FreshInstalment). AreApplicable (orders_by (cells_named c.strategy-strategy.result)
    (first_state s).rows) (standing_entries c.entries-2.result.now) (first_state s))
    (sym (c.deref.ensures.value ∙ c.in_ok-schedule.ensures.schedule))
    (subst (λ (e : List Entry). AreApplicable (orders_by (cells_named c.strategy-strategy.result)
    (first_state (schedule_of loan)).rows) (standing_entries e) (first_state (schedule_of loan)))
    (sym c.entries-2.ensures)
    (fits-named loan c.strategy-strategy.result (standing_entries loan.entries) (first_state (schedule_of loan))
    c.strategy-strategy.ensures (applicable-sound loan c.requires)))

-- what a replay by the name of a strategy gives, where all is the loan's
state-named : (loan : DisbursedLoan) (name : StrategyName) (schedule : List FreshInstalment) (entries : List Entry)
    → name ≡ loan.terms.strategy → schedule ≡ schedule_of loan → entries ≡ loan.entries
    → state_of (orders_by (cells_named name) (first_state schedule).rows) schedule entries ≡ state_of_loan loan
state-named loan name schedule entries name_is schedule_is entries_are =
    ap (λ (n : StrategyName). state_of (orders_by (cells_named n) (first_state schedule).rows) schedule entries) name_is
    ∙ ap (λ s. state_of (orders_by (cells_of loan) (first_state s).rows) s entries) schedule_is
    ∙ ap (λ e. state_of (orders_of loan) (schedule_of loan) e) entries_are

parts-named : (loan : DisbursedLoan) (name : StrategyName) (schedule : List FreshInstalment) (entries : List Entry)
    → name ≡ loan.terms.strategy → schedule ≡ schedule_of loan → entries ≡ loan.entries
    → settled_of (orders_by (cells_named name) (first_state schedule).rows) schedule entries ≡ settled_of_loan loan
parts-named loan name schedule entries name_is schedule_is entries_are =
    ap (λ (n : StrategyName). settled_of (orders_by (cells_named n) (first_state schedule).rows) schedule entries)
    name_is
    ∙ ap (λ s. settled_of (orders_by (cells_of loan) (first_state s).rows) s entries) schedule_is
    ∙ ap (λ e. settled_of (orders_of loan) (schedule_of loan) e) entries_are

pub invariant_of-result : goal.invariant_of-result
invariant_of-result c =
    let loan : DisbursedLoan = c.args.loan in
    let schedule : c.deref.result.now ≡ schedule_of loan =
    c.deref.ensures.value ∙ c.in_ok-schedule.ensures.schedule in
    let book : c.in_ok-book.book ≡ state_of_loan loan = c.in_ok-book.ensures.state
    ∙ state-named loan c.strategy-strategy.result c.deref.result.now c.entries-2.result.now
    c.strategy-strategy.ensures schedule c.entries-2.ensures in
    let settled : c.in_ok-book.settled.items ≡ settled_of_loan loan = c.in_ok-book.ensures.settled
    ∙ parts-named loan c.strategy-strategy.result c.deref.result.now c.entries-2.result.now
    c.strategy-strategy.ensures schedule c.entries-2.ensures in
    record {
      within = subst (λ (e : List Entry). All (λ i. i < length e) c.in_ok-order.order.items) c.entries.ensures
          c.in_ok-order.ensures.within;
      order_is = subst (λ (e : List Entry). entries_at e c.in_ok-order.order.items ≡ standing_entries e)
          c.entries.ensures c.in_ok-order.ensures.order;
      sound = c.requires;
      schedule_is = c.in_ok-schedule.ensures.schedule;
      fee_is = c.in_ok-schedule.ensures.fee;
      safe = subst (λ (x : State). IsSafe loan.periods (length loan.entries) x c.in_ok-book.settled.items) (sym book)
          (subst (λ (x : List SettledPart). IsSafe loan.periods (length loan.entries) (state_of_loan loan) x)
          (sym settled)
          (safe-sound loan c.requires));
    }

pub returns-clause-account : goal.returns-clause-account
returns-clause-account c =
    let loan : DisbursedLoan = c.args.loan in
    let schedule : c.deref.result.now ≡ schedule_of loan =
    c.deref.ensures.value ∙ c.in_ok-schedule.ensures.schedule in
    let book : c.in_ok-book.book ≡ state_of_loan loan = c.in_ok-book.ensures.state
    ∙ state-named loan c.strategy-strategy.result c.deref.result.now c.entries-2.result.now
    c.strategy-strategy.ensures schedule c.entries-2.ensures in
    let settled : c.in_ok-book.settled.items ≡ settled_of_loan loan = c.in_ok-book.ensures.settled
    ∙ parts-named loan c.strategy-strategy.result c.deref.result.now c.entries-2.result.now
    c.strategy-strategy.ensures schedule c.entries-2.ensures in
    (λ t. record { loan = loan; state = book t; settled = settled t; change = c.no_change.ensures t })
