use Rattle.std.proofs.Common.{◌≡◌, ℕ, ◌+◌, ◌*◌, ◌≤◌, List, length, take, arith, ◌∙◌, ap, sym, subst}
use Rattle.std.specs.Prelude.{All, IfSome}
use Rattle.std.proofs.lemmas.List.Elements.{All-weaker}
use Rattle.std.proofs.lemmas.Option.{IfSome_then}
use Rattle.mf_account.specs.declared.entry.Entry.{Entry}
use Rattle.mf_account.specs.declared.settled.SettledPart.{SettledPart}
use Rattle.mf_account.specs.Change.{KeptAccount, IsReplayed}
use Rattle.mf_account.specs.Effect.{State}
use Rattle.mf_account.specs.Safe.{most_kept, IsBounded}
use Rattle.mf_account.specs.Told.{settled_amount}
use Rattle.mf_account.specs.Account.{first_state}
use Rattle.mf_account.specs.Applicable.{HasCharge}
use Rattle.mf_account.specs.Standing.{standing_entries, entries_at}
use Rattle.mf_account.specs.Loan.{DisbursedLoan, schedule_of, orders_of, cell_places_of, settled_of_loan}
use Rattle.mf_account.specs.Rewind.{state_before, settled_upto}
use Rattle.mf_account.proofs.BoundLemmas.{bounded-weaker}
use Rattle.mf_account.proofs.GoodLemmas.{IsReplayable}
use Rattle.mf_account.proofs.RewindLemmas.{has_charge}
use Rattle.mf_account.proofs.SoundLemmas.{each-standing}
use Rattle.mf_account.proofs.TailLemmas.{rewindable-whole, back-whole}
use Rattle.mf_account.proofs.account.LoanAccount.rewind_copy.Goals as goal

pub rewind_to-requires-clause-charges : goal.rewind_to-requires-clause-charges
rewind_to-requires-clause-charges c =
    let old : DisbursedLoan = c.self.inside.loan in
    let same : c.args.book.now ≡ c.self.inside.book =
    c.requires.same ∙ sym (ap (λ (a : KeptAccount). a.state) c.self.view_is) in
    let tail : entries_at c.entries.result.now c.deref.result.now ≡ standing_entries old.entries =
    ap (λ e. entries_at e c.deref.result.now) c.entries.ensures
    ∙ ap (entries_at old.entries) c.deref.ensures.value ∙ c.self.invariant.order_is in
    let size : length c.args.book.now.rows ≡ old.periods =
    ap (λ (s : State). length s.rows) same ∙ c.self.invariant.safe.bounded.size in
    let each : All (λ (e : Entry). HasCharge e.kind e old.periods) (standing_entries old.entries) =
    All-weaker (IsReplayable old.periods) (λ (e : Entry). HasCharge e.kind e old.periods)
    (λ e is. has_charge e.kind e old.periods is.there) (standing_entries old.entries)
    (each-standing old c.self.invariant.sound) in
    subst (λ (n : ℕ). All (λ (e : Entry). HasCharge e.kind e n) (entries_at c.entries.result.now c.deref.result.now))
    (sym size) (subst (λ (x : List Entry). All (λ (e : Entry). HasCharge e.kind e old.periods) x) (sym tail) each)

pub returns-clause-bounded : goal.returns-clause-bounded
returns-clause-bounded c =
    let n : ℕ = c.self.inside.loan.periods in
    let same : c.args.book.now ≡ c.self.inside.book =
    c.requires.same ∙ sym (ap (λ (a : KeptAccount). a.state) c.self.view_is) in
    let was : IsBounded n most_kept c.args.book.now =
    subst (IsBounded n most_kept) (sym same) c.self.invariant.safe.bounded in
    let amount : settled_amount c.deref-2.result.now ≤ most_kept =
    subst (λ (x : List SettledPart). settled_amount x ≤ most_kept) (sym c.deref-2.ensures.value)
    c.self.invariant.safe.placed.amount in
    subst (λ (a : KeptAccount). IfSome c.rewind_to.result
    (λ (kept : ℕ). IsBounded a.loan.periods (2 * most_kept) c.rewind_to.new.book)) c.self.view_is
    (IfSome_then c.rewind_to.result (c.rewind_to.ensures.bounded n most_kept was)
    (λ kept is. bounded-weaker n (most_kept + settled_amount c.deref-2.result.now) (2 * most_kept)
    c.rewind_to.new.book (omega (arith, amount)) is))

pub returns-clause-back : goal.returns-clause-back
returns-clause-back c replayed =
    let old : DisbursedLoan = c.self.inside.loan in
    let same : c.args.book.now ≡ c.self.inside.book =
    c.requires.same ∙ sym (ap (λ (a : KeptAccount). a.state) c.self.view_is) in
    let tail : entries_at c.entries.result.now c.deref.result.now ≡ standing_entries old.entries =
    ap (λ e. entries_at e c.deref.result.now) c.entries.ensures
    ∙ ap (entries_at old.entries) c.deref.ensures.value ∙ c.self.invariant.order_is in
    let replay : IsReplayed (record {
      loan = old;
      state = c.self.inside.book;
      settled = c.self.inside.settled.items;
      change = c.self.inside.change;
    }) = subst IsReplayed (sym c.self.view_is) replayed in
    let settled : c.deref-2.result.now ≡ settled_of_loan old = c.deref-2.ensures.value ∙ replay.settled in
    let is = rewindable-whole old (entries_at c.entries.result.now c.deref.result.now) c.deref-2.result.now
    c.args.book.now c.self.invariant.sound tail settled (same ∙ replay.state) in
    subst (λ (a : KeptAccount). IfSome c.rewind_to.result
    (λ (kept : ℕ). (c.rewind_to.new.book ≡ state_before a.loan c.args.place)
    × (take kept (settled_of_loan a.loan) ≡ settled_upto a.loan c.args.place))) c.self.view_is
    (IfSome_then c.rewind_to.result
    (c.rewind_to.ensures.back (orders_of old) (cell_places_of old) (first_state (schedule_of old)) is)
    (λ kept back. back-whole old (entries_at c.entries.result.now c.deref.result.now) c.deref-2.result.now
    c.args.place kept c.rewind_to.new.book back tail settled))

pub returns-clause-replayed : goal.returns-clause-replayed
returns-clause-replayed c replayed =
    let old : DisbursedLoan = c.self.inside.loan in
    let same : c.args.book.now ≡ c.self.inside.book =
    c.requires.same ∙ sym (ap (λ (a : KeptAccount). a.state) c.self.view_is) in
    let tail : entries_at c.entries.result.now c.deref.result.now ≡ standing_entries old.entries =
    ap (λ e. entries_at e c.deref.result.now) c.entries.ensures
    ∙ ap (entries_at old.entries) c.deref.ensures.value ∙ c.self.invariant.order_is in
    let replay : IsReplayed (record {
      loan = old;
      state = c.self.inside.book;
      settled = c.self.inside.settled.items;
      change = c.self.inside.change;
    }) = subst IsReplayed (sym c.self.view_is) replayed in
    let settled : c.deref-2.result.now ≡ settled_of_loan old = c.deref-2.ensures.value ∙ replay.settled in
    let is = rewindable-whole old (entries_at c.entries.result.now c.deref.result.now) c.deref-2.result.now
    c.args.book.now c.self.invariant.sound tail settled (same ∙ replay.state) in
    c.rewind_to.ensures.some (orders_of old) (cell_places_of old) (first_state (schedule_of old)) is
