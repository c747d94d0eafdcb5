use Rattle.std.proofs.Common.{◌≡◌, ◌++◌, List, length, arith, ◌∙◌, ap, sym, subst}
use Rattle.mf_account.specs.declared.entry.Entry.{Entry}
use Rattle.mf_account.specs.declared.settled.SettledPart.{SettledPart}
use Rattle.mf_account.specs.Effect.{State, parts_of}
use Rattle.mf_account.specs.Account.{Orders, orders_by, after_entries, settled_by, parts_numbered}
use Rattle.mf_account.specs.Standing.{entries_at}
use Rattle.mf_account.specs.Applicable.{AreApplicable}
use Rattle.mf_account.proofs.ReplayLemmas.{length-after}
use Rattle.mf_account.proofs.ApplyLemmas.{orders-after}
use Rattle.mf_account.proofs.replay.apply_with.Goals as goal

pub apply_all-requires-clause-few : goal.apply_all-requires-clause-few
apply_all-requires-clause-few g c =
    let orders : Orders = orders_by (g.T.Strategy.cell_at c.args.strategy.now) c.args.book.now.rows in
    let size : length c.apply_entry.new.book.rows ≡ length c.args.book.now.rows = ap (λ (s : State). length s.rows)
    c.in_ok-parts.ensures.state ∙ length-after orders c.args.entry.now c.args.book.now in
    omega (arith, size, c.requires.few)

pub apply_all-requires-clause-fits : goal.apply_all-requires-clause-fits
apply_all-requires-clause-fits g c =
    let cells = g.T.Strategy.cell_at c.args.strategy.now in
    let later : List Entry = entries_at c.args.entries.now c.args.later.now in
    let same = orders-after cells c.args.entry.now c.args.book.now c.apply_entry.new.book c.in_ok-parts.ensures.state in
    subst (λ (o : Orders). AreApplicable o later c.apply_entry.new.book) (sym same)
    (subst (λ (s : State). AreApplicable (orders_by cells c.args.book.now.rows) later s)
    (sym c.in_ok-parts.ensures.state) c.requires.fits.1)

pub returns-clause-state : goal.returns-clause-state
returns-clause-state g c =
    let cells = g.T.Strategy.cell_at c.args.strategy.now in
    let later : List Entry = entries_at c.args.entries.now c.args.later.now in
    let same = orders-after cells c.args.entry.now c.args.book.now c.apply_entry.new.book c.in_ok-parts.ensures.state in
    c.in_ok-rest.ensures.state
    ∙ ap (λ (o : Orders). after_entries o later c.apply_entry.new.book) same
    ∙ ap (λ (s : State). after_entries (orders_by cells c.args.book.now.rows) later s) c.in_ok-parts.ensures.state

pub returns-clause-parts : goal.returns-clause-parts
returns-clause-parts g c =
    let cells = g.T.Strategy.cell_at c.args.strategy.now in
    let orders : Orders = orders_by cells c.args.book.now.rows in
    let later : List Entry = entries_at c.args.entries.now c.args.later.now in
    let own : List SettledPart =
    parts_numbered c.args.entry.now.seq 1 (parts_of (orders c.args.entry.now) c.args.entry.now c.args.book.now) in
    let same = orders-after cells c.args.entry.now c.args.book.now c.apply_entry.new.book c.in_ok-parts.ensures.state in
    c.in_ok-extend_from_slice.ensures.items
    ∙ ap (λ (x : List SettledPart). x ++ c.deref.result.now) c.in_ok-parts.ensures.parts
    ∙ ap (λ (x : List SettledPart). own ++ x)
    (c.deref.ensures.value
    ∙ c.in_ok-rest.ensures.parts
    ∙ ap (λ (o : Orders). settled_by o later c.apply_entry.new.book) same
    ∙ ap (λ (s : State). settled_by orders later s) c.in_ok-parts.ensures.state)
