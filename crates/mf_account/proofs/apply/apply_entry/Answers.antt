use Rattle.std.proofs.Common.{ℕ, ◌≡◌, ◌+◌, ◌-◌, ◌∙◌, ap, sym, subst, arith, length, List, map, ◌++◌, refl}
use Rattle.mf_alloc.specs.declared.row.Cell.{Cell}
use Rattle.mf_alloc.specs.declared.row.Share.{Share}
use Rattle.mf_alloc.specs.Order.{dues_of, due_by, order_at}
use Rattle.mf_account.specs.Account.{parts_numbered}
use Rattle.mf_alloc.specs.Sums.{Instalment, AreWhole}
use Rattle.mf_alloc.specs.Payment.{shares_of, rest_of}
use Rattle.mf_alloc.proofs.LeftOpen.{IsLine}
use Rattle.mf_account.specs.Effect.{State, after_entry, parts_of, with_charge, parts_cleared}
use Rattle.mf_account.specs.AtOnce.{money_to_pay, paid_part, after_at_once}
use Rattle.mf_account.proofs.DueLemmas.{order-same, due_by-le, dues-with_settled, dues-with_charge}
use Rattle.mf_account.proofs.EffectLemmas.{state-applied, parts-applied}
use Rattle.mf_account.proofs.OnceLemmas.{after-once, parts-once}
use Rattle.mf_account.proofs.apply.apply_entry.Goals as goal

pub returns-clause-state : goal.returns-clause-state
returns-clause-state g c =
    let cells = g.T.Strategy.cell_at c.args.strategy.now in
    let entry = c.args.entry.now in
    let before : State = record {
      rows = c.book.inside.rows.items;
      overpaid = c.book.inside.overpaid;
      refunded = c.book.inside.refunded;
    } in
    let is : before ≡ c.args.book.now = c.book.view_is in
    let now : State = record {
      rows = c.pay.new.rows.items;
      overpaid = c.in_ok-shares.rest;
      refunded = before.refunded
          + c.money_out-given.result;
    } in
    let cleared : List Instalment = c.charge_and_clear_in.new.rows.items in
    let charged : List Instalment = with_charge entry.kind entry before.rows in
    let same = order-same cells cleared before.rows entry.day
    (ap dues_of c.in_ok-parts.ensures.rows ∙ dues-with_settled charged (parts_cleared (order_at cells before.rows
    entry.day) entry charged) ∙ dues-with_charge entry.kind entry before.rows) in
    let money : ℕ = c.money_in.result + (before.overpaid - c.money_out-given.result) in
    let pays : money ≡ money_to_pay entry before = omega (arith, c.money_in.ensures, c.money_out-given.ensures.value) in
    let n : ℕ = length before.rows in
    let due : ℕ = due_by entry.day before.rows in
    let few = due_by-le entry.day before.rows in
    let place : Cell → ℕ = g.T.Strategy.place_of c.args.strategy.now n due in
    let line : IsLine n (order_at cells before.rows entry.day) place before.rows = record {
      size = refl;
      is = record {
        is_cell = λ k within. g.met.T.Strategy.is_cell c.args.strategy.now n due k few within;
        back = λ k within. g.met.T.Strategy.back c.args.strategy.now n due k few within;
      };
      whole = subst (λ (s : State). AreWhole s.rows) (sym is) c.requires.fits.whole;
    } in
    let once : now ≡ after_at_once (order_at cells before.rows entry.day) entry before =
    state-applied (order_at cells before.rows entry.day) entry before cleared c.pay.new.rows.items
    c.in_ok-shares.shares.items money c.in_ok-shares.rest c.money_out-given.result
    c.in_ok-parts.ensures.rows pays c.money_out-given.ensures.value
    (c.in_ok-shares.ensures.shares ∙ ap (λ (o : ℕ → Cell). shares_of o cleared money) same)
    (c.in_ok-shares.ensures.rest ∙ ap (λ (o : ℕ → Cell). rest_of o cleared money) same)
    c.in_ok-shares.ensures.rows in
    subst (λ (s : State). now ≡ after_entry (order_at cells s.rows entry.day) entry s) is
    (once ∙ sym (after-once n (order_at cells before.rows entry.day) place entry before line))

pub returns-clause-parts : goal.returns-clause-parts
returns-clause-parts g c =
    let cells = g.T.Strategy.cell_at c.args.strategy.now in
    let entry = c.args.entry.now in
    let before : State = record {
      rows = c.book.inside.rows.items;
      overpaid = c.book.inside.overpaid;
      refunded = c.book.inside.refunded;
    } in
    let is : before ≡ c.args.book.now = c.book.view_is in
    let cleared : List Instalment = c.charge_and_clear_in.new.rows.items in
    let charged : List Instalment = with_charge entry.kind entry before.rows in
    let same = order-same cells cleared before.rows entry.day
    (ap dues_of c.in_ok-parts.ensures.rows ∙ dues-with_settled charged (parts_cleared (order_at cells before.rows
    entry.day) entry charged) ∙ dues-with_charge entry.kind entry before.rows) in
    let money : ℕ = c.money_in.result + (before.overpaid - c.money_out-given.result) in
    let pays : money ≡ money_to_pay entry before = omega (arith, c.money_in.ensures, c.money_out-given.ensures.value) in
    let n : ℕ = length before.rows in
    let due : ℕ = due_by entry.day before.rows in
    let few = due_by-le entry.day before.rows in
    let place : Cell → ℕ = g.T.Strategy.place_of c.args.strategy.now n due in
    let line : IsLine n (order_at cells before.rows entry.day) place before.rows = record {
      size = refl;
      is = record {
        is_cell = λ k within. g.met.T.Strategy.is_cell c.args.strategy.now n due k few within;
        back = λ k within. g.met.T.Strategy.back c.args.strategy.now n due k few within;
      };
      whole = subst (λ (s : State). AreWhole s.rows) (sym is) c.requires.fits.whole;
    } in
    subst (λ (s : State). c.add_paid.new.parts.items ≡ parts_numbered entry.seq 1
    (parts_of (order_at cells s.rows entry.day) entry s)) is
    (parts-applied (order_at cells before.rows entry.day) entry before entry.seq cleared c.in_ok-shares.shares.items
    money c.in_ok-parts.parts.items c.add_paid.new.parts.items
    c.in_ok-parts.ensures.rows pays
    (c.in_ok-shares.ensures.shares ∙ ap (λ (o : ℕ → Cell). shares_of o cleared money) same)
    c.in_ok-parts.ensures.parts
    (c.in_ok-add_paid.ensures.parts
    ∙ ap (λ (x : List Share). c.in_ok-parts.parts.items
    ++ parts_numbered entry.seq (1 + length c.in_ok-parts.parts.items) (map paid_part x)) c.deref.ensures.value)
    ∙ ap (parts_numbered entry.seq 1) (sym (parts-once n (order_at cells before.rows entry.day) place entry before
    line)))
