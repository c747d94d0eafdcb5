use Rattle.std.proofs.Common.{◌≡◌, ◌+◌, ◌≤◌, ◌∙◌, ap, sym, subst, arith, ℕ, List, length, true≢false, refl}
use Rattle.mf_alloc.specs.Sums.{Instalment}
use Rattle.mf_account.specs.Effect.{State}
use Rattle.mf_account.specs.Balance.{HasRoom}
use Rattle.mf_account.specs.Standing.{standing_entries, entries_at}
use Rattle.mf_account.specs.Loan.{DisbursedLoan, state_of_loan}
use Rattle.mf_account.specs.Safe.{most_kept, IsBounded}
use Rattle.mf_account.proofs.ConserveLemmas.{brought, room-bounded, paid-bounded}
use Rattle.mf_account.proofs.ResumeLemmas.{brought-room, brought-kept, paid_in_all, ends-in, resumed-refund}
use Rattle.mf_account.proofs.ResumeLemmas.{resumed-other}
use Rattle.mf_account.proofs.ToldLemmas.{safe-sound}
use Rattle.mf_account.proofs.resume.resumed_book.Goals as goal
use Rattle.mf_account.proofs.resume.resumed_book.Goals.{then-ends_in_refund, else-ends_in_refund}

pub money_brought-brought-requires-clause-room : goal.money_brought-brought-requires-clause-room
money_brought-brought-requires-clause-room c =
    let loan : DisbursedLoan = c.requires.sound.0 in
    let room = brought-room loan c.requires.sound.1 in
    let all : brought (entries_at c.args.entries.now c.args.order.now) ≡ brought (standing_entries loan.entries) =
    ap brought (c.requires.order ∙ ap standing_entries c.requires.sound.2) in
    omega (arith, room, all)

-- the rows with nothing overpaid or refunded
abbrev plain : List Instalment → State
plain rows = record { rows = rows; overpaid = 0; refunded = 0 }

pub money_paid-requires-clause-each : goal.money_paid-requires-clause-each
money_paid-requires-clause-each c =
    let rows : List Instalment = c.args.rows.items in
    let is : IsBounded (length rows) most_kept (plain rows) = c.is_bounded.ensures.bounded (length rows)
    (record { size = refl; whole = c.requires.whole; within = c.requires.apart }) c.if-not-is_bounded.false in
    subst HasRoom (sym c.deref.ensures.value) (room-bounded (length rows) (plain rows) is)

pub money_paid-requires-clause-room : goal.money_paid-requires-clause-room
money_paid-requires-clause-room c =
    let rows : List Instalment = c.args.rows.items in
    let is : IsBounded (length rows) most_kept (plain rows) = c.is_bounded.ensures.bounded (length rows)
    (record { size = refl; whole = c.requires.whole; within = c.requires.apart }) c.if-not-is_bounded.false in
    let most = paid-bounded (length rows) (plain rows) is in
    let same : paid_in_all c.deref.result.now ≡ paid_in_all rows = ap paid_in_all c.deref.ensures.value in
    omega (arith, most, same)

pub returns-then-not-is_bounded-clause-some : goal.returns-then-not-is_bounded-clause-some
returns-then-not-is_bounded-clause-some c loan sound same none =
    let rows : List Instalment = c.args.rows.items in
    let good : IsBounded loan.periods most_kept (state_of_loan loan) = (safe-sound loan sound).bounded in
    let is : IsBounded loan.periods most_kept (plain rows) = subst
    (λ (r : List Instalment). IsBounded loan.periods most_kept
    (plain r)) (sym same) (record {
      size = good.size;
      whole = good.whole;
      within = good.within;
      owed = good.owed;
      money = omega arith;
    }) in
    true≢false (sym (c.is_bounded.ensures.exact loan.periods is) ∙ c.if-not-is_bounded.true)

pub returns-clause-bounded : goal.returns-clause-bounded
returns-clause-bounded c =
    let rows : List Instalment = c.args.rows.items in
    let loan : DisbursedLoan = c.requires.sound.0 in
    let is : IsBounded (length rows) most_kept (plain rows) = c.is_bounded.ensures.bounded (length rows)
    (record { size = refl; whole = c.requires.whole; within = c.requires.apart }) c.if-not-is_bounded.false in
    let all : brought (entries_at c.args.entries.now c.args.order.now) ≡ brought (standing_entries loan.entries) =
    ap brought (c.requires.order ∙ ap standing_entries c.requires.sound.2) in
    let most = brought-kept loan c.requires.sound.1 in
    let rest : c.saturating_sub-rest.result ≤ most_kept =
    omega (arith, all, most, c.money_brought-brought.ensures, c.saturating_sub-rest.ensures) in
    let both : (o r : ℕ) → o + r ≤ most_kept → IsBounded (length rows) most_kept (record {
      rows = rows;
      overpaid = o;
      refunded = r;
    }) = λ o r money. record {
      size = is.size;
      whole = is.whole;
      within = is.within;
      owed = is.owed;
      money = money;
    } in
    elim c.if-ends_in_refund.branch [
      | then-ends_in_refund w ↦ subst (λ (p : ℕ × ℕ). IsBounded (length rows) most_kept (record {
        rows = rows;
        overpaid = p.0;
        refunded = p.1;
      })) (sym w.overpaid-is)
          (both 0 c.saturating_sub-rest.result (omega (arith, rest)))
      | else-ends_in_refund w ↦ subst (λ (p : ℕ × ℕ). IsBounded (length rows) most_kept (record {
        rows = rows;
        overpaid = p.0;
        refunded = p.1;
      })) (sym w.overpaid-is)
          (both c.saturating_sub-rest.result 0 (omega (arith, rest)))
    ]

pub returns-clause-book : goal.returns-clause-book
returns-clause-book c loan sound entries rows =
    let total : c.money_brought-brought.result ≡ brought (standing_entries loan.entries) =
    c.money_brought-brought.ensures ∙ ap brought (c.requires.order ∙ ap standing_entries entries) in
    let paid : c.money_paid.result ≡ paid_in_all (state_of_loan loan).rows =
    c.money_paid.ensures ∙ ap paid_in_all (c.deref.ensures.value ∙ rows) in
    let order : entries_at c.args.entries.now c.args.order.now ≡ standing_entries c.args.entries.now =
    c.requires.order in
    let at : ℕ × ℕ → State = λ p. record { rows = c.args.rows.items; overpaid = p.0; refunded = p.1 } in
    elim c.if-ends_in_refund.branch [
      | then-ends_in_refund w ↦
          ap at w.overpaid-is
          ∙ ap (λ n. at (0, n)) c.saturating_sub-rest.ensures
          ∙ resumed-refund loan c.args.rows.items c.money_brought-brought.result c.money_paid.result sound rows total
          paid
          (ends-in loan c.args.entries.now c.args.order.now order entries (λ X. X)
          (c.ends_in_refund.ensures.0 w.if-ends_in_refund.true))
      | else-ends_in_refund w ↦
          ap at w.overpaid-is
          ∙ ap (λ n. at (n, 0)) c.saturating_sub-rest.ensures
          ∙ resumed-other loan c.args.rows.items c.money_brought-brought.result c.money_paid.result sound rows total
          paid
          (ends-in loan c.args.entries.now c.args.order.now order entries (λ X. X → ⊥)
          (λ is. true≢false (sym (c.ends_in_refund.ensures.1 is) ∙ w.if-ends_in_refund.false)))
    ]
