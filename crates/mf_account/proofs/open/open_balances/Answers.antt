use Rattle.std.proofs.Common.{◌≤◌, ℕ, true≢false, List, Some, length, ap, subst, sym, refl, arith, ◌∙◌}
use Rattle.std.specs.Prelude.{IsTrue}
use Rattle.mf_base.specs.DayText.{last_entered_day}
use Rattle.mf_alloc.specs.Sums.{Instalment}
use Rattle.mf_account.specs.declared.balances.Balances.{Balances}
use Rattle.mf_account.specs.Account.{sum_at}
use Rattle.mf_account.specs.Safe.{most_kept}
use Rattle.mf_account.proofs.BoundLemmas.{bounded-from}
use Rattle.mf_account.proofs.ConserveLemmas.{room-bounded}
use Rattle.mf_account.proofs.OpenLemmas.{open-balances}
use Rattle.mf_account.proofs.ResumeLemmas.{book_at}
use Rattle.mf_account.proofs.ToldLemmas.{safe-sound}
use Rattle.mf_account.proofs.open.open_balances.Goals as goal

pub returns-then-not-can_be_entered-clause-balances : goal.returns-then-not-can_be_entered-clause-balances
returns-then-not-can_be_entered-clause-balances c loan sound terms principal periods day rows =
    absurd (true≢false (sym (subst IsTrue c.if-not-can_be_entered.true
    (c.can_be_entered.ensures.exact (subst (λ (d : ℕ). d ≤ last_entered_day) day sound.day)))))

pub returns-then-not-are_owed_within-clause-balances : goal.returns-then-not-are_owed_within-clause-balances
returns-then-not-are_owed_within-clause-balances c loan sound terms principal periods day rows =
    absurd (true≢false (sym (subst IsTrue c.if-not-are_owed_within.true
    (c.are_owed_within.ensures.exact
    (λ p small. subst (λ (r : List Instalment). sum_at (λ (row : Instalment). row.owed) p r
    ≤ most_kept) (sym rows) ((safe-sound loan sound).bounded.owed p))))))

pub book_sums-requires : goal.book_sums-requires
book_sums-requires c =
    let rows : List Instalment = c.args.rows.now in
    room-bounded (length rows) (book_at rows 0 0) (bounded-from (length rows) most_kept (book_at rows 0 0)
    (record { size = refl; whole = c.requires.whole; within = c.requires.apart })
    (λ p small. c.are_owed_within.ensures.within c.if-not-are_owed_within.false p small) (omega arith))

pub returns-clause-balances : goal.returns-clause-balances
returns-clause-balances c loan sound terms principal periods day rows =
    ap (λ (b : Balances). Some b) (c.book_sums.ensures ∙ open-balances loan c.args.terms.now c.args.principal
    c.args.periods c.args.day c.args.rows.now c.in_ok-fee.fee sound terms principal periods day rows c.requires.open
    c.in_ok-fee.ensures.fee)
