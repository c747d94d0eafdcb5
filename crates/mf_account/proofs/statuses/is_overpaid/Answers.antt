use Rattle.std.proofs.Common.{◌<◌, ◌^◌, ◌∙◌, List, ap, subst, sym}
use Rattle.mf_alloc.specs.Sums.{Instalment}
use Rattle.mf_account.specs.declared.entry.Entry.{Entry}
use Rattle.mf_account.specs.Balance.{sum_repaid}
use Rattle.mf_account.proofs.StatusLemmas.{is_refunded, paid_of, overpaid-refunded, overpaid-kept, repaid-room}
use Rattle.mf_account.proofs.StatusLemmas.{paid-room}
use Rattle.mf_account.proofs.statuses.is_overpaid.Goals as goal

pub returns-then-is_refunded-clause-value : goal.returns-then-is_refunded-clause-value
returns-then-is_refunded-clause-value c loan sound entries rows =
    overpaid-refunded loan sound (ap is_refunded (sym entries) ∙ sym c.is_refunded.ensures ∙ c.if-is_refunded.true)

pub returns-in_err-brought-clause-some : goal.returns-in_err-brought-clause-some
returns-in_err-brought-clause-some c loan sound entries rows none =
    c.repaid.ensures.some
    (subst (λ (x : List Entry). sum_repaid x < 2 ^ 64) (sym entries) (repaid-room loan sound)) c.in_err-brought.was

pub returns-in_err-used-clause-some : goal.returns-in_err-used-clause-some
returns-in_err-used-clause-some c loan sound entries rows none =
    c.paid.ensures.some (subst (λ (x : List Instalment). paid_of x < 2 ^ 64) (sym rows) (paid-room loan sound))
    c.in_err-used.was

pub returns-clause-value : goal.returns-clause-value
returns-clause-value c loan sound entries rows =
    overpaid-kept loan c.in_ok-brought.brought c.in_ok-used.used sound
    (ap is_refunded (sym entries) ∙ sym c.is_refunded.ensures ∙ c.if-is_refunded.false)
    (c.in_ok-brought.ensures.total ∙ ap sum_repaid entries)
    (c.in_ok-used.ensures.total ∙ ap paid_of rows)
