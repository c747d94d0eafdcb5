-- Taking entries back gives the very state before them.
use Rattle.std.proofs.Common.{◌≡◌, ◌≢◌, ℕ, ◌+◌, ◌-◌, ◌≤◌, List, [], ◌∷◌, arith, refl, ◌∙◌, ap, sym}
use Rattle.mf_alloc.specs.declared.row.Cell.{Cell}
use Rattle.mf_alloc.specs.Sums.{Instalment}
use Rattle.mf_alloc.specs.declared.row.Portion.TheVariants as portion
use Rattle.mf_alloc.specs.Rows.{place_in_row}
use Rattle.mf_alloc.proofs.PaymentLemmas.{changed-back, minus_at-plus_at, unpay-pay}
use Rattle.mf_account.specs.declared.entry.Entry.{Entry}
use Rattle.mf_account.specs.declared.entry.Kind.{Kind}
use Rattle.mf_account.specs.declared.entry.Kind.TheVariants.{Repay, Fee, Penalty, Waive, WriteOff, Refund}
use Rattle.mf_account.specs.declared.settled.How.{How}
use Rattle.mf_account.specs.declared.settled.How.TheVariants.{Paid, Waived, WrittenOff}
use Rattle.mf_account.specs.Kinds.{money_in, money_out}
use Rattle.mf_account.specs.Effect.{State, Part, after_entry, parts_of, settle_row, owe_row, settle, with_settled}
use Rattle.mf_account.specs.Effect.{with_charge}
use Rattle.mf_account.specs.AtOnce.{rows_charged}
use Rattle.mf_account.proofs.OnceLemmas.{rows-after, money-after, refunded-after}
use Rattle.mf_account.specs.Undo.{unsettle_row, unowe_row, unsettle, without_settled, without_charge, paid_in}
use Rattle.mf_account.specs.Undo.{before_entry}

unsettle_row-settle_row : (how : How) (p amount : ℕ) (row : Instalment)
    → unsettle_row how p amount (settle_row how p amount row) ≡ row
unsettle_row-settle_row Paid p amount row = unpay-pay p amount row
unsettle_row-settle_row Waived p amount row =
    ap (λ (sums : List ℕ). record row { waived = sums }) (minus_at-plus_at row.waived p amount)
unsettle_row-settle_row WrittenOff p amount row =
    ap (λ (sums : List ℕ). record row { written_off = sums }) (minus_at-plus_at row.written_off p amount)

unowe_row-owe_row : (p amount : ℕ) (row : Instalment) → unowe_row p amount (owe_row p amount row) ≡ row
unowe_row-owe_row p amount row = ap (λ (sums : List ℕ). record row { owed = sums }) (minus_at-plus_at row.owed p amount)

unsettle-settle : (rows : List Instalment) (part : Part) → unsettle (settle rows part) part ≡ rows
unsettle-settle rows part =
    let p : ℕ = place_in_row part.cell.portion in
    changed-back rows part.cell.instalment (settle_row part.how p part.amount) (unsettle_row part.how p part.amount)
    (unsettle_row-settle_row part.how p part.amount)

-- all parts settled and taken back
without_settled-with_settled : (rows : List Instalment) (parts : List Part)
    → without_settled (with_settled rows parts) parts
    ≡ rows
without_settled-with_settled rows [] = refl
without_settled-with_settled rows (part ∷ parts) =
    ap (λ x. unsettle x part) (without_settled-with_settled (settle rows part) parts) ∙ unsettle-settle rows part

without_charge-with_charge : (kind : Kind) (entry : Entry) (rows : List Instalment)
    → without_charge kind entry (with_charge kind entry rows) ≡ rows
without_charge-with_charge Fee entry rows = changed-back rows entry.instalment (owe_row (place_in_row portion.Fee)
    entry.amount) (unowe_row (place_in_row portion.Fee) entry.amount)
    (unowe_row-owe_row (place_in_row portion.Fee) entry.amount)
without_charge-with_charge Penalty entry rows =
    changed-back rows entry.instalment (owe_row (place_in_row portion.Penalty) entry.amount)
    (unowe_row (place_in_row portion.Penalty) entry.amount)
    (unowe_row-owe_row (place_in_row portion.Penalty) entry.amount)
without_charge-with_charge Repay entry rows = refl
without_charge-with_charge Waive entry rows = refl
without_charge-with_charge WriteOff entry rows = refl
without_charge-with_charge Refund entry rows = refl

pub money_out-le : (kind : Kind) (overpaid : ℕ) → money_out kind overpaid ≤ overpaid
money_out-le Repay overpaid = omega arith
money_out-le Fee overpaid = omega arith
money_out-le Penalty overpaid = omega arith
money_out-le Waive overpaid = omega arith
money_out-le WriteOff overpaid = omega arith
money_out-le Refund overpaid = omega arith

-- one entry taken back
pub before_entry-after : (order : ℕ → Cell) (entry : Entry) (before : State) → before.refunded ≡ 0
    → before_entry entry (parts_of order entry before) (after_entry order entry before) ≡ before
before_entry-after order entry before none =
    let then : State = after_entry order entry before in
    let parts : List Part = parts_of order entry before in
    let rows : without_charge entry.kind entry (without_settled then.rows parts) ≡ before.rows =
    ap (λ x. without_charge entry.kind entry (without_settled x parts)) (rows-after order entry before)
    ∙ ap (without_charge entry.kind entry) (without_settled-with_settled (rows_charged entry before) parts)
    ∙ without_charge-with_charge entry.kind entry before.rows in
    let paid = money-after order entry before in
    let less = money_out-le entry.kind before.overpaid in
    let given = refunded-after entry.kind order entry before in
    let overpaid : then.overpaid + paid_in parts + then.refunded - money_in entry.kind entry.amount ≡ before.overpaid =
    omega (arith, paid, less, given, none) in
    let at : List Instalment → ℕ → ℕ → State = λ r o f. record { rows = r; overpaid = o; refunded = f } in
    ap (λ r. at r (then.overpaid + paid_in parts + then.refunded - money_in entry.kind entry.amount) 0) rows
    ∙ ap (λ o. at before.rows o 0) overpaid
    ∙ ap (λ f. at before.rows before.overpaid f) (sym none)

-- nothing is refunded but by a refund
pub no_refund : (kind : Kind) (overpaid : ℕ) → kind ≢ Refund → money_out kind overpaid ≡ 0
no_refund Repay overpaid other = refl
no_refund Fee overpaid other = refl
no_refund Penalty overpaid other = refl
no_refund Waive overpaid other = refl
no_refund WriteOff overpaid other = refl
no_refund Refund overpaid other = absurd (other refl)
