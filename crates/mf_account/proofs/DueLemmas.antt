-- No effect changes a due day, so an entry's order is the same over the rows at any place.
use Rattle.std.proofs.Common.{◌≡◌, ℕ, zero, suc, ◌-◌, ◌≤◌, List, [], ◌∷◌, length, get_or, set, arith, refl, ◌∙◌, ap}
use Rattle.std.proofs.Common.{sym}
use Rattle.std.specs.Prelude.{nat_le, count_by}
use Rattle.std.proofs.lemmas.List.{length-map}
use Rattle.std.proofs.lemmas.List.Sums.{count_by-le-length}
use Rattle.mf_alloc.specs.declared.row.Cell.{Cell}
use Rattle.mf_alloc.specs.Sums.{Instalment}
use Rattle.mf_alloc.specs.Rows.{no_row, rows_changed_at, place_in_row}
use Rattle.mf_alloc.specs.Order.{dues_of, due_by, order_at}
use Rattle.mf_account.specs.declared.entry.Entry.{Entry}
use Rattle.mf_account.specs.declared.entry.Kind.{Kind}
use Rattle.mf_account.specs.declared.entry.Kind.TheVariants.{Repay, Fee, Penalty, Waive, WriteOff, Refund}
use Rattle.mf_account.specs.declared.settled.How.{How}
use Rattle.mf_account.specs.declared.settled.How.TheVariants.{Paid, Waived, WrittenOff}
use Rattle.mf_account.specs.Effect.{State, Part, settle, settle_row, owe_row, with_settled, with_charge, after_entry}
use Rattle.mf_account.specs.Effect.{parts_of}
use Rattle.mf_account.specs.AtOnce.{rows_charged}
use Rattle.mf_account.specs.Account.{Orders, orders_by, after_entries}
use Rattle.mf_account.proofs.OnceLemmas.{rows-after}

dues-set : (rows : List Instalment) (i : ℕ) (change : Instalment → Instalment)
    → ((row : Instalment) → (change row).due ≡ row.due)
    → dues_of (set rows i (change (get_or rows i no_row))) ≡ dues_of rows
dues-set [] zero change same = refl
dues-set [] (suc i) change same = refl
dues-set (row ∷ rows) zero change same = ap (λ d. d ∷ dues_of rows) (same row)
dues-set (row ∷ rows) (suc i) change same = ap (λ ds. row.due ∷ ds) (dues-set rows i change same)

dues-changed : (rows : List Instalment) (instalment : ℕ) (change : Instalment → Instalment)
    → ((row : Instalment) → (change row).due ≡ row.due)
    → dues_of (rows_changed_at rows instalment change) ≡ dues_of rows
dues-changed rows instalment change same = dues-set rows (instalment - 1) change same

due-settle_row : (how : How) (p amount : ℕ) (row : Instalment) → (settle_row how p amount row).due ≡ row.due
due-settle_row Paid p amount row = refl
due-settle_row Waived p amount row = refl
due-settle_row WrittenOff p amount row = refl

pub dues-with_settled : (rows : List Instalment) (parts : List Part) → dues_of (with_settled rows parts) ≡ dues_of rows
dues-with_settled rows [] = refl
dues-with_settled rows (part ∷ parts) =
    dues-with_settled (settle rows part) parts
    ∙ dues-changed rows part.cell.instalment (settle_row part.how (place_in_row part.cell.portion) part.amount)
    (due-settle_row part.how (place_in_row part.cell.portion) part.amount)

pub dues-with_charge : (kind : Kind) (entry : Entry) (rows : List Instalment) → dues_of (with_charge kind entry rows)
    ≡ dues_of rows
dues-with_charge Fee entry rows = dues-changed rows entry.instalment (owe_row 1 entry.amount) (λ row. refl)
dues-with_charge Penalty entry rows = dues-changed rows entry.instalment (owe_row 0 entry.amount) (λ row. refl)
dues-with_charge Repay entry rows = refl
dues-with_charge Waive entry rows = refl
dues-with_charge WriteOff entry rows = refl
dues-with_charge Refund entry rows = refl

pub dues-after : (order : ℕ → Cell) (entry : Entry) (now : State) → dues_of (after_entry order entry now).rows
    ≡ dues_of now.rows
dues-after order entry now =
    ap dues_of (rows-after order entry now)
    ∙ dues-with_settled (rows_charged entry now) (parts_of order entry now)
    ∙ dues-with_charge entry.kind entry now.rows

pub dues-after_all : (orders : Orders) (entries : List Entry) (now : State)
    → dues_of (after_entries orders entries now).rows ≡ dues_of now.rows
dues-after_all orders [] now = refl
dues-after_all orders (entry ∷ entries) now = dues-after_all orders entries (after_entry (orders entry) entry now)
    ∙ dues-after (orders entry) entry now

pub length-dues : (rows : List Instalment) → length (dues_of rows) ≡ length rows
length-dues rows = length-map rows (λ (row : Instalment). row.due)

pub size-dues : (a b : List Instalment) → dues_of a ≡ dues_of b → length a ≡ length b
size-dues a b same = sym (length-dues a) ∙ ap length same ∙ length-dues b

-- at most all are due
pub due_by-le : (day : ℕ) (rows : List Instalment) → due_by day rows ≤ length rows
due_by-le day rows =
    let most = count_by-le-length (λ due. nat_le due day) (dues_of rows) in
    let size = length-dues rows in
    omega (arith, most, size)

-- the order of a day, and of each entry, goes by the due days alone
pub order-same : (cells : ℕ → ℕ → ℕ → Cell) (a b : List Instalment) (day : ℕ) → dues_of a ≡ dues_of b
    → order_at cells a day
    ≡ order_at cells b day
order-same cells a b day same =
    ap (λ n. cells n (due_by day a)) (size-dues a b same)
    ∙ ap (λ (ds : List ℕ). cells (length b) (count_by (λ due. nat_le due day) ds)) same

pub orders-same : (cells : ℕ → ℕ → ℕ → Cell) (a b : List Instalment) → dues_of a ≡ dues_of b → orders_by cells a
    ≡ orders_by cells b
orders-same cells a b same =
    let at : ℕ → List ℕ → Orders = λ n ds e. cells n (count_by (λ due. nat_le due e.day) ds) in
    ap (λ n. at n (dues_of a)) (size-dues a b same) ∙ ap (at (length b)) same
