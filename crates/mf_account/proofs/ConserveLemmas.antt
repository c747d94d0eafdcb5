-- What is conserved: money that was repaid, the principal, and that overpaid and outstanding are never both above 0.
use Rattle.std.proofs.Common.{◌≡◌, ◌≤◌, ◌≢◌, ℕ, zero, suc, ◌+◌, ◌-◌, ◌*◌, ◌^◌, ◌<◌, List, [], ◌∷◌, length, map, get_or}
use Rattle.std.proofs.Common.{set, sum, inl, inr, arith, refl, ◌∙◌, ap, subst, sym}
use Rattle.std.specs.Prelude.{sum_by, All}
use Rattle.std.specs.List.{range_with_len}
use Rattle.std.proofs.lemmas.Bool.{cases_lt, cond_both}
use Rattle.std.proofs.lemmas.List.{get_or-set_other, set_past}
use Rattle.std.proofs.lemmas.List.Elements.{All-nil, All-cons, All-head, All-tail, All-append}
use Rattle.std.proofs.lemmas.List.Sums.{sum_by-append, sum_by-set}
use Rattle.mf_catalog.specs.declared.terms.StrategyName.{StrategyName}
use Rattle.mf_schedule.specs.declared.instalment.FreshInstalment.{FreshInstalment}
use Rattle.mf_schedule.specs.Fresh.{total_principal}
use Rattle.mf_schedule.proofs.LoanLemmas.{scheduled-principal-sum}
use Rattle.mf_alloc.specs.declared.row.Cell.{Cell}
use Rattle.mf_alloc.specs.declared.row.Portion.{Portion}
use Rattle.mf_alloc.specs.declared.row.Portion.TheVariants as portion
use Rattle.mf_alloc.specs.declared.row.Portion.TheVariants.{Interest, Principal}
use Rattle.mf_alloc.specs.Sums.{Instalment, open_at, IsWhole, AreWhole}
use Rattle.mf_alloc.specs.Rows.{outstanding, no_row, row_at, rows_changed_at, place_in_row, IsCell}
use Rattle.mf_alloc.specs.Payment.{shares_of}
use Rattle.mf_alloc.specs.Order.{cell_by, place_by, standard}
use Rattle.mf_alloc.specs.OrderLaws.{in_range-place_by, forth-place_by}
use Rattle.mf_alloc.specs.OrderLaws.{IsOrder}
use Rattle.mf_alloc.proofs.LeftOpen.{IsLine, rows_paid, place_in_row-small, outstanding-none, length-rows_paid}
use Rattle.mf_account.specs.declared.entry.Entry.{Entry}
use Rattle.mf_account.specs.declared.entry.Kind.{Kind}
use Rattle.mf_account.specs.declared.entry.Kind.TheVariants.{Repay, Fee, Penalty, Waive, WriteOff, Refund}
use Rattle.mf_account.specs.declared.settled.How.{How}
use Rattle.mf_account.specs.declared.settled.How.TheVariants.{Paid, Waived, WrittenOff}
use Rattle.mf_account.specs.Kinds.{money_in}
use Rattle.mf_account.specs.Effect.{State, Part, after_entry, settle, settle_row, owe_row, with_settled, with_charge}
use Rattle.mf_account.specs.Effect.{whole_part, is_some_part, some_parts, parts_by, parts_cleared, parts_paid, parts_of}
use Rattle.mf_account.specs.Effect.{own_effect, state_acted, own_share, later_share, paid_at}
use Rattle.mf_account.specs.AtOnce.{paid_part, rows_charged}
use Rattle.mf_account.specs.Account.{Orders, after_entries, first_state, row_of, sum_at}
use Rattle.mf_account.specs.Standing.{standing_entries}
use Rattle.mf_account.specs.Applicable.{IsSettleable}
use Rattle.mf_account.specs.Undo.{paid_by, paid_in}
use Rattle.mf_account.specs.Loan.{DisbursedLoan, HasColumns, IsEntry, IsSoundDisbursed, schedule_of, orders_of}
use Rattle.mf_account.specs.Loan.{cell_places_of}
use Rattle.mf_account.specs.Loan.{state_of_loan}
use Rattle.mf_account.specs.Balance.{balances_of, sum_repaid, HasRoom, balances_by}
use Rattle.mf_account.proofs.EffectLemmas.{with_settled-paid}
use Rattle.mf_account.proofs.OnceLemmas.{rows-after, money-after, refunded-after, length-acted}
use Rattle.mf_account.proofs.UndoLemmas.{money_out-le}
use Rattle.mf_alloc.specs.Sums.{IsRowWithin, AreWithin}
use Rattle.mf_account.specs.Applicable.{HasInstalment}
use Rattle.mf_account.specs.Safe.{most_kept, IsBounded}
use Rattle.mf_account.proofs.GoodLemmas.{IsReplayable, settleable-after, good-after, whole-with_settled}
use Rattle.mf_account.proofs.GoodLemmas.{whole-with_charge}
use Rattle.mf_account.proofs.SoundLemmas.{lawful, lawful-of, due_at, due_at-le, first-good, each-standing, All-standing}
use Rattle.mf_account.proofs.SoundLemmas.{good-sound}

-- in each portion of rows, what is settled and what is outstanding make up what is owed
abbrev pub column : (Instalment → List ℕ) → ℕ → Instalment → ℕ
column of p row = get_or (of row) p 0

pub balanced : (p : ℕ) (rows : List Instalment) → p < 4 → AreWithin rows → sum_at (λ r. r.paid) p rows
    + sum_at (λ r. r.waived) p rows + sum_at (λ r. r.written_off) p rows + sum_by (λ (r : Instalment). open_at r p) rows
    ≡ sum_at (λ r. r.owed) p rows
balanced p [] small within = refl
balanced p (row ∷ rows) small within =
    let here : IsRowWithin row = All-head IsRowWithin row rows within in
    let own = here p small in
    let rest = balanced p rows small (All-tail IsRowWithin row rows within) in
    let paid = sum_by-append (column (λ r. r.paid) p) (row ∷ []) rows in
    let waived = sum_by-append (column (λ r. r.waived) p) (row ∷ []) rows in
    let written_off = sum_by-append (column (λ r. r.written_off) p) (row ∷ []) rows in
    let owed = sum_by-append (column (λ r. r.owed) p) (row ∷ []) rows in
    let left = sum_by-append (λ (r : Instalment). open_at r p) (row ∷ []) rows in
    omega (arith, own, rest, paid, waived, written_off, owed, left)

-- what is paid in all rows
abbrev pub row_paid : Instalment → ℕ
row_paid row = sum row.paid

abbrev pub total_paid : List Instalment → ℕ
total_paid rows = sum_by row_paid rows

pub sum-plus_at : (xs : List ℕ) (p amount : ℕ) → p < length xs → sum (set xs p (get_or xs p 0 + amount)) ≡ sum xs
    + amount
sum-plus_at xs p amount within = let at = sum_by-set (λ (x : ℕ). x) xs p (get_or xs p 0 + amount) 0 within in
    omega (arith, at)

paid-settle_row : (how : How) (p amount : ℕ) (row : Instalment) → p < 4 → IsWhole row
    → row_paid (settle_row how p amount row)
    ≡ row_paid row + paid_by how amount
paid-settle_row Paid p amount row small is = sum-plus_at row.paid p amount (omega (arith, is.paid))
paid-settle_row Waived p amount row small is = omega arith
paid-settle_row WrittenOff p amount row small is = omega arith

pub whole-settled : (rows : List Instalment) (part : Part) → AreWhole rows → AreWhole (settle rows part)
whole-settled rows part whole = whole-with_settled rows (part ∷ []) whole

paid-with_settled : (rows : List Instalment) (parts : List Part) → AreWhole rows → IsSettleable rows parts
    → total_paid (with_settled rows parts) ≡ total_paid rows + paid_in parts
paid-with_settled rows [] whole fits = omega arith
paid-with_settled rows (part ∷ parts) whole fits =
    let i : ℕ = part.cell.instalment - 1 in
    let p : ℕ = place_in_row part.cell.portion in
    let row : Instalment = row_at rows part.cell.instalment in
    let here : i < length rows = omega (arith, fits.0.first, fits.0.last) in
    let one = sum_by-set row_paid rows i (settle_row part.how p part.amount row) no_row here in
    let own = paid-settle_row part.how p part.amount row (place_in_row-small part.cell.portion) (whole i no_row here) in
    let rest = paid-with_settled (settle rows part) parts (whole-settled rows part whole) fits.2 in
    let all = sum_by-append (λ (x : Part). paid_by x.how x.amount) (part ∷ []) parts in
    omega (arith, one, own, rest, all)

-- a change that leaves a sum of each row leaves that of all rows
pub sum-same : (f : Instalment → ℕ) (rows : List Instalment) (instalment : ℕ) (change : Instalment → Instalment)
    → ((row : Instalment) → f (change row) ≡ f row) → sum_by f (rows_changed_at rows instalment change) ≡ sum_by f rows
sum-same f rows instalment change same =
    elim (cases_lt (instalment - 1) (length rows)) [
      | inl within ↦
          let at = sum_by-set f rows (instalment - 1) (change (row_at rows instalment)) no_row within in
          let one = same (row_at rows instalment) in
          omega (arith, at, one)
      | inr past ↦ ap (sum_by f) (set_past rows (instalment - 1) (change (row_at rows instalment)) past)
    ]

paid-with_charge : (kind : Kind) (entry : Entry) (rows : List Instalment) → total_paid (with_charge kind entry rows)
    ≡ total_paid rows
paid-with_charge Fee entry rows = sum-same row_paid rows entry.instalment (owe_row 1 entry.amount) (λ row. refl)
paid-with_charge Penalty entry rows = sum-same row_paid rows entry.instalment (owe_row 0 entry.amount) (λ row. refl)
paid-with_charge Repay entry rows = refl
paid-with_charge Waive entry rows = refl
paid-with_charge WriteOff entry rows = refl
paid-with_charge Refund entry rows = refl

abbrev pub money_held : State → ℕ
money_held s = total_paid s.rows + s.overpaid + s.refunded

abbrev pub brought : List Entry → ℕ
brought entries = sum_by (λ (e : Entry). money_in e.kind e.amount) entries

held-after : (n used : ℕ) (order : ℕ → Cell) (place : Cell → ℕ) (entry : Entry) (before : State) → IsOrder n order place
    → HasInstalment entry.kind entry n → IsBounded n used before → money_held (after_entry order entry before)
    ≡ money_held before + money_in entry.kind entry.amount
held-after n used order place entry before is has good =
    let line : IsLine n order place before.rows = record { size = good.size; is = is; whole = good.whole } in
    let charged : List Instalment = rows_charged entry before in
    let parts : List Part = parts_of order entry before in
    let rows : total_paid (after_entry order entry before).rows ≡ total_paid (with_settled charged parts) =
    ap total_paid (rows-after order entry before) in
    let settled = paid-with_settled charged parts (whole-with_charge entry.kind entry before.rows good.whole)
    (settleable-after n order place entry before line has) in
    let charge = paid-with_charge entry.kind entry before.rows in
    let money = money-after order entry before in
    let given = refunded-after entry.kind order entry before in
    let out = money_out-le entry.kind before.overpaid in
    omega (arith, rows, settled, charge, money, given, out)

held-all : (n used : ℕ) (orders : Orders) (places : Entry → Cell → ℕ) (entries : List Entry) (before : State)
    → ((e : Entry) → IsOrder n (orders e) (places e)) → All (IsReplayable n) entries → IsBounded n used before
    → money_held (after_entries orders entries before) ≡ money_held before + brought entries
held-all n used orders places [] before is each good = omega arith
held-all n used orders places (entry ∷ entries) before is each good =
    let one : IsReplayable n entry = All-head (IsReplayable n) entry entries each in
    let own = held-after n used (orders entry) (places entry) entry before (is entry) one.there good in
    let rest = held-all n (used + entry.amount) orders places entries (after_entry (orders entry) entry before) is
    (All-tail (IsReplayable n) entry entries each) (good-after n used (orders entry) (places entry) entry before
    (is entry) one.there good) in
    let all = sum_by-append (λ (e : Entry). money_in e.kind e.amount) (entry ∷ []) entries in
    omega (arith, own, rest, all)

paid-first : (schedule : List FreshInstalment) → total_paid (map row_of schedule) ≡ 0
paid-first [] = refl
paid-first (i ∷ schedule) = let rest = paid-first schedule in let all =
    sum_by-append row_paid (row_of i ∷ []) (map row_of schedule) in omega (arith, rest, all)

-- what is repaid is paid, overpaid or refunded
pub held-sound : (loan : DisbursedLoan) → IsSoundDisbursed loan → money_held (state_of_loan loan)
    ≡ brought (standing_entries loan.entries)
held-sound loan sound =
    let all = held-all loan.periods (2 ^ 54) (orders_of loan) (cell_places_of loan) (standing_entries loan.entries)
    (first_state (schedule_of loan))
    (lawful-of loan) (each-standing loan sound) (first-good loan sound) in
    let none = paid-first (schedule_of loan) in
    omega (arith, all, none)

-- four sums, added
pub sum-four : (xs : List ℕ) → length xs ≡ 4 → sum xs ≡ get_or xs 0 0 + get_or xs 1 0 + get_or xs 2 0 + get_or xs 3 0
sum-four [] size = absurd (omega (arith, size))
sum-four (a ∷ []) size = absurd (omega (arith, size))
sum-four (a ∷ b ∷ []) size = absurd (omega (arith, size))
sum-four (a ∷ b ∷ c ∷ []) size = absurd (omega (arith, size))
sum-four (a ∷ b ∷ c ∷ d ∷ []) size = omega arith
sum-four (a ∷ b ∷ c ∷ d ∷ e ∷ xs) size = absurd (omega (arith, size))

pub paid-columns : (rows : List Instalment) → AreWhole rows → total_paid rows ≡ sum_at (λ r. r.paid) 0 rows
    + sum_at (λ r. r.paid) 1 rows + sum_at (λ r. r.paid) 2 rows + sum_at (λ r. r.paid) 3 rows
paid-columns [] whole = refl
paid-columns (row ∷ rows) whole =
    let own = sum-four row.paid (All-head IsWhole row rows whole).paid in
    let rest = paid-columns rows (All-tail IsWhole row rows whole) in
    let all = sum_by-append row_paid (row ∷ []) rows in
    let a = sum_by-append (column (λ r. r.paid) 0) (row ∷ []) rows in
    let b = sum_by-append (column (λ r. r.paid) 1) (row ∷ []) rows in
    let c = sum_by-append (column (λ r. r.paid) 2) (row ∷ []) rows in
    let d = sum_by-append (column (λ r. r.paid) 3) (row ∷ []) rows in
    omega (arith, own, rest, all, a, b, c, d)

-- the principal owed is never changed, and none of it is waived
abbrev principal_owed : Instalment → ℕ
principal_owed row = get_or row.owed 3 0

abbrev principal_waived : Instalment → ℕ
principal_waived row = get_or row.waived 3 0

owed-charge : (kind : Kind) (entry : Entry) (rows : List Instalment)
    → sum_by principal_owed (with_charge kind entry rows)
    ≡ sum_by principal_owed rows
owed-charge Fee entry rows = sum-same principal_owed rows entry.instalment (owe_row 1 entry.amount)
    (λ row. get_or-set_other row.owed 1 3 (get_or row.owed 1 0 + entry.amount) 0 (omega arith))
owed-charge Penalty entry rows = sum-same principal_owed rows entry.instalment (owe_row 0 entry.amount)
    (λ row. get_or-set_other row.owed 0 3 (get_or row.owed 0 0 + entry.amount) 0 (omega arith))
owed-charge Repay entry rows = refl
owed-charge Waive entry rows = refl
owed-charge WriteOff entry rows = refl
owed-charge Refund entry rows = refl

waived-charge : (kind : Kind) (entry : Entry) (rows : List Instalment)
    → sum_by principal_waived (with_charge kind entry rows)
    ≡ sum_by principal_waived rows
waived-charge Fee entry rows = sum-same principal_waived rows entry.instalment (owe_row 1 entry.amount) (λ row. refl)
waived-charge Penalty entry rows = sum-same principal_waived rows entry.instalment (owe_row 0 entry.amount)
    (λ row. refl)
waived-charge Repay entry rows = refl
waived-charge Waive entry rows = refl
waived-charge WriteOff entry rows = refl
waived-charge Refund entry rows = refl

owed-settle_row : (how : How) (p amount : ℕ) (row : Instalment) → principal_owed (settle_row how p amount row)
    ≡ principal_owed row
owed-settle_row Paid p amount row = refl
owed-settle_row Waived p amount row = refl
owed-settle_row WrittenOff p amount row = refl

owed-settled : (rows : List Instalment) (parts : List Part) → sum_by principal_owed (with_settled rows parts)
    ≡ sum_by principal_owed rows
owed-settled rows [] = refl
owed-settled rows (part ∷ parts) =
    owed-settled (settle rows part) parts
    ∙ sum-same principal_owed rows part.cell.instalment (settle_row part.how (place_in_row part.cell.portion)
    part.amount) (owed-settle_row part.how (place_in_row part.cell.portion) part.amount)

-- a part that waives no principal
abbrev WaivesNone : Part → Type 0
WaivesNone part = (row : Instalment)
    → principal_waived (settle_row part.how (place_in_row part.cell.portion) part.amount row)
    ≡ principal_waived row

waived-settled : (rows : List Instalment) (parts : List Part) → All WaivesNone parts
    → sum_by principal_waived (with_settled rows parts) ≡ sum_by principal_waived rows
waived-settled rows [] each = refl
waived-settled rows (part ∷ parts) each =
    waived-settled (settle rows part) parts (All-tail WaivesNone part parts each)
    ∙ sum-same principal_waived rows part.cell.instalment (settle_row part.how (place_in_row part.cell.portion)
    part.amount) (All-head WaivesNone part parts each)

each-some : (f : ℕ → Part) (places : List ℕ) → ((k : ℕ) → WaivesNone (f k)) → All WaivesNone (some_parts (map f places))
each-some f [] none = All-nil WaivesNone
each-some f (k ∷ places) none =
    let rest : List Part = some_parts (map f places) in
    cond_both (is_some_part (f k)) (f k ∷ rest) rest (All WaivesNone)
    (λ _. All-cons WaivesNone (f k) rest (none k) (each-some f places none)) (λ _. each-some f places none)

portion-apart : (portion : Portion) → portion ≢ Principal → 3 ≢ place_in_row portion
portion-apart portion.Penalty other = omega arith
portion-apart portion.Fee other = omega arith
portion-apart Interest other = omega arith
portion-apart Principal other = absurd (other refl)

waives-portion : (rows : List Instalment) (cell : Cell) → cell.portion ≢ Principal
    → WaivesNone (whole_part Waived rows cell)
waives-portion rows cell other row =
    let p : ℕ = place_in_row cell.portion in
    get_or-set_other row.waived p 3 (get_or row.waived p 0 + outstanding rows cell) 0 (portion-apart cell.portion other)

each-cleared : (kind : Kind) (n : ℕ) (order : ℕ → Cell) (entry : Entry) (rows : List Instalment)
    → HasColumns kind n entry
    → All WaivesNone (parts_by kind order entry rows)
each-cleared Repay n order entry rows has = All-nil WaivesNone
each-cleared Fee n order entry rows has = All-nil WaivesNone
each-cleared Penalty n order entry rows has = All-nil WaivesNone
each-cleared Refund n order entry rows has = All-nil WaivesNone
each-cleared WriteOff n order entry rows has =
    each-some (λ k. whole_part WrittenOff rows (order k)) (range_with_len 0 (4 * length rows)) (λ k row. refl)
each-cleared Waive n order entry rows has =
    each-some (λ _. whole_part Waived rows (record { instalment = entry.instalment; portion = entry.portion })) (0 ∷ [])
    (λ _. waives-portion rows (record { instalment = entry.instalment; portion = entry.portion }) has.3)

each-settled : (n : ℕ) (order : ℕ → Cell) (entry : Entry) (before : State) → HasColumns entry.kind n entry
    → All WaivesNone (parts_of order entry before)
each-settled n order entry before has =
    All-append WaivesNone (parts_cleared order entry before.rows) (parts_paid order entry before)
    (each-cleared entry.kind n order entry before.rows has)
    (each-some (paid_at order (λ k. own_share entry.kind order entry before k + later_share order entry before k))
    (range_with_len 0 (4 * length before.rows)) (λ k row. refl))

-- the principal owed and waived of a state
pub record HasPrincipal (principal : ℕ) (state : State) : Type 0 where
  pub owed : sum_by principal_owed state.rows ≡ principal
  pub waived : sum_by principal_waived state.rows ≡ 0

principal-after : (principal n : ℕ) (order : ℕ → Cell) (entry : Entry) (before : State) → HasColumns entry.kind n entry
    → HasPrincipal principal before → HasPrincipal principal (after_entry order entry before)
principal-after principal n order entry before has is =
    let rows = rows-after order entry before in
    let charged : List Instalment = rows_charged entry before in
    let parts : List Part = parts_of order entry before in
    record {
      owed = ap (sum_by principal_owed) rows ∙ owed-settled charged parts ∙ owed-charge entry.kind entry before.rows
          ∙ is.owed;
      waived = ap (sum_by principal_waived) rows ∙ waived-settled charged parts (each-settled n order entry before has)
          ∙ waived-charge entry.kind entry before.rows ∙ is.waived;
    }

principal-all : (principal n : ℕ) (orders : Orders) (entries : List Entry) (before : State) → All (IsEntry n 0) entries
    → HasPrincipal principal before → HasPrincipal principal (after_entries orders entries before)
principal-all principal n orders [] before each is = is
principal-all principal n orders (entry ∷ entries) before each is =
    principal-all principal n orders entries (after_entry (orders entry) entry before)
    (All-tail (IsEntry n 0) entry entries each)
    (principal-after principal n (orders entry) entry before (All-head (IsEntry n 0) entry entries each).columns is)

principal-first : (schedule : List FreshInstalment) → HasPrincipal (total_principal schedule) (first_state schedule)
principal-first schedule = record { owed = owed schedule; waived = waived schedule } where
  owed : (s : List FreshInstalment) → sum_by principal_owed (map row_of s) ≡ total_principal s
  owed [] = refl
  owed (i ∷ s) =
      let rest = owed s in
      let left = sum_by-append principal_owed (row_of i ∷ []) (map row_of s) in
      let right = sum_by-append (λ (x : FreshInstalment). x.principal) (i ∷ []) s in
      omega (arith, rest, left, right)

  waived : (s : List FreshInstalment) → sum_by principal_waived (map row_of s) ≡ 0
  waived [] = refl
  waived (i ∷ s) = let rest = waived s in let left =
      sum_by-append principal_waived (row_of i ∷ []) (map row_of s) in omega (arith, rest, left)

-- the principal disbursed is paid, written off or outstanding
pub principal-sound : (loan : DisbursedLoan) → IsSoundDisbursed loan → HasPrincipal loan.principal (state_of_loan loan)
principal-sound loan sound =
    let first : HasPrincipal loan.principal (first_state (schedule_of loan)) =
    subst (λ (x : ℕ). HasPrincipal x (first_state (schedule_of loan))) (scheduled-principal-sum loan.terms
    loan.principal loan.periods loan.day sound.limits) (principal-first (schedule_of loan)) in
    principal-all loan.principal loan.periods (orders_of loan) (standing_entries loan.entries)
    (first_state (schedule_of loan))
    (All-standing (IsEntry loan.periods 0) loan.entries (λ k d within. let own : IsEntry loan.periods loan.day
    (get_or loan.entries k d) =
    sound.entries.each k d within in record { from = omega arith; columns = own.columns }))
    first

-- nothing is outstanding where something is overpaid
abbrev pub IsClosed : State → Type 0
IsClosed s = 0 < s.overpaid → (i p : ℕ) → i < length s.rows → p < 4 → open_at (get_or s.rows i no_row) p ≡ 0

pub whole-acted : (kind : Kind) (order : ℕ → Cell) (entry : Entry) (before : State) → AreWhole before.rows
    → AreWhole (own_effect kind order entry before).rows
whole-acted Repay order entry before whole =
    let shares = shares_of order before.rows entry.amount in
    subst AreWhole (with_settled-paid before.rows shares) (whole-with_settled before.rows (map paid_part shares) whole)
whole-acted Fee order entry before whole = whole-with_charge Fee entry before.rows whole
whole-acted Penalty order entry before whole = whole-with_charge Penalty entry before.rows whole
whole-acted Waive order entry before whole =
    whole-with_settled before.rows (parts_by Waive order entry before.rows) whole
whole-acted WriteOff order entry before whole =
    whole-with_settled before.rows (parts_by WriteOff order entry before.rows) whole
whole-acted Refund order entry before whole = whole

pub portion-at : (p : ℕ) → p < 4 → place_in_row (standard p) ≡ p
portion-at zero small = refl
portion-at (suc zero) small = refl
portion-at (suc (suc zero)) small = refl
portion-at (suc (suc (suc zero))) small = refl
portion-at (suc (suc (suc (suc p)))) small = absurd (omega arith)

closed-after : (n used : ℕ) (name : StrategyName) (due : ℕ) (entry : Entry) (before : State) → due ≤ n
    → IsBounded n used before → IsClosed (after_entry (cell_by name due) entry before)
closed-after n used name due entry before few good some i p within small =
    let order : ℕ → Cell = cell_by name due in
    let place : Cell → ℕ = place_by name due in
    let acted : State = state_acted order entry before in
    let size : length acted.rows ≡ n = length-acted entry.kind order entry before ∙ good.size in
    let line : IsLine n order place acted.rows = record {
      size = size;
      is = lawful name n due few;
      whole = whole-acted entry.kind order entry before good.whole;
    } in
    let cell : Cell = record { instalment = i + 1; portion = standard p } in
    let length_after : length (rows_paid order acted.rows acted.overpaid) ≡ length acted.rows =
    length-rows_paid order acted.rows acted.overpaid in
    let there : IsCell n cell = record { first = omega arith; last = omega (arith, within, length_after, size) } in
    let none = outstanding-none n order place acted.rows acted.overpaid (place cell) line (in_range-place_by name n due
    cell few there) some in
    let at : outstanding (after_entry order entry before).rows cell ≡ 0 =
    ap (outstanding (after_entry order entry before).rows) (sym (forth-place_by name n due cell there)) ∙ none in
    let row : i + 1 - 1 ≡ i = omega arith in
    ap (λ x. open_at (get_or (after_entry order entry before).rows x no_row) p) (sym row)
    ∙ ap (λ x. open_at (get_or (after_entry order entry before).rows (i + 1 - 1) no_row) x) (sym (portion-at p small))
    ∙ at

pub closed-all : (n used : ℕ) (name : StrategyName) (dues : Entry → ℕ) (entries : List Entry) (before : State)
    → ((e : Entry) → dues e ≤ n) → All (IsReplayable n) entries → IsBounded n used before → IsClosed before
    → IsClosed (after_entries (λ e. cell_by name (dues e)) entries before)
closed-all n used name dues [] before few each good closed = closed
closed-all n used name dues (entry ∷ entries) before few each good closed =
    let one : IsReplayable n entry = All-head (IsReplayable n) entry entries each in
    let due : ℕ = dues entry in
    closed-all n (used + entry.amount) name dues entries (after_entry (cell_by name due) entry before) few
    (All-tail (IsReplayable n) entry entries each)
    (good-after n used (cell_by name due) (place_by name due) entry before (lawful name n due (few entry)) one.there
    good) (closed-after n used name due entry before (few entry) good)

pub closed-sound : (loan : DisbursedLoan) → IsSoundDisbursed loan → IsClosed (state_of_loan loan)
closed-sound loan sound =
    closed-all loan.periods (2 ^ 54) loan.terms.strategy (due_at loan) (standing_entries loan.entries)
    (first_state (schedule_of loan)) (due_at-le loan) (each-standing loan sound) (first-good loan sound)
    (λ some. absurd (omega (arith, some)))

-- so what is outstanding adds up to nothing
pub none-open : (p : ℕ) (rows : List Instalment) → ((i : ℕ) → i < length rows → open_at (get_or rows i no_row) p ≡ 0)
    → sum_by (λ (r : Instalment). open_at r p) rows ≡ 0
none-open p [] none = refl
none-open p (row ∷ rows) none =
    let own = none 0 (omega arith) in
    let rest = none-open p rows (λ i within. none (suc i) (omega arith)) in
    let all = sum_by-append (λ (r : Instalment). open_at r p) (row ∷ []) rows in
    omega (arith, own, rest, all)

-- the same, of the balances
pub balances-repaid : (loan : DisbursedLoan) → IsSoundDisbursed loan
    → sum (balances_of loan).paid + (balances_of loan).overpaid
    + (balances_of loan).refunded ≡ sum_repaid loan.entries
balances-repaid loan sound =
    let all = held-sound loan sound in
    let columns = paid-columns (state_of_loan loan).rows (good-sound loan sound).whole in
    let four = sum-four (balances_of loan).paid refl in
    omega (arith, all, columns, four)

balance-at : (loan : DisbursedLoan) → IsSoundDisbursed loan → (p : ℕ) → p < 4
    → sum_at (λ r. r.paid) p (state_of_loan loan).rows
    + sum_at (λ r. r.waived) p (state_of_loan loan).rows + sum_at (λ r. r.written_off) p (state_of_loan loan).rows
    + sum_by (λ (r : Instalment). open_at r p) (state_of_loan loan).rows
    ≡ sum_at (λ r. r.owed) p (state_of_loan loan).rows
balance-at loan sound p small = balanced p (state_of_loan loan).rows small (good-sound loan sound).within

pub balances-principal : (loan : DisbursedLoan) → IsSoundDisbursed loan → get_or (balances_of loan).paid 3 0
    + get_or (balances_of loan).written_off 3 0 + get_or (balances_of loan).outstanding 3 0 ≡ loan.principal
balances-principal loan sound =
    let all = balance-at loan sound 3 (omega arith) in
    let is = principal-sound loan sound in
    omega (arith, all, is.owed, is.waived)

pub balances-apart : (loan : DisbursedLoan) → IsSoundDisbursed loan → 0 < (balances_of loan).overpaid
    → sum (balances_of loan).outstanding
    ≡ 0
balances-apart loan sound some =
    let state : State = state_of_loan loan in
    let none : (p : ℕ) → p < 4 → sum_by (λ (r : Instalment). open_at r p) state.rows ≡ 0 =
    λ p small. none-open p state.rows (λ i within. closed-sound loan sound some i p within small) in
    let a = none 0 (omega arith) in
    let b = none 1 (omega arith) in
    let c = none 2 (omega arith) in
    let d = none 3 (omega arith) in
    let four = sum-four (balances_of loan).outstanding refl in
    omega (arith, a, b, c, d, four)

-- in each portion the sums of any state add up, and they are far below 64 bits where it comes to no more than is kept
pub balances_by-whole : (fee : ℕ) (state : State) → AreWithin state.rows → (p : ℕ) → p < 4
    → get_or (balances_by fee state).paid p 0 + get_or (balances_by fee state).waived p 0
    + get_or (balances_by fee state).written_off p 0 + get_or (balances_by fee state).outstanding p 0
    ≡ get_or (balances_by fee state).owed p 0
balances_by-whole fee state within zero small = balanced 0 state.rows small within
balances_by-whole fee state within (suc zero) small = balanced 1 state.rows (omega arith) within
balances_by-whole fee state within (suc (suc zero)) small = balanced 2 state.rows (omega arith) within
balances_by-whole fee state within (suc (suc (suc zero))) small = balanced 3 state.rows (omega arith) within
balances_by-whole fee state within (suc (suc (suc (suc p)))) small = absurd (omega arith)

pub room-bounded : (n : ℕ) (state : State) → IsBounded n most_kept state → HasRoom state.rows
room-bounded n state is p small =
    let owed = is.owed p in
    let all = balanced p state.rows small is.within in
    record {
      owed = omega (arith, owed);
      paid = omega (arith, owed, all);
      waived = omega (arith, owed, all);
      written_off = omega (arith, owed, all);
      outstanding = omega (arith, owed, all);
    }

-- what is paid in all is at most what is owed
pub paid-bounded : (n : ℕ) (state : State) → IsBounded n most_kept state → sum_at (λ r. r.paid) 0 state.rows + sum_at
    (λ r. r.paid) 1 state.rows + sum_at (λ r. r.paid) 2 state.rows + sum_at (λ r. r.paid) 3 state.rows ≤ 4 * most_kept
paid-bounded n state is =
    let a = balanced 0 state.rows (omega arith) is.within in
    let b = balanced 1 state.rows (omega arith) is.within in
    let c = balanced 2 state.rows (omega arith) is.within in
    let d = balanced 3 state.rows (omega arith) is.within in
    omega (arith, a, b, c, d, is.owed 0, is.owed 1, is.owed 2, is.owed 3)
