-- The rows that the accounts of a sound institution leave, its instalments and its shares, are ones that records can
-- hold.
use Rattle.std.proofs.Common.{◌≡◌, ◌≤◌, ◌<◌, ◌+◌, ◌*◌, ◌^◌, ◌==◌, pos, ℕ, zero, suc, Bool}
use Rattle.std.proofs.Common.{List, [], ◌∷◌, map, filter, length, Option, Some, None, refl, sym, ap, ◌∙◌, subst, arith}
use Rattle.std.specs.List.{AllByRecursion, range_with_len}
use Rattle.std.proofs.lemmas.List.{length-map, length-append, map-append}
use Rattle.std.proofs.lemmas.List.FromFn.{length-map-range_with_len}
use Rattle.std.proofs.lemmas.List.Sums.{length-filter, count_by-le-length}
use Rattle.std.proofs.lemmas.List.Elements.{recursion_from_All}
use Rattle.std.proofs.lemmas.Nat.{mul-le}
use Rattle.sqlite_keyed.proofs.ListLemmas.{all-append, all-filter, all_map, all_unmap, all_weaker}
use Rattle.mf_base.specs.Calendar.{date_of, months_on, day_after}
use Rattle.mf_base.specs.DayText.{day_text, last_day, last_entered_day}
use Rattle.mf_base.specs.declared.day.Freq.{Freq}
use Rattle.mf_base.specs.declared.day.Freq.TheVariants.{Weeks, Months}
use Rattle.mf_base.proofs.CalendarLemmas.{IsDate-date_of}
use Rattle.mf_base.proofs.DayTextLemmas.{entered_year-date_of, last_year}
use Rattle.mf_base.proofs.DueDayLemmas.{IsDate-months_on}
use Rattle.mf_catalog.specs.Limits.{longest_step}
use Rattle.mf_catalog.specs.declared.terms.Terms.{Terms}
use Rattle.mf_schedule.specs.Fresh.{instalment_of}
use Rattle.mf_alloc.specs.declared.row.Cell.{Cell}
use Rattle.mf_alloc.specs.Order.{dues_of}
use Rattle.mf_alloc.specs.Sums.{Instalment}
use Rattle.mf_account.specs.Account.{Orders, first_state, row_of, parts_numbered, settled_by}
use Rattle.mf_account.specs.Applicable.{HasInstalment}
use Rattle.mf_account.specs.Change.{settled_in}
use Rattle.mf_account.specs.Effect.{Part, State, after_entry, is_some_part, whole_part, parts_by, parts_cleared}
use Rattle.mf_account.specs.Effect.{parts_of, parts_paid, paid_at, own_share, later_share}
use Rattle.mf_account.specs.Loan.{DisbursedLoan, IsSoundDisbursed, schedule_of, orders_of, state_of_loan}
use Rattle.mf_account.specs.Loan.{settled_of_loan}
use Rattle.mf_account.specs.Standing.{standing_entries}
use Rattle.mf_account.specs.declared.entry.Entry.{Entry}
use Rattle.mf_account.specs.declared.entry.Kind.{Kind}
use Rattle.mf_account.specs.declared.entry.Kind.TheVariants as kind
use Rattle.mf_account.specs.declared.settled.How.{How}
use Rattle.mf_account.specs.declared.settled.How.TheVariants.{Paid, Waived, WrittenOff}
use Rattle.mf_account.specs.declared.settled.SettledPart.{SettledPart}
use Rattle.mf_account.proofs.DueLemmas.{dues-after, dues-after_all, size-dues}
use Rattle.mf_account.proofs.GoodLemmas.{IsReplayable}
use Rattle.mf_account.proofs.SoundLemmas.{each-standing, good-sound, lawful-of, length-schedule, length-standing-le}
use Rattle.mf_office.specs.declared.caller.Caller.{Caller}
use Rattle.mf_model.specs.Accounts.{account_in, of_account}
use Rattle.mf_model.specs.Institution.{Institution, Catalogue, Ledger}
use Rattle.mf_model.specs.Sound.{IsSound, IsSoundCatalogue, IsSoundLoan, is_staff}
use Rattle.mf_model.proofs.AccountLemmas.{account_sound}
use Rattle.mf_store_schema.specs.Tables as table
use Rattle.mf_store_schema.specs.Fields.{HasFields}
use Rattle.mf_store_schema.specs.Rows.{instalment_row, share_row}
use Rattle.mf_store_schema.specs.declared.instalments.InstalmentRow.{InstalmentRow}
use Rattle.mf_store_schema.specs.declared.shares.ShareRow.{ShareRow}
use Rattle.mf_store_values.specs.Flat.{tables_of, instalment_in, share_in, how_number, portion_number}
use Rattle.mf_store_values.specs.Flat.{instalments_kept, shares_kept, placed_parts, parts_from, kept_of}
use Rattle.mf_store_sound.specs.Held.{CanHoldRows}
use Rattle.mf_store_sound.proofs.NestedLemmas.{◌also◌}
use Rattle.mf_store_sound.proofs.HeldLemmas.{is_number, is_amount, is_text, day_utf8, portion_low, numbered_held}
use Rattle.mf_store_sound.proofs.HeldLemmas.{by_loan_held}

-- ---- instalments

-- no loan is due later
due_by_then : (day : ℕ) (freq : Freq) (count : ℕ) → day ≤ last_entered_day → count ≤ 20_000 → day_after day freq count
    ≤ last_day
due_by_then day Weeks count early few = omega (arith, early, few)
due_by_then day Months count early few =
    let date = date_of day in
    let is = IsDate-date_of day in
    let year = entered_year-date_of day early in
    let month = is.last_month in
    (last_year (months_on date count) (IsDate-months_on date count is)).0 (omega (arith, year, month, few))

dues_first : (terms : Terms) (principal n day : ℕ) → day ≤ last_entered_day → terms.every ≤ 52 → (a m : ℕ) → a + m ≤ 361
    → AllByRecursion (λ (due : ℕ). due ≤ last_day)
    (dues_of (map row_of (map (instalment_of terms principal n day) (range_with_len a m))))
dues_first terms principal n day early every a zero most = tt
dues_first terms principal n day early every a (suc m) most = (
  due_by_then day terms.freq (terms.every * a) early (let steps = mul-le terms.every a 52 360 every
      (omega (arith, most)) in omega (arith, steps)),
  dues_first terms principal n day early every (a + 1) m (omega (arith, most)),
)

steps_low : (terms : Terms) → terms.every ≤ longest_step terms.freq → terms.every ≤ 52
steps_low terms most = go terms.freq most
  where
    go : (f : Freq) → terms.every ≤ longest_step f → terms.every ≤ 52
    go Weeks h = h
    go Months h = omega (arith, h)

account_dues : (a : DisbursedLoan) → IsSoundDisbursed a → AllByRecursion (λ (due : ℕ). due ≤ last_day)
    (dues_of (state_of_loan a).rows)
account_dues a sound =
    let first = first_state (schedule_of a) in
    let same : dues_of (state_of_loan a).rows ≡ dues_of first.rows =
    dues-after_all (orders_of a) (standing_entries a.entries) first in
    let periods = sound.limits.most_periods in
    subst (AllByRecursion (λ (due : ℕ). due ≤ last_day)) (sym same)
    (dues_first a.terms a.principal a.periods a.day sound.day (steps_low a.terms sound.limits.terms_limits.longest) 1
    a.periods (omega (arith, periods)))

account_size : (a : DisbursedLoan) → IsSoundDisbursed a → length (state_of_loan a).rows ≤ 360
account_size a sound = let size = (good-sound a sound).size in let periods =
    sound.limits.most_periods in omega (arith, size, periods)

abbrev HeldInstalment : InstalmentRow → Type 0
HeldInstalment x = HasFields (table.instalments).columns (instalment_row x)

instalment_held : (x m n : ℕ) (row : Instalment) → x ≤ 9999 → m ≤ 999999 → n ≤ 360 → row.due ≤ last_day
    → HeldInstalment (instalment_in x m (n, row))
instalment_held x m n row low_x low_m low_n due =
    record {
      width = refl;
      values = is_number x (omega (arith, low_x)) also is_number m (omega (arith, low_m))
          also is_number n (omega (arith, low_n)) also is_text (day_text row.due) (day_utf8 row.due due)
          also is_amount _ also is_amount _ also is_amount _ also is_amount _ also is_amount _ also is_amount _
          also is_amount _ also is_amount _ also is_amount _ also is_amount _ also is_amount _ also is_amount _
          also is_amount _ also is_amount _ also is_amount _ also is_amount _ also tt;
    }

-- what the account of a sound loan leaves, where that of each sound account is held
kept_held : {A R : Type 0} (make : ℕ → ℕ → A → R) (read : DisbursedLoan → List A) (H : R → Type 0)
    → ((x m : ℕ) (a : DisbursedLoan)
    → x ≤ 9999 → m ≤ 999999 → IsSoundDisbursed a → AllByRecursion H (map (make x m) (read a))) → (k : Catalogue)
    → IsSoundCatalogue k → (staffed : Caller → Bool) (x m : ℕ) (clients : List (List ℕ)) (l : Ledger) → x ≤ 9999
    → m ≤ 999999 → IsSoundLoan k staffed clients l → AllByRecursion H (map (make x m) (kept_of read k l))
kept_held make read H held k sound staffed x m clients l low_x low_m is = go (account_in k l) refl
  where
    go : (o : Option DisbursedLoan) → account_in k l ≡ o → AllByRecursion H (map (make x m) (of_account [] read o))
    go None e = tt
    go (Some a) e = held x m a low_x low_m (account_sound k staffed clients l a sound is e)

account_instalments : (x m : ℕ) (a : DisbursedLoan) → x ≤ 9999 → m ≤ 999999 → IsSoundDisbursed a
    → AllByRecursion HeldInstalment (map (instalment_in x m) (instalments_kept a))
account_instalments x m a low_x low_m sound =
    let rows = (state_of_loan a).rows in
    all_map HeldInstalment (instalment_in x m) (instalments_kept a)
    (numbered_held (λ (row : Instalment). row.due ≤ last_day) (λ p. HeldInstalment (instalment_in x m p)) 360
    (λ n row. (n, row)) (λ n row low due. instalment_held x m n row low_x low_m low due) 1 rows
    (let size = account_size a sound in omega (arith, size)) (all_unmap (λ (due : ℕ). due ≤ last_day)
    (λ (row : Instalment). row.due) rows (account_dues a sound)))

pub held_instalments : (i : Institution) → IsSound i → CanHoldRows (table.instalments).columns instalment_row
    (tables_of i).instalments
held_instalments i sound =
    let k = i.catalogue in
    let staffed = is_staff i.offices in
    all_map (HasFields (table.instalments).columns) instalment_row (tables_of i).instalments (by_loan_held instalment_in
    (kept_of instalments_kept k) HeldInstalment k staffed (kept_held instalment_in instalments_kept HeldInstalment
    account_instalments k
    sound.catalogue staffed) i.offices sound.each)

-- ---- shares

abbrev HeldShare : ShareRow → Type 0
HeldShare x = HasFields (table.shares).columns (share_row x)

how_low : (h : How) → how_number h < 2 ^ 32
how_low Paid = omega arith
how_low Waived = omega arith
how_low WrittenOff = omega arith

share_held : (x m seq place : ℕ) (s : SettledPart) → x ≤ 9999 → m ≤ 999999 → seq ≤ 9999 → place < 2 ^ 32
    → s.cell.instalment
    < 2 ^ 32 → HeldShare (share_in x m (seq, (place, s)))
share_held x m seq place s low_x low_m low_seq low_place low =
    record {
      width = refl;
      values = is_number x (omega (arith, low_x)) also is_number m (omega (arith, low_m))
          also is_number seq (omega (arith, low_seq)) also is_number place low_place
          also is_number s.cell.instalment low
          also is_number (portion_number s.cell.portion) (portion_low s.cell.portion)
          also is_number (how_number s.how) (how_low s.how) also is_amount (pos s.amount) also tt;
    }

-- a part of a cell of one of n instalments
abbrev IsPartOf : ℕ → Part → Type 0
IsPartOf n p = p.cell.instalment ≤ n

abbrev IsSettledOf : ℕ → SettledPart → Type 0
IsSettledOf n s = s.cell.instalment ≤ n

pub few_filtered : {A : Type 0} (p : A → Bool) (xs : List A) → length (filter p xs) ≤ length xs
few_filtered p xs = let is = length-filter p xs in let most = count_by-le-length p xs in omega (arith, is, most)

range_parts : (n : ℕ) (f : ℕ → Part) (a m : ℕ) → ((k : ℕ) → k < a + m → IsPartOf n (f k)) → AllByRecursion (IsPartOf n)
    (map f (range_with_len a m))
range_parts n f a zero h = tt
range_parts n f a (suc m) h = (h a (omega arith), range_parts n f (a + 1) m (λ k low. h k (omega (arith, low))))

module _ (n : ℕ) (order : ℕ → Cell) (cells : (k : ℕ) → k < 4 * n → (order k).instalment ≤ n) where
  cleared_of : (k : Kind) (e : Entry) (rows : List Instalment) → length rows ≡ n → HasInstalment k e n
      → AllByRecursion (IsPartOf n) (parts_by k order e rows)
  cleared_of kind.Repay e rows size there = tt
  cleared_of kind.Fee e rows size there = tt
  cleared_of kind.Penalty e rows size there = tt
  cleared_of kind.Waive e rows size there = all-filter (IsPartOf n) is_some_part
      (whole_part Waived rows (record { instalment = e.instalment; portion = e.portion }) ∷ []) (there.1, tt)
  cleared_of kind.WriteOff e rows size there =
      all-filter (IsPartOf n) is_some_part (map (λ k. whole_part WrittenOff rows (order k))
      (range_with_len 0 (4 * length rows))) (range_parts n (λ k. whole_part WrittenOff rows (order k)) 0
      (4 * length rows) (λ k low. cells k (omega (arith, low, size))))
  cleared_of kind.Refund e rows size there = tt

  cleared_few : (k : Kind) (e : Entry) (rows : List Instalment) → length rows ≡ n → length (parts_by k order e rows)
      ≤ 4 * n
      + 1
  cleared_few kind.Repay e rows size = omega arith
  cleared_few kind.Fee e rows size = omega arith
  cleared_few kind.Penalty e rows size = omega arith
  cleared_few kind.Waive e rows size = let few = few_filtered is_some_part
      (whole_part Waived rows (record { instalment = e.instalment; portion = e.portion }) ∷ []) in omega (arith, few)
  cleared_few kind.WriteOff e rows size =
      let few = few_filtered is_some_part (map (λ k. whole_part WrittenOff rows (order k))
      (range_with_len 0 (4 * length rows))) in
      let all = length-map-range_with_len (λ k. whole_part WrittenOff rows (order k)) 0 (4 * length rows) in
      omega (arith, few, all, size)
  cleared_few kind.Refund e rows size = omega arith

  module _ (e : Entry) (before : State) (size : length before.rows ≡ n) where
    abbrev amount_paid : ℕ → ℕ
    amount_paid k = own_share e.kind order e before k + later_share order e before k

    abbrev paid_all : List Part
    paid_all = map (paid_at order amount_paid) (range_with_len 0 (4 * length before.rows))

    parts_low : HasInstalment e.kind e n → AllByRecursion (IsPartOf n) (parts_of order e before)
    parts_low there =
        all-append (IsPartOf n) (parts_cleared order e before.rows) (parts_paid order e before)
        (cleared_of e.kind e before.rows size there)
        (all-filter (IsPartOf n) is_some_part paid_all (range_parts n (paid_at order amount_paid) 0
        (4 * length before.rows) (λ k low. cells k (omega (arith, low, size)))))

    parts_few : length (parts_of order e before) ≤ 8 * n + 1
    parts_few =
        let both = length-append (parts_cleared order e before.rows) (parts_paid order e before) in
        let cleared = cleared_few e.kind e before.rows size in
        let paid = few_filtered is_some_part paid_all in
        let all = length-map-range_with_len (paid_at order amount_paid) 0 (4 * length before.rows) in
        omega (arith, both, cleared, paid, all, size)

numbered_low : (n seq place : ℕ) (parts : List Part) → AllByRecursion (IsPartOf n) parts
    → AllByRecursion (IsSettledOf n) (parts_numbered seq place parts)
numbered_low n seq place [] all = tt
numbered_low n seq place (p ∷ parts) all = (all.0, numbered_low n seq (place + 1) parts all.1)

numbered_size : (seq place : ℕ) (parts : List Part) → length (parts_numbered seq place parts) ≡ length parts
numbered_size seq place [] = refl
numbered_size seq place (p ∷ parts) = ap suc (numbered_size seq (place + 1) parts)

module _ (n : ℕ) (short : n ≤ 360) (orders : Orders) (cells : (e : Entry) (k : ℕ) → k < 4 * n → (orders e k).instalment
    ≤ n) where
  settled_low : (es : List Entry) (before : State) → length before.rows ≡ n → AllByRecursion (IsReplayable n) es
      → AllByRecursion (IsSettledOf n) (settled_by orders es before)
      × (length (settled_by orders es before) ≤ 2881 * length es)
  settled_low [] before size each = (tt, omega arith)
  settled_low (e ∷ es) before size each =
      let next = after_entry (orders e) e before in
      let still : length next.rows ≡ n = size-dues next.rows before.rows (dues-after (orders e) e before) ∙ size in
      let more = settled_low es next still each.1 in
      let own = parts_numbered e.seq 1 (parts_of (orders e) e before) in
      let both = length-append own (settled_by orders es next) in
      let count = numbered_size e.seq 1 (parts_of (orders e) e before) in
      let few = parts_few n (orders e) (cells e) e before size in
      let rest = more.1 in (
        all-append (IsSettledOf n) own (settled_by orders es next)
            (numbered_low n e.seq 1 (parts_of (orders e) e before)
            (parts_low n (orders e) (cells e) e before size each.0.there)) more.0,
        omega (
          arith,
          both,
          count,
          few,
          rest,
          short,
        ),
      )

account_settled : (a : DisbursedLoan) → IsSoundDisbursed a → AllByRecursion (IsSettledOf 360) (settled_of_loan a)
    × (length (settled_of_loan a) < 2 ^ 31)
account_settled a sound =
    let periods = sound.limits.most_periods in
    let size = length-map (schedule_of a) row_of ∙ length-schedule a in
    let it = settled_low a.periods periods (orders_of a) (λ e k low. (let c = (lawful-of a e).is_cell k low in c.last))
    (standing_entries a.entries) (first_state (schedule_of a)) size
    (recursion_from_All (IsReplayable a.periods) (standing_entries a.entries) (each-standing a sound)) in
    let few = it.1 in
    let standing_few = length-standing-le a.entries in
    let all_few = sound.entries.few in (
      all_weaker (IsSettledOf a.periods) (IsSettledOf 360) (λ s low. omega (arith, low, periods)) (settled_of_loan a)
          it.0,
      omega (arith, few, standing_few, all_few),
    )

placed_held : (x m seq : ℕ) (parts : List SettledPart) → x ≤ 9999 → m ≤ 999999 → seq ≤ 9999 → length parts < 2 ^ 31
    → AllByRecursion (IsSettledOf 360) parts → AllByRecursion HeldShare (map (share_in x m) (placed_parts seq parts))
placed_held x m seq parts low_x low_m low_seq few all =
    all_map HeldShare (share_in x m) (placed_parts seq parts)
    (numbered_held (IsSettledOf 360) (λ p. HeldShare (share_in x m p)) 2_147_483_648 (λ at part. (seq, (at, part)))
    (λ place s low is. share_held x m seq place s low_x low_m low_seq (omega (arith, low)) (omega (arith, is))) 1 parts
    (omega (arith, few)) all)

shares_held : (x m : ℕ) (settled : List SettledPart) (seq count : ℕ) → x ≤ 9999 → m ≤ 999999 → seq + count ≤ 10000
    → length settled < 2 ^ 31 → AllByRecursion (IsSettledOf 360) settled
    → AllByRecursion HeldShare (map (share_in x m) (parts_from (λ s. settled_in s settled) seq count))
shares_held x m settled seq zero low_x low_m most few all = tt
shares_held x m settled seq (suc count) low_x low_m most few all =
    let own = settled_in seq settled in
    let fewer = few_filtered (λ (s : SettledPart). s.seq == seq) settled in
    subst (AllByRecursion HeldShare) (sym (map-append (share_in x m) (placed_parts seq own)
    (parts_from (λ s. settled_in s settled) (seq + 1) count)))
    (all-append HeldShare (map (share_in x m) (placed_parts seq own))
    (map (share_in x m) (parts_from (λ s. settled_in s settled) (seq + 1) count))
    (placed_held x m seq own low_x low_m (omega (arith, most)) (omega (arith, fewer, few))
    (all-filter (IsSettledOf 360) (λ (s : SettledPart). s.seq == seq) settled all))
    (shares_held x m settled (seq + 1) count low_x low_m (omega (arith, most)) few all))

account_shares : (x m : ℕ) (a : DisbursedLoan) → x ≤ 9999 → m ≤ 999999 → IsSoundDisbursed a
    → AllByRecursion HeldShare (map (share_in x m) (shares_kept a))
account_shares x m a low_x low_m sound =
    let its = account_settled a sound in
    let few = sound.entries.few in
    shares_held x m (settled_of_loan a) 1 (length a.entries) low_x low_m (omega (arith, few)) its.1 its.0

pub held_shares : (i : Institution) → IsSound i → CanHoldRows (table.shares).columns share_row (tables_of i).shares
held_shares i sound =
    let k = i.catalogue in
    let staffed = is_staff i.offices in
    all_map (HasFields (table.shares).columns) share_row (tables_of i).shares (by_loan_held share_in
    (kept_of shares_kept k) HeldShare k staffed (kept_held share_in shares_kept HeldShare account_shares k
    sound.catalogue staffed) i.offices sound.each)
