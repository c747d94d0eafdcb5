-- What is overpaid and refunded, from the rows and the entries alone.
use Rattle.std.proofs.Common.{◌≡◌, ℕ, ◌+◌, ◌-◌, ◌^◌, ◌<◌, ◌≤◌, List, [], ◌∷◌, ◌++◌, length, get_or, take, drop, inl}
use Rattle.std.proofs.Common.{inr, arith, refl, ◌∙◌, ap, sym, subst}
use Rattle.std.proofs.lemmas.Bool.{cases_lt}
use Rattle.std.proofs.lemmas.List.{length-map, take-map, take_more, drop_more, drop_all}
use Rattle.std.proofs.lemmas.List.Sums.{sum_by-append, sum_by-take-le}
use Rattle.mf_alloc.specs.Sums.{Instalment}
use Rattle.mf_account.specs.declared.entry.Entry.{Entry}
use Rattle.mf_account.specs.declared.entry.Kind.TheVariants.{Refund}
use Rattle.mf_account.specs.Kinds.{money_in, money_out}
use Rattle.mf_account.specs.Effect.{State, after_entry}
use Rattle.mf_account.specs.Account.{after_entries, first_state, sum_at}
use Rattle.mf_account.specs.Standing.{standing_entries, no_entry, entry_at, entries_at}
use Rattle.mf_account.specs.Loan.{DisbursedLoan, IsSoundDisbursed, schedule_of, orders_of, state_of_loan}
use Rattle.mf_account.specs.Rewind.{state_before}
use Rattle.mf_account.specs.Safe.{most_kept}
use Rattle.mf_account.proofs.GoodLemmas.{amounts, money_in-most}
use Rattle.mf_account.proofs.SoundLemmas.{good-sound, standing-amounts}
use Rattle.mf_account.proofs.OnceLemmas.{money-after}
use Rattle.mf_account.proofs.StandingLemmas.{at_place}
use Rattle.mf_account.proofs.ConserveLemmas.{brought, held-sound, paid-columns}
use Rattle.mf_account.proofs.RewindLemmas.{none-refunded}
use Rattle.mf_account.proofs.TailLemmas.{refund_last-standing, rewindable-from, none-before}

brought-most : (entries : List Entry) → brought entries ≤ amounts entries
brought-most [] = omega arith
brought-most (e ∷ entries) =
    let rest = brought-most entries in
    let one = money_in-most e.kind e.amount in
    let left = sum_by-append (λ (x : Entry). money_in x.kind x.amount) (e ∷ []) entries in
    let right = sum_by-append (λ (x : Entry). x.amount) (e ∷ []) entries in
    omega (arith, rest, one, left, right)

pub brought-room : (loan : DisbursedLoan) → IsSoundDisbursed loan → brought (standing_entries loan.entries) < 2 ^ 63
brought-room loan sound =
    let most = brought-most (standing_entries loan.entries) in
    let all = standing-amounts loan sound in
    omega (arith, most, all)

pub brought-kept : (loan : DisbursedLoan) → IsSoundDisbursed loan → brought (standing_entries loan.entries) ≤ most_kept
brought-kept loan sound =
    let most = brought-most (standing_entries loan.entries) in
    let all = standing-amounts loan sound in
    omega (arith, most, all)

pub brought-step : (entries : List Entry) (order : List ℕ) (k : ℕ) (e : Entry) → k < length order → get_or order k 0
    < length entries → e ≡ get_or entries (get_or order k 0) e → brought (entries_at entries (take k order))
    + money_in e.kind e.amount ≤ brought (entries_at entries order)
brought-step entries order k e within there is =
    let read : ℕ → Entry = λ i. get_or entries i no_entry in
    let all : List Entry = entries_at entries order in
    let size = length-map order read in
    let here : get_or all k no_entry ≡ e = at_place entries order k e within there is in
    let own : money_in (get_or all k no_entry).kind (get_or all k no_entry).amount ≡ money_in e.kind e.amount =
    ap (λ (x : Entry). money_in x.kind x.amount) here in
    let split : brought (take (k + 1) all) ≡ brought (take k all ++ get_or all k no_entry ∷ []) =
    ap brought (take_more all k no_entry (omega (arith, size, within))) in
    let sum = sum_by-append (λ (x : Entry). money_in x.kind x.amount) (take k all) (get_or all k no_entry ∷ []) in
    let most = sum_by-take-le (λ (x : Entry). money_in x.kind x.amount) all (k + 1) in
    let front : brought (take k all) ≡ brought (entries_at entries (take k order)) =
    ap brought (take-map read k order) in
    omega (arith, own, split, sum, most, front)

abbrev pub paid_in_all : List Instalment → ℕ
paid_in_all rows = sum_at (λ (r : Instalment). r.paid) 0 rows + sum_at (λ (r : Instalment). r.paid) 1 rows
    + sum_at (λ (r : Instalment). r.paid) 2 rows + sum_at (λ (r : Instalment). r.paid) 3 rows

pub held : (loan : DisbursedLoan) → IsSoundDisbursed loan
    → paid_in_all (state_of_loan loan).rows + (state_of_loan loan).overpaid
    + (state_of_loan loan).refunded ≡ brought (standing_entries loan.entries)
held loan sound =
    let all = held-sound loan sound in
    let columns = paid-columns (state_of_loan loan).rows (good-sound loan sound).whole in
    omega (arith, all, columns)

abbrev pub EndsInRefund : List Entry → ℕ → Type 0
EndsInRefund entries n = (0 < n) × ((entry_at entries (n - 1)).kind ≡ Refund)

-- after a refund nothing is overpaid
pub none-overpaid : (loan : DisbursedLoan) → IsSoundDisbursed loan → EndsInRefund (standing_entries loan.entries)
    (length (standing_entries loan.entries)) → (state_of_loan loan).overpaid ≡ 0
none-overpaid loan sound ends =
    let all : List Entry = standing_entries loan.entries in
    let k : ℕ = length all - 1 in
    let within : k < length all = omega (arith, ends.0) in
    let e : Entry = entry_at all k in
    let past : State = state_before loan k in
    let only : drop k all ≡ e ∷ [] =
    drop_more all k no_entry within ∙ ap (λ x. e ∷ x) (drop_all (k + 1) all (omega (arith, ends.0))) in
    let state : state_of_loan loan ≡ after_entry (orders_of loan e) e past =
    (rewindable-from loan k sound (none-before loan k sound within)).state ∙ ap
    (λ x. after_entries (orders_of loan) x past)
    only in
    let money = money-after (orders_of loan e) e past in
    let brings : money_in e.kind e.amount ≡ 0 = ap (λ x. money_in x e.amount) ends.1 in
    let gives : money_out e.kind past.overpaid ≡ past.overpaid = ap (λ x. money_out x past.overpaid) ends.1 in
    let left : (state_of_loan loan).overpaid ≡ (after_entry (orders_of loan e) e past).overpaid =
    ap (λ (x : State). x.overpaid) state in
    omega (arith, money, brings, gives, left)

-- with no refund nothing is refunded
pub none-refunded-all : (loan : DisbursedLoan) → IsSoundDisbursed loan → (EndsInRefund (standing_entries loan.entries)
    (length (standing_entries loan.entries)) → ⊥) → (state_of_loan loan).refunded ≡ 0
none-refunded-all loan sound other =
    let all : List Entry = standing_entries loan.entries in
    none-refunded (orders_of loan) all (first_state (schedule_of loan)) refl
    (λ j less is.
    elim (cases_lt (j + 1) (length all)) [
      | inl more ↦ refund_last-standing loan.periods loan.day loan.entries j sound.entries more is
      | inr end ↦
          let last : j ≡ length all - 1 = omega (arith, less, end) in
          other (omega (arith, less), ap (λ n. (entry_at all n).kind) (sym last) ∙ is)
    ])

pub ends-in : (loan : DisbursedLoan) (entries : List Entry) (order : List ℕ) → entries_at entries order
    ≡ standing_entries entries → entries ≡ loan.entries → (P : Type 0 → Type 0)
    → P (EndsInRefund (entries_at entries order) (length order)) → P (EndsInRefund (standing_entries loan.entries)
    (length (standing_entries loan.entries)))
ends-in loan entries order is same P holds =
    let all : entries_at entries order ≡ standing_entries loan.entries = is ∙ ap standing_entries same in
    let size : length order ≡ length (standing_entries loan.entries) =
    sym (length-map order (λ i. get_or entries i no_entry)) ∙ ap length all in
    subst (λ (n : ℕ). P (EndsInRefund (standing_entries loan.entries) n)) size
    (subst (λ (x : List Entry). P (EndsInRefund x (length order))) all holds)

abbrev pub book_at : List Instalment → ℕ → ℕ → State
book_at rows overpaid refunded = record { rows = rows; overpaid = overpaid; refunded = refunded }

pub resumed-refund : (loan : DisbursedLoan) (rows : List Instalment) (total paid : ℕ) → IsSoundDisbursed loan
    → rows ≡ (state_of_loan loan).rows
    → total ≡ brought (standing_entries loan.entries) → paid ≡ paid_in_all (state_of_loan loan).rows
    → EndsInRefund (standing_entries loan.entries) (length (standing_entries loan.entries))
    → book_at rows 0 (total - paid) ≡ state_of_loan loan
resumed-refund loan rows total paid sound same total_is paid_is ends =
    let none = none-overpaid loan sound ends in
    let all = held loan sound in
    let rest : total - paid ≡ (state_of_loan loan).refunded = omega (arith, none, all, total_is, paid_is) in
    ap (λ r. book_at r 0 (total - paid)) same ∙ ap (λ o. book_at (state_of_loan loan).rows o (total - paid)) (sym none)
    ∙ ap (λ f. book_at (state_of_loan loan).rows (state_of_loan loan).overpaid f) rest

pub resumed-other : (loan : DisbursedLoan) (rows : List Instalment) (total paid : ℕ) → IsSoundDisbursed loan
    → rows ≡ (state_of_loan loan).rows
    → total ≡ brought (standing_entries loan.entries) → paid ≡ paid_in_all (state_of_loan loan).rows
    → (EndsInRefund (standing_entries loan.entries) (length (standing_entries loan.entries)) → ⊥)
    → book_at rows (total - paid) 0 ≡ state_of_loan loan
resumed-other loan rows total paid sound same total_is paid_is other =
    let none = none-refunded-all loan sound other in
    let all = held loan sound in
    let rest : total - paid ≡ (state_of_loan loan).overpaid = omega (arith, none, all, total_is, paid_is) in
    ap (λ r. book_at r (total - paid) 0) same ∙ ap (λ o. book_at (state_of_loan loan).rows o 0) rest
    ∙ ap (λ f. book_at (state_of_loan loan).rows (state_of_loan loan).overpaid f) (sym none)
