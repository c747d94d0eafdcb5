-- One step back along the entries.
use Rattle.std.proofs.Common.{◌≡◌, ◌≢◌, ℕ, suc, ◌+◌, ◌-◌, ◌^◌, ◌<◌, ◌≤◌, List, [], ◌∷◌, ◌++◌, length, get_or, map, take}
use Rattle.std.proofs.Common.{drop, arith, refl, ◌∙◌, ap, sym, subst, append_assoc, length-append, inl, inr}
use Rattle.std.specs.Prelude.{All}
use Rattle.std.proofs.lemmas.Bool.{cases_order}
use Rattle.std.proofs.lemmas.List.{take_more, get_or_default, append-nil, get_or-append-add, take-take, drop-take}
use Rattle.std.proofs.lemmas.List.{length-take-le, get_or-take}
use Rattle.std.proofs.Math.ListN.{get_or-append}
use Rattle.std.proofs.Math.Seq.{take-append_seam, drop-append_seam}
use Rattle.std.proofs.lemmas.List.Elements.{All-append, All-nil, All-cons, All-weaker, All-take, All-drop}
use Rattle.std.proofs.lemmas.List.Sums.{sum_by-append, sum_by-take-le}
use Rattle.mf_alloc.specs.declared.row.Cell.{Cell}
use Rattle.mf_alloc.specs.Rows.{IsCell}
use Rattle.mf_alloc.specs.OrderLaws.{IsOrder}
use Rattle.mf_account.specs.declared.entry.Entry.{Entry}
use Rattle.mf_account.specs.declared.entry.Kind.{Kind}
use Rattle.mf_account.specs.declared.entry.Kind.TheVariants.{Repay, Fee, Penalty, Waive, WriteOff, Refund}
use Rattle.mf_account.specs.declared.settled.SettledPart.{SettledPart}
use Rattle.mf_account.specs.Effect.{State, Part, after_entry, parts_of}
use Rattle.mf_account.specs.Kinds.{money_out}
use Rattle.mf_account.specs.AtOnce.{money_to_pay}
use Rattle.mf_account.specs.Account.{Orders, after_entries, settled_by, parts_numbered, part_of}
use Rattle.mf_account.specs.Undo.{unowe_row, before_entry, paid_in, without_charge, without_settled}
use Rattle.mf_account.specs.Standing.{no_entry, entry_at}
use Rattle.mf_account.specs.Applicable.{no_settled, HasCharge, AreInRows}
use Rattle.mf_account.specs.Rewind.{IsRewindable, IsBack}
use Rattle.mf_alloc.specs.Sums.{Instalment, IsRowWithin, AreWithin}
use Rattle.mf_alloc.specs.Rows.{rows_changed_at, no_row}
use Rattle.std.proofs.lemmas.List.{length-set, get_or-set_same}
use Rattle.mf_account.specs.Applicable.{HasInstalment}
use Rattle.mf_account.proofs.EffectLemmas.{part_of-numbered}
use Rattle.mf_account.specs.AtOnce.{rows_charged}
use Rattle.mf_account.specs.Effect.{settle}
use Rattle.mf_account.specs.Applicable.{IsSettleable}
use Rattle.mf_alloc.proofs.LeftOpen.{IsLine}
use Rattle.mf_account.proofs.EffectLemmas.{length-with_settled, length-with_charge}
use Rattle.mf_account.specs.Safe.{IsShaped}
use Rattle.mf_account.proofs.GoodLemmas.{still-after, settleable-after, amounts, money_in-most}
use Rattle.mf_account.proofs.UndoLemmas.{before_entry-after, no_refund, money_out-le}
use Rattle.mf_account.proofs.OnceLemmas.{money-after, refunded-after}
use Rattle.mf_account.proofs.ReplayLemmas.{length-after}

after_all-snoc : (orders : Orders) (entries : List Entry) (entry : Entry) (from : State)
    → after_entries orders (entries ++ entry ∷ []) from
    ≡ after_entry (orders entry) entry (after_entries orders entries from)
after_all-snoc orders [] entry from = refl
after_all-snoc orders (first ∷ entries) entry from =
    after_all-snoc orders entries entry (after_entry (orders first) first from)

settled_by-snoc : (orders : Orders) (entries : List Entry) (entry : Entry) (from : State)
    → settled_by orders (entries ++ entry ∷ []) from ≡ settled_by orders entries from ++ parts_numbered entry.seq 1
    (parts_of (orders entry) entry (after_entries orders entries from))
settled_by-snoc orders [] entry from = append-nil _
settled_by-snoc orders (first ∷ entries) entry from =
    let own : List SettledPart = parts_numbered first.seq 1 (parts_of (orders first) first from) in
    ap (λ x. own ++ x) (settled_by-snoc orders entries entry (after_entry (orders first) first from))
    ∙ sym (append_assoc own (settled_by orders entries (after_entry (orders first) first from))
    (parts_numbered entry.seq 1
    (parts_of (orders entry) entry (after_entries orders entries (after_entry (orders first) first from)))))

-- parts carry their entry's number
numbers-numbered : (seq place : ℕ) (parts : List Part) → All (λ (s : SettledPart). s.seq ≡ seq)
    (parts_numbered seq place parts)
numbers-numbered seq place [] = All-nil (λ (s : SettledPart). s.seq ≡ seq)
numbers-numbered seq place (part ∷ parts) =
    All-cons (λ (s : SettledPart). s.seq ≡ seq) (record {
      seq = seq;
      place = place;
      cell = part.cell;
      how = part.how;
      amount = part.amount;
    }) (parts_numbered seq (place + 1) parts) refl (numbers-numbered seq (place + 1) parts)

-- and none another's
pub numbers-apart : (orders : Orders) (q : ℕ) (entries : List Entry) (from : State) → ((j : ℕ) → j < length entries
    → (entry_at entries j).seq ≢ q) → All (λ (s : SettledPart). s.seq ≢ q) (settled_by orders entries from)
numbers-apart orders q [] from apart = All-nil (λ (s : SettledPart). s.seq ≢ q)
numbers-apart orders q (entry ∷ entries) from apart =
    let own : List SettledPart = parts_numbered entry.seq 1 (parts_of (orders entry) entry from) in
    let others : List SettledPart = settled_by orders entries (after_entry (orders entry) entry from) in
    All-append (λ (s : SettledPart). s.seq ≢ q) own others
    (All-weaker (λ (s : SettledPart). s.seq ≡ entry.seq) (λ (s : SettledPart). s.seq ≢ q)
    (λ s e f. apart 0 (omega arith)
    (sym e ∙ f)) own (numbers-numbered entry.seq 1 (parts_of (orders entry) entry from)))
    (numbers-apart orders q entries (after_entry (orders entry) entry from) (λ j below. apart (suc j) (omega arith)))

-- nothing is refunded before the last
pub none-refunded : (orders : Orders) (entries : List Entry) (from : State) → from.refunded ≡ 0
    → ((j : ℕ) → j < length entries → (entry_at entries j).kind ≢ Refund) → (after_entries orders entries from).refunded
    ≡ 0
none-refunded orders [] from none other = none
none-refunded orders (entry ∷ entries) from none other =
    let out = no_refund entry.kind from.overpaid (other 0 (omega arith)) in
    let given = refunded-after entry.kind (orders entry) entry from in
    none-refunded orders entries (after_entry (orders entry) entry from) (omega (arith, none, out, given))
    (λ j below. other (suc j) (omega arith))

-- a run of one number at the end of a list begins where the rest ends
run-begins : (q start : ℕ) (xs ys : List SettledPart) → All (λ (s : SettledPart). s.seq ≢ q) xs
    → All (λ (s : SettledPart). s.seq ≡ q) ys → start ≤ length (xs ++ ys) → ((j : ℕ) → start ≤ j → j < length (xs ++ ys)
    → (get_or (xs ++ ys) j no_settled).seq ≡ q) → (0 < start → (get_or (xs ++ ys) (start - 1) no_settled).seq ≢ q)
    → start ≡ length xs
run-begins q start xs ys apart own within run first =
    let size = length-append xs ys in
    elim (cases_order start (length xs)) [
      | inl same ↦ same
      | inr other ↦ elim other [
        | inl less ↦
            let read = get_or-append xs ys no_settled start less in
            let seen = run start (omega arith) (omega (arith, size)) in
            absurd (apart start no_settled less (sym (ap (λ (s : SettledPart). s.seq) read) ∙ seen))
        | inr more ↦
            let j : ℕ = start - 1 - length xs in
            let at : length xs + j ≡ start - 1 = omega arith in
            let below : j < length ys = omega (arith, size) in
            let read = get_or-append-add xs ys j no_settled in
            let seen : (get_or (xs ++ ys) (start - 1) no_settled).seq
            ≡ q = ap (λ n. (get_or (xs ++ ys) n no_settled).seq) (sym at) ∙ ap (λ (s : SettledPart). s.seq) read
            ∙ own j no_settled below in
            absurd (first (omega arith) seen)
      ]
    ]

-- what an entry leaves overpaid
overpaid-after : (order : ℕ → Cell) (entry : Entry) (before : State) → (after_entry order entry before).overpaid
    + paid_in (parts_of order entry before) ≡ money_to_pay entry before
overpaid-after order entry before =
    let money = money-after order entry before in omega (arith, money)

overpaid-below : (orders : Orders) (entries : List Entry) (from : State) → (after_entries orders entries from).overpaid
    ≤ from.overpaid + amounts entries
overpaid-below orders [] from = omega arith
overpaid-below orders (entry ∷ entries) from =
    let one = overpaid-after (orders entry) entry from in
    let brings = money_in-most entry.kind entry.amount in
    let rest = overpaid-below orders entries (after_entry (orders entry) entry from) in
    let sums = sum_by-append (λ (e : Entry). e.amount) (entry ∷ []) entries in
    omega (arith, one, brings, rest, sums)

length-after_all : (orders : Orders) (entries : List Entry) (from : State)
    → length (after_entries orders entries from).rows
    ≡ length from.rows
length-after_all orders [] from = refl
length-after_all orders (entry ∷ entries) from = length-after_all orders entries (after_entry (orders entry) entry from)
    ∙ length-after orders entry from

-- the rows after entries are such as a book can hold
still-all : (n : ℕ) (orders : Orders) (places : Entry → Cell → ℕ) (entries : List Entry) (from : State)
    → ((e : Entry) → IsOrder n (orders e) (places e)) → ((j : ℕ) → j < length entries
    → HasInstalment (entry_at entries j).kind (entry_at entries j) n) → IsShaped n from
    → IsShaped n (after_entries orders entries from)
still-all n orders places [] from lawful there still = still
still-all n orders places (entry ∷ entries) from lawful there still =
    still-all n orders places entries (after_entry (orders entry) entry from) lawful
    (λ j less. there (suc j) (omega arith))
    (still-after n (orders entry) (places entry) entry from (lawful entry) (there 0 (omega arith)) still)

-- each part of entries in order is in a cell
cells-numbered : (n : ℕ) (rows : List Instalment) (seq place : ℕ) (parts : List Part) → IsSettleable rows parts
    → length rows ≡ n → AreInRows n (parts_numbered seq place parts)
cells-numbered n rows seq place [] fits size = All-nil (λ (s : SettledPart). IsCell n s.cell)
cells-numbered n rows seq place (part ∷ parts) fits size =
    All-cons (λ (s : SettledPart). IsCell n s.cell) (record {
      seq = seq;
      place = place;
      cell = part.cell;
      how = part.how;
      amount = part.amount;
    }) (parts_numbered seq (place + 1) parts)
    (subst (λ (x : ℕ). IsCell x part.cell) size fits.0)
    (cells-numbered n (settle rows part) seq (place + 1) parts fits.2 (length-with_settled rows (part ∷ []) ∙ size))

pub cells-settled_by : (n : ℕ) (orders : Orders) (places : Entry → Cell → ℕ) (entries : List Entry) (from : State)
    → ((e : Entry) → IsOrder n (orders e) (places e)) → ((j : ℕ) → j < length entries
    → HasInstalment (entry_at entries j).kind (entry_at entries j) n) → IsShaped n from
    → AreInRows n (settled_by orders entries from)
cells-settled_by n orders places [] from lawful there still = All-nil (λ (s : SettledPart). IsCell n s.cell)
cells-settled_by n orders places (entry ∷ entries) from lawful there still =
    let line : IsLine n (orders entry) (places entry) from.rows =
    record { size = still.size; is = lawful entry; whole = still.whole } in
    All-append (λ (s : SettledPart). IsCell n s.cell) (parts_numbered entry.seq 1 (parts_of (orders entry) entry from))
    (settled_by orders entries (after_entry (orders entry) entry from))
    (cells-numbered n (rows_charged entry from) entry.seq 1 (parts_of (orders entry) entry from)
    (settleable-after n (orders entry) (places entry) entry from line (there 0 (omega arith)))
    (length-with_charge entry.kind entry from.rows ∙ still.size))
    (cells-settled_by n orders places entries (after_entry (orders entry) entry from) lawful (λ j less. there (suc j)
    (omega arith))
    (still-after n (orders entry) (places entry) entry from (lawful entry) (there 0 (omega arith)) still))

pub rewindable-cells : (orders : Orders) (places : Entry → Cell → ℕ) (from : State) (tail : List Entry)
    (settled : List SettledPart) (now : State) → IsRewindable orders places from tail settled now
    → AreInRows (length from.rows) settled
rewindable-cells orders places from tail settled now is =
    subst (AreInRows (length from.rows)) (sym is.settled_is)
    (cells-settled_by (length from.rows) orders places tail from is.lawful is.instalments (record {
      size = refl;
      whole = is.whole;
      within = is.within;
    }))

pub has_charge : (kind : Kind) (entry : Entry) (n : ℕ) → HasInstalment kind entry n → HasCharge kind entry n
has_charge Fee entry n has = has
has_charge Penalty entry n has = has
has_charge Repay entry n has = tt
has_charge Waive entry n has = tt
has_charge WriteOff entry n has = tt
has_charge Refund entry n has = tt

below-money : (n m : ℕ) → n ≤ m → m < 2 ^ 62 → n < 2 ^ 63
below-money n m le lt = omega arith

-- what is known where one entry is to be taken back
pub record IsStep (orders : Orders) (from : State) (tail : List Entry) (settled own : List SettledPart) (i k start : ℕ)
    (now : State) : Type 0 where
  pub next_state : before_entry (entry_at tail i) (map part_of own) now ≡ after_entries orders (take i tail) from
  pub next_settled : take start settled ≡ settled_by orders (take i tail) from
  pub size : length now.rows ≡ length from.rows
  pub money : now.overpaid + paid_in (map part_of own) + now.refunded < 2 ^ 63
  pub within : AreWithin (without_charge (entry_at tail i).kind (entry_at tail i)
      (without_settled now.rows (map part_of own)))

pub step_back : (orders : Orders) (places : Entry → Cell → ℕ) (from first now : State) (tail : List Entry)
    (settled own : List SettledPart) (i k start : ℕ) → IsRewindable orders places from tail settled first
    → IsBack orders from tail settled (i + 1) k now → i < length tail → k ≤ length settled → start ≤ k
    → ((j : ℕ) → start ≤ j → j < k → (get_or settled j no_settled).seq ≡ (entry_at tail i).seq)
    → (0 < start → (get_or settled (start - 1) no_settled).seq ≢ (entry_at tail i).seq)
    → own ≡ drop start (take k settled) → IsStep orders from tail settled own i k start now
step_back orders places from first now tail settled own i k start is back within fits below run before_run slice =
    let entry : Entry = entry_at tail i in
    let earlier : List Entry = take i tail in
    let past : State = after_entries orders earlier from in
    let order : ℕ → Cell = orders entry in
    let parts : List Part = parts_of order entry past in
    let xs : List SettledPart = settled_by orders earlier from in
    let ys : List SettledPart = parts_numbered entry.seq 1 parts in
    let left_size : length earlier ≡ i = length-take-le i tail (omega arith) in
    let split : take (i + 1) tail ≡ earlier ++ entry ∷ [] = take_more tail i no_entry within in
    let state : now ≡ after_entry order entry past = back.state ∙ ap (λ x. after_entries orders x from) split
    ∙ after_all-snoc orders earlier entry from in
    let lists : take k settled ≡ xs ++ ys = back.settled_so_far ∙ ap (λ x. settled_by orders x from) split
    ∙ settled_by-snoc orders earlier entry from in
    let read : (j : ℕ) → j < i → entry_at earlier j ≡ entry_at tail j = λ j less. get_or-take i tail j no_entry less in
    let apart : All (λ (s : SettledPart). s.seq ≢ entry.seq) xs =
    numbers-apart orders entry.seq earlier from (λ j less. λ e. is.numbers j i (omega (arith, left_size, less)) within
    (sym (ap (λ (x : Entry). x.seq) (read j (omega (arith, left_size, less)))) ∙ e)) in
    let list_size : length (xs ++ ys) ≡ k = sym (ap length lists) ∙ length-take-le k settled fits in
    let seen : (j : ℕ) → j < k → get_or (xs ++ ys) j no_settled ≡ get_or settled j no_settled =
    λ j less. ap (λ x. get_or x j no_settled) (sym lists) ∙ get_or-take k settled j no_settled less in
    let begins : start ≡ length xs =
    run-begins entry.seq start xs ys apart (numbers-numbered entry.seq 1 parts) (omega (arith, list_size))
    (λ j from_start less. ap (λ (s : SettledPart). s.seq) (seen j (omega (arith, list_size, less)))
    ∙ run j from_start (omega (arith, list_size, less)))
    (λ some e. before_run some (sym (ap (λ (s : SettledPart). s.seq) (seen (start - 1) (omega arith))) ∙ e)) in
    let own_is : own ≡ ys = slice ∙ ap (drop start) lists ∙ ap (λ n. drop n (xs ++ ys)) begins
    ∙ drop-append_seam xs ys in
    let own_parts : map part_of own ≡ parts = ap (map part_of) own_is ∙ part_of-numbered entry.seq 1 parts in
    let none : past.refunded ≡ 0 = none-refunded orders earlier from is.none_refunded (λ j less. λ e.
    is.refund_last j (omega (arith, left_size, less))
    (sym (ap (λ (x : Entry). x.kind) (read j (omega (arith, left_size, less)))) ∙ e)) in
    let money = overpaid-after order entry past in
    let brings = money_in-most entry.kind entry.amount in
    let out = money_out-le entry.kind past.overpaid in
    let under = overpaid-below orders earlier from in
    let upto = sum_by-take-le (λ (e : Entry). e.amount) tail (i + 1) in
    let parts_sum : amounts (take (i + 1) tail) ≡ amounts earlier + amounts (entry ∷ []) =
    ap amounts split ∙ sum_by-append (λ (e : Entry). e.amount) earlier (entry ∷ []) in
    let paid : paid_in (map part_of own) ≡ paid_in parts = ap paid_in own_parts in
    let overpaid : now.overpaid ≡ (after_entry order entry past).overpaid = ap (λ (x : State). x.overpaid) state in
    let refunded : now.refunded ≡ past.refunded + money_out entry.kind past.overpaid =
    ap (λ (x : State). x.refunded) state ∙ refunded-after entry.kind order entry past in
    let all : now.overpaid + paid_in (map part_of own) + now.refunded ≤ from.overpaid + amounts tail =
    omega (arith, money, brings, out, under, upto, parts_sum, paid, overpaid, refunded, none) in
    let next : before_entry entry (map part_of own) now ≡ past = ap (λ x. before_entry entry x now) own_parts
    ∙ ap (before_entry entry parts) state ∙ before_entry-after order entry past none in
    let still : IsShaped (length from.rows) past =
    still-all (length from.rows) orders places (take i tail) from is.lawful
    (λ j less. subst (λ (x : Entry). HasInstalment x.kind x (length from.rows))
    (sym (read j (omega (arith, left_size, less)))) (is.instalments j (omega (arith, left_size, less, within))))
    (record { size = refl; whole = is.whole; within = is.within }) in
    record {
      next_state = next;
      within = subst AreWithin (sym (ap (λ (x : State). x.rows) next)) still.within;
      next_settled = sym (take-take start k settled below) ∙ ap (take start) lists ∙ ap (λ n. take n (xs ++ ys)) begins
          ∙ take-append_seam xs ys;
      size = ap (λ (x : State). length x.rows) state ∙ length-after orders entry past
          ∙ length-after_all orders earlier from;
      money = below-money _ _ all is.room;
    }

-- the entry that was read
pub read_entry : (tail : List Entry) (i : ℕ) (e : Entry) → i < length tail → e ≡ get_or tail i e → entry_at tail i ≡ e
read_entry tail i e within is = get_or_default tail i no_entry e within ∙ sym is

-- the step as the loop has it
pub back_step : (orders : Orders) (places : Entry → Cell → ℕ) (from first now : State) (tail : List Entry)
    (settled : List SettledPart) (left k start : ℕ) (e : Entry) → IsRewindable orders places from tail settled first
    → IsBack orders from tail settled left k now → 0 < left → left ≤ length tail → k ≤ length settled → start ≤ k
    → e ≡ get_or tail (left - 1) e → ((j : ℕ) → start ≤ j → j < k → (get_or settled j no_settled).seq
    ≡ (get_or tail (left - 1) e).seq) → (0 < start → (get_or settled (start - 1) no_settled).seq
    ≢ (get_or tail (left - 1) e).seq) → IsStep orders from tail settled (take (k - start) (drop start settled))
    (left - 1) k start now
back_step orders places from first now tail settled left k start e is back some within fits below read run before_run =
    let i : ℕ = left - 1 in
    let at : left ≡ i + 1 = omega arith in
    let entry : entry_at tail i ≡ e = read_entry tail i e (omega arith) read in
    let seq : (get_or tail i e).seq ≡ (entry_at tail i).seq = ap (λ (x : Entry). x.seq) (sym read ∙ sym entry) in
    let here : IsBack orders from tail settled (i + 1) k now =
    subst (λ (n : ℕ). IsBack orders from tail settled n k now) at back in
    step_back orders places from first now tail settled (take (k - start) (drop start settled)) i k start is here
    (omega arith) fits below
    (λ j from_start less. run j from_start less ∙ seq)
    (λ more e2. before_run more (e2 ∙ sym seq))
    (let whole : start + (k - start) ≡ k = omega arith in sym (drop-take start (k - start) settled)
    ∙ ap (λ n. drop start (take n settled)) whole)

-- the same with the number that the loop reads
pub back_step_to : (orders : Orders) (places : Entry → Cell → ℕ) (from first now : State) (tail : List Entry)
    (settled : List SettledPart) (left k start q : ℕ) → IsRewindable orders places from tail settled first
    → IsBack orders from tail settled left k now → 0 < left → left ≤ length tail → k ≤ length settled → start ≤ k
    → q ≡ (entry_at tail (left - 1)).seq → ((j : ℕ) → start ≤ j → j < k → (get_or settled j no_settled).seq ≡ q)
    → (0 < start → (get_or settled (start - 1) no_settled).seq ≢ q) → IsStep orders from tail settled (take (k - start)
    (drop start settled)) (left - 1) k start now
back_step_to orders places from first now tail settled left k start q is back some within fits below seq run
    before_run =
    let i : ℕ = left - 1 in
    let at : left ≡ i + 1 = omega arith in
    let here : IsBack orders from tail settled (i + 1) k now =
    subst (λ (n : ℕ). IsBack orders from tail settled n k now) at back in
    step_back orders places from first now tail settled (take (k - start) (drop start settled)) i k start is here
    (omega arith) fits below
    (λ j from_start less. run j from_start less ∙ seq)
    (λ more e2. before_run more (e2 ∙ sym seq))
    (let whole : start + (k - start) ≡ k = omega arith in sym (drop-take start (k - start) settled)
    ∙ ap (λ n. drop start (take n settled)) whole)

-- parts of a list in rows
pub cells-part : (n m : ℕ) (settled : List SettledPart) (k start : ℕ) → AreInRows n settled → m ≡ n
    → AreInRows m (take (k - start) (drop start settled))
cells-part n m settled k start are same =
    subst (λ (x : ℕ). AreInRows x (take (k - start) (drop start settled))) (sym same)
    (All-take (λ (s : SettledPart). IsCell n s.cell) (k - start) (drop start settled)
    (All-drop (λ (s : SettledPart). IsCell n s.cell) start settled are))

-- the entry's charge in rows
pub charge-at : (tail : List Entry) (i n m : ℕ) (e : Entry) → HasCharge (entry_at tail i).kind (entry_at tail i) n
    → entry_at tail i ≡ e → m ≡ n → HasCharge e.kind e m
charge-at tail i n m e has is same =
    subst (λ (x : ℕ). HasCharge e.kind e x) (sym same) (subst (λ (x : Entry). HasCharge x.kind x n) is has)

-- the rows that a step leaves
pub within-at : (tail : List Entry) (i : ℕ) (e : Entry) (now : State) (parts : List Part) → entry_at tail i ≡ e
    → AreWithin (without_charge (entry_at tail i).kind (entry_at tail i) (without_settled now.rows parts))
    → AreWithin (without_charge e.kind e (without_settled now.rows parts))
within-at tail i e now parts is within =
    subst (λ (x : Entry). AreWithin (without_charge x.kind x (without_settled now.rows parts))) is within

-- what a step leaves
pub back-after : (orders : Orders) (from now next : State) (tail : List Entry) (settled own : List SettledPart)
    (i k start : ℕ) (e : Entry) → IsStep orders from tail settled own i k start now → entry_at tail i ≡ e
    → next ≡ before_entry e (map part_of own) now → IsBack orders from tail settled i start next
back-after orders from now next tail settled own i k start e step is taken = record {
  state = taken ∙ ap (λ (x : Entry). before_entry x (map part_of own) now) (sym is) ∙ step.next_state;
  settled_so_far = step.next_settled;
}

-- the row that a charge leaves when it is taken back
pub uncharged-row : (rows : List Instalment) (instalment p amount : ℕ) (default : Instalment) → 1 ≤ instalment
    → instalment ≤ length rows → AreWithin (rows_changed_at rows instalment (unowe_row p amount))
    → IsRowWithin (unowe_row p amount (get_or rows (instalment - 1) default))
uncharged-row rows instalment p amount default first last within =
    let i : ℕ = instalment - 1 in
    let here : i < length rows = omega arith in
    let new : Instalment = unowe_row p amount (get_or rows i no_row) in
    let size : length (rows_changed_at rows instalment (unowe_row p amount)) ≡ length rows = length-set rows i new in
    subst (λ (r : Instalment). IsRowWithin (unowe_row p amount r)) (get_or_default rows i no_row default here)
    (subst IsRowWithin (get_or-set_same rows i new no_row here) (within i no_row (omega (arith, size, here))))
