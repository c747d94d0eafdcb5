-- The standing entries of a sound loan from a place on can be rewound.
use Rattle.std.proofs.Common.{◌≡◌, ◌≢◌, ℕ, zero, suc, ◌+◌, ◌^◌, ◌<◌, true, false, List, [], ◌∷◌, ◌++◌, length, take}
use Rattle.std.proofs.Common.{drop, inl, inr, arith, refl, ◌∙◌, ap, sym, subst, append_assoc}
use Rattle.std.proofs.lemmas.List.{get_or-take, get_or-drop, take-append-drop, length-take-le, length-drop}
use Rattle.std.proofs.lemmas.List.Sums.{sum_by-take-drop}
use Rattle.std.proofs.lemmas.List.Elements.{All-take}
use Rattle.mf_alloc.specs.OrderLaws.{IsOrder}
use Rattle.mf_account.specs.declared.entry.Entry.{Entry}
use Rattle.mf_account.specs.declared.entry.Kind.TheVariants.{Refund}
use Rattle.mf_account.specs.declared.settled.SettledPart.{SettledPart}
use Rattle.mf_account.specs.Kinds.{is_seal}
use Rattle.mf_account.specs.Effect.{State, after_entry, parts_of}
use Rattle.mf_account.specs.Account.{Orders, after_entries, settled_by, parts_numbered, first_state}
use Rattle.mf_account.specs.Applicable.{HasInstalment}
use Rattle.mf_account.specs.Standing.{is_before, standing_entries, no_entry, entry_at}
use Rattle.mf_account.specs.StandingLaw.{IsAmong, Precedes, Ascends, IsStandingOf}
use Rattle.mf_account.specs.Loan.{DisbursedLoan, AreEntries, IsSoundDisbursed, schedule_of, orders_of, cell_places_of}
use Rattle.mf_account.specs.Loan.{state_of_loan}
use Rattle.mf_account.specs.Loan.{settled_of_loan}
use Rattle.mf_account.specs.Rewind.{IsRewindable, state_before, tail_of, settled_from, settled_upto, TailsCanBeRewound}
use Rattle.mf_account.specs.Rewind.{IsBack}
use Rattle.mf_account.specs.Safe.{IsBounded}
use Rattle.mf_account.proofs.GoodLemmas.{IsReplayable, amounts, good-all}
use Rattle.mf_account.proofs.SoundLemmas.{lawful-of, each-standing, first-good, standing-amounts}
use Rattle.mf_account.proofs.StandingIsOne.{before-asym, standing-is-one}
use Rattle.mf_account.proofs.RewindLemmas.{none-refunded}

pub among-index : (x : Entry) (xs : List Entry) → IsAmong x xs → (i : ℕ) × (i < length xs) × (entry_at xs i ≡ x)
among-index x [] among = absurd among
among-index x (y ∷ ys) (inl is) = (0, omega arith, sym is)
among-index x (y ∷ ys) (inr later) = let at = among-index x ys later in (suc at.0, omega (arith, at.1), at.2)

pub at-among : (xs : List Entry) (i : ℕ) → i < length xs → IsAmong (entry_at xs i) xs
at-among [] i within = absurd (omega arith)
at-among (x ∷ xs) zero within = inl refl
at-among (x ∷ xs) (suc i) within = inr (at-among xs i (omega arith))

precedes-at : (e : Entry) (xs : List Entry) (j : ℕ) → Precedes e xs → j < length xs → is_before e (entry_at xs j) ≡ true
precedes-at e [] j before within = absurd (omega arith)
precedes-at e (x ∷ xs) zero before within = before.0
precedes-at e (x ∷ xs) (suc j) before within = precedes-at e xs j before.1 (omega arith)

pub ascends-at : (xs : List Entry) (i j : ℕ) → Ascends xs → i < j → j < length xs → is_before (entry_at xs i)
    (entry_at xs j) ≡ true
ascends-at [] i j up less within = absurd (omega arith)
ascends-at (x ∷ xs) i zero up less within = absurd (omega arith)
ascends-at (x ∷ xs) zero (suc j) up less within = precedes-at x xs j up.0 (omega arith)
ascends-at (x ∷ xs) (suc i) (suc j) up less within = ascends-at xs i j up.1 (omega arith) (omega arith)

-- where a standing entry stands among the entries
pub record IsAt (entries : List Entry) (j i : ℕ) : Type 0 where
  pub within : i < length entries
  pub same : entry_at entries i ≡ entry_at (standing_entries entries) j
  pub stands : (entry_at entries i).reversed ≡ false

pub standing-at : (n day : ℕ) (entries : List Entry) (j : ℕ) → AreEntries n day entries
    → j < length (standing_entries entries) → (i : ℕ) × IsAt entries j i
standing-at n day entries j are within =
    let is : IsStandingOf entries (standing_entries entries) = (standing-is-one n day entries are).0 in
    let from = is.from (entry_at (standing_entries entries) j) (at-among (standing_entries entries) j within) in
    let at = among-index (entry_at (standing_entries entries) j) entries from.0 in
    (at.0, record { within = at.1; same = at.2; stands = ap (λ (x : Entry). x.reversed) at.2 ∙ from.1 })

-- two of them stand at two places
apart-at : (n day : ℕ) (entries : List Entry) (i j a b : ℕ) → AreEntries n day entries → i < j
    → j < length (standing_entries entries) → IsAt entries i a → IsAt entries j b → a ≢ b
apart-at n day entries i j a b are less within one other same =
    let is : IsStandingOf entries (standing_entries entries) = (standing-is-one n day entries are).0 in
    let equal : entry_at (standing_entries entries) i ≡ entry_at (standing_entries entries) j =
    sym one.same ∙ ap (entry_at entries) same ∙ other.same in
    let before = ascends-at (standing_entries entries) i j is.ascends less within in
    let own : is_before (entry_at (standing_entries entries) j) (entry_at (standing_entries entries) j) ≡ true =
    ap (λ x. is_before x (entry_at (standing_entries entries) j)) (sym equal) ∙ before in
    before-asym (entry_at (standing_entries entries) j) (entry_at (standing_entries entries) j) own own

pub numbers-standing : (n day : ℕ) (entries : List Entry) (i j : ℕ) → AreEntries n day entries → i < j
    → j < length (standing_entries entries) → (entry_at (standing_entries entries) i).seq
    ≢ (entry_at (standing_entries entries) j).seq
numbers-standing n day entries i j are less within same =
    let one = standing-at n day entries i are (omega (arith, less, within)) in
    let other = standing-at n day entries j are within in
    let first : (entry_at entries one.0).seq ≡ one.0 + 1 = are.numbers one.0 one.1.within in
    let second : (entry_at entries other.0).seq ≡ other.0 + 1 = are.numbers other.0 other.1.within in
    let seqs : (entry_at entries one.0).seq ≡ (entry_at entries other.0).seq =
    ap (λ (x : Entry). x.seq) one.1.same ∙ same ∙ sym (ap (λ (x : Entry). x.seq) other.1.same) in
    apart-at n day entries i j one.0 other.0 are less within one.1 other.1 (omega (arith, first, second, seqs))

-- a seal that stands is the last
pub seal_last-standing : (n day : ℕ) (entries : List Entry) (j : ℕ) → AreEntries n day entries
    → j + 1 < length (standing_entries entries) → is_seal (entry_at (standing_entries entries) j).kind ≡ true → ⊥
seal_last-standing n day entries j are within is =
    let one = standing-at n day entries j are (omega (arith, within)) in
    let next = standing-at n day entries (j + 1) are within in
    let up = (standing-is-one n day entries are).0.ascends in
    let apart : one.0 ≢ next.0 = apart-at n day entries j (j + 1) one.0 next.0 are (omega arith) within one.1 next.1 in
    let seal : is_seal (entry_at entries one.0).kind ≡ true = ap (λ (x : Entry). is_seal x.kind) one.1.same ∙ is in
    let last = are.seal_last one.0 next.0 one.1.within next.1.within apart one.1.stands next.1.stands seal in
    let back : is_before (entry_at (standing_entries entries) (j + 1)) (entry_at (standing_entries entries) j) ≡ true =
    ap (λ x. is_before x (entry_at (standing_entries entries) j)) (sym next.1.same)
    ∙ ap (is_before (entry_at entries next.0)) (sym one.1.same) ∙ last in
    before-asym (entry_at (standing_entries entries) j) (entry_at (standing_entries entries) (j + 1))
    (ascends-at (standing_entries entries) j (j + 1) up (omega arith) within) back

pub refund_last-standing : (n day : ℕ) (entries : List Entry) (j : ℕ) → AreEntries n day entries
    → j + 1 < length (standing_entries entries) → (entry_at (standing_entries entries) j).kind ≢ Refund
refund_last-standing n day entries j are within is = seal_last-standing n day entries j are within (ap is_seal is)

pub after_all-append : (orders : Orders) (xs ys : List Entry) (from : State) → after_entries orders (xs ++ ys) from
    ≡ after_entries orders ys (after_entries orders xs from)
after_all-append orders [] ys from = refl
after_all-append orders (x ∷ xs) ys from = after_all-append orders xs ys (after_entry (orders x) x from)

pub settled_by-append : (orders : Orders) (xs ys : List Entry) (from : State) → settled_by orders (xs ++ ys) from
    ≡ settled_by orders xs from ++ settled_by orders ys (after_entries orders xs from)
settled_by-append orders [] ys from = refl
settled_by-append orders (x ∷ xs) ys from =
    let own : List SettledPart = parts_numbered x.seq 1 (parts_of (orders x) x from) in
    ap (λ z. own ++ z) (settled_by-append orders xs ys (after_entry (orders x) x from))
    ∙ sym (append_assoc own (settled_by orders xs (after_entry (orders x) x from))
    (settled_by orders ys (after_entries orders xs (after_entry (orders x) x from))))

pub good-before : (loan : DisbursedLoan) (k : ℕ) → IsSoundDisbursed loan
    → IsBounded loan.periods (2 ^ 54 + amounts (take k (standing_entries loan.entries))) (state_before loan k)
good-before loan k sound =
    good-all loan.periods (2 ^ 54) (orders_of loan) (cell_places_of loan) (take k (standing_entries loan.entries))
    (first_state (schedule_of loan))
    (lawful-of loan) (All-take (IsReplayable loan.periods) k (standing_entries loan.entries) (each-standing loan sound))
    (first-good loan sound)

-- from a place before which nothing is refunded
pub rewindable-from : (loan : DisbursedLoan) (k : ℕ) → IsSoundDisbursed loan → (state_before loan k).refunded ≡ 0
    → IsRewindable (orders_of loan) (cell_places_of loan) (state_before loan k) (tail_of loan k) (settled_from loan k)
    (state_of_loan loan)
rewindable-from loan k sound none =
    let all : List Entry = standing_entries loan.entries in
    let from : State = state_before loan k in
    let good : IsBounded loan.periods (2 ^ 54 + amounts (take k all)) from = good-before loan k sound in
    let parted = sum_by-take-drop (λ (e : Entry). e.amount) all k in
    let most = standing-amounts loan sound in
    let size = length-drop k all in
    let read : (j : ℕ) → entry_at (drop k all) j ≡ entry_at all (k + j) = λ j. get_or-drop k all j no_entry in
    record {
      state = sym (ap (λ x. after_entries (orders_of loan) x (first_state (schedule_of loan))) (take-append-drop k all))
          ∙ after_all-append (orders_of loan) (take k all) (drop k all) (first_state (schedule_of loan));
      settled_is = refl;
      none_refunded = none;
      numbers = λ i j less within same.
          numbers-standing loan.periods loan.day loan.entries (k + i) (k + j) sound.entries (omega (arith, less))
          (omega (arith, size, within))
          (sym (ap (λ (x : Entry). x.seq) (read i)) ∙ same ∙ ap (λ (x : Entry). x.seq) (read j));
      refund_last = λ j within is.
          refund_last-standing loan.periods loan.day loan.entries (k + j) sound.entries (omega (arith, size, within))
          (sym (ap (λ (x : Entry). x.kind) (read j)) ∙ is);
      instalments = λ j within.
          subst (λ (x : Entry). HasInstalment x.kind x (length from.rows)) (sym (read j))
          (subst (λ (n : ℕ). HasInstalment (entry_at all (k + j)).kind (entry_at all (k + j)) n) (sym good.size)
          (each-standing loan sound (k + j) no_entry (omega (arith, size, within))).there);
      whole = good.whole;
      within = good.within;
      lawful = λ e. subst (λ (n : ℕ). IsOrder n (orders_of loan e) (cell_places_of loan e)) (sym good.size)
          (lawful-of loan e);
      room = omega (arith, good.money, parted, most);
    }

pub none-before : (loan : DisbursedLoan) (k : ℕ) → IsSoundDisbursed loan → k < length (standing_entries loan.entries)
    → (state_before loan k).refunded ≡ 0
none-before loan k sound within =
    let all : List Entry = standing_entries loan.entries in
    let size = length-take-le k all (omega (arith, within)) in
    none-refunded (orders_of loan) (take k all) (first_state (schedule_of loan)) refl
    (λ j less is. refund_last-standing loan.periods loan.day loan.entries j sound.entries (omega (
      arith,
      size,
      less,
      within,
    ))
    (sym (ap (λ (x : Entry). x.kind) (get_or-take k all j no_entry (omega (arith, size, less)))) ∙ is))

pub settled-parts : (loan : DisbursedLoan) (k : ℕ) → settled_of_loan loan ≡ settled_upto loan k ++ settled_from loan k
settled-parts loan k =
    let all : List Entry = standing_entries loan.entries in
    sym (ap (λ x. settled_by (orders_of loan) x (first_state (schedule_of loan))) (take-append-drop k all))
    ∙ settled_by-append (orders_of loan) (take k all) (drop k all) (first_state (schedule_of loan))

pub tails-rewound : TailsCanBeRewound
tails-rewound loan k sound within =
    (rewindable-from loan k sound (none-before loan k sound within), settled-parts loan k)

-- all of them, as the account keeps them
pub rewindable-whole : (loan : DisbursedLoan) (tail : List Entry) (settled : List SettledPart) (now : State)
    → IsSoundDisbursed loan
    → tail ≡ standing_entries loan.entries → settled ≡ settled_of_loan loan → now ≡ state_of_loan loan
    → IsRewindable (orders_of loan) (cell_places_of loan) (first_state (schedule_of loan)) tail settled now
rewindable-whole loan tail settled now sound tail_is settled_is now_is =
    let whole : IsRewindable (orders_of loan) (cell_places_of loan) (first_state (schedule_of loan))
    (standing_entries loan.entries) (settled_of_loan loan) (state_of_loan loan) =
    rewindable-from loan 0 sound refl in
    subst (λ (x : List Entry). IsRewindable (orders_of loan) (cell_places_of loan) (first_state (schedule_of loan)) x
    settled now) (sym tail_is)
    (subst (λ (x : List SettledPart). IsRewindable (orders_of loan) (cell_places_of loan)
    (first_state (schedule_of loan))
    (standing_entries loan.entries) x now) (sym settled_is)
    (subst (λ (x : State). IsRewindable (orders_of loan) (cell_places_of loan) (first_state (schedule_of loan))
    (standing_entries loan.entries) (settled_of_loan loan) x) (sym now_is) whole))

pub back-whole : (loan : DisbursedLoan) (tail : List Entry) (settled : List SettledPart) (place k : ℕ) (now : State)
    → IsBack (orders_of loan) (first_state (schedule_of loan)) tail settled place k now
    → tail ≡ standing_entries loan.entries → settled ≡ settled_of_loan loan → (now ≡ state_before loan place)
    × (take k (settled_of_loan loan) ≡ settled_upto loan place)
back-whole loan tail settled place k now back tail_is settled_is = (
  back.state ∙ ap (λ x. after_entries (orders_of loan) (take place x) (first_state (schedule_of loan))) tail_is,
  ap (take k) (sym settled_is) ∙ back.settled_so_far ∙ ap (λ x. settled_by (orders_of loan) (take place x)
      (first_state (schedule_of loan))) tail_is,
)
