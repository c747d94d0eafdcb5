-- What the rows of shares tell of a sound loan is what its entries settle, by entry.
use Rattle.std.proofs.Common.{◌≡◌, ◌≢◌, ◌==◌, ◌<◌, ◌≤◌, ◌+◌, ◌∙◌, true, ℕ, zero, suc, List, [], ◌∷◌, ◌++◌, map, length}
use Rattle.std.proofs.Common.{inl, inr, refl, sym, ap, subst, arith}
use Rattle.std.specs.List.{AllByRecursion}
use Rattle.std.proofs.lemmas.Bool.{eq-eqb, ne_eqb, eqb-true, cases_eq, cases_lt}
use Rattle.std.proofs.lemmas.List.{map-append, append-nil}
use Rattle.std.proofs.lemmas.List.Elements.{recursion_from_All, filter_passes}
use Rattle.sqlite_keyed.proofs.ListLemmas.{all_weaker, filter_all, filter_none}
use Rattle.mf_account.specs.declared.entry.Entry.{Entry}
use Rattle.mf_account.specs.declared.settled.SettledPart.{SettledPart}
use Rattle.mf_account.specs.Account.{Orders, parts_numbered, settled_by, first_state}
use Rattle.mf_account.specs.Change.{settled_in}
use Rattle.mf_account.specs.Effect.{State, Part, parts_of, after_entry}
use Rattle.mf_account.specs.Loan.{DisbursedLoan, IsSoundDisbursed, orders_of, schedule_of, settled_of_loan}
use Rattle.mf_account.specs.Standing.{entry_at, standing_entries}
use Rattle.mf_account.specs.Told.{IsNumberedTo}
use Rattle.mf_account.proofs.ChangeLemmas.{settled_in-append}
use Rattle.mf_account.proofs.TailLemmas.{numbers-standing}
use Rattle.mf_account.proofs.ToldLemmas.{parts-numbered}
use Rattle.mf_store_values.specs.Flat.{numbered_from, placed_parts, parts_from, shares_kept}
use Rattle.mf_store_values.specs.Kept.{part_told}

-- ---- the parts of one number

abbrev HaveNumber : ℕ → List SettledPart → Type 0
HaveNumber q parts = AllByRecursion (λ (p : SettledPart). p.seq ≡ q) parts

own_all : (q : ℕ) (parts : List SettledPart) → HaveNumber q parts → settled_in q parts ≡ parts
own_all q parts all = filter_all (λ (p : SettledPart). p.seq == q) parts (all_weaker (λ (p : SettledPart). p.seq ≡ q) _
    (λ p same. eq-eqb p.seq q same) parts all)

none_other : (q s : ℕ) (parts : List SettledPart) → s ≢ q → HaveNumber s parts → settled_in q parts ≡ []
none_other q s parts other all = filter_none (λ (p : SettledPart). p.seq == q) parts (all_weaker (λ (p : SettledPart).
    p.seq ≡ s) _ (λ p same. ne_eqb p.seq q (λ is. other (sym same ∙ is))) parts all)

all_own : (q : ℕ) (parts : List SettledPart) → HaveNumber q (settled_in q parts)
all_own q parts = all_weaker (λ (p : SettledPart). (p.seq == q) ≡ true) (λ p. p.seq ≡ q) (λ p. eqb-true p.seq q)
    (settled_in q parts) (recursion_from_All _ (settled_in q parts)
    (filter_passes (λ (p : SettledPart). p.seq == q) parts))

-- ---- the places of a replay

-- parts in the places from n on
abbrev AreAt : ℕ → List SettledPart → Type 0
AreAt n [] = Unit {0}
AreAt n (part ∷ parts) = (part.place ≡ n) × AreAt (n + 1) parts

at_numbered : (seq place : ℕ) (parts : List Part) → AreAt place (parts_numbered seq place parts)
at_numbered seq place [] = tt
at_numbered seq place (part ∷ parts) = (refl, at_numbered seq (place + 1) parts)

have_number : (seq place : ℕ) (parts : List Part) → HaveNumber seq (parts_numbered seq place parts)
have_number seq place [] = tt
have_number seq place (part ∷ parts) = (refl, have_number seq (place + 1) parts)

-- entries of other numbers settle nothing of this one
none_by : (orders : Orders) (entries : List Entry) (before : State) (q : ℕ) → ((j : ℕ) → j < length entries
    → (entry_at entries j).seq ≢ q) → settled_in q (settled_by orders entries before) ≡ []
none_by orders [] before q other = refl
none_by orders (e ∷ entries) before q other =
    let own = parts_numbered e.seq 1 (parts_of (orders e) e before) in
    let next = after_entry (orders e) e before in
    settled_in-append q own (settled_by orders entries next) ∙ (λ t.
    none_other q e.seq own (other 0 (omega arith)) (have_number e.seq 1 (parts_of (orders e) e before)) t
    ++ none_by orders entries next q (λ j less. other (suc j) (omega (arith, less))) t)

places_by : (orders : Orders) (entries : List Entry) (before : State) (q : ℕ) → ((i j : ℕ) → i < j → j < length entries
    → (entry_at entries i).seq ≢ (entry_at entries j).seq) → AreAt 1 (settled_in q (settled_by orders entries before))
places_by orders [] before q apart = tt
places_by orders (e ∷ entries) before q apart =
    let parts : List Part = parts_of (orders e) e before in
    let own : List SettledPart = parts_numbered e.seq 1 parts in
    let next : State = after_entry (orders e) e before in
    let rest : List SettledPart = settled_by orders entries next in
    let all : HaveNumber e.seq own = have_number e.seq 1 parts in
    elim (cases_eq e.seq q) [
      | inl same ↦
          let others = none_by orders entries next q (λ j less is. apart 0 (suc j) (omega arith) (omega (arith, less))
          (same ∙ sym is)) in
          let mine = own_all q own (subst (λ n. HaveNumber n own) same all) in
          subst (AreAt 1) (sym (settled_in-append q own rest ∙ (λ t. mine t ++ others t) ∙ append-nil own))
          (at_numbered e.seq 1 parts)
      | inr differ ↦
          subst (AreAt 1) (sym (settled_in-append q own rest ∙ (λ t. none_other q e.seq own differ all t
          ++ settled_in q rest))) (places_by orders entries next q (λ i j less within. apart (suc i) (suc j)
          (omega (arith, less)) (omega (arith, within))))
    ]

places_sound : (loan : DisbursedLoan) (q : ℕ) → IsSoundDisbursed loan → AreAt 1 (settled_in q (settled_of_loan loan))
places_sound loan q sound = places_by (orders_of loan) (standing_entries loan.entries) (first_state (schedule_of loan))
    q (λ i j less within. numbers-standing loan.periods loan.day loan.entries i j sound.entries less within)

-- ---- told by their rows

told_placed : (q n : ℕ) (parts : List SettledPart) → HaveNumber q parts → AreAt n parts
    → map part_told (numbered_from (λ place part. (q, (place, part))) n parts) ≡ parts
told_placed q n [] all at = refl
told_placed q n (p ∷ parts) all at = (λ t. record {
  seq = sym all.0 t;
  place = sym at.0 t;
  cell = p.cell;
  how = p.how;
  amount = p.amount;
} ∷ told_placed q (n + 1) parts all.1 at.1 t)

module _ (settled : List SettledPart) (at : (q : ℕ) → AreAt 1 (settled_in q settled)) (q : ℕ) where
  abbrev Told : ℕ → ℕ → List SettledPart
  Told seq count = map part_told (parts_from (λ q. settled_in q settled) seq count)

  -- of the parts of a number, and then of those of the later ones
  told_more : (seq count : ℕ) → settled_in q (Told seq (suc count)) ≡ settled_in q (settled_in seq settled)
      ++ settled_in q (Told (seq + 1) count)
  told_more seq count =
      ap (settled_in q) (map-append part_told (placed_parts seq (settled_in seq settled)) (parts_from (λ q.
      settled_in q settled) (seq + 1) count)
      ∙ ap (λ x. x ++ Told (seq + 1) count) (told_placed seq 1 (settled_in seq settled) (all_own seq settled) (at seq)))
      ∙ settled_in-append q (settled_in seq settled) (Told (seq + 1) count)

  told_none : (seq count : ℕ) → (seq ≤ q → q < seq + count → ⊥) → settled_in q (Told seq count) ≡ []
  told_none seq zero off = refl
  told_none seq (suc count) off =
      told_more seq count ∙ (λ t. none_other q seq (settled_in seq settled) (λ same. off (omega (arith, same))
      (omega (arith, same))) (all_own seq settled) t
      ++ told_none (seq + 1) count (λ low high. off (omega (arith, low)) (omega (arith, high))) t)

  told_own : (seq count : ℕ) → seq ≤ q → q < seq + count → settled_in q (Told seq count) ≡ settled_in q settled
  told_own seq zero from to = absurd (omega (arith, from, to))
  told_own seq (suc count) from to =
      let rest : settled_in q (settled_in seq settled) ++ settled_in q (Told (seq + 1) count) ≡ settled_in q settled =
      elim (cases_eq seq q) [
        | inl same ↦ (λ t. settled_in q (settled_in (same t) settled)
            ++ told_none (seq + 1) count (λ low high. omega (arith, low, same)) t)
            ∙ append-nil (settled_in q (settled_in q settled))
            ∙ own_all q (settled_in q settled) (all_own q settled)
        | inr other ↦ (λ t. none_other q seq (settled_in seq settled) other (all_own seq settled) t
            ++ told_own (seq + 1) count (omega (arith, other, from)) (omega (arith, to)) t)
      ] in
      told_more seq count ∙ rest

-- the rows of a sound loan's shares tell the parts of each entry
pub shares_told : (loan : DisbursedLoan) (q : ℕ) → IsSoundDisbursed loan
    → settled_in q (map part_told (shares_kept loan))
    ≡ settled_in q (settled_of_loan loan)
shares_told loan q sound = elim (cases_lt 0 q) [
  | inl above ↦ elim (cases_lt q (1 + length loan.entries)) [
    | inl within ↦ told_own settled at q 1 (length loan.entries) (omega (arith, above)) within
    | inr beyond ↦ off (λ low high. omega (arith, beyond, high))
  ]
  | inr none ↦ off (λ low high. omega (arith, none, low))
]
  where
    settled : List SettledPart
    settled = settled_of_loan loan

    at : (q : ℕ) → AreAt 1 (settled_in q settled)
    at q = places_sound loan q sound

    -- an entry beyond those of the loan settles nothing
    off : (1 ≤ q → q < 1 + length loan.entries → ⊥) → settled_in q (map part_told (shares_kept loan))
        ≡ settled_in q settled
    off beyond = told_none settled at q 1 (length loan.entries) beyond
        ∙ sym (filter_none (λ (p : SettledPart). p.seq == q) settled (all_weaker (IsNumberedTo (length loan.entries)) _
        (λ p in_range. ne_eqb p.seq q (λ same. beyond (omega (arith, same, in_range)) (omega (arith, same, in_range))))
        settled (recursion_from_All (IsNumberedTo (length loan.entries)) settled (parts-numbered loan sound))))
