-- The places of the standing entries, with one more and with one less.
use Rattle.std.proofs.Common.{◌≡◌, ◌≢◌, ℕ, zero, suc, ◌+◌, ◌-◌, ◌<◌, true, false, List, [], ◌∷◌, ◌++◌, length, get_or}
use Rattle.std.proofs.Common.{map, take, drop, arith, refl, ◌∙◌, ap, sym, subst, length-append}
use Rattle.std.specs.Prelude.{insert, remove, All}
use Rattle.std.proofs.lemmas.List.{length-map, length-set, get_or-map}
use Rattle.std.proofs.lemmas.List.Elements.{All-head, All-tail, All-take, All-drop, All-append, All-weaker}
use Rattle.mf_account.specs.declared.entry.Entry.{Entry}
use Rattle.mf_account.specs.Standing.{order_with, standing_entries, no_entry, entry_at, entries_at, with_mark}
use Rattle.mf_account.specs.StandingLaw.{IsAmong}
use Rattle.mf_account.specs.Loan.{AreEntries}
use Rattle.mf_account.proofs.SoundLemmas.{entry_at-before, entry_at-last, marked-other}
use Rattle.mf_account.proofs.StandingLemmas.{entries_at-insert, within-insert}
use Rattle.mf_account.proofs.StandingIsOne.{standing-is-one}
use Rattle.mf_account.proofs.TailLemmas.{at-among}
use Rattle.mf_account.proofs.RemovedLemmas.{removed-apart, standing-removed}
use Rattle.mf_account.proofs.RedoneLemmas.{standing-entered}

-- as many as there are standing entries
pub length-order : (entries : List Entry) (order : List ℕ) → entries_at entries order ≡ standing_entries entries
    → length order ≡ length (standing_entries entries)
length-order entries order is = sym (length-map order (λ i. get_or entries i no_entry)) ∙ ap length is

-- an entry behind all others changes none of those before it
longer-same : (entries : List Entry) (e : Entry) (order : List ℕ) → All (λ i. i < length entries) order
    → entries_at (entries ++ e ∷ []) order ≡ entries_at entries order
longer-same entries e [] within = refl
longer-same entries e (i ∷ order) within =
    ap (λ (x : Entry). x ∷ entries_at (entries ++ e ∷ []) order)
    (entry_at-before entries e i (All-head (λ i. i < length entries) i order within))
    ∙ ap (λ (x : List Entry). entry_at entries i ∷ x)
    (longer-same entries e order (All-tail (λ i. i < length entries) i order within))

pub order-entered : (entries : List Entry) (order : List ℕ) (place : ℕ) (e : Entry)
    → All (λ i. i < length entries) order → entries_at entries order ≡ standing_entries entries → e.reversed ≡ false
    → order_with e (standing_entries entries) ≡ insert (standing_entries entries) place e
    → entries_at (entries ++ e ∷ []) (insert order place (length entries)) ≡ standing_entries (entries ++ e ∷ [])
order-entered entries order place e within is stands place_is =
    entries_at-insert (entries ++ e ∷ []) order place (length entries)
    ∙ ap (λ (x : List Entry). insert x place (entry_at (entries ++ e ∷ []) (length entries)))
    (longer-same entries e order within ∙ is)
    ∙ ap (λ (x : Entry). insert (standing_entries entries) place x) (entry_at-last entries e (length entries) refl)
    ∙ sym (standing-entered entries (standing_entries entries) place e stands refl place_is)

pub within-entered : (entries : List Entry) (order : List ℕ) (place : ℕ) (e : Entry) → All (λ i. i < length entries)
    order → All (λ i. i < length (entries ++ e ∷ [])) (insert order place (length entries))
within-entered entries order place e within =
    let size = length-append entries (e ∷ []) in
    within-insert (length (entries ++ e ∷ [])) place (length entries) order (insert order place (length entries))
    (All-weaker (λ i. i < length entries) (λ i. i < length (entries ++ e ∷ [])) (λ i below. omega (arith, size, below))
    order within)
    (omega (arith, size)) refl

-- a mark changes none of the others
marked-same-at : (entries : List Entry) (at : ℕ) (order : List ℕ) → All (λ i. i ≢ at) order
    → entries_at (with_mark entries at true) order ≡ entries_at entries order
marked-same-at entries at [] apart = refl
marked-same-at entries at (i ∷ order) apart =
    ap (λ (x : Entry). x ∷ entries_at (with_mark entries at true) order)
    (marked-other entries at i (All-head (λ i. i ≢ at) i order apart))
    ∙ ap (λ (x : List Entry). entry_at entries i ∷ x)
    (marked-same-at entries at order (All-tail (λ i. i ≢ at) i order apart))

map-remove : (f : ℕ → Entry) (xs : List ℕ) (k : ℕ) → map f (remove xs k) ≡ remove (map f xs) k
map-remove f [] zero = refl
map-remove f [] (suc k) = refl
map-remove f (x ∷ xs) zero = refl
map-remove f (x ∷ xs) (suc k) = ap (λ (y : List Entry). f x ∷ y) (map-remove f xs k)

order-apart : (n day : ℕ) (entries : List Entry) (order : List ℕ) (at k : ℕ) → AreEntries n day entries
    → entries_at entries order ≡ standing_entries entries → k < length (standing_entries entries)
    → entry_at (standing_entries entries) k ≡ entry_at entries at → All (λ i. i ≢ at) (remove order k)
order-apart n day entries order at k are is within here = λ j d below same.
    let all : List Entry = standing_entries entries in
    let e : Entry = entry_at all k in
    let others : entries_at entries (remove order k) ≡ remove all k =
    map-remove (λ i. get_or entries i no_entry) order k ∙ ap (λ (x : List Entry). remove x k) is in
    let size : length (remove all k) ≡ length (remove order k) =
    sym (ap length others) ∙ length-map (remove order k) (λ i. get_or entries i no_entry) in
    let read : entry_at (remove all k) j ≡ e =
    ap (λ (x : List Entry). entry_at x j) (sym others)
    ∙ get_or-map (λ i. get_or entries i no_entry) (remove order k) j d no_entry below
    ∙ ap (entry_at entries) same
    ∙ sym here in
    removed-apart e all k (standing-is-one n day entries are).0.ascends within refl
    (subst (λ (x : Entry). IsAmong x (remove all k)) read (at-among (remove all k) j (omega (arith, size, below))))

pub order-removed : (n day : ℕ) (entries : List Entry) (order : List ℕ) (at k : ℕ) → AreEntries n day entries
    → AreEntries n day (with_mark entries at true) → at < length entries → entries_at entries order
    ≡ standing_entries entries → k < length (standing_entries entries) → entry_at (standing_entries entries) k
    ≡ entry_at entries at → entries_at (with_mark entries at true) (remove order k)
    ≡ standing_entries (with_mark entries at true)
order-removed n day entries order at k are are_marked there is within here =
    marked-same-at entries at (remove order k) (order-apart n day entries order at k are is within here)
    ∙ map-remove (λ i. get_or entries i no_entry) order k
    ∙ ap (λ (x : List Entry). remove x k) is
    ∙ sym (standing-removed n day entries at k are are_marked there within here)

pub within-removed : (entries : List Entry) (order : List ℕ) (at k : ℕ) → All (λ i. i < length entries) order
    → All (λ i. i < length (with_mark entries at true)) (remove order k)
within-removed entries order at k within =
    let size : length (with_mark entries at true) ≡ length entries =
    length-set entries at (record (entry_at entries at) { reversed = true }) in
    All-weaker (λ i. i < length entries) (λ i. i < length (with_mark entries at true))
    (λ i below. omega (arith, size, below)) (remove order k)
    (All-append (λ i. i < length entries) (take k order) (drop (suc k) order)
    (All-take (λ i. i < length entries) k order within) (All-drop (λ i. i < length entries) (suc k) order within))
