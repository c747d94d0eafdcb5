-- The standing entries once one of them is reversed: the others.
use Rattle.std.proofs.Common.{◌≡◌, ◌≢◌, ℕ, zero, suc, ◌<◌, true, true≢false, List, [], ◌∷◌, length, inl, inr, arith}
use Rattle.std.proofs.Common.{◌∙◌, ap, sym, subst, set}
use Rattle.std.specs.Prelude.{remove}
use Rattle.std.proofs.lemmas.List.{length-set, get_or-set_same, get_or-set_other}
use Rattle.mf_account.specs.declared.entry.Entry.{Entry}
use Rattle.mf_account.specs.Standing.{is_before, standing_entries, no_entry, entry_at, with_mark}
use Rattle.mf_account.specs.StandingLaw.{IsAmong, Precedes, Ascends, IsStandingOf}
use Rattle.mf_account.specs.Loan.{AreEntries}
use Rattle.mf_account.proofs.StandingIsOne.{before-asym, precedes-among, standing-is-one}
use Rattle.mf_account.proofs.TailLemmas.{among-index, at-among}

precedes-remove : (e : Entry) (xs : List Entry) (k : ℕ) → Precedes e xs → Precedes e (remove xs k)
precedes-remove e [] zero before = tt
precedes-remove e [] (suc k) before = tt
precedes-remove e (x ∷ xs) zero before = before.1
precedes-remove e (x ∷ xs) (suc k) before = (before.0, precedes-remove e xs k before.1)

ascends-remove : (xs : List Entry) (k : ℕ) → Ascends xs → Ascends (remove xs k)
ascends-remove [] zero up = tt
ascends-remove [] (suc k) up = tt
ascends-remove (x ∷ xs) zero up = up.1
ascends-remove (x ∷ xs) (suc k) up = (precedes-remove x xs k up.0, ascends-remove xs k up.1)

among-remove : (e : Entry) (xs : List Entry) (k : ℕ) → IsAmong e (remove xs k) → IsAmong e xs
among-remove e [] zero among = among
among-remove e [] (suc k) among = among
among-remove e (x ∷ xs) zero among = inr among
among-remove e (x ∷ xs) (suc k) (inl is) = inl is
among-remove e (x ∷ xs) (suc k) (inr later) = inr (among-remove e xs k later)

-- the one removed is none of the others
pub removed-apart : (e : Entry) (xs : List Entry) (k : ℕ) → Ascends xs → k < length xs → e ≡ entry_at xs k
    → IsAmong e (remove xs k) → ⊥
removed-apart e [] k up within is among = absurd (omega arith)
removed-apart e (x ∷ xs) zero up within is among =
    let own : is_before x x ≡ true =
    ap (is_before x) (sym is) ∙ precedes-among x e xs up.0 among in before-asym x x own own
removed-apart e (x ∷ xs) (suc k) up within is (inl same) =
    let later : is_before x (entry_at xs k) ≡ true =
    precedes-among x (entry_at xs k) xs up.0 (at-among xs k (omega arith)) in
    let own : is_before x x ≡ true = ap (is_before x) (sym same ∙ is) ∙ later in before-asym x x own own
removed-apart e (x ∷ xs) (suc k) up within is (inr later) = removed-apart e xs k up.1 (omega arith) is later

among-kept : (e : Entry) (xs : List Entry) (k : ℕ) → e ≢ entry_at xs k → IsAmong e xs → IsAmong e (remove xs k)
among-kept e [] k other among = absurd among
among-kept e (x ∷ xs) zero other (inl is) = absurd (other is)
among-kept e (x ∷ xs) zero other (inr later) = later
among-kept e (x ∷ xs) (suc k) other (inl is) = inl is
among-kept e (x ∷ xs) (suc k) other (inr later) = inr (among-kept e xs k other later)

among-set : (e v : Entry) (xs : List Entry) (at : ℕ) → e ≢ entry_at xs at → IsAmong e xs → IsAmong e (set xs at v)
among-set e v [] at other among = absurd among
among-set e v (x ∷ xs) zero other (inl is) = absurd (other is)
among-set e v (x ∷ xs) zero other (inr later) = inr later
among-set e v (x ∷ xs) (suc at) other (inl is) = inl is
among-set e v (x ∷ xs) (suc at) other (inr later) = inr (among-set e v xs at other later)

pub standing-removed : (n day : ℕ) (entries : List Entry) (at k : ℕ) → AreEntries n day entries
    → AreEntries n day (with_mark entries at true) → at < length entries → k < length (standing_entries entries)
    → entry_at (standing_entries entries) k ≡ entry_at entries at → standing_entries (with_mark entries at true)
    ≡ remove (standing_entries entries) k
standing-removed n day entries at k are are_marked there within is =
    let all : List Entry = standing_entries entries in
    let marked : List Entry = with_mark entries at true in
    let own : IsStandingOf entries all = (standing-is-one n day entries are).0 in
    let size : length marked ≡ length entries =
    length-set entries at (record (entry_at entries at) { reversed = true }) in
    let removed : IsStandingOf marked (remove all k) = record {
      ascends = ascends-remove all k own.ascends;
      from = λ e among.
          let both = own.from e (among-remove e all k among) in (
            among-set e (record (entry_at entries at) { reversed = true }) entries at (λ same. removed-apart e all k
                own.ascends within (same ∙ sym is) among) both.0,
            both.1,
          );
      to = λ e among stands.
          let index = among-index e marked among in
          let other : index.0 ≢ at = λ same.
          true≢false (sym (ap (λ (x : Entry). x.reversed)
          (get_or-set_same entries at (record (entry_at entries at) { reversed = true }) no_entry there))
          ∙ ap (λ i. (entry_at marked i).reversed) (sym same) ∙ ap (λ (x : Entry). x.reversed) index.2 ∙ stands) in
          let read : entry_at marked index.0 ≡ entry_at entries index.0 =
          get_or-set_other entries at index.0 (record (entry_at entries at) { reversed = true }) no_entry other in
          let old : entry_at entries index.0 ≡ e = sym read ∙ index.2 in
          let below : index.0 < length entries = omega (arith, size, index.1) in
          let among_old : IsAmong e entries =
          subst (λ (x : Entry). IsAmong x entries) old (at-among entries index.0 below) in
          let apart : e ≢ entry_at all k = λ same.
          let numbers : (entry_at entries index.0).seq ≡ (entry_at entries at).seq =
          ap (λ (x : Entry). x.seq) (old ∙ same ∙ is) in
          let first = are.numbers index.0 below in
          let second = are.numbers at there in
          other (omega (arith, numbers, first, second)) in
          among-kept e all k apart (own.to e among_old stands);
    } in
    sym ((standing-is-one n day marked are_marked).1 (remove all k) removed)
