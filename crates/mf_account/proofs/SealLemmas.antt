-- A write-off or a refund that stands is the last of the standing entries.
use Rattle.std.proofs.Common.{◌≡◌, ℕ, ◌+◌, ◌-◌, ◌<◌, Bool, true, false, true≢false, not, ◌&&◌, List, [], ◌∷◌, Option}
use Rattle.std.proofs.Common.{None, Some, length, inl, inr, arith, refl, ◌∙◌, ap, sym, subst}
use Rattle.std.specs.List.{list_any}
use Rattle.std.specs.Option.{MatchOption, option_map, option_map_or}
use Rattle.std.proofs.lemmas.Option.{slice_get-get_or}
use Rattle.std.proofs.lemmas.Bool.{cases_lt, cases_Bool, and_parts}
use Rattle.std.proofs.lemmas.List.{get_or_default}
use Rattle.std.proofs.lemmas.List.Folds.{list_any_at, Any-from_list_any}
use Rattle.mf_account.specs.declared.entry.Entry.{Entry}
use Rattle.mf_account.specs.declared.entry.Kind.{Kind}
use Rattle.mf_account.specs.declared.entry.Kind.TheVariants.{Repay, Fee, Penalty, Waive, WriteOff, Refund}
use Rattle.mf_account.specs.Kinds.{is_seal, is_write_off}
use Rattle.mf_account.specs.Standing.{standing_entries, no_entry, entry_at, last_kind_of}
use Rattle.mf_account.specs.StandingLaw.{IsAmong}
use Rattle.mf_account.specs.Loan.{AreEntries}
use Rattle.mf_account.proofs.StandingIsOne.{standing-is-one}
use Rattle.mf_account.proofs.TailLemmas.{among-index, at-among, seal_last-standing}

-- whether an entry of such a kind stands
abbrev pub stands_by : (Kind → Bool) → Entry → Bool
stands_by P e = not e.reversed && P e.kind

pub not_true : (b : Bool) → not b ≡ true → b ≡ false
not_true true is = absurd (true≢false (sym is))
not_true false is = refl

-- where one of the standing entries is of such a kind
any-standing : (P : Kind → Bool) (n day : ℕ) (entries : List Entry) → AreEntries n day entries
    → list_any (stands_by P) entries ≡ true → (j : ℕ) × (j < length (standing_entries entries))
    × (P (entry_at (standing_entries entries) j).kind ≡ true)
any-standing P n day entries are any =
    let found = Any-from_list_any (stands_by P) entries any in
    let k : ℕ = found.0 in
    let x : Entry = found.1 in
    let read : entry_at entries k ≡ x = get_or_default entries k no_entry x found.2 ∙ found.3 in
    let both = and_parts (not x.reversed) (P x.kind) found.4 in
    let among : IsAmong x entries = subst (λ (y : Entry). IsAmong y entries) read (at-among entries k found.2) in
    let index = among-index x (standing_entries entries) ((standing-is-one n day entries are).0.to x among
    (not_true x.reversed both.0)) in
    (index.0, index.1, ap (λ (y : Entry). P y.kind) index.2 ∙ both.1)

-- with none standing there is none
pub none-standing : (P : Kind → Bool) (n day : ℕ) (entries : List Entry) → AreEntries n day entries
    → length (standing_entries entries) ≡ 0 → list_any (stands_by P) entries ≡ false
none-standing P n day entries are empty =
    elim (cases_Bool (list_any (stands_by P) entries)) [
      | inl any ↦ let at = any-standing P n day entries are any in absurd (omega (arith, at.1, empty))
      | inr none ↦ none
    ]

-- with some it is the last, where such kinds are seals
pub last-standing : (P : Kind → Bool) (n day : ℕ) (entries : List Entry) → ((k : Kind) → P k ≡ true → is_seal k ≡ true)
    → AreEntries n day entries → 0 < length (standing_entries entries) → list_any (stands_by P) entries
    ≡ P (entry_at (standing_entries entries) (length (standing_entries entries) - 1)).kind
last-standing P n day entries seals are some =
    let all : List Entry = standing_entries entries in
    let last : ℕ = length all - 1 in
    let e : Entry = entry_at all last in
    elim (cases_Bool (P e.kind)) [
      | inl is ↦
          let own = (standing-is-one n day entries are).0.from e (at-among all last (omega (arith, some))) in
          let index = among-index e entries own.0 in
          let holds : stands_by P e ≡ true = ap (λ b. not b && P e.kind) own.1 ∙ is in
          list_any_at (stands_by P) entries index.0 no_entry index.1 (ap (stands_by P) index.2 ∙ holds) ∙ sym is
      | inr other ↦
          elim (cases_Bool (list_any (stands_by P) entries)) [
            | inl any ↦
                let at = any-standing P n day entries are any in
                absurd (elim (cases_lt (at.0 + 1) (length all)) [
                  | inl more ↦ seal_last-standing n day entries at.0 are more (seals (entry_at all at.0).kind at.2)
                  | inr end ↦
                      let same : at.0 ≡ last = omega (arith, at.1, end) in
                      true≢false (sym at.2 ∙ ap (λ j. P (entry_at all j).kind) same ∙ other)
                ])
            | inr none ↦ none ∙ sym other
          ]
    ]

write_off-seals : (k : Kind) → is_write_off k ≡ true → is_seal k ≡ true
write_off-seals WriteOff is = refl
write_off-seals Repay is = absurd (true≢false (sym is))
write_off-seals Fee is = absurd (true≢false (sym is))
write_off-seals Penalty is = absurd (true≢false (sym is))
write_off-seals Waive is = absurd (true≢false (sym is))
write_off-seals Refund is = absurd (true≢false (sym is))

pub written_off-none : (n day : ℕ) (entries all : List Entry) → AreEntries n day entries
    → all ≡ standing_entries entries → length all ≡ 0 → false ≡ list_any (stands_by is_write_off) entries
written_off-none n day entries all are is empty =
    sym (none-standing is_write_off n day entries are (sym (ap length is) ∙ empty))

pub written_off-last : (n day : ℕ) (entries all : List Entry) (k : Kind) → AreEntries n day entries
    → all ≡ standing_entries entries → 0 < length all → (entry_at all (length all - 1)).kind ≡ k → is_write_off k
    ≡ list_any (stands_by is_write_off) entries
written_off-last n day entries all k are is some kind =
    ap is_write_off (sym kind) ∙ ap (λ (x : List Entry). is_write_off (entry_at x (length x - 1)).kind) is
    ∙ sym (last-standing is_write_off n day entries write_off-seals are (subst (λ (x : List Entry). 0 < length x) is
    some))

-- what the last of the standing entries says of such kinds
by-last : (P : Kind → Bool) (n day : ℕ) (entries : List Entry) → ((k : Kind) → P k ≡ true → is_seal k ≡ true)
    → AreEntries n day entries → option_map_or P (last_kind_of (standing_entries entries)) false
    ≡ list_any (stands_by P) entries
by-last P n day entries seals are = at (standing_entries entries) refl where
  at : (all : List Entry) → all ≡ standing_entries entries → option_map_or P (last_kind_of all) false
      ≡ list_any (stands_by P) entries
  at [] is = sym (none-standing P n day entries are (sym (ap length is)))
  at (e ∷ es) is =
      let last : ℕ = length (e ∷ es) - 1 in
      let found = slice_get-get_or (e ∷ es) last no_entry (omega arith) in
      ap (λ (o : Option Entry). option_map_or P (option_map (λ (x : Entry). x.kind) o) false) found
      ∙ ap (λ (x : List Entry). P (entry_at x (length x - 1)).kind) is
      ∙ sym (last-standing P n day entries seals are (subst (λ (x : List Entry). 0 < length x) is (omega arith)))

-- an answer that goes by the last kind, if there is one
pub by-kind : (P : Kind → Bool) (answer : Bool) (last : Option Kind) → MatchOption last (answer ≡ false)
    (λ kind. answer ≡ P kind) → answer ≡ option_map_or P last false
by-kind P answer None is = is
by-kind P answer (Some kind) is = is

pub sealed-by-last : (n day : ℕ) (entries : List Entry) → AreEntries n day entries
    → option_map_or is_seal (last_kind_of (standing_entries entries)) false ≡ list_any (stands_by is_seal) entries
sealed-by-last n day entries are = by-last is_seal n day entries (λ _ seal. seal) are

pub written_off-by-last : (n day : ℕ) (entries : List Entry) → AreEntries n day entries → option_map_or is_write_off
    (last_kind_of (standing_entries entries)) false ≡ list_any (stands_by is_write_off) entries
written_off-by-last n day entries are = by-last is_write_off n day entries write_off-seals are
