-- The entries of one loan, by their rows.
use Rattle.std.proofs.Common.{◌≡◌, ◌↔◌, ◌<◌, ◌≤◌, ◌+◌, ◌∙◌, ℕ, zero, suc, Bool, List, [], ◌∷◌, map, length, IsTrue}
use Rattle.std.proofs.Common.{refl, sym, ap, subst, arith}
use Rattle.std.specs.List.{AllByRecursion}
use Rattle.std.proofs.lemmas.List.{length-map}
use Rattle.std.proofs.lemmas.List.Elements.{All-from_recursion, recursion_from_All}
use Rattle.sqlite_keyed.proofs.ListLemmas.{all_weaker}
use Rattle.mf_account.specs.declared.entry.Entry.{Entry}
use Rattle.mf_account.specs.Lawful.{are_seals_last}
use Rattle.mf_account.specs.Loan.{IsEntry}
use Rattle.mf_account.specs.Standing.{entry_at}
use Rattle.mf_account.proofs.LawfulLemmas.{seals_last, seals_pass}
use Rattle.mf_store_schema.specs.declared.entries.EntryRow.{EntryRow}
use Rattle.mf_store_values.specs.Flat.{entry_in}
use Rattle.mf_store_values.specs.Ledgers.{IsReadable, IsEnteredBy}
use Rattle.mf_store_sound.specs.Entries.{IsEntryRow, AreLoanEntries}
use Rattle.mf_store_sound.specs.Stored.{AllFrom}

module _ (today day n x m : ℕ) where
  abbrev IsOne : ℕ → EntryRow → Type 0
  IsOne = IsEntryRow today day n x m

  abbrev AreNumberedFrom : ℕ → List Entry → Type 0
  AreNumberedFrom first es = (i : ℕ) → i < length es → (entry_at es i).seq ≡ i + first

  -- the rows are those of such entries, the first with this number; how they stand to each other is left open
  record AreEntryRows (first : ℕ) (rows : List EntryRow) : Type 0 where
    entries : List Entry
    numbers : AreNumberedFrom first entries
    lawful : AllByRecursion (IsEntry n day) entries
    each : AllByRecursion (IsEnteredBy today) entries
    rows_are : map (entry_in x m) entries ≡ rows

  gathered : (first : ℕ) (rows : List EntryRow) → AllFrom IsOne first rows → AreEntryRows first rows
  gathered first [] all =
      record { entries = []; numbers = λ i below. absurd (omega arith); lawful = tt; each = tt; rows_are = refl }
  gathered first (r ∷ rs) all =
      let h = all.0 in
      let more = gathered (first + 1) rs all.1 in
      record {
        entries = h.entry ∷ more.entries;
        numbers = elim [
          | zero ↦ λ below. (let own = h.own in omega (arith, own))
          | suc i ↦ λ below. (let own = more.numbers i (omega arith) in omega (arith, own))
        ];
        lawful = (h.lawful, more.lawful);
        each = (record { readable = h.readable; entered = h.entered; receipt = h.receipt }, more.each);
        rows_are = λ k. h.row_is k ∷ more.rows_are k;
      }

  parted : (first : ℕ) (es : List Entry) → AreNumberedFrom first es → AllByRecursion (IsEntry n day) es
      → AllByRecursion (IsEnteredBy today) es → AllFrom IsOne first (map (entry_in x m) es)
  parted first [] numbers lawful each = tt
  parted first (e ∷ es) numbers lawful each = (
    record {
      entry = e;
      readable = each.0.readable;
      own = (let own = numbers 0 (omega arith) in omega (arith, own));
      lawful = lawful.0;
      entered = each.0.entered;
      receipt = each.0.receipt;
      row_is = refl;
    },
    parted (first + 1) es (λ i below. (let own = numbers (suc i) (omega arith) in omega (arith, own))) lawful.1 each.1,
  )

  module _ (rows : List EntryRow) where
    -- what the test of the seals says of the entries
    abbrev Seals : Bool → Type 0
    Seals b = (x m : ℕ) (entries : List Entry) → AllByRecursion IsReadable entries → map (entry_in x m) entries ≡ rows
        → b ≡ are_seals_last entries

    told : (b : Bool) → Seals b → (es : List Entry) → AllByRecursion (IsEnteredBy today) es → map (entry_in x m) es
        ≡ rows → b ≡ are_seals_last es
    told b seals es each is = seals x m es (all_weaker (IsEnteredBy today) IsReadable (λ e h. h.readable) es each) is

    abbrev pub AreNumbered : Type 0
    AreNumbered = (length rows ≤ 9999) × AllFrom IsOne 1 rows

    pub entry_rows_of : AreLoanEntries today day n x m rows → AreNumbered
    entry_rows_of h = (
      omega (arith, length-map h.entries (entry_in x m), ap length h.rows_are, h.lawful.few),
      subst (AllFrom IsOne 1) h.rows_are (parted 1 h.entries h.lawful.numbers
          (recursion_from_All (IsEntry n day) h.entries h.lawful.each) h.each),
    )

    pub loan_entries : (b : Bool) → Seals b → AreNumbered → IsTrue b ↔ AreLoanEntries today day n x m rows
    loan_entries b seals h = (
      λ t.
          let r = gathered 1 rows h.1 in
          record {
            entries = r.entries;
            lawful = record {
              numbers = r.numbers;
              few = omega (arith, length-map r.entries (entry_in x m), ap length r.rows_are, h.0);
              each = All-from_recursion (IsEntry n day) r.entries r.lawful;
              seal_last = seals_last r.entries r.numbers (sym (told b seals r.entries r.each r.rows_are) ∙ t);
            };
            each = r.each;
            rows_are = r.rows_are;
          },
      λ are. told b seals are.entries are.each are.rows_are ∙ seals_pass are.entries are.lawful.numbers
          are.lawful.seal_last,
    )
