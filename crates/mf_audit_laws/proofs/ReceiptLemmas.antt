-- Rows of receipts that keep all conditions, beside rows of entries that do.
use Rattle.std.proofs.Common.{◌≡◌, ◌++◌, ℕ, false, List, [], ◌∷◌, Option, Some, None, refl, sym, inl, inr}
use Rattle.std.proofs.Common.{subst, ap, arith, Ordering, Less, Equal, Greater, nat_cmp, is_eq, is_lt}
use Rattle.std.specs.List.{AllByRecursion, Contains}
use Rattle.std.specs.Ordering.{ordering_then}
use Rattle.std.proofs.lemmas.Bool.Decides.{nat_tests}
use Rattle.std.proofs.lemmas.List.Elements.{Contains-append_left, Contains-append_right}
use Rattle.std.proofs.lemmas.List.Sorted.{Contains-permutation, IsPermutation-sym}
use Rattle.sqlite_keyed.proofs.ListLemmas.{all-append, all_weaker, all_both, ascending-append, ascending_weaker}
use Rattle.sqlite_keyed.proofs.SortLemmas.{IsPermutation-sort_by}
use Rattle.sqlite_keyed.specs.Lists.{sort_by}
use Rattle.sqlite_trees.specs.Tree.{IsAscending}
use Rattle.sqlite_trees.proofs.ListLemmas.{all-permutation}
use Rattle.mf_store_schema.specs.Rows.{by_entry, by_receipt}
use Rattle.mf_store_schema.specs.declared.entries.EntryRow.{EntryRow}
use Rattle.mf_store_schema.specs.declared.receipts.ReceiptRow.{ReceiptRow}
use Rattle.mf_store_schema.proofs.OrderLemmas.{by_receipt_total}
use Rattle.mf_store_values.specs.ReceiptRows.{AreReceiptsOf, carried_by, receipt_of}
use Rattle.mf_store_values.proofs.SortedLemmas.{rises_sorted}
use Rattle.mf_store_audit.specs.Entries.{AreListed, BreaksReceipt}
use Rattle.mf_store_audit.specs.Kinds.{receipt_flaws}
use Rattle.mf_store_audit.specs.Places.{IsAfter}
use Rattle.mf_audit_laws.proofs.EntryLemmas.{rise}
use Rattle.mf_audit_laws.proofs.FoundLemmas.{Keeps}
use Rattle.mf_audit_laws.proofs.MemberLemmas.{contains_first, contains_none, contains_cases}
use Rattle.mf_audit_laws.proofs.MemberLemmas.{each_within, one_of_key, same_rising}
use Rattle.mf_audit_laws.proofs.NextLemmas.{is_after}
use Rattle.mf_audit_laws.proofs.WalkLemmas.{Walk, all_stand, walk_each, walk_weaker}

-- the row of a receipt that an entry's row carries
abbrev carrying : EntryRow → List ℕ → ReceiptRow
carrying e receipt = record { office = e.office; receipt = receipt; loan = e.loan; seq = e.seq }

-- what holds of whatever receipts rows of entries carry
one_carried : (P : ReceiptRow → Type 0) (e : EntryRow) (o : Option (List ℕ)) → ((receipt : List ℕ)
    → P (carrying e receipt)) → AllByRecursion P (receipt_of e o)
one_carried P e None each = tt
one_carried P e (Some receipt) each = (each receipt, tt)

all_carried : (P : ReceiptRow → Type 0) (es : List EntryRow)
    → AllByRecursion (λ (e : EntryRow). (receipt : List ℕ) → P (carrying e receipt)) es
    → AllByRecursion P (carried_by es)
all_carried P [] each = tt
all_carried P (e ∷ es) each =
    all-append P (receipt_of e e.receipt) (carried_by es) (one_carried P e e.receipt each.0) (all_carried P es each.1)

-- the receipts that rows carry are listed, where those of each are
carried_listed : (receipts : List ReceiptRow) (es : List EntryRow)
    → AllByRecursion (λ (e : EntryRow). AreListed receipts (receipt_of e e.receipt)) es
    → AllByRecursion (λ r. Contains receipts r) (carried_by es)
carried_listed receipts [] each = tt
carried_listed receipts (e ∷ es) each =
    all-append (λ r. Contains receipts r) (receipt_of e e.receipt) (carried_by es)
    (each_within (receipt_of e e.receipt) receipts each.0) (carried_listed receipts es each.1)

-- a row that one of the rows carries
in_carried : (es : List EntryRow) (e : EntryRow) (r : ReceiptRow) → Contains es e
    → Contains (receipt_of e e.receipt) r → Contains (carried_by es) r
in_carried [] e r at own = absurd (contains_none e at)
in_carried (f ∷ es) e r at own =
    elim (contains_cases f e es at) [
      | inl same ↦ first_part (receipt_of f f.receipt) (carried_by es)
          (subst (λ (g : EntryRow). Contains (receipt_of g g.receipt) r) (sym same) own)
      | inr further ↦ later_part (receipt_of f f.receipt) (carried_by es) (in_carried es e r further own)
    ]
  where
    first_part : (xs ys : List ReceiptRow) → Contains xs r → Contains (xs ++ ys) r
    first_part xs ys there = Contains-append_left xs ys r there

    later_part : (xs ys : List ReceiptRow) → Contains ys r → Contains (xs ++ ys) r
    later_part xs ys there = Contains-append_right xs ys r there

-- ---- no key comes twice

not_itself : (a b c d e f : ℕ) → a ≡ b → c ≡ d → e ≡ f
    → ordering_then (nat_cmp a b) (ordering_then (nat_cmp c d) (nat_cmp e f)) ≡ Less → ⊥
not_itself a b c d e f p q r less = grind (arith, nat_tests)

module _ (receipts : List ReceiptRow) (up : IsAscending (λ a b. by_receipt a b ≡ Less) receipts) where
  -- an entry's receipt is not that of a later entry
  apart : (e : EntryRow) (receipt : List ℕ) (b : ReceiptRow) → Contains receipts (carrying e receipt)
      → Contains receipts b
      → ordering_then (nat_cmp e.office b.office) (ordering_then (nat_cmp e.loan b.loan) (nat_cmp e.seq b.seq)) ≡ Less
      → is_eq (by_receipt (carrying e receipt) b) ≡ false
  apart e receipt b here there less = go (by_receipt (carrying e receipt) b) refl
    where
      go : (o : Ordering) → by_receipt (carrying e receipt) b ≡ o → is_eq o ≡ false
      go Less tied = refl
      go Greater tied = refl
      go Equal tied =
          let same : carrying e receipt ≡ b =
          one_of_key by_receipt by_receipt_total receipts (carrying e receipt) b up here there tied in
          let office : e.office ≡ b.office = ap (λ (r : ReceiptRow). r.office) same in
          let loan : e.loan ≡ b.loan = ap (λ (r : ReceiptRow). r.loan) same in
          let seq : e.seq ≡ b.seq = ap (λ (r : ReceiptRow). r.seq) same in
          absurd (not_itself e.office b.office e.loan b.loan e.seq b.seq office loan seq less)

  -- rows of entries that rise carry no receipt twice
  no_ties : (es : List EntryRow) → IsAscending (λ a b. by_entry a b ≡ Less) es
      → AllByRecursion (λ (e : EntryRow). AreListed receipts (receipt_of e e.receipt)) es
      → IsAscending (λ a b. is_eq (by_receipt a b) ≡ false) (carried_by es)
  no_ties [] rises listed = tt
  no_ties (e ∷ es) rises listed =
      let keys = all_carried (λ (b : ReceiptRow). ordering_then (nat_cmp e.office b.office)
      (ordering_then (nat_cmp e.loan b.loan) (nat_cmp e.seq b.seq)) ≡ Less) es
      (all_weaker (λ f. by_entry e f ≡ Less) _ (λ f less receipt. less) es rises.0) in
      let others = carried_listed receipts es listed.1 in
      ascending-append (λ a b. is_eq (by_receipt a b) ≡ false) (receipt_of e e.receipt) (carried_by es)
      (alone e.receipt) (no_ties es rises.1 listed.1) (first_apart e.receipt listed.0 keys others)
    where
      alone : (o : Option (List ℕ)) → IsAscending (λ a b. is_eq (by_receipt a b) ≡ false) (receipt_of e o)
      alone None = tt
      alone (Some receipt) = (tt, tt)

      first_apart : (o : Option (List ℕ)) → AreListed receipts (receipt_of e o)
          → AllByRecursion (λ (b : ReceiptRow). ordering_then (nat_cmp e.office b.office)
          (ordering_then (nat_cmp e.loan b.loan) (nat_cmp e.seq b.seq)) ≡ Less) (carried_by es)
          → AllByRecursion (λ r. Contains receipts r) (carried_by es)
          → AllByRecursion (λ a. AllByRecursion (λ b. is_eq (by_receipt a b) ≡ false) (carried_by es)) (receipt_of e o)
      first_apart None own keys others = tt
      first_apart (Some receipt) own keys others = (
        all_both _ _ _ (λ b less there. apart e receipt b (own (carrying e receipt) (contains_first _ [])) there less)
            (carried_by es) keys others,
        tt,
      )

-- ---- the rows of receipts are those that entries carry

pub receipts_of : (receipts : List ReceiptRow) (entries : List EntryRow)
    → IsAscending (λ a b. by_entry a b ≡ Less) entries
    → AllByRecursion (λ (e : EntryRow). AreListed receipts (receipt_of e e.receipt)) entries
    → IsAscending (λ a b. by_receipt a b ≡ Less) receipts
    → AllByRecursion (λ r. Contains (carried_by entries) r) receipts → AreReceiptsOf receipts entries
receipts_of receipts entries rises listed up carried =
    let all = carried_by entries in
    let sorted = IsPermutation-sym (sort_by by_receipt all) all
    (IsPermutation-sort_by by_receipt by_receipt_total all) in
    record {
      in_order = ascending_weaker (λ a b. by_receipt a b ≡ Less) _ (λ a b less. ap is_lt less) receipts up;
      rows_are = same_rising by_receipt by_receipt_total (sort_by by_receipt all) receipts
          (rises_sorted by_receipt by_receipt_total all (no_ties receipts up entries rises listed)) up
          (all-permutation (λ r. Contains receipts r) all (sort_by by_receipt all) sorted
          (carried_listed receipts entries listed))
          (all_weaker (λ r. Contains all r) (λ r. Contains (sort_by by_receipt all) r)
          (λ r at. Contains-permutation all (sort_by by_receipt all) r sorted at) receipts carried);
    }

receipt_is : (entries : List EntryRow) (before : Option ReceiptRow) (row : ReceiptRow)
    → Keeps receipt_flaws (BreaksReceipt entries) before row → ¬ ¬ Contains (carried_by entries) row
receipt_is entries before row (order, (entry, rest)) fails =
    entry (λ e at own. fails (in_carried entries e row at own))

pub receipts_are : (receipts : List ReceiptRow) (entries : List EntryRow)
    → IsAscending (λ a b. by_entry a b ≡ Less) entries
    → AllByRecursion (λ (e : EntryRow). AreListed receipts (receipt_of e e.receipt)) entries
    → Walk (Keeps receipt_flaws (BreaksReceipt entries)) None receipts → ¬ ¬ AreReceiptsOf receipts entries
receipts_are receipts entries rises listed walk fails =
    all_stand (λ r. Contains (carried_by entries) r) receipts
    (walk_each (Keeps receipt_flaws (BreaksReceipt entries)) _ (receipt_is entries) None receipts walk)
    (λ carried. fails (receipts_of receipts entries rises listed
    (rise by_receipt by_receipt_total receipts (walk_weaker (Keeps receipt_flaws (BreaksReceipt entries))
    (IsAfter by_receipt) (λ b r keeps. is_after by_receipt b r keeps.0) None receipts walk)) carried))
