-- What is skipped by the index of a journal.
use Rattle.std.proofs.Common.{◌≡◌, ◌+◌, ℕ, zero, suc, Bool, true, false, cond, List, [], ◌∷◌, ◌++◌, map, filter, length}
use Rattle.std.proofs.Common.{drop, refl, sym, ap, ◌∙◌, subst, arith}
use Rattle.mf_model.specs.Institution.{JournalLine}
use Rattle.mf_store_journal.specs.Index.{IsNext, index_entry, is_line_sought, is_sought, unsought}
use Rattle.mf_store_journal.specs.declared.index.IndexEntry.{IndexEntry}
use Rattle.mf_store_journal.specs.declared.index.Sought.{Sought}

module _ (s : Sought) where
  nothing_skipped : (rest : List JournalLine) (number : ℕ) → IsNext s rest number (number + 0)
  nothing_skipped rest number =
      record { skipped = []; left = rest; are = refl; none = refl; count = refl }

  -- one more line, sought or not
  one_more : (xs : List IndexEntry) (x : IndexEntry) (l : JournalLine) (ls : List JournalLine) (number : ℕ)
      → index_entry l ≡ x → IsNext s ls number (number + unsought s xs) → (b : Bool) → is_sought s x ≡ b
      → IsNext s (l ∷ ls) number (number + cond b 0 (suc (unsought s xs)))
  one_more xs x l ls number same behind true is = nothing_skipped (l ∷ ls) number
  one_more xs x l ls number same behind false not = record {
    skipped = l ∷ behind.skipped;
    left = behind.left;
    are = ap (λ rest. l ∷ rest) behind.are;
    none = ap (λ b. cond b (l ∷ filter (is_line_sought s) behind.skipped)
        (filter (is_line_sought s) behind.skipped)) (ap (is_sought s) same ∙ not) ∙ behind.none;
    count = let so = behind.count in omega (arith, so);
  }

  skipped_first : (index more : List IndexEntry) (rest : List JournalLine) (number : ℕ)
      → map index_entry rest ≡ index ++ more → IsNext s rest number (number + unsought s index)
  skipped_first [] more rest number are = nothing_skipped rest number
  skipped_first (x ∷ xs) more [] number are = absurd (cc)
  skipped_first (x ∷ xs) more (l ∷ ls) number are =
      let same : index_entry l ≡ x = cc in
      let behind : map index_entry ls ≡ xs ++ more = cc in
      one_more xs x l ls number same (skipped_first xs more ls number behind) (is_sought s x) refl

  pub next_is : (index more : List IndexEntry) (done rest : List JournalLine) (number : ℕ)
      → map index_entry (done ++ rest) ≡ index ++ more
      → IsNext s rest number (number + unsought s (drop (length done) index))
  next_is index more [] rest number are = skipped_first index more rest number are
  next_is [] more (d ∷ ds) rest number are = nothing_skipped rest number
  next_is (x ∷ xs) more (d ∷ ds) rest number are = next_is xs more ds rest number (let k : map index_entry (ds ++ rest)
      ≡ xs ++ more = cc in k)
