-- The lines by portion come to what the books have.
use Rattle.std.proofs.Common.{◌≡◌, ◌≤◌, ◌+◌, ℕ, Bool, true, false, cond, List, [], ◌∷◌, refl, sym, ap, ◌∙◌, arith, map}
use Rattle.std.specs.Prelude.{◌==◌, nat_le, filter, ℤ, pos, ◌+ℤ◌, neg_ℤ, slice_index, sum_by}
use Rattle.std.proofs.lemmas.Int.{ints}
use Rattle.std.proofs.lemmas.List.Sums.{sum_by-cons}
use Rattle.mf_account.specs.declared.balances.Balances.{Balances}
use Rattle.mf_model.specs.Accounts.{balances_in}
use Rattle.mf_model.specs.Institution.{Institution, Catalogue, Ledger, Office}
use Rattle.mf_model.specs.Run.{Line, next}
use Rattle.mf_model.specs.Sound.{AreInRange, IsSound}
use Rattle.mf_model.proofs.SoundLemmas.{next_sound}
use Rattle.mf_ledger.specs.Books.{signed_sum, sums_in}
use Rattle.mf_ledger.specs.Opening.{opening_on, sums_of_product, product_numbers, office_opening}
use Rattle.mf_ledger.specs.Runs.{Selection, where_meant, at_end_of, balance, between, posted, posted_by, transactions}
use Rattle.mf_ledger.specs.declared.books.LoanSums.{LoanSums}
use Rattle.mf_ledger.specs.declared.books.Title.{Title}
use Rattle.mf_ledger.specs.declared.books.Title.TheVariants as title
use Rattle.mf_ledger.proofs.OpeningLemmas.{opening_is, sum-flat, each-same}
use Rattle.mf_ledger.proofs.RunBooks.{day_end, spans_meet}
use Rattle.mf_portions.specs.Portions.{balances_of_product, lines_of_some, office_lines, portion_lines}
use Rattle.mf_portions.specs.Ties.{come_to, earned, left, line_meant, lost}
use Rattle.mf_portions.specs.declared.lines.Heading.{Heading}
use Rattle.mf_portions.specs.declared.lines.Heading.TheVariants as heading
use Rattle.mf_portions.specs.declared.lines.PortionLine.{PortionLine}

-- the sums of a loan that the books read
abbrev sums_by_portion : LoanSums → Balances
sums_by_portion s = s.balances

-- what the books add up is what a line adds up
added : (f : Balances → ℕ) (loans : List LoanSums)
    → signed_sum (λ (s : LoanSums). pos (f s.balances)) loans ≡ pos (sum_by f (map sums_by_portion loans))
added f [] = refl
added f (s ∷ loans) =
    let rest = added f loans in
    let all = sum_by-cons f s.balances (map sums_by_portion loans) in
    omega (arith, ints, rest, all)

earned_so : (f : Balances → ℕ) (loans : List LoanSums)
    → signed_sum (λ (s : LoanSums). neg_ℤ (pos (f s.balances))) loans
    ≡ neg_ℤ (pos (sum_by f (map sums_by_portion loans)))
earned_so f [] = refl
earned_so f (s ∷ loans) =
    let rest = earned_so f loans in
    let all = sum_by-cons f s.balances (map sums_by_portion loans) in
    omega (arith, ints, rest, all)

-- the loans of a product are the same
same_loans : (k : Catalogue) (product : ℕ) (ls : List Ledger)
    → balances_of_product k product ls ≡ map sums_by_portion (sums_of_product k product ls)
same_loans k product [] = refl
same_loans k product (l ∷ ls) = go (l.loan.product == product) (same_loans k product ls)
  where
    go : (b : Bool) → balances_of_product k product ls ≡ map sums_by_portion (sums_of_product k product ls)
        → map (balances_in k) (cond b (l ∷ filter (λ (x : Ledger). x.loan.product == product) ls)
        (filter (λ (x : Ledger). x.loan.product == product) ls))
        ≡ map sums_by_portion (map (sums_in k)
        (cond b (l ∷ filter (λ (x : Ledger). x.loan.product == product) ls)
        (filter (λ (x : Ledger). x.loan.product == product) ls)))
    go true rest = ap (λ bs. balances_in k l ∷ bs) rest
    go false rest = rest

-- nothing is posted of no loans
none_posted : (b : Bool) → pos 0 ≡ where_meant b (pos 0)
none_posted true = refl
none_posted false = refl

module _ (meant : Selection) (office product : ℕ) where
  -- of the loans of one office and product
  pub outstanding_there : (loans : List LoanSums)
      → come_to heading.Principal left meant (lines_of_some office product (map sums_by_portion loans))
      ≡ signed_sum (posted_by title.Principal meant) (opening_on office product loans)
  outstanding_there [] = let none = none_posted (meant office product) in omega (arith, ints, none)
  outstanding_there (s ∷ loans) =
      let all = ap (where_meant (meant office product))
      (added (λ (b : Balances). slice_index b.outstanding 3) (s ∷ loans)) in
      omega (arith, ints, all)

  pub lost_there : (loans : List LoanSums)
      → come_to heading.Principal lost meant (lines_of_some office product (map sums_by_portion loans))
      ≡ signed_sum (posted_by title.WrittenOff meant) (opening_on office product loans)
  lost_there [] = let none = none_posted (meant office product) in omega (arith, ints, none)
  lost_there (s ∷ loans) =
      let all = ap (where_meant (meant office product))
      (added (λ (b : Balances). slice_index b.written_off 3) (s ∷ loans)) in
      omega (arith, ints, all)

  pub interest_there : (loans : List LoanSums)
      → come_to heading.Interest earned meant (lines_of_some office product (map sums_by_portion loans))
      ≡ signed_sum (posted_by title.Interest meant) (opening_on office product loans)
  interest_there [] = let none = none_posted (meant office product) in omega (arith, ints, none)
  interest_there (s ∷ loans) =
      let all = ap (where_meant (meant office product))
      (earned_so (λ (b : Balances). slice_index b.paid 2) (s ∷ loans)) in
      omega (arith, ints, all)

  pub fees_there : (loans : List LoanSums)
      → come_to heading.Fees earned meant (lines_of_some office product (map sums_by_portion loans))
      ≡ signed_sum (posted_by title.Fees meant) (opening_on office product loans)
  fees_there [] = let none = none_posted (meant office product) in omega (arith, ints, none)
  fees_there (s ∷ loans) =
      let all = ap (where_meant (meant office product))
      (earned_so (λ (b : Balances). slice_index b.paid 1) (s ∷ loans)) in
      omega (arith, ints, all)

  pub penalties_there : (loans : List LoanSums)
      → come_to heading.Penalties earned meant (lines_of_some office product (map sums_by_portion loans))
      ≡ signed_sum (posted_by title.Penalties meant) (opening_on office product loans)
  penalties_there [] = let none = none_posted (meant office product) in omega (arith, ints, none)
  penalties_there (s ∷ loans) =
      let all = ap (where_meant (meant office product))
      (earned_so (λ (b : Balances). slice_index b.paid 0) (s ∷ loans)) in
      omega (arith, ints, all)

  pub kept_there : (loans : List LoanSums)
      → come_to heading.Kept earned meant (lines_of_some office product (map sums_by_portion loans))
      ≡ signed_sum (posted_by title.DisbursementFees meant) (opening_on office product loans)
  kept_there [] = let none = none_posted (meant office product) in omega (arith, ints, none)
  kept_there (s ∷ loans) =
      let all = ap (where_meant (meant office product))
      (earned_so (λ (b : Balances). b.disbursement_fee) (s ∷ loans)) in
      omega (arith, ints, all)

module _ (t : Title) (h : Heading) (read : PortionLine → ℤ) (meant : Selection)
    (there : (office product : ℕ) (loans : List LoanSums)
    → come_to h read meant (lines_of_some office product (map sums_by_portion loans))
    ≡ signed_sum (posted_by t meant) (opening_on office product loans)) where
  office_same : (k : Catalogue) (f : Office)
      → come_to h read meant (office_lines k f) ≡ signed_sum (posted_by t meant) (office_opening k f)
  office_same k f =
      sum-flat (line_meant h read meant)
      (λ product. lines_of_some f.number product (balances_of_product k product f.rows.loans)) (product_numbers k)
      ∙ each-same
      (λ product. come_to h read meant (lines_of_some f.number product (balances_of_product k product f.rows.loans)))
      (λ product. signed_sum (posted_by t meant)
      (opening_on f.number product (sums_of_product k product f.rows.loans)))
      (λ product. ap (λ bs. come_to h read meant (lines_of_some f.number product bs))
      (same_loans k product f.rows.loans) ∙ there f.number product (sums_of_product k product f.rows.loans))
      (product_numbers k)
      ∙ sym (sum-flat (posted_by t meant)
      (λ product. opening_on f.number product (sums_of_product k product f.rows.loans)) (product_numbers k))

  pub lines_come_to : (i : Institution) → IsSound i
      → come_to h read meant (portion_lines i) ≡ balance t meant i
  lines_come_to i sound =
      sum-flat (line_meant h read meant) (office_lines i.catalogue) i.offices
      ∙ each-same (λ f. come_to h read meant (office_lines i.catalogue f))
      (λ f. signed_sum (posted_by t meant) (office_opening i.catalogue f)) (office_same i.catalogue) i.offices
      ∙ sym (sum-flat (posted_by t meant) (office_opening i.catalogue) i.offices)
      ∙ opening_is t meant i sound

  -- at the end of a day the institution is sound
  sound_then : (day : ℕ) (lines : List Line) (i : Institution) → IsSound i → AreInRange lines
      → IsSound (at_end_of day lines i)
  sound_then day [] i s r = s
  sound_then day (l ∷ ls) i s r =
      go (nat_le i.catalogue.day day) (sound_then day ls (next l i) (next_sound l i s r.0) r.1)
    where
      go : (b : Bool) → IsSound (at_end_of day ls (next l i)) → IsSound (cond b (at_end_of day ls (next l i)) i)
      go true rest = rest
      go false rest = s

  pub movement_is : (i : Institution) (lines : List Line) (n day last : ℕ) → IsSound i → AreInRange lines → day ≤ last
      → come_to h read meant (portion_lines (at_end_of last lines i))
      ≡ come_to h read meant (portion_lines (at_end_of day lines i))
      +ℤ posted t meant (between (day + 1) last (transactions n lines i))
  movement_is i lines n day last s r low =
      let then = lines_come_to (at_end_of last lines i) (sound_then last lines i s r) in
      let before = lines_come_to (at_end_of day lines i) (sound_then day lines i s r) in
      let up = day_end t meant last lines n i s r in
      let up_before = day_end t meant day lines n i s r in
      let spans = spans_meet t meant 0 day last (transactions n lines i) (omega arith) low in
      omega (arith, ints, then, before, up, up_before, spans)
