-- What the passing of days adds.
use Rattle.std.proofs.Common.{◌≡◌, ◌≤◌, ℕ, zero, suc, ◌+◌, ◌-◌, Bool, true, false, cond, List, [], ◌∷◌, ◌++◌, map, take}
use Rattle.std.proofs.Common.{length, Some, Ok, refl, sym, ap, ap₂, ◌∙◌, arith, append-nil, append_assoc}
use Rattle.std.specs.Prelude.{◌&&◌, nat_le, slice_get}
use Rattle.std.specs.List.{flat_map, range_with_len}
use Rattle.std.proofs.Math.Seq.{take-length}
use Rattle.std.proofs.lemmas.Bool.Decides.{nat_tests}
use Rattle.std.proofs.lemmas.Grind.{flat_map-append}
use Rattle.std.proofs.lemmas.List.{length-map, map-append}
use Rattle.mf_office.specs.declared.account.Account.{Account}
use Rattle.mf_ledger.specs.Accrual.{accrued_in, adjusting_between, due_of_loans, due_on}
use Rattle.mf_ledger.specs.Runs.{between}
use Rattle.mf_ledger.specs.declared.accrual.AccruedSums.{AccruedSums}
use Rattle.mf_ledger.specs.declared.basis.Basis.TheVariants.{Cash, Accrual}
use Rattle.mf_ledger.specs.declared.books.Transaction.{Transaction}
use Rattle.mf_ledger.specs.declared.occasion.Occasion.{Occasion}
use Rattle.mf_model.specs.Institution.{Catalogue, Institution, Ledger, Office}
use Rattle.mf_model.specs.Store.{Reads}
use Rattle.mf_model.specs.declared.store.InstitutionStore.{Ghosts}
use Rattle.mf_ledger_play.specs.Due.{all_loans, held_of, loan_due, numbered, passed_of}
use Rattle.mf_ledger_play.specs.Playing.{AddsPassed, Holds}
use Rattle.mf_ledger_play.specs.Told.{form_booked, form_text, span_text}
use Rattle.mf_ledger_play.specs.declared.form.BooksAsked.{BooksAsked}
use Rattle.mf_ledger_play.specs.declared.held.HeldLoan.{HeldLoan}
use Rattle.mf_ledger_play.proofs.RunLemmas.{span_text_parted}

-- ---- a loan on a day

abbrev pub occasion : ℕ → ℕ → HeldLoan → Occasion
occasion n day h = record { day = day; number = n; loan = Some h.loan }

pub loan_written : (asked : BooksAsked) (n before day : ℕ) (k : Catalogue) (x : Account × Ledger) (h : HeldLoan)
    (first then : AccruedSums) (was now : List ℕ) → before ≡ day - 1 → h ≡ held_of k x
    → first ≡ accrued_in before k x.1 → then ≡ accrued_in day k x.1
    → now ≡ was ++ form_booked asked.form asked.names (occasion n day h)
    (adjusting_between h.loan.office h.product first then)
    → now ≡ was ++ form_text asked.form asked.names (loan_due n day k x)
loan_written asked n before day k x h first then was now yesterday is first_is then_is written =
    written
    ∙ ap (λ (g : HeldLoan). was ++ form_booked asked.form asked.names (occasion n day g)
    (adjusting_between g.loan.office g.product first then)) is
    ∙ ap₂ (λ s t. was ++ form_booked asked.form asked.names (occasion n day (held_of k x))
    (adjusting_between x.0.office x.1.loan.product s t))
    (first_is ∙ ap (λ d. accrued_in d k x.1) yesterday) then_is

-- ---- loans on a day

-- the loan that is held at a place
held_at : (k : Catalogue) (xs : List (Account × Ledger)) (place : ℕ) (h : HeldLoan)
    → slice_get (map (held_of k) xs) place ≡ Some h
    → (x : Account × Ledger) × (slice_get xs place ≡ Some x) × (h ≡ held_of k x)
held_at k [] place h there = cc
held_at k (x ∷ xs) zero h there = let same : held_of k x ≡ h = cc in (x, refl, sym same)
held_at k (x ∷ xs) (suc place) h there = held_at k xs place h there

loan_taken : (xs : List (Account × Ledger)) (place : ℕ) (x : Account × Ledger) → slice_get xs place ≡ Some x
    → take place xs ++ x ∷ [] ≡ take (suc place) xs
loan_taken [] place x there = cc
loan_taken (y ∷ ys) zero x there = let same : y ≡ x = cc in ap (λ z. z ∷ []) (sym same)
loan_taken (y ∷ ys) (suc place) x there = ap (λ zs. y ∷ zs) (loan_taken ys place x there)

module _ (asked : BooksAsked) (n before day : ℕ) where
  -- what is due of the first loans that are held, as many as this, is written
  abbrev pub LoansWritten : List HeldLoan → ℕ → List ℕ → List ℕ → Type 0
  LoansWritten held place was now = (k : Catalogue) (xs : List (Account × Ledger)) → before ≡ day - 1
      → held ≡ map (held_of k) xs
      → now ≡ was ++ flat_map (form_text asked.form asked.names) (map (loan_due n day k) (take place xs))

  pub loans_none : (held : List HeldLoan) (was : List ℕ) → LoansWritten held 0 was was
  loans_none held was k xs yesterday are =
      sym (append-nil was) ∙ ap (λ ys. was ++ flat_map (form_text asked.form asked.names) (map (loan_due n day k) ys))
      (sym (none xs))
    where
      none : (ys : List (Account × Ledger)) → take 0 ys ≡ []
      none [] = refl
      none (y ∷ ys) = refl

  pub loans_more : (held : List HeldLoan) (place : ℕ) (h : HeldLoan) (was text now : List ℕ)
      → slice_get held place ≡ Some h → LoansWritten held place was text
      → ((k : Catalogue) (x : Account × Ledger) → before ≡ day - 1 → h ≡ held_of k x
      → now ≡ text ++ form_text asked.form asked.names (loan_due n day k x))
      → LoansWritten held (place + 1) was now
  loans_more held place h was text now there so one k xs yesterday are =
      let write = form_text asked.form asked.names in
      let at = held_at k xs place h (ap (λ hs. slice_get hs place) (sym are) ∙ there) in
      let x = at.0 in
      let first = take place xs in
      let step : suc place ≡ place + 1 = omega arith in
      one k x yesterday at.2 ∙ ap (λ text. text ++ write (loan_due n day k x)) (so k xs yesterday are)
      ∙ append_assoc was (flat_map write (map (loan_due n day k) first)) (write (loan_due n day k x))
      ∙ ap (λ text. was ++ (flat_map write (map (loan_due n day k) first) ++ text))
      (sym (append-nil (write (loan_due n day k x))))
      ∙ ap (λ text. was ++ text) (sym (flat_map-append write (map (loan_due n day k) first) (loan_due n day k x ∷ [])))
      ∙ ap (λ ts. was ++ flat_map write ts) (sym (map-append (loan_due n day k) first (x ∷ [])))
      ∙ ap (λ ys. was ++ flat_map write (map (loan_due n day k) ys))
      (loan_taken xs place x at.1 ∙ ap (λ p. take p xs) step)

  pub loans_all : (held : List HeldLoan) (place : ℕ) (was now : List ℕ) → length held ≡ place
      → LoansWritten held place was now → (k : Catalogue) (xs : List (Account × Ledger)) → before ≡ day - 1
      → held ≡ map (held_of k) xs
      → now ≡ was ++ flat_map (form_text asked.form asked.names) (map (loan_due n day k) xs)
  loans_all held place was now all so k xs yesterday are =
      let size = ap length are ∙ length-map xs (held_of k) in
      so k xs yesterday are
      ∙ ap (λ ys. was ++ flat_map (form_text asked.form asked.names) (map (loan_due n day k) ys))
      (ap (λ p. take p xs) (sym all ∙ size) ∙ take-length xs)

-- ---- whether a day is asked for

module _ (first last n day : ℕ) (k : Catalogue) where
  pub all_asked : (nat_le first day && nat_le day last) ≡ true → (xs : List (Account × Ledger))
      → between first last (map (loan_due n day k) xs) ≡ map (loan_due n day k) xs
  all_asked within [] = refl
  all_asked within (x ∷ xs) =
      ap (λ b. cond b (loan_due n day k x ∷ between first last (map (loan_due n day k) xs))
      (between first last (map (loan_due n day k) xs))) within
      ∙ ap (λ ts. loan_due n day k x ∷ ts) (all_asked within xs)

  pub none_asked : (nat_le first day && nat_le day last) ≡ false → (xs : List (Account × Ledger))
      → between first last (map (loan_due n day k) xs) ≡ []
  none_asked outside [] = refl
  none_asked outside (x ∷ xs) =
      ap (λ b. cond b (loan_due n day k x ∷ between first last (map (loan_due n day k) xs))
      (between first last (map (loan_due n day k) xs))) outside
      ∙ none_asked outside xs

pub day_written : (asked : BooksAsked) (n day : ℕ) (k : Catalogue) (xs : List (Account × Ledger)) (was now : List ℕ)
    → (nat_le asked.first day && nat_le day asked.last) ≡ true
    → now ≡ was ++ flat_map (form_text asked.form asked.names) (map (loan_due n day k) xs)
    → now ≡ was ++ span_text asked (map (loan_due n day k) xs)
day_written asked n day k xs was now within written =
    written ∙ ap (λ ts. was ++ flat_map (form_text asked.form asked.names) ts)
    (sym (all_asked asked.first asked.last n day k within xs))

pub day_left : (asked : BooksAsked) (n day : ℕ) (k : Catalogue) (xs : List (Account × Ledger)) (text : List ℕ)
    → (nat_le asked.first day && nat_le day asked.last) ≡ false
    → text ≡ text ++ span_text asked (map (loan_due n day k) xs)
day_left asked n day k xs text outside =
    sym (append-nil text) ∙ ap (λ ts. text ++ flat_map (form_text asked.form asked.names) ts)
    (sym (none_asked asked.first asked.last n day k outside xs))

-- ---- day after day

-- what is due on days
abbrev due_on_days : ℕ → Catalogue → List (Account × Ledger) → List ℕ → List Transaction
due_on_days n k xs days = flat_map (λ day. map (loan_due n day k) xs) days

range_more : (a count : ℕ) → range_with_len a count ++ (a + count) ∷ [] ≡ range_with_len a (suc count)
range_more a zero = let same : a + zero ≡ a = omega arith in ap (λ m. m ∷ []) same
range_more a (suc count) =
    let same : a + suc count ≡ (a + 1) + count = omega arith in
    ap (λ ms. a ∷ ms) (ap (λ m. range_with_len (a + 1) count ++ m ∷ []) same ∙ range_more (a + 1) count)

module _ (asked : BooksAsked) (n since : ℕ) where
  -- what is due on the first days behind one, as many as this, is written
  abbrev pub DaysWritten : List HeldLoan → ℕ → List ℕ → List ℕ → Type 0
  DaysWritten held count was now = (k : Catalogue) (xs : List (Account × Ledger)) → held ≡ map (held_of k) xs
      → now ≡ was ++ span_text asked (flat_map (λ day. map (loan_due n day k) xs) (range_with_len (since + 1) count))

  pub days_none : (held : List HeldLoan) (was : List ℕ) → DaysWritten held 0 was was
  days_none held was k xs are = sym (append-nil was)

  pub days_more : (held : List HeldLoan) (count before day : ℕ) (was text now : List ℕ) → before ≡ since + count
      → day ≡ since + count + 1 → DaysWritten held count was text
      → ((k : Catalogue) (xs : List (Account × Ledger)) → before ≡ day - 1 → held ≡ map (held_of k) xs
      → now ≡ text ++ span_text asked (map (loan_due n day k) xs))
      → DaysWritten held (count + 1) was now
  days_more held count before day was text now before_is day_is so one k xs are =
      let first = due_on_days n k xs (range_with_len (since + 1) count) in
      let last = map (loan_due n day k) xs in
      let yesterday : before ≡ day - 1 = omega (arith, before_is, day_is) in
      let its : day ≡ (since + 1) + count = omega (arith, day_is) in
      let step : suc count ≡ count + 1 = omega arith in
      one k xs yesterday are ∙ ap (λ text. text ++ span_text asked last) (so k xs are)
      ∙ append_assoc was (span_text asked first) (span_text asked last)
      ∙ ap (λ text. was ++ text) (sym (span_text_parted asked first last))
      ∙ ap (λ ts. was ++ span_text asked (first ++ ts)) (sym (append-nil last))
      ∙ ap (λ ts. was ++ span_text asked ts) (sym (flat_map-append (λ d. map (loan_due n d k) xs)
      (range_with_len (since + 1) count) (day ∷ [])))
      ∙ ap (λ ds. was ++ span_text asked (due_on_days n k xs ds))
      (ap (λ d. range_with_len (since + 1) count ++ d ∷ []) its ∙ range_more (since + 1) count
      ∙ ap (range_with_len (since + 1)) step)

-- days of which none is asked for
pub none_due : (asked : BooksAsked) (n : ℕ) (k : Catalogue) (xs : List (Account × Ledger)) (first count : ℕ)
    → ((day : ℕ) → first ≤ day → day + 1 ≤ first + count → (nat_le asked.first day && nat_le day asked.last) ≡ false)
    → span_text asked (due_on_days n k xs (range_with_len first count)) ≡ []
none_due asked n k xs first zero outside = refl
none_due asked n k xs first (suc count) outside =
    span_text_parted asked (map (loan_due n first k) xs) (due_on_days n k xs (range_with_len (first + 1) count))
    ∙ ap₂ (λ ts text. flat_map (form_text asked.form asked.names) ts ++ text)
    (none_asked asked.first asked.last n first k (outside first (omega arith) (omega arith)) xs)
    (none_due asked n k xs (first + 1) count (λ day low high. outside day (omega (arith, low)) (omega (arith, high))))

-- a day is not asked for, where that leads to nothing
pub not_asked : (first last day : ℕ) → (first ≤ day → day ≤ last → ⊥) → (nat_le first day && nat_le day last) ≡ false
not_asked first last day never = go (nat_le first day) refl (nat_le day last) refl
  where
    go : (a : Bool) → nat_le first day ≡ a → (b : Bool) → nat_le day last ≡ b
        → (nat_le first day && nat_le day last) ≡ false
    go false e b f = ap (λ c. c && nat_le day last) e
    go true e false f = ap₂ ◌&&◌ e f
    go true e true f = absurd (never (grind (arith, nat_tests, e)) (grind (arith, nat_tests, f)))

-- ---- what falls due in an institution

loans_due : (n day : ℕ) (k : Catalogue) (office m : ℕ) (ls : List Ledger)
    → due_of_loans n day k office m ls ≡ map (loan_due n day k) (numbered office m ls)
loans_due n day k office m [] = refl
loans_due n day k office m (l ∷ ls) =
    ap (λ ts. loan_due n day k (record { office = office; number = m }, l) ∷ ts) (loans_due n day k office (m + 1) ls)

offices_due : (n day : ℕ) (k : Catalogue) (fs : List Office)
    → flat_map (λ (f : Office). due_of_loans n day k f.number 1 f.rows.loans) fs
    ≡ map (loan_due n day k) (flat_map (λ (f : Office). numbered f.number 1 f.rows.loans) fs)
offices_due n day k [] = refl
offices_due n day k (f ∷ fs) =
    ap₂ ◌++◌ (loans_due n day k f.number 1 f.rows.loans) (offices_due n day k fs)
    ∙ sym (map-append (loan_due n day k) (numbered f.number 1 f.rows.loans)
    (flat_map (λ (g : Office). numbered g.number 1 g.rows.loans) fs))

days_due : (n : ℕ) (i : Institution) (days : List ℕ)
    → due_on_days n i.catalogue (all_loans i) days ≡ flat_map (due_on n i) days
days_due n i [] = refl
days_due n i (d ∷ ds) = ap₂ ◌++◌ (sym (offices_due n d i.catalogue i.offices)) (days_due n i ds)

-- ---- what is added to a line

module _ {S : Type 0} (store : Ghosts S) (asked : BooksAsked) (n since : ℕ) where
  -- on a cash basis
  pub nothing_added : (text : List ℕ) (old : S) → asked.basis ≡ Cash → AddsPassed store asked n since text text old old
  nothing_added text old is = record {
    premise = λ k. k;
    same = λ k i s. s;
    text = λ k i s. sym (append-nil text)
        ∙ ap (λ b. text ++ span_text asked (passed_of b n since i)) (sym is);
  }

  -- where no day is asked for
  pub none_added : (today : ℕ) (text : List ℕ) (old new : S) → asked.basis ≡ Accrual
      → Reads store.stands store.clean store.leaves (λ i. i.catalogue.day) old new (Ok today)
      → ((day : ℕ) → since + 1 ≤ day → day ≤ today → (nat_le asked.first day && nat_le day asked.last) ≡ false)
      → AddsPassed store asked n since text text old new
  none_added today text old new is reads outside = record {
    premise = reads.premise;
    same = reads.same;
    text = λ k i s.
        let now = reads.value_is k i s in
        let count = i.catalogue.day - since in
        sym (append-nil text) ∙ ap (λ more. text ++ more) (sym (
        ap (λ b. span_text asked (passed_of b n since i)) is
        ∙ ap (span_text asked) (sym (days_due n i (range_with_len (since + 1) count)))
        ∙ none_due asked n i.catalogue (all_loans i) (since + 1) count
        (λ day low high. outside day low (omega (arith, now, low, high)))));
  }

  -- where the days were written
  pub days_added : (today : ℕ) (held : List HeldLoan) (was now : List ℕ) (old mid new : S) → asked.basis ≡ Accrual
      → Reads store.stands store.clean store.leaves (λ i. i.catalogue.day) old mid (Ok today)
      → Holds store all_loans [] held mid new
      → ((k : Catalogue) (xs : List (Account × Ledger)) → held ≡ map (held_of k) xs → now ≡ was ++ span_text asked
      (flat_map (λ day. map (loan_due n day k) xs) (range_with_len (since + 1) (today - since))))
      → AddsPassed store asked n since was now old new
  days_added today held was now old mid new is reads holds written = record {
    premise = λ k. reads.premise (holds.premise k);
    same = λ k i s. holds.same k i (reads.same (holds.premise k) i s);
    text = λ k i s.
        let early = holds.premise k in
        let day = reads.value_is early i s in
        written i.catalogue (all_loans i) (holds.held k i (reads.same early i s))
        ∙ ap (λ text. was ++ text) (
        ap (λ d. span_text asked (due_on_days n i.catalogue (all_loans i)
        (range_with_len (since + 1) (d - since)))) day
        ∙ ap (span_text asked) (days_due n i (range_with_len (since + 1) (i.catalogue.day - since)))
        ∙ ap (λ b. span_text asked (passed_of b n since i)) (sym is));
  }
