-- What is told of an office's changes is read off the lines of the journal that are seen.
use Rattle.std.proofs.Common.{◌≡◌, ℕ, Bool, true, false, List, [], ◌∷◌, refl, sym, ap, subst, ◌∙◌, Option, Some, None}
use Rattle.std.specs.Prelude.{Result, cond, ◌&&◌, ◌==◌, filter, option_map}
use Rattle.std.proofs.lemmas.Bool.{cond-false, eqb-true}
use Rattle.mf_base.specs.declared.fault.Fault.{Fault}
use Rattle.std.specs.List.{filter_map}
use Rattle.mf_office.specs.Tree.{is_at_or_below}
use Rattle.mf_model.specs.Institution.{Catalogue, Institution, JournalLine, Office, Rows, item_numbered, office_at}
use Rattle.mf_model.specs.Outcomes.{where_found, with_found}
use Rattle.mf_model.specs.Tree.{parent_of, seen_office, view}
use Rattle.mf_model.proofs.Views.{seen_office_view}
use Rattle.mf_lists.specs.Changes.{change_lines, changes_after, changes_of_loan, is_line_seen, lines_of_loan}
use Rattle.mf_lists.specs.Changes.{lines_of_office, lines_seen_in, view_with_lines}
use Rattle.mf_lists.specs.Lists.{page}
use Rattle.mf_lists.specs.Readings.{list_seen, loan_changes, office_list}
use Rattle.mf_lists.specs.Takings.{is_of_day, moved, takings_of, takings_on}
use Rattle.mf_lists.specs.declared.answer.ListTold.{ListTold}
use Rattle.mf_lists.specs.declared.answer.ListTold.TheVariants.{ChangeLines, TakingLines}
use Rattle.mf_lists.specs.declared.lines.ChangeLine.{ChangeLine}
use Rattle.mf_lists.specs.declared.request.ListAsked.{ListAsked}
use Rattle.mf_lists.specs.declared.request.ListAsked.TheVariants.{Clients, LoansOf, DueBy, AtStatus, StaffOf, Find}
use Rattle.mf_lists.specs.declared.request.ListAsked.TheVariants.{ChangesOf, Changes, TakingsOn}

first_of : (a b : Bool) → (a && b) ≡ true → a ≡ true
first_of true b e = refl
first_of false b e = absurd (cc)

-- what passes a narrower test passes it among those that pass a wider one
pub filter_within : {A : Type 0} (p q : A → Bool) → ((x : A) → p x ≡ true → q x ≡ true) → (xs : List A)
    → filter p (filter q xs) ≡ filter p xs
filter_within p q wider [] = refl
filter_within {A} p q wider (x ∷ xs) = by (p x) (q x) refl refl (filter_within p q wider xs)
  where
    by : (a b : Bool) → p x ≡ a → q x ≡ b → filter p (filter q xs) ≡ filter p xs
        → filter p (cond b (x ∷ filter q xs) (filter q xs)) ≡ cond a (x ∷ filter p xs) (filter p xs)
    by true true is too rest =
        ap (λ c. cond c (x ∷ filter p (filter q xs)) (filter p (filter q xs))) is ∙ ap (λ zs. x ∷ zs) rest
    by true false is isnt rest = absurd (let passes : q x ≡ true = wider x is in cc)
    by false true isnt is rest =
        ap (λ c. cond c (x ∷ filter p (filter q xs)) (filter p (filter q xs))) isnt ∙ rest
    by false false isnt too rest = rest

module _ (o x : ℕ) (i : Institution) (below : is_at_or_below (parent_of i.offices) x o ≡ true) where
  -- a line that names an office that is seen, is seen
  named_seen : (l : JournalLine) → (l.named_office == x) ≡ true → is_line_seen o i l ≡ true
  named_seen l is =
      subst (λ (n : ℕ). is_at_or_below (parent_of i.offices) n o ≡ true) (sym (eqb-true l.named_office x is)) below

  office_lines_seen : (lines : List JournalLine) → lines_of_office x (filter (is_line_seen o i) lines)
      ≡ lines_of_office x lines
  office_lines_seen lines =
      filter_within (λ (l : JournalLine). l.named_office == x) (is_line_seen o i) named_seen lines

  loan_lines_seen : (loan : ℕ) (lines : List JournalLine) → lines_of_loan x loan (filter (is_line_seen o i) lines)
      ≡ lines_of_loan x loan lines
  loan_lines_seen loan lines =
      filter_within (λ (l : JournalLine). (l.named_office == x) && (l.named_loan == loan)) (is_line_seen o i)
      (λ l is. named_seen l (first_of (l.named_office == x) (l.named_loan == loan) is)) lines

  loan_told : (loan : ℕ) (rows : Rows) (journal : Option (List JournalLine))
      → where_found (lines_seen_in o i journal) (loan_changes x loan rows)
      ≡ where_found journal (loan_changes x loan rows)
  loan_told loan rows None = refl
  loan_told loan rows (Some lines) = ap (λ (ls : List JournalLine).
      with_found (item_numbered rows.loans loan) (λ l. ChangeLines (change_lines ls))) (loan_lines_seen loan lines)

  office_told : (after : ℕ) (journal : Option (List JournalLine))
      → with_found (lines_seen_in o i journal) (λ lines. ChangeLines (changes_after x after lines))
      ≡ with_found journal (λ lines. ChangeLines (changes_after x after lines))
  office_told after None = refl
  office_told after (Some lines) = ap (λ (ls : List JournalLine).
      with_found (Some ls) (λ ls. ChangeLines (page (λ (c : ChangeLine). c.number) 200 after (change_lines ls))))
      (office_lines_seen lines)

  day_lines_seen : (day : ℕ) (lines : List JournalLine) → filter (is_of_day x day) (filter (is_line_seen o i) lines)
      ≡ filter (is_of_day x day) lines
  day_lines_seen day lines =
      filter_within (is_of_day x day) (is_line_seen o i)
      (λ l is. named_seen l (first_of (l.named_office == x) (l.day == day) is)) lines

  takings_told : (day : ℕ) (k : Catalogue) (rows : Rows) (journal : Option (List JournalLine))
      → with_found (lines_seen_in o i journal) (λ lines. TakingLines (takings_on x day k rows lines))
      ≡ with_found journal (λ lines. TakingLines (takings_on x day k rows lines))
  takings_told day k rows None = refl
  takings_told day k rows (Some lines) = ap (λ (ls : List JournalLine).
      with_found (Some ls) (λ ls. TakingLines (takings_of (filter_map (moved k rows) ls)))) (day_lines_seen day lines)

  -- the list of an office that is seen
  told_seen : (folded : List ℕ → List ℕ) (asked : ListAsked) (journal : Option (List JournalLine)) (k : Catalogue)
      (rows : Rows) → office_list folded asked x (lines_seen_in o i journal) k rows
      ≡ office_list folded asked x journal k rows
  told_seen folded (Clients after) journal k rows = refl
  told_seen folded (LoansOf client) journal k rows = refl
  told_seen folded (DueBy day after) journal k rows = refl
  told_seen folded (AtStatus status after) journal k rows = refl
  told_seen folded StaffOf journal k rows = refl
  told_seen folded (Find part) journal k rows = refl
  told_seen folded (ChangesOf loan) journal k rows = loan_told loan rows journal
  told_seen folded (Changes after) journal k rows = office_told after journal
  told_seen folded (TakingsOn day) journal k rows = takings_told day k rows journal

-- the same, whether the office is seen or not
module _ (folded : List ℕ → List ℕ) (asked : ListAsked) (o x : ℕ) (i : Institution) where
  abbrev told_by : Option (List JournalLine) → Office → Result ListTold Fault
  told_by journal f = office_list folded asked x journal i.catalogue f.rows

  where_seen : (b : Bool) → is_at_or_below (parent_of i.offices) x o ≡ b → (found : Option Office)
      → where_found (cond b found None) (told_by (lines_seen_in o i i.journal))
      ≡ where_found (cond b found None) (told_by i.journal)
  where_seen true below None = refl
  where_seen true below (Some f) = told_seen o x i below folded asked i.journal i.catalogue f.rows
  where_seen false above found = refl

  pub by_view : list_seen folded asked o x (view_with_lines o i) ≡ list_seen folded asked o x i
  by_view =
      ap (λ (f : Option Office). where_found f (told_by (lines_seen_in o i i.journal))) (seen_office_view o x i)
      ∙ where_seen (is_at_or_below (parent_of i.offices) x o) refl (office_at x i.offices)
