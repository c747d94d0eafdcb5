-- Where a journal stands by the last row of its table.
use Rattle.std.proofs.Common.{◌≡◌, ◌⊎◌, ℕ, inl, inr, List, [], ◌∷◌, ◌++◌, Option, Some, None, refl, sym, ap, ◌∙◌, subst}
use Rattle.std.specs.Prelude.{option_map}
use Rattle.std.specs.List.{last_or}
use Rattle.sqlite.specs.Order.{Row}
use Rattle.mf_store_sql.specs.Numbered.{Filed, shown_filed}
use Rattle.mf_model.specs.Institution.{JournalLine}
use Rattle.mf_journal.specs.Following.{head_of, line_of}
use Rattle.mf_journal.specs.declared.following.Head.{Head}
use Rattle.mf_journal.specs.declared.following.KeptRow.{KeptRow}
use Rattle.mf_store_journal.specs.Rows.{filed_kept, filed_at, filed_after, head_with, head_with_all, no_line}
use Rattle.mf_store_journal.specs.Rows.{journal_rows_in, IsLineRow}
use Rattle.mf_store_journal.specs.Reading.{IsStanding}
use Rattle.mf_store_journal.specs.declared.reading.Standing.TheVariants.{Nowhere, At, Unreadable}
use Rattle.mf_store_journal.proofs.CheckLemmas.{shown_once}
use Rattle.mf_store_journal.proofs.RowsLemmas.{head_in, head_made}

-- the last of a list, or what was there before it
last_at : {A : Type 0} (o : Option A) (xs : List A) (v : A) → last_or o xs ≡ Some v
    → ((xs ≡ []) × (o ≡ Some v)) ⊎ ((before : List A) × (xs ≡ before ++ v ∷ []))
last_at o [] v is = inl (refl, is)
last_at o (x ∷ xs) v is = elim (last_at (Some x) xs v is) [
  | inl none ↦
      let both : Some x ≡ Some v = none.1 in
      let same : x ≡ v = cc in
      inr ([], ap (λ ys. x ∷ ys) none.0 ∙ ap (λ y. y ∷ []) same)
  | inr some ↦ inr (x ∷ some.0, ap (λ ys. x ∷ ys) some.1)
]

last_none : {A : Type 0} (x : A) (xs : List A) → last_or (Some x) xs ≡ None → ⊥
last_none x [] is = cc
last_none x (y ∷ xs) is = last_none y xs is

-- no row is shown
pub nowhere : (lines : List Filed) → None ≡ option_map shown_filed (last_or None lines) → IsStanding lines Nowhere
nowhere [] is = refl
nowhere (l ∷ ls) is = absurd (last_none l ls (none_of (last_or (Some l) ls) is))
  where
    none_of : (o : Option Filed) → None ≡ option_map shown_filed o → o ≡ None
    none_of None e = refl
    none_of (Some f) e = absurd (cc)

-- the line of the row that is shown
shown_last : (lines : List Filed) (row : Row) → Some row ≡ option_map shown_filed (last_or None lines)
    → (before : List Filed) × (line : Filed) × (lines ≡ before ++ line ∷ []) × (shown_filed line ≡ row)
shown_last lines row is = by (last_or None lines) refl is
  where
    by : (o : Option Filed) → last_or None lines ≡ o → Some row ≡ option_map shown_filed o
        → (before : List Filed) × (line : Filed) × (lines ≡ before ++ line ∷ []) × (shown_filed line ≡ row)
    by None e h = absurd (cc)
    by (Some f) e h = elim (last_at None lines f e) [
      | inl none ↦ let wrong : None ≡ Some f = none.1 in absurd (cc)
      | inr some ↦ (some.0, f, some.1, let same : shown_filed f ≡ row = cc in same)
    ]

-- it is a line's
pub at_line : (lines : List Filed) (row : Row) (k : KeptRow) → Some row ≡ option_map shown_filed (last_or None lines)
    → shown_filed (filed_kept k) ≡ row → IsStanding lines (At (head_of k))
at_line lines row k is shown =
    let last = shown_last lines row is in
    let same = shown_once last.1 (filed_kept k) (last.3 ∙ sym shown) in
    (last.0, line_of k, last.2 ∙ ap (λ f. last.0 ++ f ∷ []) same, refl)

-- no line has its values
pub unreadable : (lines : List Filed) (row : Row) → Some row ≡ option_map shown_filed (last_or None lines)
    → ¬ IsLineRow row → IsStanding lines Unreadable
unreadable lines row is none =
    let last = shown_last lines row is in
    (last.0, last.1, last.2, λ good. none (subst IsLineRow last.3 good))

-- ---- the table of an institution's journal

last_behind : {A : Type 0} (o : Option A) (xs : List A) (x : A) → last_or o (xs ++ x ∷ []) ≡ Some x
last_behind o [] x = refl
last_behind o (y ∷ xs) x = last_behind (Some y) xs x

-- the rows of lines after another end with that of where the journal stands then
record EndsAt (h : Head) (first : JournalLine) (ls : List JournalLine) : Type 0 where
  pub before : List Filed
  pub line : JournalLine
  pub are : filed_at h first ∷ filed_after h ls ≡ before ++ filed_at (head_with_all h ls) line ∷ []
  pub day : line.day ≡ (head_with_all h ls).day

ends_at : (h : Head) (first : JournalLine) → first.day ≡ h.day → (ls : List JournalLine) → EndsAt h first ls
ends_at h first day [] = record { before = []; line = first; are = refl; day = day }
ends_at h first day (l ∷ ls) =
    let rest = ends_at (head_with h l) l refl ls in record {
      before = filed_at h first ∷ rest.before;
      line = rest.line;
      are = ap (λ fs. filed_at h first ∷ fs) rest.are;
      day = rest.day;
    }

one_head : (g h : Head) (k l : JournalLine) → g.day ≡ k.day → l.day ≡ h.day → filed_at g k ≡ filed_at h l → g ≡ h
one_head g h k l of_g of_h same =
    ap (λ (d : ℕ). head_made g.number d g.chain) of_g ∙ ap head_in same
    ∙ ap (λ (d : ℕ). head_made h.number d h.chain) of_h

-- where it stands is read
pub stands_after : (h : Head) (ls : List JournalLine) (head : Head)
    → IsStanding (journal_rows_in h (Some ls)) (At head) → head ≡ head_with_all h ls
stands_after h ls head at =
    let e = ends_at h (no_line h.day) refl ls in
    let both : Some (filed_at head at.1) ≡ Some (filed_at (head_with_all h ls) e.line) =
    sym (last_behind None at.0 (filed_at head at.1)) ∙ ap (last_or None) (sym at.2 ∙ e.are)
    ∙ last_behind None e.before (filed_at (head_with_all h ls) e.line) in
    let same : filed_at head at.1 ≡ filed_at (head_with_all h ls) e.line = cc in
    one_head head (head_with_all h ls) at.1 e.line at.3 e.day same
