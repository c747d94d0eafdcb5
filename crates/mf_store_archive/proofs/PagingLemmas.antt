-- Rows of a page, and the lines that they are of.
use Rattle.std.proofs.Common.{◌≡◌, ◌∙◌, inl, inr, ◌≤◌, ◌<◌, ◌+◌, ℕ, zero, suc, Bool, true, false, List, [], ◌∷◌, ◌++◌}
use Rattle.std.proofs.Common.{map}
use Rattle.std.proofs.Common.{take, drop, length, slice_get, Some, refl, sym, ap, ap₂, subst, arith, append-nil}
use Rattle.std.proofs.lemmas.List.{take_all}
use Rattle.sqlite.specs.Order.{Row}
use Rattle.sqlite_keyed.proofs.ListLemmas.{all-append}
use Rattle.mf_store_sql.specs.Numbered.{Filed, shown_filed}
use Rattle.mf_model.specs.Institution.{JournalLine}
use Rattle.mf_journal.specs.Following.{head_after, head_of, line_of}
use Rattle.mf_journal.specs.declared.following.Head.{Head}
use Rattle.mf_journal.specs.declared.following.KeptRow.{KeptRow}
use Rattle.mf_store_journal.specs.Rows.{filed_after, filed_at, filed_kept, head_with, head_with_all}
use Rattle.mf_store_journal.proofs.CheckLemmas.{shown_once}
use Rattle.mf_store_journal.proofs.RowsLemmas.{head_in, line_in}
use Rattle.mf_store_archive.specs.Paging.{AreUpTo, Ends, IsPage, shown_rows}
use Rattle.mf_store_archive.specs.declared.filing.Filing.{Filing}
use Rattle.mf_store_archive.specs.declared.filing.Filing.TheVariants.{Put}
use Rattle.mf_store_archive.specs.declared.paging.Page.{Page}

-- ---- the rows so far

pub record SoFar (day : ℕ) (head : Head) (rows : List Row) (place : ℕ) (now : Head) (writes : List Filing) : Type
    0 where
  pub kept : List KeptRow
  pub writes_are : writes ≡ map Put kept
  pub rows_are : take place rows ≡ shown_rows kept
  pub head_is : now ≡ head_after head kept
  pub up_to : AreUpTo day kept

pub none_so_far : (day : ℕ) (head : Head) (rows : List Row) → SoFar day head rows 0 head []
none_so_far day head [] = record { kept = []; writes_are = refl; rows_are = refl; head_is = refl; up_to = tt }
none_so_far day head (r ∷ rows) = record { kept = []; writes_are = refl; rows_are = refl; head_is = refl; up_to = tt }

map_more : {A B : Type 0} (f : A → B) (xs : List A) (x : A) → map f (xs ++ x ∷ []) ≡ map f xs ++ f x ∷ []
map_more f [] x = refl
map_more f (y ∷ xs) x = ap (λ l. f y ∷ l) (map_more f xs x)

after_more : (h : Head) (ks : List KeptRow) (k : KeptRow) → head_after h (ks ++ k ∷ []) ≡ head_of k
after_more h [] k = refl
after_more h (j ∷ ks) k = after_more (head_of j) ks k

take_one_more : (rows : List Row) (place : ℕ) (row : Row) → slice_get rows place ≡ Some row
    → take (suc place) rows ≡ take place rows ++ row ∷ []
take_one_more [] place row there = absurd (cc)
take_one_more (r ∷ rows) zero row there = let same : r ≡ row = cc in ap (λ x. x ∷ []) same
take_one_more (r ∷ rows) (suc place) row there = ap (λ l. r ∷ l) (take_one_more rows place row there)

rest_from : (rows : List Row) (place : ℕ) (row : Row) → slice_get rows place ≡ Some row
    → rows ≡ take place rows ++ row ∷ drop (suc place) rows
rest_from [] place row there = absurd (cc)
rest_from (r ∷ rows) zero row there = let same : r ≡ row = cc in ap (λ x. x ∷ rows) same
rest_from (r ∷ rows) (suc place) row there = ap (λ l. r ∷ l) (rest_from rows place row there)

module _ (day : ℕ) (head : Head) (rows : List Row) (place : ℕ) (now : Head) (writes : List Filing)
    (far : SoFar day head rows place now writes) where
  pub one_more : (row : Row) (k : KeptRow) → slice_get rows place ≡ Some row → shown_filed (filed_kept k) ≡ row
      → k.row.day ≤ day → (next : Head) → next ≡ head_of k → (more : List Filing) → more ≡ writes ++ Put k ∷ []
      → SoFar day head rows (place + 1) next more
  one_more row k there shown up next next_is more more_are =
      let one : suc place ≡ place + 1 = omega arith in
      subst (λ (n : ℕ). SoFar day head rows n next more) one (record {
        kept = far.kept ++ k ∷ [];
        writes_are = more_are ∙ ap (λ ws. ws ++ Put k ∷ []) far.writes_are ∙ sym (map_more Put far.kept k);
        rows_are = take_one_more rows place row there ∙ ap₂ (λ l r. l ++ r ∷ []) far.rows_are (sym shown)
            ∙ sym (map_more (λ (k : KeptRow). shown_filed (filed_kept k)) far.kept k);
        head_is = next_is ∙ sym (after_more head far.kept k);
        up_to = all-append (λ (k : KeptRow). k.row.day ≤ day) far.kept (k ∷ []) far.up_to (up, tt);
      })

  -- the next row is of a later day
  pub later_page : (row : Row) (k : KeptRow) → slice_get rows place ≡ Some row → shown_filed (filed_kept k) ≡ row
      → day < k.row.day → (page : Page) → page.writes.items ≡ writes → page.head ≡ now → page.is_last ≡ true
      → IsPage day head rows page
  later_page row k there shown late page writes_is head_is last = record {
    kept = far.kept;
    left = row ∷ drop (suc place) rows;
    writes_are = writes_is ∙ far.writes_are;
    rows_are = rest_from rows place row there ∙ ap (λ l. l ++ row ∷ drop (suc place) rows) far.rows_are;
    head_is = head_is ∙ far.head_is;
    up_to = far.up_to;
    ends = subst (λ (b : Bool). Ends day b rows (row ∷ drop (suc place) rows)) (sym last)
        (inr (k, drop (suc place) rows, ap (λ r. r ∷ drop (suc place) rows) (sym shown), late));
  }

  -- all rows are of days up to this one
  pub whole_page : length rows ≤ place → (page : Page) → page.writes.items ≡ writes → page.head ≡ now
      → (page.is_last ≡ true → rows ≡ []) → IsPage day head rows page
  whole_page past page writes_is head_is last = record {
    kept = far.kept;
    left = [];
    writes_are = writes_is ∙ far.writes_are;
    rows_are = sym (take_all place rows past) ∙ far.rows_are ∙ sym (append-nil (shown_rows far.kept));
    head_is = head_is ∙ far.head_is;
    up_to = far.up_to;
    ends = go page.is_last refl;
  }
    where
      go : (b : Bool) → page.is_last ≡ b → Ends day b rows []
      go true is = inl (last is)
      go false is = refl

-- ---- the lines that the rows of a page are of

pub behind_first : {A : Type 0} (a b : A) (xs ys : List A) → a ∷ xs ≡ b ∷ ys → (a ≡ b) × (xs ≡ ys)
behind_first a b xs ys same = (cc, cc)

-- the first lines of those whose rows are shown
pub record IsShownFront (ks : List KeptRow) (lines : List Filed) (more : List Row) : Type 0 where
  pub left : List Filed
  pub lines_are : lines ≡ map filed_kept ks ++ left
  pub more_are : more ≡ map shown_filed left

pub shown_front : (ks : List KeptRow) (lines : List Filed) (more : List Row)
    → map shown_filed lines ≡ shown_rows ks ++ more → IsShownFront ks lines more
shown_front [] lines more are = record { left = lines; lines_are = refl; more_are = sym are }
shown_front (k ∷ ks) [] more are = absurd (cc)
shown_front (k ∷ ks) (l ∷ lines) more are =
    let parts = behind_first (shown_filed l) (shown_filed (filed_kept k)) (map shown_filed lines)
    (shown_rows ks ++ more) are in
    let rest = shown_front ks lines more parts.1 in
    record {
      left = rest.left;
      lines_are = ap₂ (λ (x : Filed) (xs : List Filed). x ∷ xs) (shown_once l (filed_kept k) parts.0) rest.lines_are;
      more_are = rest.more_are;
    }

-- what the first rows of lines after a head tell
pub record IsFront (h : Head) (ks : List KeptRow) (ls : List JournalLine) (more : List Filed) : Type 0 where
  pub rest : List JournalLine
  pub lines_are : ls ≡ map line_of ks ++ rest
  pub more_are : more ≡ filed_after (head_with_all h (map line_of ks)) rest
  pub head_is : head_after h ks ≡ head_with_all h (map line_of ks)
  pub rows_are : map filed_kept ks ≡ filed_after h (map line_of ks)

pub front : (h : Head) (ks : List KeptRow) (ls : List JournalLine) (more : List Filed)
    → filed_after h ls ≡ map filed_kept ks ++ more → IsFront h ks ls more
front h [] ls more are =
    record { rest = ls; lines_are = refl; more_are = sym are; head_is = refl; rows_are = refl }
front h (k ∷ ks) [] more are = absurd (cc)
front h (k ∷ ks) (l ∷ ls) more are =
    let parts = behind_first (filed_at (head_with h l) l) (filed_kept k) (filed_after (head_with h l) ls)
    (map filed_kept ks ++ more) are in
    let line : l ≡ line_of k = ap line_in parts.0 in
    let head : head_with h (line_of k) ≡ head_of k = ap (head_with h) (sym line) ∙ ap head_in parts.0 in
    let on = subst (λ (g : Head). IsFront g ks ls more) (ap (head_with h) line)
    (front (head_with h l) ks ls more parts.1) in
    record {
      rest = on.rest;
      lines_are = ap₂ (λ (x : JournalLine) (xs : List JournalLine). x ∷ xs) line on.lines_are;
      more_are = on.more_are;
      head_is = ap (λ (g : Head). head_after g ks) (sym head) ∙ on.head_is;
      rows_are = ap₂ (λ (x : Filed) (xs : List Filed). x ∷ xs)
          (sym parts.0 ∙ ap (λ (x : JournalLine). filed_at (head_with h x) x) line) on.rows_are;
    }
