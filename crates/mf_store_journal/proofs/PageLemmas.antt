-- Pages of the journal's table, and the lines that they tell.
use Rattle.std.proofs.Common.{◌≡◌, ◌≤◌, ◌<◌, ℕ, zero, suc, pos, ◌+◌, true, false, List, [], ◌∷◌, ◌++◌}
use Rattle.std.proofs.Common.{map, filter, take, length, slice_get, Some, refl, sym, ap, ◌∙◌, arith}
use Rattle.std.proofs.Common.{int_cmp, is_lt}
use Rattle.std.proofs.lemmas.Int.{ints}
use Rattle.std.proofs.lemmas.List.{length-map, take_all}
use Rattle.sqlite.specs.Order.{Row}
use Rattle.mf_store_sql.specs.Numbered.{id_of, is_above, shown_filed}
use Rattle.mf_model.specs.Institution.{JournalLine}
use Rattle.mf_journal.specs.Chain.{line_of_row}
use Rattle.mf_journal.specs.Following.{line_of}
use Rattle.mf_journal.specs.declared.chain.JournalRow.{JournalRow}
use Rattle.mf_journal.specs.declared.following.Head.{Head}
use Rattle.mf_journal.specs.declared.following.KeptRow.{KeptRow}
use Rattle.mf_store_journal.specs.Reading.{first_above, page_above, page_size}
use Rattle.mf_store_journal.specs.Rows.{filed_after, filed_at, filed_kept, head_with, head_with_all}
use Rattle.mf_store_journal.specs.Rows.{journal_rows_in}
use Rattle.mf_store_journal.proofs.CheckLemmas.{shown_once}
use Rattle.mf_store_journal.proofs.RowsLemmas.{line_in}

-- ---- the lines of rows

pub take_next : {A : Type 0} (xs : List A) (place : ℕ) (x : A) → slice_get xs place ≡ Some x
    → take (suc place) xs ≡ take place xs ++ x ∷ []
take_next [] place x there = absurd (cc)
take_next (y ∷ ys) zero x there = let same : y ≡ x = cc in ap (λ z. z ∷ []) same
take_next (y ∷ ys) (suc place) x there = ap (λ rest. y ∷ rest) (take_next ys place x there)

pub line_at : (h : Head) (lines : List JournalLine) (place : ℕ) (row : Row) (k : KeptRow)
    → slice_get (map shown_filed (filed_after h lines)) place ≡ Some row → shown_filed (filed_kept k) ≡ row
    → slice_get lines place ≡ Some (line_of k)
line_at h [] place row k there shown = absurd (cc)
line_at h (l ∷ ls) zero row k there shown =
    let here : shown_filed (filed_at (head_with h l) l) ≡ row = cc in
    let one : filed_at (head_with h l) l ≡ filed_kept k =
    shown_once (filed_at (head_with h l) l) (filed_kept k) (here ∙ sym shown) in
    ap (λ f. Some (line_in f)) one
line_at h (l ∷ ls) (suc place) row k there shown = line_at (head_with h l) ls place row k there shown

-- the rows before a place told these lines
abbrev pub ToldSoFar : List Row → ℕ → List JournalRow → Type 0
ToldSoFar rows place told = (h : Head) (lines : List JournalLine) → rows ≡ map shown_filed (filed_after h lines)
    → map line_of_row told ≡ take place lines

map_both : {A B : Type 0} (f : A → B) (xs ys : List A) → map f (xs ++ ys) ≡ map f xs ++ map f ys
map_both f [] ys = refl
map_both f (x ∷ xs) ys = ap (λ l. f x ∷ l) (map_both f xs ys)

pub told_none : (rows : List Row) → ToldSoFar rows 0 []
told_none rows h [] are = refl
told_none rows h (l ∷ ls) are = refl

pub told_more : (rows : List Row) (place : ℕ) (row : Row) (k : KeptRow) (told next : List JournalRow)
    → slice_get rows place ≡ Some row → shown_filed (filed_kept k) ≡ row → next ≡ told ++ k.row ∷ []
    → ToldSoFar rows place told → ToldSoFar rows (place + 1) next
told_more rows place row k told next there shown is far h lines are =
    let one : suc place ≡ place + 1 = omega arith in
    let here = line_at h lines place row k (ap (λ rs. slice_get rs place) (sym are) ∙ there) shown in
    ap (map line_of_row) is ∙ map_both line_of_row told (k.row ∷ [])
    ∙ ap (λ ls. ls ++ line_of k ∷ []) (far h lines are) ∙ sym (take_next lines place (line_of k) here)
    ∙ ap (λ n. take n lines) one

size_after : (h : Head) (lines : List JournalLine) → length (filed_after h lines) ≡ length lines
size_after h [] = refl
size_after h (l ∷ ls) = ap suc (size_after (head_with h l) ls)

pub size_of_rows : (h : Head) (lines : List JournalLine) (rows : List Row)
    → rows ≡ map shown_filed (filed_after h lines) → length rows ≡ length lines
size_of_rows h lines rows are = ap length are ∙ length-map (filed_after h lines) shown_filed ∙ size_after h lines

pub told_all : (rows : List Row) (place : ℕ) (told : List JournalRow) → length rows ≤ place
    → ToldSoFar rows place told → (h : Head) (lines : List JournalLine) → rows ≡ map shown_filed (filed_after h lines)
    → map line_of_row told ≡ lines
told_all rows place told past far h lines are =
    let size = size_of_rows h lines rows are in
    far h lines are ∙ take_all place lines (omega (arith, past, size))

-- ---- the page above a number

is_later : (a b : ℕ) → a < b → is_lt (int_cmp (pos a) (pos b)) ≡ true
is_later a b low = grind (arith, ints, low)

not_later : (a b : ℕ) → b ≤ a → is_lt (int_cmp (pos a) (pos b)) ≡ false
not_later a b low = grind (arith, ints, low)

all_above : (h : Head) (lines : List JournalLine) (n : ℕ) → n ≤ h.number
    → filter (is_above id_of (pos n)) (filed_after h lines) ≡ filed_after h lines
all_above h [] n low = refl
all_above h (l ∷ ls) n low =
    rw (is_later n (suc h.number) (omega (arith, low)))
    (ap (λ rest. filed_at (head_with h l) l ∷ rest) (all_above (head_with h l) ls n (omega (arith, low))))

those_behind : (h : Head) (done rest : List JournalLine) (n : ℕ) → h.number + length done ≡ n
    → filter (is_above id_of (pos n)) (filed_after h (done ++ rest)) ≡ filed_after (head_with_all h done) rest
those_behind h [] rest n is = all_above h rest n (omega (arith, is))
those_behind h (d ∷ ds) rest n is =
    rw (not_later n (suc h.number) (omega (arith, is)))
    (those_behind (head_with h d) ds rest n (omega (arith, is)))

take_after : (k : ℕ) (h : Head) (lines : List JournalLine) → take k (filed_after h lines) ≡ filed_after h (take k lines)
take_after zero h lines = refl
take_after (suc k) h [] = refl
take_after (suc k) h (l ∷ ls) = ap (λ rest. filed_at (head_with h l) l ∷ rest) (take_after k (head_with h l) ls)

-- the first so many tell the next lines
pub first_are : (most : ℕ) (begins : Head) (done rest : List JournalLine) (n : ℕ) → begins.number + length done ≡ n
    → first_above most n (journal_rows_in begins (Some (done ++ rest)))
    ≡ map shown_filed (filed_after (head_with_all begins done) (take most rest))
first_are most begins done rest n is =
    rw (not_later n begins.number (omega (arith, is)))
    (ap (λ fs. map shown_filed (take most fs)) (those_behind begins done rest n is)
    ∙ ap (map shown_filed) (take_after most (head_with_all begins done) rest))

pub page_is : (begins : Head) (done rest : List JournalLine) (n : ℕ) → begins.number + length done ≡ n
    → page_above n (journal_rows_in begins (Some (done ++ rest)))
    ≡ map shown_filed (filed_after (head_with_all begins done) (take page_size rest))
page_is begins done rest n is = first_are page_size begins done rest n is

-- where some are asked for and none is told, there is none
pub none_of : (more : ℕ) (h : Head) (rest : List JournalLine)
    → map shown_filed (filed_after h (take (suc more) rest)) ≡ [] → rest ≡ []
none_of more h [] none = refl
none_of more h (l ∷ ls) none =
    let some : shown_filed (filed_at (head_with h l) l)
    ∷ map shown_filed (filed_after (head_with h l) (take more ls)) ≡ [] = none in absurd (cc)

pub none_left : (h : Head) (rest : List JournalLine) → map shown_filed (filed_after h (take page_size rest)) ≡ []
    → rest ≡ []
none_left h rest none = none_of 999 h rest none
