-- Rows that follow on one another, and the lines that they tell.
use Rattle.std.proofs.Common.{◌≡◌, ◌≤◌, ◌<◌, ◌+◌, ◌^◌, ℕ, ℤ, zero, suc, inl, inr, List, [], ◌∷◌, ◌++◌, map, take}
use Rattle.std.proofs.Common.{length, slice_get, Option, Some, refl, sym, ap, ap₂, ◌∙◌, subst, arith, Vec, Global}
use Rattle.std.specs.List.{AllByRecursion}
use Rattle.std.proofs.lemmas.List.{take_all, map-append}
use Rattle.sqlite.specs.Order.{Row}
use Rattle.mf_journal.specs.Following.{Follows, FollowOn, head_of, line_of}
use Rattle.mf_journal.specs.declared.following.Head.{Head}
use Rattle.mf_journal.specs.declared.following.KeptRow.{KeptRow}
use Rattle.mf_model.specs.Institution.{JournalLine}
use Rattle.mf_store_sql.specs.Numbered.{Filed, shown_filed}
use Rattle.mf_store_journal.specs.Checking.{CanBegin, StopsAt}
use Rattle.mf_store_journal.specs.Rows.{filed_kept, filed_after, filed_beginning, head_with_all, journal_rows_in}
use Rattle.mf_store_journal.specs.Rows.{HasPlace}
use Rattle.mf_store_journal.specs.Written.{DaysRise, HasRoom}
use Rattle.mf_store_journal.specs.declared.checking.Flaw.{Flaw}
use Rattle.mf_store_journal.specs.declared.checking.Found.TheVariants.{Flawed}
use Rattle.mf_store_journal.proofs.CheckLemmas.{follow_none, follow_one, follow_both, shown_once}
use Rattle.mf_store_journal.proofs.RowsLemmas.{follow_rows, head_in, one_journal}
use Rattle.mf_store_journal.proofs.WrittenLemmas.{no_other}
use Rattle.mf_store_archived.specs.Archives.{AreShown, AreRowsOf, IsPart, Tells}
use Rattle.mf_store_archived.specs.declared.archive.Archive.{Archive}

-- ---- rows that are shown

pub take_next : {A : Type 0} (xs : List A) (place : ℕ) (x : A) → slice_get xs place ≡ Some x
    → take (suc place) xs ≡ take place xs ++ x ∷ []
take_next [] place x there = absurd (cc)
take_next (y ∷ ys) zero x there = let same : y ≡ x = cc in ap (λ z. z ∷ []) same
take_next (y ∷ ys) (suc place) x there = ap (λ rest. y ∷ rest) (take_next ys place x there)

pub shown_none : (h : Head) (rows : List Row) → AreShown h (take 0 rows) h
shown_none h [] = record { filed = []; rows_are = refl; follow = follow_none h }
shown_none h (r ∷ rows) = record { filed = []; rows_are = refl; follow = follow_none h }

pub shown_more : (h : Head) (rows : List Row) (place : ℕ) (row : Row) (now : Head) (k : KeptRow) (next : Head)
    → slice_get rows place ≡ Some row → shown_filed (filed_kept k) ≡ row → HasPlace k → Follows now k
    → next ≡ head_of k → AreShown h (take place rows) now → AreShown h (take (place + 1) rows) next
shown_more h rows place row now k next there shown room follows is s =
    let one : suc place ≡ place + 1 = omega arith in
    subst (λ (n : ℕ). AreShown h (take n rows) next) one (record {
      filed = s.filed ++ filed_kept k ∷ [];
      rows_are = take_next rows place row there ∙ ap (λ r. take place rows ++ r ∷ []) (sym shown)
          ∙ ap (λ t. t ++ shown_filed (filed_kept k) ∷ []) s.rows_are
          ∙ sym (map-append shown_filed s.filed (filed_kept k ∷ []));
      follow = follow_both h now next s.filed (filed_kept k ∷ []) s.follow (follow_one now k next room follows is);
    })

pub shown_all : (h : Head) (rows : List Row) (place : ℕ) (now : Head) → length rows ≤ place
    → AreShown h (take place rows) now → AreShown h rows now
shown_all h rows place now past s = subst (λ r. AreShown h r now) (take_all place rows past) s

-- ---- the lines of rows

room_of : (k : KeptRow) → HasPlace k → HasRoom (line_of k)
room_of k place = record {
  day = place.day;
  office = place.office;
  staff = place.staff;
  named_office = place.named_office;
  named_loan = place.named_loan;
}

rooms_of : (ks : List KeptRow) → AllByRecursion HasPlace ks → AllByRecursion HasRoom (map line_of ks)
rooms_of [] all = tt
rooms_of (k ∷ ks) all = (room_of k all.0, rooms_of ks all.1)

days_rise : (h : Head) (ks : List KeptRow) → FollowOn h ks → DaysRise h.day (map line_of ks)
days_rise h [] on = tt
days_rise h (k ∷ ks) on = (on.0.1, days_rise (head_of k) ks on.1)

numbers_of : (h : Head) (ks : List KeptRow) → h.number < 2 ^ 32 → FollowOn h ks → AllByRecursion HasPlace ks
    → h.number + length (map line_of ks) < 2 ^ 32
numbers_of h [] low on all = omega (arith, low)
numbers_of h (k ∷ ks) low on all =
    let more = numbers_of (head_of k) ks (all.0).number on.1 all.1 in
    let next : k.number ≡ suc h.number = on.0.0 in
    omega (arith, more, next)

pub rows_of : (begins ends : Head) (first : Row) (rest : List Row) → shown_filed (filed_beginning begins) ≡ first
    → CanBegin begins → AreShown begins rest ends → AreRowsOf begins ends (first ∷ rest)
rows_of begins ends first rest is can shown =
    let follow = shown.follow in
    let both = follow_rows begins follow.kept follow.follow in
    record {
      lines = map line_of follow.kept;
      tells = record {
        can_be = record {
          can_begin = can;
          days = days_rise begins follow.kept follow.follow;
          room = rooms_of follow.kept follow.room;
          numbers = numbers_of begins follow.kept can.number follow.follow follow.room;
        };
        rows_are = ap₂ ◌∷◌ (sym is) (shown.rows_are ∙ ap (map shown_filed) (follow.rows_are ∙ both.0));
      };
      ends_are = follow.stands ∙ both.1;
    }

-- ---- what rows tell is one journal

behind_first : (a b : Row) (xs ys : List Row) → a ∷ xs ≡ b ∷ ys → (a ≡ b) × (xs ≡ ys)
behind_first a b xs ys same = (cc, cc)

shown_all_once : (xs ys : List Filed) → map shown_filed xs ≡ map shown_filed ys → xs ≡ ys
shown_all_once [] [] same = refl
shown_all_once [] (y ∷ ys) same = absurd (cc)
shown_all_once (x ∷ xs) [] same = absurd (cc)
shown_all_once (x ∷ xs) (y ∷ ys) same =
    let both = behind_first (shown_filed x) (shown_filed y) (map shown_filed xs) (map shown_filed ys) same in
    ap₂ ◌∷◌ (shown_once x y both.0) (shown_all_once xs ys both.1)

same_some : {A : Type 0} (x y : A) → Some x ≡ Some y → x ≡ y
same_some x y same = cc

pub told_once : (begins other : Head) (lines others : List JournalLine) (rows : List Row) → Tells begins lines rows
    → Tells other others rows → (begins ≡ other) × (lines ≡ others)
told_once begins other lines others rows a b =
    let same = shown_all_once (journal_rows_in begins (Some lines)) (journal_rows_in other (Some others))
    (sym a.rows_are ∙ b.rows_are) in
    let one = one_journal begins other (Some lines) (Some others) same in
    (one.1 refl, same_some lines others one.0)

-- the first row is that of where the journal begins
pub first_told : (begins : Head) (lines : List JournalLine) (first : Row) (rest : List Row)
    → Tells begins lines (first ∷ rest) → shown_filed (filed_beginning begins) ≡ first
first_told begins lines first rest tells =
    sym (behind_first first (shown_filed (filed_beginning begins)) rest (map shown_filed (filed_after begins lines))
    tells.rows_are).0

-- and no flaw is found in the others
pub not_flawed : (begins found : Head) (lines : List JournalLine) (first : Row) (rest : List Row) (flaw : Flaw)
    → Tells begins lines (first ∷ rest) → shown_filed (filed_beginning found) ≡ first
    → ((filed : List Filed) → rest ≡ map shown_filed filed → StopsAt found filed flaw) → ⊥
not_flawed begins found lines first rest flaw tells is stops =
    let parts = behind_first first (shown_filed (filed_beginning begins)) rest
    (map shown_filed (filed_after begins lines)) tells.rows_are in
    let same : filed_beginning found ≡ filed_beginning begins =
    shown_once (filed_beginning found) (filed_beginning begins) (is ∙ parts.0) in
    let head : found ≡ begins = ap head_in same in
    no_other begins lines tells.can_be (Flawed flaw) (inr (inr (flaw, refl))) (
      begins,
      filed_after begins lines,
      refl,
      subst (λ (h : Head). StopsAt h (filed_after begins lines) flaw) head
          (stops (filed_after begins lines) parts.1),
    )

-- ---- an archive of rows

module _ (begins ends : Head) (rows : Vec Row Global) (seen : List Row) (is : seen ≡ rows.items)
    (found : AreRowsOf begins ends seen) where
  abbrev made : Archive
  made = record { begins = begins; ends = ends; rows = rows }

  its_part : IsPart made found.lines
  its_part = record { tells = subst (Tells begins found.lines) is found.tells; ends = found.ends_are }

  pub part_of : (lines : List JournalLine) × IsPart made lines
  part_of = (found.lines, its_part)

  pub part_told : (other : Head) (lines : List JournalLine) → Tells other lines rows.items
      → (begins ≡ other) × IsPart made lines
  part_told other lines tells =
      let one = told_once begins other found.lines lines rows.items its_part.tells tells in
      (one.0, subst (IsPart made) one.1 its_part)

-- an archive has one list of lines
pub one_part : (a : Archive) (lines others : List JournalLine) → IsPart a lines → IsPart a others → lines ≡ others
one_part a lines others one other = (told_once a.begins a.begins lines others a.rows.items one.tells other.tells).1
