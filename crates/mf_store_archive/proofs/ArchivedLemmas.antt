-- Lines of a journal that leave it, and those that stay: their heads, their rows, and that both can be a journal's.
use Rattle.std.proofs.Common.{◌≡◌, ◌∙◌, ◌≤◌, ◌<◌, ◌+◌, ◌^◌, ℕ, pos, suc, Bool, true, false, not, cond, List, [], ◌∷◌}
use Rattle.std.proofs.Common.{◌++◌, filter, length, Some, refl, sym, ap, arith, append-nil}
use Rattle.std.specs.List.{AllByRecursion}
use Rattle.std.proofs.lemmas.Int.{ints}
use Rattle.std.proofs.lemmas.Bool.Decides.{nat_tests}
use Rattle.sha2.proofs.Facts256.{length-sha256}
use Rattle.sqlite_keyed.proofs.ListLemmas.{filter_all, filter_none}
use Rattle.mf_store_sql.specs.Numbered.{Filed, id_of, is_above}
use Rattle.mf_model.specs.Institution.{JournalLine}
use Rattle.mf_journal.specs.Chain.{text_of_line}
use Rattle.mf_journal.specs.declared.following.Head.{Head}
use Rattle.mf_store_journal.specs.Checking.{CanBegin}
use Rattle.mf_store_journal.specs.Rows.{filed_after, filed_at, filed_beginning, head_with, head_with_all}
use Rattle.mf_store_journal.specs.Rows.{journal_rows_in}
use Rattle.mf_store_journal.specs.Written.{CanBeLines, DaysRise, HasRoom}
use Rattle.mf_store_archive.specs.Archived.{archived, staying, is_up_to}
use Rattle.mf_store_archive.specs.Paging.{NoMoreUpTo}

-- ---- the heads

-- where a journal stands after lines and then others
pub heads_compose : (h : Head) (first rest : List JournalLine)
    → head_with_all h (first ++ rest) ≡ head_with_all (head_with_all h first) rest
heads_compose h [] rest = refl
heads_compose h (l ∷ first) rest = heads_compose (head_with h l) first rest

pub number_after : (h : Head) (ls : List JournalLine) → (head_with_all h ls).number ≡ h.number + length ls
number_after h [] = omega arith
number_after h (l ∷ ls) = let more = number_after (head_with h l) ls in omega (arith, more)

-- ---- the rows

pub rows_of_both : (h : Head) (first rest : List JournalLine)
    → filed_after h (first ++ rest) ≡ filed_after h first ++ filed_after (head_with_all h first) rest
rows_of_both h [] rest = refl
rows_of_both h (l ∷ first) rest =
    ap (λ rows. filed_at (head_with h l) l ∷ rows) (rows_of_both (head_with h l) first rest)

above_is : (m n : ℕ) → m < n → is_above (λ (f : Filed). id_of f) (pos m) (pos n, []) ≡ true
above_is m n h = grind (arith, ints, h)

not_above : (m n : ℕ) → n ≤ m → is_above (λ (f : Filed). id_of f) (pos m) (pos n, []) ≡ false
not_above m n h = grind (arith, ints, h)

-- the rows of lines after a head are above its number
all_above : (m : ℕ) (h : Head) (ls : List JournalLine) → m ≤ h.number
    → AllByRecursion (λ f. is_above id_of (pos m) f ≡ true) (filed_after h ls)
all_above m h [] low = tt
all_above m h (l ∷ ls) low =
    (above_is m (suc h.number) (omega (arith, low)), all_above m (head_with h l) ls (omega (arith, low)))

-- the rows up to a head's number are not
none_above : (h : Head) (first : List JournalLine) (m : ℕ) → h.number + length first ≤ m
    → AllByRecursion (λ f. is_above id_of (pos m) f ≡ false) (filed_after h first)
none_above h [] m low = tt
none_above h (l ∷ first) m low =
    (not_above m (suc h.number) (omega (arith, low)), none_above (head_with h l) first m (omega (arith, low)))

pub filter-append : {A : Type 0} (p : A → Bool) (xs ys : List A) → filter p (xs ++ ys) ≡ filter p xs ++ filter p ys
filter-append p [] ys = refl
filter-append p (x ∷ xs) ys = elim (p x) as (λ b. cond b (x ∷ filter p (xs ++ ys)) (filter p (xs ++ ys))
    ≡ cond b (x ∷ filter p xs) (filter p xs) ++ filter p ys)
    [ true ↦ ap (λ l. x ∷ l) (filter-append p xs ys) | false ↦ filter-append p xs ys ]

-- what is above the number of the last line that is taken out are the rows of those that stay
pub rows_left : (begins : Head) (first rest : List JournalLine)
    → filter (is_above id_of (pos (head_with_all begins first).number)) (journal_rows_in begins (Some (first ++ rest)))
    ≡ filed_after (head_with_all begins first) rest
rows_left begins first rest =
    let now = head_with_all begins first in
    let p = is_above id_of (pos now.number) in
    let number = number_after begins first in
    let gone : filter p (filed_beginning begins ∷ filed_after begins first) ≡ [] =
    filter_none p (filed_beginning begins ∷ filed_after begins first) (
      not_above now.number begins.number (omega (arith, number)),
      none_above begins first now.number (omega (arith, number)),
    ) in
    ap (λ rows. filter p (filed_beginning begins ∷ rows)) (rows_of_both begins first rest)
    ∙ filter-append p (filed_beginning begins ∷ filed_after begins first) (filed_after now rest)
    ∙ ap (λ rows. rows ++ filter p (filed_after now rest)) gone
    ∙ filter_all p (filed_after now rest) (all_above now.number now rest (omega arith))

-- ---- both can be a journal's lines

last_day : (h : Head) (first rest : List JournalLine) → DaysRise h.day (first ++ rest)
    → DaysRise (head_with_all h first).day rest
last_day h [] rest days = days
last_day h (l ∷ first) rest days = last_day (head_with h l) first rest days.1

first_days : (d : ℕ) (first rest : List JournalLine) → DaysRise d (first ++ rest) → DaysRise d first
first_days d [] rest days = tt
first_days d (l ∷ first) rest days = (days.0, first_days l.day first rest days.1)

all_split : {A : Type 0} (P : A → Type 0) (xs ys : List A) → AllByRecursion P (xs ++ ys)
    → AllByRecursion P xs × AllByRecursion P ys
all_split P [] ys all = (tt, all)
all_split P (x ∷ xs) ys all = let both = all_split P xs ys all.1 in ((all.0, both.0), both.1)

head_can : (h : Head) (first : List JournalLine) → CanBegin h → AllByRecursion HasRoom first
    → h.number + length first < 2 ^ 32 → CanBegin (head_with_all h first)
head_can h [] can room low = can
head_can h (l ∷ first) can room low = head_can (head_with h l) first (record {
  number = omega (arith, low);
  day = (room.0).day;
  chain = length-sha256 (h.chain ++ text_of_line l);
}) room.1 (omega (arith, low))

length_of_both : {A : Type 0} (xs ys : List A) → length (xs ++ ys) ≡ length xs + length ys
length_of_both [] ys = omega arith
length_of_both (x ∷ xs) ys = let more = length_of_both xs ys in omega (arith, more)

module _ (begins : Head) (first rest : List JournalLine) (can : CanBeLines begins (first ++ rest)) where
  low : begins.number + (length first + length rest) < 2 ^ 32
  low = let numbers = can.numbers in let both = length_of_both first rest in omega (arith, numbers, both)

  pub first_can : CanBeLines begins first
  first_can = record {
    can_begin = can.can_begin;
    days = first_days begins.day first rest can.days;
    room = (all_split HasRoom first rest can.room).0;
    numbers = let few = low in omega (arith, few);
  }

  pub rest_can : CanBeLines (head_with_all begins first) rest
  rest_can = record {
    can_begin = head_can begins first can.can_begin (all_split HasRoom first rest can.room).0
        (let few = low in omega (arith, few));
    days = last_day begins first rest can.days;
    room = (all_split HasRoom first rest can.room).1;
    numbers = let few = low in let number = number_after begins first in omega (arith, few, number);
  }

-- ---- the lines up to a day are the first ones

later_stay : (day : ℕ) (from : ℕ) (lines : List JournalLine) → day < from → DaysRise from lines
    → AllByRecursion (λ l. is_up_to day l ≡ false) lines
later_stay day from [] late days = tt
later_stay day from (l ∷ lines) late days =
    let rising = days.0 in
    (grind (arith, nat_tests, late, rising), later_stay day l.day lines (omega (arith, late, rising)) days.1)

-- where days rise, the lines up to a day and those after it are all lines in their order
pub cut_by_day : (day from : ℕ) (lines : List JournalLine) → DaysRise from lines
    → lines ≡ archived day lines ++ staying day lines
cut_by_day day from [] days = refl
cut_by_day day from (l ∷ lines) days = go (is_up_to day l) refl (cut_by_day day l.day lines days.1)
  where
    go : (b : Bool) → is_up_to day l ≡ b → lines ≡ archived day lines ++ staying day lines
        → l ∷ lines ≡ cond b (l ∷ archived day lines) (archived day lines)
        ++ cond (not b) (l ∷ staying day lines) (staying day lines)
    go true is more = ap (λ ls. l ∷ ls) more
    go false is more =
        let late : day < l.day = grind (arith, nat_tests, is) in
        let all = later_stay day l.day lines late days.1 in
        let none : archived day lines ≡ [] = filter_none (is_up_to day) lines all in
        ap (λ ls. l ∷ ls) (more ∙ ap (λ ls. ls ++ staying day lines) none)
        ∙ ap (λ ls. ls ++ l ∷ staying day lines) (sym none)

-- lines up to a day and then, if any, one of a later day, are cut there
rest_rises : (d : ℕ) (first : List JournalLine) (l : JournalLine) (ls : List JournalLine)
    → DaysRise d (first ++ l ∷ ls) → DaysRise l.day ls
rest_rises d [] l ls days = days.1
rest_rises d (k ∷ first) l ls days = rest_rises k.day first l ls days.1

all_pass : (day : ℕ) (first : List JournalLine) → AllByRecursion (λ (l : JournalLine). l.day ≤ day) first
    → AllByRecursion (λ l. is_up_to day l ≡ true) first
all_pass day [] up = tt
all_pass day (l ∷ first) up = let low = up.0 in (grind (arith, nat_tests, low), all_pass day first up.1)

none_pass : (day d : ℕ) (first rest : List JournalLine) → NoMoreUpTo day rest → DaysRise d (first ++ rest)
    → AllByRecursion (λ l. is_up_to day l ≡ false) rest
none_pass day d first [] late days = tt
none_pass day d first (l ∷ ls) late days =
    (grind (arith, nat_tests, late), later_stay day l.day ls late (rest_rises d first l ls days))

pub archived_are : (day d : ℕ) (first rest : List JournalLine)
    → AllByRecursion (λ (l : JournalLine). l.day ≤ day) first → NoMoreUpTo day rest → DaysRise d (first ++ rest)
    → archived day (first ++ rest) ≡ first
archived_are day d first rest up late days =
    filter-append (is_up_to day) first rest
    ∙ ap (λ ls. ls ++ archived day rest) (filter_all (is_up_to day) first (all_pass day first up))
    ∙ ap (λ ls. first ++ ls) (filter_none (is_up_to day) rest (none_pass day d first rest late days))
    ∙ append-nil first
