-- Rows that follow on one another, page by page.
use Rattle.std.proofs.Common.{◌≡◌, ◌<ℤ◌, ◌≤◌, ℕ, ℤ, pos, zero, suc, ◌+◌, true, false, List, [], ◌∷◌, ◌++◌}
use Rattle.std.proofs.Common.{map, filter, take}
use Rattle.std.proofs.Common.{drop, length, slice_get, Some, refl, sym, ap, ap₂, ◌∙◌, subst, arith}
use Rattle.std.proofs.Common.{append-nil, append_assoc, int_cmp, is_lt}
use Rattle.std.specs.List.{AllByRecursion}
use Rattle.std.proofs.lemmas.Int.{ints}
use Rattle.std.proofs.lemmas.List.{length-map, take_all, take-append-drop}
use Rattle.sqlite.specs.Order.{Row}
use Rattle.sqlite_keyed.specs.Keyed.{IsKeyedBy}
use Rattle.mf_store_sql.specs.Numbered.{Filed, id_of, is_above, shown_filed}
use Rattle.mf_journal.specs.Following.{Follows, FollowOn, BreaksFirst, head_of, head_after}
use Rattle.mf_journal.specs.declared.following.Break.{Break}
use Rattle.mf_journal.specs.declared.following.Head.{Head}
use Rattle.mf_journal.specs.declared.following.KeptRow.{KeptRow}
use Rattle.mf_store_journal.specs.Rows.{filed_kept, filed_beginning, HasPlace, IsLineRow}
use Rattle.mf_store_journal.specs.Reading.{page_above, page_size}
use Rattle.mf_store_journal.specs.Checking.{AreFollowing, StopsAt, IsFlaw}
use Rattle.mf_store_journal.specs.declared.checking.Flaw.{Flaw}
use Rattle.mf_store_journal.specs.declared.checking.Flaw.TheVariants.{Broken, NoLine}

-- ---- rows that follow on

pub follow_none : (h : Head) → AreFollowing h [] h
follow_none h = record { kept = []; rows_are = refl; room = tt; follow = tt; stands = refl }

on_both : (h : Head) (xs ys : List KeptRow) → FollowOn h xs → FollowOn (head_after h xs) ys → FollowOn h (xs ++ ys)
on_both h [] ys on more = more
on_both h (x ∷ xs) ys on more = (on.0, on_both (head_of x) xs ys on.1 more)

after_both : (h : Head) (xs ys : List KeptRow) → head_after h (xs ++ ys) ≡ head_after (head_after h xs) ys
after_both h [] ys = refl
after_both h (x ∷ xs) ys = after_both (head_of x) xs ys

map_both : {A B : Type 0} (f : A → B) (xs ys : List A) → map f (xs ++ ys) ≡ map f xs ++ map f ys
map_both f [] ys = refl
map_both f (x ∷ xs) ys = ap (λ l. f x ∷ l) (map_both f xs ys)

room_both : (xs ys : List KeptRow) → AllByRecursion HasPlace xs → AllByRecursion HasPlace ys
    → AllByRecursion HasPlace (xs ++ ys)
room_both [] ys all more = more
room_both (x ∷ xs) ys all more = (all.0, room_both xs ys all.1 more)

-- rows and then others
pub follow_both : (h now next : Head) (rows more : List Filed) → AreFollowing h rows now → AreFollowing now more next
    → AreFollowing h (rows ++ more) next
follow_both h now next rows more a b = record {
  kept = a.kept ++ b.kept;
  rows_are = ap₂ (λ x y. x ++ y) a.rows_are b.rows_are ∙ sym (map_both filed_kept a.kept b.kept);
  room = room_both a.kept b.kept a.room b.room;
  follow = on_both h a.kept b.kept a.follow (subst (λ g. FollowOn g b.kept) a.stands b.follow);
  stands = b.stands ∙ ap (λ g. head_after g b.kept) a.stands ∙ sym (after_both h a.kept b.kept);
}

-- one row
pub follow_one : (h : Head) (k : KeptRow) (next : Head) → HasPlace k → Follows h k → next ≡ head_of k
    → AreFollowing h (filed_kept k ∷ []) next
follow_one h k next place follows is =
    record { kept = k ∷ []; rows_are = refl; room = (place, tt); follow = (follows, tt); stands = is }

-- a flaw past rows that follow on
pub stops_after : (h now : Head) (rows more : List Filed) (flaw : Flaw) → AreFollowing h rows now
    → StopsAt now more flaw → StopsAt h (rows ++ more) flaw
stops_after h now rows more flaw a s = record {
  before = rows ++ s.before;
  line = s.line;
  more = s.more;
  rows_are = ap (λ l. rows ++ l) s.rows_are ∙ sym (append_assoc rows s.before (s.line ∷ s.more));
  stands = s.stands;
  follow = follow_both h now s.stands rows s.before a s.follow;
  is = s.is;
}

-- and before others
pub stops_before : (h : Head) (rows more : List Filed) (flaw : Flaw) → StopsAt h rows flaw
    → StopsAt h (rows ++ more) flaw
stops_before h rows more flaw s = record {
  before = s.before;
  line = s.line;
  more = s.more ++ more;
  rows_are = ap (λ l. l ++ more) s.rows_are ∙ append_assoc s.before (s.line ∷ s.more) more;
  stands = s.stands;
  follow = s.follow;
  is = s.is;
}

-- ---- the rows of one list, as they are shown

pub shown_once : (a b : Filed) → shown_filed a ≡ shown_filed b → a ≡ b
shown_once (i, vs) (j, us) same =
    let id : i ≡ j = cc in
    let values : vs ≡ us = cc in
    ap₂ (λ (n : ℤ) (ws : Row). (n, ws)) id values

-- what stands at a place among rows that are shown is a line's
record At (lines : List Filed) (place : ℕ) (row : Row) : Type 0 where
  pub line : Filed
  pub shown : shown_filed line ≡ row
  pub more : take (suc place) lines ≡ take place lines ++ line ∷ []
  pub rest : lines ≡ take place lines ++ line ∷ drop (suc place) lines

at_place : (lines : List Filed) (place : ℕ) (row : Row) → slice_get (map shown_filed lines) place ≡ Some row
    → At lines place row
at_place [] place row there = absurd (cc)
at_place (l ∷ ls) zero row there =
    let shown : shown_filed l ≡ row = cc in record { line = l; shown = shown; more = refl; rest = refl }
at_place (l ∷ ls) (suc place) row there =
    let at = at_place ls place row there in record {
      line = at.line;
      shown = at.shown;
      more = ap (λ r. l ∷ r) at.more;
      rest = ap (λ r. l ∷ r) at.rest;
    }

-- what rows so far come to, whatever lines these are of
abbrev pub SoFar : Head → List Row → ℕ → Head → Type 0
SoFar h rows place now = (lines : List Filed) → rows ≡ map shown_filed lines → AreFollowing h (take place lines) now

pub so_far_none : (h : Head) (rows : List Row) → SoFar h rows 0 h
so_far_none h rows [] are = follow_none h
so_far_none h rows (l ∷ ls) are = follow_none h

pub so_far_more : (h : Head) (rows : List Row) (place : ℕ) (row : Row) (now : Head) (k : KeptRow) (next : Head)
    → slice_get rows place ≡ Some row → shown_filed (filed_kept k) ≡ row → HasPlace k → Follows now k
    → next ≡ head_of k → SoFar h rows place now → SoFar h rows (place + 1) next
so_far_more h rows place row now k next there shown room follows is far =
    let one : suc place ≡ place + 1 = omega arith in
    subst (λ (n : ℕ). SoFar h rows n next) one more
  where
    more : SoFar h rows (suc place) next
    more lines are =
        let at = at_place lines place row (ap (λ rs. slice_get rs place) (sym are) ∙ there) in
        let line_is : filed_kept k ≡ at.line = shown_once (filed_kept k) at.line (shown ∙ sym at.shown) in
        subst (λ l. AreFollowing h l next) (ap (λ l. take place lines ++ l ∷ []) line_is ∙ sym at.more)
        (follow_both h now next (take place lines) (filed_kept k ∷ []) (far lines are)
        (follow_one now k next room follows is))

pub so_far_all : (h : Head) (rows : List Row) (place : ℕ) (now : Head) → length rows ≤ place → SoFar h rows place now
    → (lines : List Filed) → rows ≡ map shown_filed lines → AreFollowing h lines now
so_far_all h rows place now past far lines are =
    let size : length lines ≡ length rows = sym (ap length are ∙ length-map lines shown_filed) in
    subst (λ l. AreFollowing h l now) (take_all place lines (omega (arith, past, size))) (far lines are)

-- a row at which the rows stop
pub so_far_stops : (h : Head) (rows : List Row) (place : ℕ) (row : Row) (now : Head) (flaw : Flaw)
    → slice_get rows place ≡ Some row → ((line : Filed) → shown_filed line ≡ row → IsFlaw now line flaw)
    → SoFar h rows place now → (lines : List Filed) → rows ≡ map shown_filed lines → StopsAt h lines flaw
so_far_stops h rows place row now flaw there wrong far lines are =
    let at = at_place lines place row (ap (λ rs. slice_get rs place) (sym are) ∙ there) in record {
      before = take place lines;
      line = at.line;
      more = drop (suc place) lines;
      rows_are = at.rest;
      stands = now;
      follow = far lines are;
      is = wrong at.line at.shown;
    }

-- a row whose line breaks a condition
pub broken_line : (now : Head) (k : KeptRow) (row : Row) (flaw : Break) → shown_filed (filed_kept k) ≡ row
    → BreaksFirst now k flaw → (line : Filed) → shown_filed line ≡ row → IsFlaw now line (Broken k.number flaw)
broken_line now k row flaw shown breaks line is = (k, shown_once line (filed_kept k) (is ∙ sym shown), refl, breaks)

-- a row that is no line's
pub no_line_has : (now : Head) (row : Row) → ¬ IsLineRow row → (line : Filed) → shown_filed line ≡ row
    → IsFlaw now line (NoLine now.number)
no_line_has now row none line is = (refl, λ good. none (subst IsLineRow is good))

-- ---- pages

-- the rows up to where the journal stands have its number or one below it, and those after it one above
record Ends (f : Filed) (h : Head) (ks : List KeptRow) : Type 0 where
  pub before : List Filed
  pub last : Filed
  pub are : f ∷ map filed_kept ks ≡ before ++ last ∷ []
  pub number : id_of last ≡ pos (head_after h ks).number

ends : (f : Filed) (h : Head) → id_of f ≡ pos h.number → (ks : List KeptRow) → Ends f h ks
ends f h is [] = record { before = []; last = f; are = refl; number = is }
ends f h is (k ∷ ks) =
    let rest = ends (filed_kept k) (head_of k) refl ks in record {
      before = f ∷ rest.before;
      last = rest.last;
      are = ap (λ l. f ∷ l) rest.are;
      number = rest.number;
    }

not_itself : (a : ℤ) → is_lt (int_cmp a a) ≡ false
not_itself a = grind (arith, ints)

not_below : (a b : ℤ) → a <ℤ b → is_lt (int_cmp b a) ≡ false
not_below a b low = grind (arith, ints, low)

is_later : (a b : ℤ) → a <ℤ b → is_lt (int_cmp a b) ≡ true
is_later a b low = grind (arith, ints, low)

all_later : (n : ℤ) (fs : List Filed) → AllByRecursion (λ f. n <ℤ id_of f) fs → filter (is_above id_of n) fs ≡ fs
all_later n [] all = refl
all_later n (f ∷ fs) all = rw (is_later n (id_of f) all.0) (ap (λ l. f ∷ l) (all_later n fs all.1))

at_behind : (P : Filed → Type 0) (fs : List Filed) (l : Filed) (more : List Filed)
    → AllByRecursion P (fs ++ l ∷ more) → P l
at_behind P [] l more all = all.0
at_behind P (f ∷ fs) l more all = at_behind P fs l more all.1

-- those above the number of one of them are those behind it
behind : (before : List Filed) (last : Filed) (more : List Filed) → IsKeyedBy id_of (before ++ last ∷ more)
    → filter (is_above id_of (id_of last)) (before ++ last ∷ more) ≡ more
behind [] last more up = rw (not_itself (id_of last)) (all_later (id_of last) more up.0)
behind (f ∷ before) last more up = rw (not_below (id_of f) (id_of last)
    (at_behind (λ g. id_of f <ℤ id_of g) before last more up.0)) (behind before last more up.1)

-- rows that follow on where a journal begins, and the others are those above where it stands then
pub record Passed (h : Head) (lines : List Filed) (head : Head) : Type 0 where
  pub before : List Filed
  pub more : List Filed
  pub are : lines ≡ filed_beginning h ∷ (before ++ more)
  pub follow : AreFollowing h before head
  pub above : filter (is_above id_of (pos head.number)) lines ≡ more

passed_by : (h : Head) (before more : List Filed) (head : Head) (lines : List Filed) → IsKeyedBy id_of lines
    → lines ≡ filed_beginning h ∷ (before ++ more) → AreFollowing h before head → Passed h lines head
passed_by h before more head lines up are follow =
    let e = ends (filed_beginning h) h refl follow.kept in
    let first : filed_beginning h ∷ before ≡ e.before ++ e.last ∷ [] =
    ap (λ l. filed_beginning h ∷ l) follow.rows_are ∙ e.are in
    let cut : lines ≡ e.before ++ e.last ∷ more =
    are ∙ ap (λ l. l ++ more) first ∙ append_assoc e.before (e.last ∷ []) more in
    let number : id_of e.last ≡ pos head.number = e.number ∙ ap (λ (g : Head). pos g.number) (sym follow.stands) in
    record {
      before = before;
      more = more;
      are = are;
      follow = follow;
      above = ap (λ n. filter (is_above id_of n) lines) (sym number)
          ∙ ap (filter (is_above id_of (id_of e.last))) cut
          ∙ behind e.before e.last more (subst (IsKeyedBy id_of) cut up);
    }

pub passed_none : (h : Head) (lines rest : List Filed) → IsKeyedBy id_of lines → lines ≡ filed_beginning h ∷ rest
    → Passed h lines h
passed_none h lines rest up are = passed_by h [] rest h lines up are (follow_none h)

-- a page more
pub passed_more : (h : Head) (lines : List Filed) (head next : Head) → IsKeyedBy id_of lines → Passed h lines head
    → AreFollowing head (take page_size (filter (is_above id_of (pos head.number)) lines)) next
    → Passed h lines next
passed_more h lines head next up p follow =
    let page = take page_size p.more in
    let rest = drop page_size p.more in
    let whole : page ++ rest ≡ p.more = take-append-drop page_size p.more in
    passed_by h (p.before ++ page) rest next lines up
    (p.are ∙ ap (λ l. filed_beginning h ∷ (p.before ++ l)) (sym whole)
    ∙ ap (λ l. filed_beginning h ∷ l) (sym (append_assoc p.before page rest)))
    (follow_both h head next p.before page p.follow
    (subst (λ l. AreFollowing head (take page_size l) next) p.above follow))

-- no page more
pub passed_all : (h : Head) (lines : List Filed) (head : Head) → Passed h lines head → page_above head.number lines ≡ []
    → (rows : List Filed) × (lines ≡ filed_beginning h ∷ rows) × AreFollowing h rows head
passed_all h lines head p none =
    let over : p.more ≡ [] = nothing p.more (ap (λ l. map shown_filed (take page_size l)) (sym p.above) ∙ none) in (
      p.before,
      p.are ∙ ap (λ l. filed_beginning h ∷ (p.before ++ l)) over
          ∙ ap (λ l. filed_beginning h ∷ l) (append-nil p.before),
      p.follow,
    )
  where
    nothing : (fs : List Filed) → map shown_filed (take page_size fs) ≡ [] → fs ≡ []
    nothing [] e = refl
    nothing (f ∷ fs) e =
        let some : shown_filed f ∷ map shown_filed (take 999 fs) ≡ [] = e in absurd (cc)

-- a flaw in a page
pub passed_stops : (h : Head) (lines : List Filed) (head : Head) (flaw : Flaw) → Passed h lines head
    → StopsAt head (take page_size (filter (is_above id_of (pos head.number)) lines)) flaw
    → (rows : List Filed) × (lines ≡ filed_beginning h ∷ rows) × StopsAt h rows flaw
passed_stops h lines head flaw p stops =
    let page = take page_size p.more in
    let rest = drop page_size p.more in
    let whole : page ++ rest ≡ p.more = take-append-drop page_size p.more in (
      p.before ++ p.more,
      p.are,
      subst (λ l. StopsAt h (p.before ++ l) flaw) whole
          (subst (λ l. StopsAt h l flaw) (append_assoc p.before page rest)
          (stops_before h (p.before ++ page) rest flaw (stops_after h head p.before page flaw p.follow
          (subst (λ l. StopsAt head (take page_size l) flaw) p.above stops)))),
    )
