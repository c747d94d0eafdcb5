-- Archives found one before the other.
use Rattle.std.proofs.Common.{◌≡◌, ◌≤◌, ◌<◌, ◌+◌, ℕ, zero, suc, true, false, List, [], ◌∷◌, ◌++◌, take, drop, length}
use Rattle.std.proofs.Common.{slice_get, Some, refl, sym, ap, ◌∙◌, subst, arith, append-nil, append_assoc}
use Rattle.std.specs.List.{AllByRecursion}
use Rattle.std.proofs.lemmas.List.{take_all}
use Rattle.mf_journal.specs.declared.following.Head.{Head}
use Rattle.mf_model.specs.Institution.{JournalLine}
use Rattle.mf_store_archived.specs.Archives.{IsPart}
use Rattle.mf_store_archived.specs.Joining.{AreArchives, EndsAt, IsArchive, IsFirst, IsJoined, LeadsBack, LeadsOn}
use Rattle.mf_store_archived.specs.Joining.{NoneEnds, Reaches}
use Rattle.mf_store_archived.specs.declared.archive.Archive.{Archive}
use Rattle.mf_store_archived.proofs.CheckLemmas.{take_next, one_part}

-- ---- places of a list

all_and : {A : Type 0} (P : A → Type 0) (xs : List A) (x : A) → AllByRecursion P xs → P x
    → AllByRecursion P (xs ++ x ∷ [])
all_and P [] x all one = (one, tt)
all_and P (y ∷ xs) x all one = (all.0, all_and P xs x all.1 one)

pub none_first : {A : Type 0} (P : A → Type 0) (xs : List A) → AllByRecursion P (take 0 xs)
none_first P [] = tt
none_first P (x ∷ xs) = tt

pub none_more : {A : Type 0} (P : A → Type 0) (xs : List A) (place : ℕ) (x : A) → slice_get xs place ≡ Some x → P x
    → AllByRecursion P (take place xs) → AllByRecursion P (take (place + 1) xs)
none_more P xs place x there holds all =
    let one : suc place ≡ place + 1 = omega arith in
    subst (λ (n : ℕ). AllByRecursion P (take n xs)) one
    (subst (AllByRecursion P) (sym (take_next xs place x there)) (all_and P (take place xs) x all holds))

pub none_at_all : {A : Type 0} (P : A → Type 0) (xs : List A) (place : ℕ) → length xs ≤ place
    → AllByRecursion P (take place xs) → AllByRecursion P xs
none_at_all P xs place past all = subst (AllByRecursion P) (take_all place xs past) all

parted_at : {A : Type 0} (xs : List A) (place : ℕ) (x : A) → slice_get xs place ≡ Some x
    → xs ≡ take place xs ++ x ∷ drop (suc place) xs
parted_at [] place x there = absurd (cc)
parted_at (y ∷ ys) zero x there = let same : y ≡ x = cc in ap (λ z. z ∷ ys) same
parted_at (y ∷ ys) (suc place) x there = ap (λ rest. y ∷ rest) (parted_at ys place x there)

pub first_at : (P : Archive → Type 0) (archives : List Archive) (place : ℕ) (a : Archive)
    → slice_get archives place ≡ Some a → P a → AllByRecursion (λ (b : Archive). ¬ P b) (take place archives)
    → IsFirst P archives a
first_at P archives place a there holds none = record {
  before = take place archives;
  after = drop (suc place) archives;
  are = parted_at archives place a there;
  none = none;
  holds = holds;
}

all_there : (P : Archive → Type 0) (archives : List Archive) (place : ℕ) (a : Archive)
    → slice_get archives place ≡ Some a → AllByRecursion P archives → P a
all_there P [] place a there all = absurd (cc)
all_there P (b ∷ bs) zero a there all = let same : b ≡ a = cc in subst P same all.0
all_there P (b ∷ bs) (suc place) a there all = all_there P bs place a there all.1

pub same_some : {A : Type 0} (x y : A) → Some x ≡ Some y → x ≡ y
same_some x y same = cc

-- ---- one before the other

-- the archives at these places, the earliest first, are those that lead back from one head to another
pub record Going (archives : List Archive) (to start : Head) (places : List ℕ) : Type 0 where
  pub chosen : List Archive
  pub lines : List JournalLine
  pub back : LeadsBack archives to chosen start lines
  pub leads : LeadsOn archives start places to lines

pub going_first : (archives : List Archive) (to : Head) (places : List ℕ) → places ≡ [] → Going archives to to places
going_first archives to places none = record {
  chosen = [];
  lines = [];
  back = (refl, refl);
  leads = subst (λ ps. LeadsOn archives to ps to []) (sym none) (refl, refl);
}

back_more : (archives : List Archive) (to now : Head) (chosen : List Archive) (a : Archive)
    (first lines : List JournalLine) → LeadsBack archives to chosen now lines → IsFirst (EndsAt now) archives a
    → IsPart a first → LeadsBack archives to (chosen ++ a ∷ []) a.begins (first ++ lines)
back_more archives to now [] a first lines (same, none) found part = (
  subst (λ (h : Head). IsFirst (EndsAt h) archives a) same found,
  first,
  part,
  [],
  ap (λ ls. first ++ ls) none ∙ append-nil first,
  (refl, refl),
)
back_more archives to now (b ∷ chosen) a first lines (its, last, its_part, rest, are, more) found part = (
  its,
  last,
  its_part,
  first ++ rest,
  ap (λ ls. first ++ ls) are ∙ sym (append_assoc first rest last),
  back_more archives b.begins now chosen a first rest more found part,
)

pub going_on : (archives : List Archive) (to now : Head) (places next : List ℕ) (place : ℕ) (a : Archive)
    → AreArchives archives → slice_get archives place ≡ Some a → EndsAt now a
    → AllByRecursion (λ (b : Archive). ¬ EndsAt now b) (take place archives) → next ≡ place ∷ places
    → Going archives to now places → Going archives to a.begins next
going_on archives to now places next place a all there ends none are g =
    let its = all_there IsArchive archives place a there all in
    let on : LeadsOn archives a.begins (place ∷ places) to (its.0 ++ g.lines) = (
      a,
      there,
      refl,
      its.0,
      its.1,
      g.lines,
      refl,
      subst (λ (h : Head). LeadsOn archives h places to g.lines) (sym ends.1) g.leads,
    ) in
    record {
      chosen = g.chosen ++ a ∷ [];
      lines = its.0 ++ g.lines;
      back = back_more archives to now g.chosen a its.0 g.lines g.back
          (first_at (EndsAt now) archives place a there ends none) its.1;
      leads = subst (λ ps. LeadsOn archives a.begins ps to (its.0 ++ g.lines)) (sym are) on;
    }

-- ---- one such way back

one_first : (P : Archive → Type 0) (before other : List Archive) (a b : Archive) (after rest : List Archive)
    → before ++ a ∷ after ≡ other ++ b ∷ rest → AllByRecursion (λ (c : Archive). ¬ P c) before → P a
    → AllByRecursion (λ (c : Archive). ¬ P c) other → P b → a ≡ b
one_first P [] [] a b after rest same none holds lacks has = cc
one_first P [] (d ∷ other) a b after rest same none holds lacks has =
    let first : a ≡ d = cc in absurd (lacks.0 (subst P first holds))
one_first P (c ∷ before) [] a b after rest same none holds lacks has =
    let first : c ≡ b = cc in absurd (none.0 (subst P (sym first) has))
one_first P (c ∷ before) (d ∷ other) a b after rest same none holds lacks has =
    let others : before ++ a ∷ after ≡ other ++ b ∷ rest = cc in
    one_first P before other a b after rest others none.1 holds lacks.1 has

pub first_once : (P : Archive → Type 0) (archives : List Archive) (a b : Archive) → IsFirst P archives a
    → IsFirst P archives b → a ≡ b
first_once P archives a b x y =
    one_first P x.before y.before a b x.after y.after (sym x.are ∙ y.are) x.none x.holds y.none y.holds

behind : (P : Archive → Type 0) (before : List Archive) (a : Archive) (after : List Archive)
    → AllByRecursion P (before ++ a ∷ after) → P a
behind P [] a after all = all.0
behind P (b ∷ before) a after all = behind P before a after all.1

none_is_first : (P : Archive → Type 0) (archives : List Archive) (a : Archive)
    → AllByRecursion (λ (b : Archive). ¬ P b) archives → IsFirst P archives a → ⊥
none_is_first P archives a none first =
    behind (λ (b : Archive). ¬ P b) first.before a first.after
    (subst (AllByRecursion (λ (b : Archive). ¬ P b)) first.are none) first.holds

one_back : (archives : List Archive) (to start other : Head) (xs ys : List Archive) (lines others : List JournalLine)
    → LeadsBack archives to xs start lines → LeadsBack archives to ys other others → NoneEnds start archives
    → NoneEnds other archives → (start ≡ other) × (lines ≡ others)
one_back archives to start other [] [] lines others x y stop halt = (x.0 ∙ sym y.0, x.1 ∙ sym y.1)
one_back archives to start other [] (b ∷ ys) lines others x y stop halt =
    absurd (none_is_first (EndsAt to) archives b (subst (λ (h : Head). NoneEnds h archives) x.0 stop) y.0)
one_back archives to start other (a ∷ xs) [] lines others x y stop halt =
    absurd (none_is_first (EndsAt to) archives a (subst (λ (h : Head). NoneEnds h archives) y.0 halt) x.0)
one_back archives to start other (a ∷ xs) (b ∷ ys) lines others
    (first, last, part, rest, are, back) (second, end, piece, more, were, again) stop halt =
    let same : a ≡ b = first_once (EndsAt to) archives a b first second in
    let theirs = subst (λ (c : Archive). LeadsBack archives c.begins ys other more) (sym same) again in
    let both = one_back archives a.begins start other xs ys rest more back theirs stop halt in
    let ends : last ≡ end = one_part a last end part (subst (λ (c : Archive). IsPart c end) (sym same) piece) in (
      both.0,
      are ∙ ap (λ ls. ls ++ last) both.1 ∙ ap (λ ls. more ++ ls) ends ∙ sym were,
    )

-- archives lead back to one head, with one list of lines
pub one_reach : (archives : List Archive) (to start other : Head) (lines others : List JournalLine)
    → Reaches archives to start lines → Reaches archives to other others → (start ≡ other) × (lines ≡ others)
one_reach archives to start other lines others x y =
    one_back archives to start other x.chosen y.chosen lines others x.back y.back x.last y.last
