-- A line more of a journal that the program can have written, and journals that have none yet.
use Rattle.std.proofs.Common.{◌≡◌, ◌≤◌, ◌<◌, ◌+◌, ◌^◌, ℕ, suc, List, [], ◌∷◌, ◌++◌, length, sym, ap, subst, arith}
use Rattle.std.specs.List.{AllByRecursion}
use Rattle.sha2.proofs.Facts256.{length-sha256}
use Rattle.mf_model.specs.Institution.{JournalLine}
use Rattle.mf_journal.specs.Following.{Follows, line_of}
use Rattle.mf_journal.specs.Founding.{founding, founding_text}
use Rattle.mf_journal.specs.declared.following.Head.{Head}
use Rattle.mf_journal.specs.declared.following.KeptRow.{KeptRow}
use Rattle.mf_store_journal.specs.Checking.{CanBegin}
use Rattle.mf_store_journal.specs.Rows.{HasPlace, filed_beginning, filed_kept, head_with, head_with_all, no_line}
use Rattle.mf_store_journal.specs.Written.{CanBeLines, DaysRise, HasRoom}
use Rattle.mf_store_journal.proofs.RowsLemmas.{head_in, line_in}

-- ---- a line more

number_after : (h : Head) (ls : List JournalLine) → (head_with_all h ls).number ≡ h.number + length ls
number_after h [] = omega arith
number_after h (l ∷ ls) = let more = number_after (head_with h l) ls in omega (arith, more)

more_days : (h : Head) (ls : List JournalLine) (l : JournalLine) → DaysRise h.day ls
    → (head_with_all h ls).day ≤ l.day → DaysRise h.day (ls ++ l ∷ [])
more_days h [] l days late = (late, tt)
more_days h (k ∷ ks) l days late = (days.0, more_days (head_with h k) ks l days.1 late)

more_room : (ls : List JournalLine) (l : JournalLine) → AllByRecursion HasRoom ls → HasRoom l
    → AllByRecursion HasRoom (ls ++ l ∷ [])
more_room [] l all room = (room, tt)
more_room (k ∷ ks) l all room = (all.0, more_room ks l all.1 room)

one_longer : {A : Type 0} (xs : List A) (x : A) → length (xs ++ x ∷ []) ≡ suc (length xs)
one_longer [] x = omega arith
one_longer (y ∷ xs) x = ap suc (one_longer xs x)

-- a row with room that follows on where the journal stands
pub can_more : (begins : Head) (lines : List JournalLine) (kept : KeptRow) → CanBeLines begins lines
    → Follows (head_with_all begins lines) kept → HasPlace kept → CanBeLines begins (lines ++ line_of kept ∷ [])
can_more begins lines kept can follows place =
    let stands = number_after begins lines in
    let next : kept.number ≡ suc (head_with_all begins lines).number = follows.0 in
    let longer = one_longer lines (line_of kept) in
    let low = place.number in
    record {
      can_begin = can.can_begin;
      days = more_days begins lines (line_of kept) can.days follows.1;
      room = more_room lines (line_of kept) can.room (record {
        day = place.day;
        office = place.office;
        staff = place.staff;
        named_office = place.named_office;
        named_loan = place.named_loan;
      });
      numbers = omega (arith, stands, next, longer, low);
    }

-- ---- no line yet

pub can_be_none : (begins : Head) → CanBegin begins → CanBeLines begins []
can_be_none begins can =
    let low = can.number in record { can_begin = can; days = tt; room = tt; numbers = omega (arith, low) }

-- the row of where a journal begins has room where its head has
pub can_begin_by : (begins : Head) (kept : KeptRow) → filed_kept kept ≡ filed_beginning begins → HasPlace kept
    → length begins.chain ≡ 32 → CanBegin begins
can_begin_by begins kept is place chain =
    let number : kept.number ≡ begins.number = ap (λ f. (head_in f).number) is in
    let day : kept.row.day ≡ begins.day = ap (λ f. (head_in f).day) is in
    record {
      number = subst (λ (n : ℕ). n < 2 ^ 32) number place.number;
      day = subst (λ (n : ℕ). n < 2 ^ 32) day place.day;
      chain = chain;
    }

pub has_place : (begins : Head) (kept : KeptRow) → filed_kept kept ≡ filed_beginning begins → CanBegin begins
    → HasPlace kept
has_place begins kept is can =
    let number : kept.number ≡ begins.number = ap (λ f. (head_in f).number) is in
    let day : kept.row.day ≡ begins.day = ap (λ f. (head_in f).day) is in
    let line : line_of kept ≡ no_line begins.day = ap line_in is in
    let zero : 0 < 2 ^ 32 = omega arith in
    record {
      number = subst (λ (n : ℕ). n < 2 ^ 32) (sym number) can.number;
      day = subst (λ (n : ℕ). n < 2 ^ 32) (sym day) can.day;
      office = subst (λ (l : JournalLine). l.office < 2 ^ 32) (sym line) zero;
      staff = subst (λ (l : JournalLine). l.staff < 2 ^ 32) (sym line) zero;
      named_office = subst (λ (l : JournalLine). l.named_office < 2 ^ 32) (sym line) zero;
      named_loan = subst (λ (l : JournalLine). l.named_loan < 2 ^ 32) (sym line) zero;
    }

-- that of a new institution can begin
pub founding_can : (schema day : ℕ) → day < 2 ^ 32 → CanBegin (founding schema day)
founding_can schema day low =
    record { number = omega arith; day = low; chain = length-sha256 (founding_text schema day) }
