-- What is said of the books of a journal that a table keeps.
use Rattle.std.specs.Prelude.{◌≡◌, ◌+◌, ℕ, List}
use Rattle.sqlite.specs.Tree.{Trees}
use Rattle.mf_journal.specs.declared.following.Head.{Head}
use Rattle.mf_model.specs.Institution.{Institution, JournalLine}
use Rattle.mf_play.specs.Play.{PlaysTo, StopsAt}
use Rattle.mf_store_journal.specs.Written.{KeepsJournalFrom}
use Rattle.mf_store_ledger.specs.Journal.{books_text}
use Rattle.mf_store_ledger.specs.declared.answer.Books.{Books}
use Rattle.mf_store_ledger.specs.declared.answer.Books.TheVariants.{Written, NoFounding, OtherCopy, Stops}
use Rattle.mf_ledger_play.specs.declared.form.BooksAsked.{BooksAsked}
use Rattle.mf_store_played.specs.Played.{IsFounding, founded}

-- The answer is right for the lines of a journal that begins here: where they play from its founding to their end, the
-- text of their books.
abbrev pub IsAnswer : BooksAsked → Head → List JournalLine → Books → Type 0
IsAnswer asked begins lines (Written text) = (day : ℕ) × IsFounding begins day × (i : Institution)
    × PlaysTo (founded day) lines i × (text.items ≡ books_text asked day lines)
IsAnswer asked begins lines NoFounding = (day : ℕ) → ¬ IsFounding begins day
IsAnswer asked begins lines OtherCopy = ⊥
IsAnswer asked begins lines (Stops number why) = (day : ℕ) × IsFounding begins day × (place : ℕ)
    × (number ≡ place + 1) × StopsAt (founded day) lines place why

-- the answer is right for the journal that trees keep
pub record IsAnswerOf (asked : BooksAsked) (trees : Trees) (books : Books) : Type 0 where
  pub right : (begins : Head) (lines : List JournalLine) → KeepsJournalFrom begins trees lines
      → IsAnswer asked begins lines books
