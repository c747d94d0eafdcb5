-- The books of a journal that was begun over rows, from a copy of these: they begin with the copy's balances.
use Rattle.std.specs.Prelude.{◌≡◌, ◌+◌, ◌++◌, ◌&&◌, nat_le, cond, ℕ, List, []}
use Rattle.std.specs.List.{flat_map}
use Rattle.sqlite.specs.Tree.{Trees}
use Rattle.mf_journal.specs.declared.following.Head.{Head}
use Rattle.mf_ledger.specs.Adjusting.{openings}
use Rattle.mf_ledger.specs.Basis.{booked}
use Rattle.mf_ledger.specs.Sheet.{opening_rows}
use Rattle.mf_ledger.specs.declared.basis.Basis.{Basis}
use Rattle.mf_ledger.specs.declared.books.Transaction.{Transaction}
use Rattle.mf_ledger_play.specs.Opening.{opening_text}
use Rattle.mf_ledger_play.specs.Told.{form_head, run_told, span_text}
use Rattle.mf_ledger_play.specs.declared.form.BooksAsked.{BooksAsked}
use Rattle.mf_model.specs.Institution.{Institution, JournalLine}
use Rattle.mf_play.specs.Play.{PlaysTo, StopsAt}
use Rattle.mf_store_journal.specs.Written.{KeepsJournalFrom}
use Rattle.mf_store_noted.specs.Kept.{journaled}
use Rattle.mf_store_played.specs.Answer.{IsCopy}
use Rattle.mf_store_ledger.specs.declared.answer.Books.{Books}
use Rattle.mf_store_ledger.specs.declared.answer.Books.TheVariants.{Written, NoFounding, OtherCopy, Stops}

-- the transactions of a journal that was begun over the rows of this institution, on a basis
abbrev pub copied_transactions : Basis → Institution → List JournalLine → List Transaction
copied_transactions basis copied lines = booked basis 0 (run_told lines) (journaled copied)

-- The text of its books: the copy's balances on its business day, and then those transactions.
abbrev pub copied_books_text : BooksAsked → Institution → List JournalLine → List ℕ
copied_books_text asked copied lines =
    form_head asked.form
    ++ (opening_text asked copied ++ span_text asked (copied_transactions asked.basis copied lines))

-- the rows of the opening in a sheet, where its day is in the span that is asked for
abbrev pub rows_opened : BooksAsked → Institution → List (List (List ℕ))
rows_opened asked copied = cond (nat_le asked.first copied.catalogue.day && nat_le copied.catalogue.day asked.last)
    (flat_map (opening_rows asked.names copied.catalogue.day) (openings asked.basis copied)) []

-- The answer is right for the lines of a journal that begins here, from a copy of what stood there before it was begun:
-- where they play from it to their end, the text of the books.
abbrev pub IsCopyAnswer : BooksAsked → Institution → Head → List JournalLine → Books → Type 0
IsCopyAnswer asked copied begins lines (Written text) = IsCopy copied begins × (i : Institution)
    × PlaysTo (journaled copied) lines i × (text.items ≡ copied_books_text asked copied lines)
IsCopyAnswer asked copied begins lines NoFounding = ⊥
IsCopyAnswer asked copied begins lines (Stops number why) = IsCopy copied begins × (place : ℕ)
    × (number ≡ place + 1) × StopsAt (journaled copied) lines place why
IsCopyAnswer asked copied begins lines OtherCopy = ¬ IsCopy copied begins

-- the answer is right for the journal that trees keep
pub record IsCopyAnswerOf (asked : BooksAsked) (copied : Institution) (trees : Trees) (books : Books) : Type 0 where
  pub right : (begins : Head) (lines : List JournalLine) → KeepsJournalFrom begins trees lines
      → IsCopyAnswer asked copied begins lines books
