-- The books of a journal: the transactions of the requests that its lines tell, and their text.
use Rattle.std.specs.Prelude.{ℕ, List, ◌++◌}
use Rattle.mf_ledger.specs.Basis.{booked}
use Rattle.mf_ledger.specs.declared.basis.Basis.{Basis}
use Rattle.mf_ledger.specs.declared.books.Transaction.{Transaction}
use Rattle.mf_ledger_play.specs.Told.{form_head, run_told, span_text}
use Rattle.mf_ledger_play.specs.declared.form.BooksAsked.{BooksAsked}
use Rattle.mf_model.specs.Institution.{JournalLine}
use Rattle.mf_store_played.specs.Played.{founded}

-- the transactions of a journal that begins at the founding of an institution on this day, on a basis
abbrev pub journal_transactions : Basis → ℕ → List JournalLine → List Transaction
journal_transactions basis day lines = booked basis 0 (run_told lines) (founded day)

-- the text of its books
abbrev pub books_text : BooksAsked → ℕ → List JournalLine → List ℕ
books_text asked day lines = form_head asked.form ++ span_text asked (journal_transactions asked.basis day lines)
