use Rattle.std.proofs.Common.{◌++◌, refl, ap, ◌∙◌}
use Rattle.sqlite.specs.Held.{state}
use Rattle.mf_journal.specs.declared.following.Head.{Head}
use Rattle.mf_ledger_play.specs.Opening.{opening_text}
use Rattle.mf_ledger_play.specs.Told.{form_head, span_text}
use Rattle.mf_store_journal.proofs.GoingLemmas.{unchanged_itself}
use Rattle.mf_store_noted.specs.Kept.{journaled}
use Rattle.mf_store_sql.proofs.OpenLemmas.{always_clean}
use Rattle.mf_store_ledger.specs.Copied.{copied_transactions}
use Rattle.mf_store_ledger.proofs.AnswerLemmas.{copied_text, opening_same}
use Rattle.mf_store_ledger.proofs.copied.books_over.Goals as goal

pub returns-in_default-clause-kept : goal.returns-in_default-clause-kept
returns-in_default-clause-kept g c = unchanged_itself (state g.S.Store c.args.connection.now)

pub returns-in_err-text-clause-kept : goal.returns-in_err-text-clause-kept
returns-in_err-text-clause-kept g c = unchanged_itself (state g.S.Store c.args.connection.now)

pub returns-in-Err-clause-kept : goal.returns-in-Err-clause-kept
returns-in-Err-clause-kept g c = unchanged_itself (state g.S.Store c.args.connection.now)

pub returns-in-Ok-Ok-clause-answer : goal.returns-in-Ok-Ok-clause-answer
returns-in-Ok-Ok-clause-answer g c clean its copied lines copy stands keeps =
    let asked = c.args.asked.now in
    let opens = (c.in-Ok-book_opening.ensures {u = tt}).opens in
    let early = always_clean (λ _. refl) c.book_opening.new.store.connection in
    let books = rw c.in-Ok-Ok.field-0-is at (c.in-Ok-Ok.ensures {u = tt}).books in
    let came = books clean its (always_clean (λ _. refl) c.book_pages.new.store.connection) c.args.journal.begins lines
    (ap (λ (h : Head). h.number) copy.is) keeps (journaled copied) (opens.same early (journaled copied) stands) in (
      copy,
      came.0,
      came.1,
      copied_text (form_head asked.form) (opening_text asked copied)
          (span_text asked (copied_transactions asked.basis copied lines)) c.in_ok-text.text.items
          c.book_opening.new.text.items c.book_pages.new.text.items c.in_ok-text.ensures.text
          (opens.text early (journaled copied) stands
          ∙ ap (λ text. c.in_ok-text.text.items ++ text) (opening_same asked copied)) came.2.text,
    )

pub returns-in-Ok-Err-clause-answer : goal.returns-in-Ok-Err-clause-answer
returns-in-Ok-Err-clause-answer g c clean its copied lines copy stands keeps =
    let opens = (c.in-Ok-book_opening.ensures {u = tt}).opens in
    let early = always_clean (λ _. refl) c.book_opening.new.store.connection in
    let books = rw c.in-Ok-Err.field-0-is at (c.in-Ok-Err.ensures {u = tt}).books in
    let came = books clean its (always_clean (λ _. refl) c.book_pages.new.store.connection) c.args.journal.begins lines
    (ap (λ (h : Head). h.number) copy.is) keeps (journaled copied) (opens.same early (journaled copied) stands) in
    (copy, came.0, came.1, came.2)
