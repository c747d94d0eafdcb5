use Rattle.std.proofs.Common.{refl, ap, ◌∙◌, ◌++◌}
use Rattle.sqlite.specs.Held.{state}
use Rattle.mf_journal.specs.declared.following.Head.{Head}
use Rattle.mf_ledger_play.specs.Told.{span_text}
use Rattle.mf_store_journal.proofs.GoingLemmas.{unchanged_itself}
use Rattle.mf_store_played.specs.Played.{founded}
use Rattle.mf_store_sql.proofs.OpenLemmas.{always_clean}
use Rattle.mf_store_ledger.specs.Journal.{journal_transactions}
use Rattle.mf_store_ledger.proofs.writing.books_from.Goals as goal

pub returns-in_default-clause-kept : goal.returns-in_default-clause-kept
returns-in_default-clause-kept g c = unchanged_itself (state g.S.Store c.args.connection.now)

pub found_in_memory-requires : goal.found_in_memory-requires
found_in_memory-requires g c = c.requires.founds.early

pub returns-in_err-store-clause-kept : goal.returns-in_err-store-clause-kept
returns-in_err-store-clause-kept g c = unchanged_itself (state g.S.Store c.args.connection.now)

pub returns-in_err-text-clause-kept : goal.returns-in_err-text-clause-kept
returns-in_err-text-clause-kept g c = unchanged_itself (state g.S.Store c.args.connection.now)

pub returns-in-Ok-Ok-clause-answer : goal.returns-in-Ok-Ok-clause-answer
returns-in-Ok-Ok-clause-answer g c clean its lines keeps =
    let day = c.args.day in
    let books = rw c.in-Ok-Ok.field-0-is at (c.in-Ok-Ok.ensures {u = tt}).books in
    let came = books clean its (always_clean (λ _. refl) c.book_pages.new.store.connection) c.args.journal.begins lines
    (ap (λ (h : Head). h.number) c.requires.founds.is) keeps (founded day) c.in_ok-store.ensures.stands in (
      day,
      c.requires.founds,
      came.0,
      came.1,
      came.2.text
          ∙ ap (λ text. text ++ span_text c.args.asked.now (journal_transactions c.args.asked.now.basis day lines))
          c.in_ok-text.ensures.text,
    )

pub returns-in-Ok-Err-clause-answer : goal.returns-in-Ok-Err-clause-answer
returns-in-Ok-Err-clause-answer g c clean its lines keeps =
    let day = c.args.day in
    let books = rw c.in-Ok-Err.field-0-is at (c.in-Ok-Err.ensures {u = tt}).books in
    let came = books clean its (always_clean (λ _. refl) c.book_pages.new.store.connection) c.args.journal.begins lines
    (ap (λ (h : Head). h.number) c.requires.founds.is) keeps (founded day) c.in_ok-store.ensures.stands in
    (day, c.requires.founds, came.0, came.1, came.2)
