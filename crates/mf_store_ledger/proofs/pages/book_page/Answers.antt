use Rattle.std.proofs.Common.{◌∙◌, ap, map, subst}
use Rattle.std.specs.Prelude.{IfOk}
use Rattle.mf_journal.specs.Chain.{line_of_row}
use Rattle.mf_ledger_play.specs.Playing.{BooksLines}
use Rattle.mf_store_ledger.proofs.PageLemmas.{premise_of}
use Rattle.mf_store_ledger.proofs.pages.book_page.Goals as goal

pub returns-in-Ok-clause-books : goal.returns-in-Ok-clause-books
returns-in-Ok-clause-books g c h lines are =
    subst (λ ls. IfOk c.book_lines.result (BooksLines g.T.InstitutionStore c.args.asked.now c.args.number ls
    c.args.text.now.items c.book_lines.new.text.items c.args.store.now c.book_lines.new.store))
    (ap (map line_of_row) c.deref.ensures.value ∙ c.in-Ok.ensures.told h lines are) c.book_lines.ensures.books

pub returns-in-Ok-clause-premise : goal.returns-in-Ok-clause-premise
returns-in-Ok-clause-premise g c =
    premise_of g.T.InstitutionStore c.args.asked.now c.args.number _ _ _ c.args.store.now c.book_lines.new.store
    c.book_lines.result c.book_lines.ensures.books
