use Rattle.std.proofs.Common.{◌≡◌, Option, Some, None, refl, sym, ◌∙◌}
use Rattle.mf_journal.specs.Chain.{line_of_row}
use Rattle.mf_ledger_play.proofs.LineLemmas.{loan_written, none_written}
use Rattle.mf_ledger_play.proofs.RunLemmas.{of_line}
use Rattle.mf_ledger_play.proofs.line.book_own.Goals as goal

none_there : {A : Type 0} (o : Option A) → ((x : A) → o ≡ Some x → ⊥) → o ≡ None
none_there None h = refl
none_there (Some x) h = absurd (h x refl)

pub returns-in_default-clause-books : goal.returns-in_default-clause-books
returns-in_default-clause-books g c =
    none_written g.S.InstitutionStore c.args.asked.now c.args.number c.args.day (line_of_row c.args.row)
    c.args.text.now.items c.args.store.now c.play_line-in_default.new.store c.play_line-in_default.result
    (sym c.in_ok-loan.ensures.loan ∙ none_there c.in_ok-loan.field-0 c.in_default.not-Some)
    c.play_line-in_default.ensures.plays

pub returns-in_ok-put_moved-in-Ok-Ok-clause-books : goal.returns-in_ok-put_moved-in-Ok-Ok-clause-books
returns-in_ok-put_moved-in-Ok-Ok-clause-books g c =
    loan_written g.S.InstitutionStore c.args.asked.now c.args.number c.args.day (line_of_row c.args.row)
    (of_line c.args.number c.args.day c.in-Some.loan) refl (sym c.in_ok-loan.ensures.loan ∙ c.in-Some.is)
    c.in-Ok-Ok.change c.args.text.now.items c.put_moved.new.text.items c.args.store.now c.book_loan.new.store
    (sym c.if-not-spans.ensures) (rw c.in-Ok-Ok.field-0-is at (c.in-Ok-Ok.ensures {u = tt}).moves)
    c.in_ok-put_moved-in-Ok-Ok.ensures.text
