use Rattle.std.proofs.Common.{sym, ◌∙◌}
use Rattle.sqlite.specs.Held.{state}
use Rattle.mf_store_journal.proofs.GoingLemmas.{unchanged_itself}
use Rattle.mf_store_played.specs.Answer.{IsCopy}
use Rattle.mf_store_played.proofs.CopyLemmas.{at_other, not_so, same_some}
use Rattle.mf_store_ledger.proofs.copied.books_begun.Goals as goal

pub returns-then-is_at-clause-answer : goal.returns-then-is_at-clause-answer
returns-then-is_at-clause-answer g c clean its copied lines begun keeps =
    let at = c.is_at.ensures.0 c.if-is_at.true in
    let copy : IsCopy copied c.args.journal.begins =
    record { none = begun.none; is = same_some _ _ (sym at ∙ (c.journal_begins.ensures ∙ begun.begins)) } in
    c.books_over.ensures.answer clean its copied lines copy begun.stands keeps

pub returns-clause-kept : goal.returns-clause-kept
returns-clause-kept g c = unchanged_itself (state g.S.Store c.args.connection.now)

pub returns-clause-answer : goal.returns-clause-answer
returns-clause-answer g c clean its copied lines begun keeps copy =
    not_so c.is_at.result _ c.is_at.ensures c.if-is_at.false (at_other copied _ c.args.journal.begins
    (c.journal_begins.ensures ∙ begun.begins) copy)
