use Rattle.std.proofs.Common.{[], refl, sym, ◌∙◌}
use Rattle.std.proofs.lemmas.Result.{IfOk-weaker}
use Rattle.sqlite.specs.Held.{state}
use Rattle.mf_store_journal.proofs.GoingLemmas.{unchanged_itself}
use Rattle.mf_store_noted.specs.Kept.{journaled}
use Rattle.mf_store_played.specs.Answer.{IsCopy}
use Rattle.mf_store_played.proofs.AnswerLemmas.{copied_answer}
use Rattle.mf_store_played.proofs.CopyLemmas.{same_some, not_so, at_other}
use Rattle.mf_store_played.proofs.copied.play_begun.Goals as goal

pub returns-then-is_at-clause-answer : goal.returns-then-is_at-clause-answer
returns-then-is_at-clause-answer g c clean its copied i lines begun playable =
    let at = c.is_at.ensures.0 c.if-is_at.true in
    let copy : IsCopy copied c.args.journal.begins =
    record { none = begun.none; is = same_some _ _ (sym at ∙ (c.journal_begins.ensures ∙ begun.begins)) } in
    IfOk-weaker c.play_over.result _ _ (copied_answer copied c.args.journal.begins lines i copy)
    (c.play_over.ensures.answer clean its (journaled copied) i [] lines begun.stands refl playable)

pub returns-clause-kept : goal.returns-clause-kept
returns-clause-kept g c = unchanged_itself (state g.S.Store c.args.connection.now)

pub returns-clause-answer : goal.returns-clause-answer
returns-clause-answer g c clean its copied i lines begun playable = (
  λ copy. not_so c.is_at.result _ c.is_at.ensures c.if-is_at.false (at_other copied _ c.args.journal.begins
      (c.journal_begins.ensures ∙ begun.begins) copy),
  playable.stands,
)
