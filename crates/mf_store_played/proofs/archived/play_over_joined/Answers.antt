use Rattle.std.proofs.Common.{◌++◌, sym, ap, ◌∙◌}
use Rattle.std.proofs.lemmas.Result.{IfOk-weaker}
use Rattle.sqlite.specs.Held.{state}
use Rattle.mf_journal.specs.declared.following.Head.{Head}
use Rattle.mf_store_schema.proofs.ReadLemmas.{at_none}
use Rattle.mf_store_journal.specs.Rows.{head_with_all}
use Rattle.mf_store_journal.proofs.GoingLemmas.{unchanged_itself}
use Rattle.mf_store_archive.specs.Archived.{with_lines}
use Rattle.mf_store_archive.proofs.ArchivedLemmas.{heads_compose}
use Rattle.mf_store_played.proofs.ArchivedLemmas.{above_none, answer_from, leads_to}
use Rattle.mf_store_played.proofs.archived.play_over_joined.Goals as goal

pub gap_before-requires : goal.gap_before-requires
gap_before-requires g c =
    above_none c.args.joined.now.begins.number c.is_before_all.result c.is_before_all.ensures
    c.if-not-is_before_all.true

pub returns-then-not-is_before_all-clause-kept : goal.returns-then-not-is_before_all-clause-kept
returns-then-not-is_before_all-clause-kept g c = unchanged_itself (state g.S.Store c.args.connection.now)

pub returns-then-not-is_before_all-clause-answer : goal.returns-then-not-is_before_all-clause-answer
returns-then-not-is_before_all-clause-answer g c clean its held before lines journal keeps at leads = (
  above_none c.args.joined.now.begins.number c.is_before_all.result c.is_before_all.ensures c.if-not-is_before_all.true,
  c.gap_before.ensures,
)

pub returns-in-Ok-Some-clause-answer : goal.returns-in-Ok-Some-clause-answer
returns-in-Ok-Some-clause-answer g c clean its held before lines journal keeps at leads =
    let start = c.args.joined.now.begins in
    let none = c.is_before_all.ensures.0 c.if-not-is_before_all.false in
    IfOk-weaker c.play_joined.result _ _ (answer_from c.args.archives.now start (before ++ lines) held.institution none)
    (c.play_joined.ensures.answer clean its held before lines journal keeps at leads)

pub returns-in-Ok-None-clause-kept : goal.returns-in-Ok-None-clause-kept
returns-in-Ok-None-clause-kept g c = unchanged_itself (state g.S.Store c.args.connection.now)

pub returns-in-Ok-None-clause-answer : goal.returns-in-Ok-None-clause-answer
returns-in-Ok-None-clause-answer g c clean its held before lines journal keeps at leads =
    let joined = c.args.joined.now in
    let none = c.is_before_all.ensures.0 c.if-not-is_before_all.false in (
      none,
      (
        at_none c.in-Ok-None.field-0 _ c.in-Ok-None.field-0-is c.in-Ok-None.ensures.none,
        at ∙ ap (λ (h : Head). head_with_all h lines) (leads_to c.args.archives.now joined.begins joined.places.items
            c.args.journal.begins before leads) ∙ sym (heads_compose joined.begins before lines),
      ),
    )

pub returns-in-Err-clause-kept : goal.returns-in-Err-clause-kept
returns-in-Err-clause-kept g c = unchanged_itself (state g.S.Store c.args.connection.now)
