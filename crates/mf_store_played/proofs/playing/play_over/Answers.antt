use Rattle.std.proofs.Common.{◌+◌, ◌∙◌, ap, refl, sym, subst}
use Rattle.std.proofs.lemmas.Result.{IfOk-weaker}
use Rattle.sqlite.specs.Effect.{Database}
use Rattle.sqlite.specs.Held.{state}
use Rattle.mf_store_schema.specs.Writes.{HoldsAt}
use Rattle.mf_store_schema.specs.declared.versions.Version.TheVariants.{Third}
use Rattle.mf_store_sound.specs.Schemas.{tables_at}
use Rattle.mf_store_sql.proofs.OpenLemmas.{always_clean}
use Rattle.mf_store_journal.specs.Reading.{IsThird}
use Rattle.mf_store_journal.proofs.GoingLemmas.{still_unchanged, unchanged_itself}
use Rattle.mf_store_played.proofs.AnswerLemmas.{compared_answer, keeps_one, on_ok_then}
use Rattle.mf_store_played.proofs.playing.play_over.Goals as goal

pub returns-in_err-after-clause-kept : goal.returns-in_err-after-clause-kept
returns-in_err-after-clause-kept g c = unchanged_itself (state g.S.Store c.args.connection.now)

pub returns-in_default-clause-kept : goal.returns-in_default-clause-kept
returns-in_default-clause-kept g c = unchanged_itself (state g.S.Store c.args.connection.now)

pub returns-in-Ok-Ok-clause-kept : goal.returns-in-Ok-Ok-clause-kept
returns-in-Ok-Ok-clause-kept g c =
    still_unchanged (state g.S.Store c.args.connection.now) (state g.S.Store c.play_pages.new.connection)
    (state g.S.Store c.compare_rows.new.connection) c.play_pages.ensures.kept c.compare_rows.ensures.kept

pub returns-in-Ok-Ok-clause-answer : goal.returns-in-Ok-Ok-clause-answer
returns-in-Ok-Ok-clause-answer g c clean its start i before lines stands is playable =
    let begins = c.args.journal.begins in
    let after = c.compare_rows.ensures.kept in
    let early = after.premise clean in
    let plays = rw c.in-Ok-Ok.field-0-is at (c.in-Ok-Ok.ensures {u = tt}).plays in
    let came = plays early its (always_clean (λ _. refl) c.play_pages.new.store.connection) begins lines
    (sym c.in_ok-after.ensures.same) playable.keeps start stands in
    on_ok_then c.compare_rows.result _ _ (c.compare_rows.ensures.open clean) (λ live.
    let same = (c.play_pages.ensures.kept).same early (after.was_open clean live) its in
    let told = c.compare_rows.ensures.answer clean (subst (λ (d : Database). IsThird d.schema) (sym same) its)
    i came.0 (subst (λ (d : Database). HoldsAt Third d.trees (tables_at Third i)) (sym same) playable.holds) came.2
    (keeps_one start before lines came.0 is came.1) in
    IfOk-weaker c.compare_rows.result _ _ (λ played h. compared_answer start before lines i came.0 is came.1 begins
    c.one_institution.ensures playable.sound (came.2).sound playable.journal_is c.args.journal.head playable.stands
    played h) told)

pub returns-in-Ok-Err-clause-answer : goal.returns-in-Ok-Err-clause-answer
returns-in-Ok-Err-clause-answer g c clean its start i before lines stands is playable =
    let plays = rw c.in-Ok-Err.field-0-is at (c.in-Ok-Err.ensures {u = tt}).plays in
    let same = c.in_ok-after.ensures.same in
    let came = plays clean its (always_clean (λ _. refl) c.play_pages.new.store.connection) c.args.journal.begins lines
    (sym same) playable.keeps start stands in
    (came.0, came.1 ∙ ap (λ n. n + came.0 + 1) same, came.2)
