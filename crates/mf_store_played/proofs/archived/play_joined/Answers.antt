use Rattle.std.proofs.Common.{[], ◌++◌, refl, sym, subst}
use Rattle.std.proofs.lemmas.Result.{IfOk-weaker}
use Rattle.sqlite.specs.Held.{state}
use Rattle.mf_store_sql.proofs.OpenLemmas.{always_clean}
use Rattle.mf_store_archive.specs.Archived.{with_lines}
use Rattle.mf_store_archived.specs.Joining.{LeadsOn}
use Rattle.mf_store_journal.proofs.GoingLemmas.{unchanged_itself}
use Rattle.mf_store_played.specs.Played.{founded}
use Rattle.mf_store_played.proofs.AnswerLemmas.{journal_played}
use Rattle.mf_store_played.proofs.ArchivedLemmas.{archived_answer, leads_to, still_sound, stops_before}
use Rattle.mf_store_played.proofs.archived.play_joined.Goals as goal

pub found_in_memory-requires : goal.found_in_memory-requires
found_in_memory-requires g c = c.requires.founds.early

pub returns-in_err-store-clause-kept : goal.returns-in_err-store-clause-kept
returns-in_err-store-clause-kept g c = unchanged_itself (state g.S.Store c.args.connection.now)

pub returns-in_default-clause-kept : goal.returns-in_default-clause-kept
returns-in_default-clause-kept g c = unchanged_itself (state g.S.Store c.args.connection.now)

pub returns-in-Ok-Ok-clause-answer : goal.returns-in-Ok-Ok-clause-answer
returns-in-Ok-Ok-clause-answer g c clean its held before lines journal keeps at leads =
    let joined = c.args.joined.now in
    let day = c.args.day in
    let plays = rw c.in-Ok-Ok.field-0-is at (c.in-Ok-Ok.ensures {u = tt}).plays in
    let there = subst (λ ps. LeadsOn c.args.archives.now joined.begins ps c.args.journal.begins before)
    (sym c.deref.ensures.value) leads in
    let came = plays (always_clean (λ _. refl) c.play_archives.new.store.connection) joined.begins
    c.args.journal.begins before there (founded day) c.in_ok-store.ensures.stands in
    let whole = with_lines (before ++ lines) held.institution in
    IfOk-weaker c.play_over.result _ _ (λ played told. archived_answer joined.begins before lines day
    c.requires.founds c.args.journal.begins whole came.0 (leads_to c.args.archives.now joined.begins
    joined.places.items c.args.journal.begins before leads) came.1 played told)
    (c.play_over.ensures.answer clean its came.0 whole before lines came.2
    (journal_played (founded day) [] before came.0 refl came.1)
    (record {
      sound = still_sound held.institution (before ++ lines) held.sound;
      holds = held.holds;
      journal_is = refl;
      keeps = keeps;
      stands = at;
    }))

pub returns-in-Ok-Err-clause-answer : goal.returns-in-Ok-Err-clause-answer
returns-in-Ok-Err-clause-answer g c clean its held before lines journal keeps at leads =
    let joined = c.args.joined.now in
    let day = c.args.day in
    let plays = rw c.in-Ok-Err.field-0-is at (c.in-Ok-Err.ensures {u = tt}).plays in
    let there = subst (λ ps. LeadsOn c.args.archives.now joined.begins ps c.args.journal.begins before)
    (sym c.deref.ensures.value) leads in
    let came = plays (always_clean (λ _. refl) c.play_archives.new.store.connection) joined.begins
    c.args.journal.begins before there (founded day) c.in_ok-store.ensures.stands in
    stops_before joined.begins before lines day c.requires.founds (with_lines (before ++ lines) held.institution)
    c.in-Ok-Err.number c.in-Ok-Err.why came.0 came.1 came.2

pub returns-in-Ok-Err-clause-kept : goal.returns-in-Ok-Err-clause-kept
returns-in-Ok-Err-clause-kept g c = unchanged_itself (state g.S.Store c.args.connection.now)

pub returns-in-Err-clause-kept : goal.returns-in-Err-clause-kept
returns-in-Err-clause-kept g c = unchanged_itself (state g.S.Store c.args.connection.now)
