use Rattle.std.proofs.Common.{refl}
use Rattle.std.proofs.lemmas.Result.{IfOk-weaker}
use Rattle.std.specs.Prelude.{[]}
use Rattle.sqlite.specs.Held.{state}
use Rattle.mf_store_journal.proofs.GoingLemmas.{unchanged_itself}
use Rattle.mf_store_played.specs.Played.{founded}
use Rattle.mf_store_played.proofs.AnswerLemmas.{founded_answer}
use Rattle.mf_store_played.proofs.playing.play_from.Goals as goal

pub found_in_memory-requires : goal.found_in_memory-requires
found_in_memory-requires g c = c.requires.founds.early

pub returns-in_err-store-clause-kept : goal.returns-in_err-store-clause-kept
returns-in_err-store-clause-kept g c = unchanged_itself (state g.S.Store c.args.connection.now)

pub returns-clause-answer : goal.returns-clause-answer
returns-clause-answer g c clean its held lines journal keeps at =
    let begins = c.args.journal.begins in
    let day = c.args.day in
    IfOk-weaker c.play_over.result _ _ (λ played told. founded_answer begins lines held.institution day
    c.requires.founds played told)
    (c.play_over.ensures.answer clean its (founded day) held.institution [] lines c.in_ok-store.ensures.stands refl
    (record { sound = held.sound; holds = held.holds; journal_is = journal; keeps = keeps; stands = at }))
