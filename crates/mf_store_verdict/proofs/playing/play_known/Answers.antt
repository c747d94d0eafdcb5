use Rattle.std.proofs.Common.{◌≡◌, IsTrue, subst}
use Rattle.sqlite.specs.Held.{state}
use Rattle.mf_store_journal.specs.Reading.{IsThird}
use Rattle.mf_store_verdict.proofs.PlayLemmas.{any_of_third, unchanged_any}
use Rattle.mf_store_verdict.proofs.playing.play_known.Goals as goal

pub returns-then-not-is_third-clause-kept : goal.returns-then-not-is_third-clause-kept
returns-then-not-is_third-clause-kept g c = unchanged_any (state g.S.Store c.args.connection.now)

pub returns-clause-kept : goal.returns-clause-kept
returns-clause-kept g c = any_of_third (state g.S.Store c.args.connection.now)
    (state g.S.Store c.play.new.connection)
    (subst IsThird c.schema.ensures.value (c.is_third.ensures.0 c.if-not-is_third.false)) c.play.ensures.kept

pub returns-clause-gives_up : goal.returns-clause-gives_up
returns-clause-gives_up g c = c.play.ensures.gives_up

pub returns-clause-open : goal.returns-clause-open
returns-clause-open g c = c.play.ensures.open

pub returns-clause-answer : goal.returns-clause-answer
returns-clause-answer g c = c.play.ensures.answer
