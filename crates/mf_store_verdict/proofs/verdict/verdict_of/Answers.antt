use Rattle.sqlite.specs.Held.{state}
use Rattle.mf_store_verdict.proofs.PlayLemmas.{not_found, unchanged_any, verdict_unplayed}
use Rattle.mf_store_verdict.specs.Verdict.{IsRightBy}
use Rattle.mf_store_verdict.proofs.verdict.verdict_of.Goals as goal

pub play_found-requires-clause-finds : goal.play_found-requires-clause-finds
play_found-requires-clause-finds g c = c.finds_journal.ensures.0 c.if-finds_journal.true

pub returns-then-finds_journal-clause-kept : goal.returns-then-finds_journal-clause-kept
returns-then-finds_journal-clause-kept g c = c.play_found.ensures.kept

pub returns-then-finds_journal-clause-exact : goal.returns-then-finds_journal-clause-exact
returns-then-finds_journal-clause-exact g c = c.play_found.ensures.exact

pub returns-then-finds_journal-clause-audit : goal.returns-then-finds_journal-clause-audit
returns-then-finds_journal-clause-audit g c = c.play_found.ensures.audit

pub returns-then-finds_journal-clause-gives_up : goal.returns-then-finds_journal-clause-gives_up
returns-then-finds_journal-clause-gives_up g c = c.play_found.ensures.gives_up

pub returns-clause-kept : goal.returns-clause-kept
returns-clause-kept g c = unchanged_any (state g.S.Store c.args.connection.now)

pub returns-clause-exact : goal.returns-clause-exact
returns-clause-exact g c clean db shows told = verdict_unplayed (IsRightBy c.args.beginning) db c.args.audit
    (not_found c.args.audit c.finds_journal.result c.finds_journal.ensures c.if-finds_journal.false) told
