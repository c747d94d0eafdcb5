use Rattle.std.proofs.Common.{ap, sym, subst, arith}
use Rattle.std.proofs.lemmas.Result.{IfOk-weaker}
use Rattle.sqlite.specs.Effect.{Database}
use Rattle.sqlite.specs.Held.{state}
use Rattle.mf_journal.specs.declared.following.Head.{Head}
use Rattle.mf_store_journal.proofs.GoingLemmas.{still_unchanged, unchanged_itself}
use Rattle.mf_store_journal.specs.Reading.{IsThird}
use Rattle.mf_store_journal.specs.Written.{KeepsJournalFrom}
use Rattle.mf_store_played.proofs.AnswerLemmas.{on_ok_then}
use Rattle.mf_store_ledger.specs.Movement.{IsMovedFrom}
use Rattle.mf_store_ledger.proofs.MovementLemmas.{moved_answer, movement_stops}
use Rattle.mf_store_ledger.proofs.movement.movement_from.Goals as goal

pub returns-in_default-clause-kept : goal.returns-in_default-clause-kept
returns-in_default-clause-kept g c = unchanged_itself (state g.S.Store c.args.connection.now)

pub lines_before-requires-clause-early : goal.lines_before-requires-clause-early
lines_before-requires-clause-early g c = c.requires.founds.early

pub movement_since-requires-clause-early : goal.movement_since-requires-clause-early
movement_since-requires-clause-early g c = c.requires.founds.early

pub returns-in-Ok-Ok-clause-kept : goal.returns-in-Ok-Ok-clause-kept
returns-in-Ok-Ok-clause-kept g c =
    still_unchanged (state g.S.Store c.args.connection.now) (state g.S.Store c.lines_before.new.connection)
    (state g.S.Store c.movement_since.new.connection) c.lines_before.ensures.kept c.movement_since.ensures.kept

pub returns-in-Ok-Ok-clause-answer : goal.returns-in-Ok-Ok-clause-answer
returns-in-Ok-Ok-clause-answer g c clean its lines keeps =
    let begins = c.args.journal.begins in
    let day = c.args.day in
    let after = c.movement_since.ensures.kept in
    let early = after.premise clean in
    let none = ap (λ (h : Head). h.number) c.requires.founds.is in
    let found = rw c.in-Ok-Ok.field-0-is at (c.in-Ok-Ok.ensures {u = tt}).lines in
    let first = found early its begins lines none keeps in
    on_ok_then c.movement_since.result _ _ (c.movement_since.ensures.open clean) (λ live.
    let same = (c.lines_before.ensures.kept).same early (after.was_open clean live) its in
    let told = c.movement_since.ensures.answer clean (subst (λ (d : Database). IsThird d.schema) (sym same) its) begins
    lines none (subst (λ (d : Database). KeepsJournalFrom begins d.trees lines) (sym same) keeps) in
    IfOk-weaker c.movement_since.result _ _ (λ books h. moved_answer c.args.first c.args.last begins lines day
    c.number_of.result c.day_after-until.result c.in-Ok-Ok.before c.requires.founds c.number_of.ensures
    c.day_after-until.ensures first books (subst (λ before. IsMovedFrom before c.day_after-until.result day lines books)
    c.deref.ensures.value h)) told)

pub returns-in-Ok-Err-clause-answer : goal.returns-in-Ok-Err-clause-answer
returns-in-Ok-Err-clause-answer g c clean its lines keeps =
    let begins = c.args.journal.begins in
    let none = ap (λ (h : Head). h.number) c.requires.founds.is in
    let stops = (rw c.in-Ok-Err.field-0-is at (c.in-Ok-Err.ensures {u = tt}).lines) clean its begins lines none keeps
    in
    movement_stops c.args.first c.args.last begins lines c.args.day c.number_of.result c.in-Ok-Err.number stops.0
    c.in-Ok-Err.why c.requires.founds (omega (arith, c.number_of.ensures)) stops.1 stops.2
