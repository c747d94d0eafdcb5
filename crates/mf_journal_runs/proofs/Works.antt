-- Works one after another over a store.
use Rattle.std.proofs.Common.{◌≡◌, inl, inr, ℕ, Bool, true, false, List, [], ◌∷◌, ◌++◌, Result, Ok}
use Rattle.std.proofs.Common.{Err, sym, subst}
use Rattle.mf_base.specs.declared.fault.Cause.{Cause}
use Rattle.mf_base.specs.declared.fault.Cause.TheVariants.{Read, Write, Memory}
use Rattle.mf_base.specs.declared.fault.StreamFault.{StreamFault}
use Rattle.mf_office.specs.Texts.{IsCaller}
use Rattle.mf_office.specs.declared.caller.Caller.{Caller}
use Rattle.mf_model.specs.Institution.{Institution}
use Rattle.mf_model.specs.Run.{Line, last}
use Rattle.mf_model.specs.declared.store.InstitutionStore.{Ghosts}
use Rattle.mf_play.specs.Play.{AreAsReceived}
use Rattle.mf_play.proofs.Received.{lines_received}
use Rattle.mf_wire_lines.specs.Ends as lines
use Rattle.mf_wire_lines.specs.Streams.{Streams}
use Rattle.mf_wire.specs.OneCall.{line_of_call}
use Rattle.mf_lists_runs.specs.Choice.{Choice}
use Rattle.mf_lists_runs.specs.Runs.{ListsRuns}
use Rattle.mf_lists_runs.specs.Serving.{ListsAnswerMessage}
use Rattle.mf_wire.specs.Serving.{call_of_message, EndsMessage, EndsMessageBy}
use Rattle.mf_sheet.specs.Ends as sheets
use Rattle.mf_sheet.specs.Ends.{SheetStreams}
use Rattle.mf_sheet.specs.Runs.{RunsRows}
use Rattle.mf_sheet_lines.specs.declared.results.SheetResult.{SheetResult}
use Rattle.mf_journal_runs.specs.Journals.{lines_of_run}
use Rattle.mf_journal_runs.specs.Works.{Work, Run, Message, Sheet, IsDone, AreDone, StandsGrown}
use Rattle.mf_journal_runs.proofs.Growing.{run_grows, grew_nothing, grew_on}
use Rattle.mf_journal_runs.proofs.Received.{rows_received, message_received}

module _ {S : Type 0} (store : Ghosts S) where
  -- whatever institution a store stood for, it stands now for one that grew from it
  record Grows (old new : S) : Type 0 where
    pub premise : store.clean new → store.clean old
    pub grown : store.clean new → (i : Institution) → store.stands old i → StandsGrown store i new

  unchanged : (old new : S) → new ≡ old → Grows old new
  unchanged old new e = record {
    premise = λ clean. subst store.clean e clean;
    grown = λ clean i stands. (i, [], grew_nothing i, subst (λ (s : S). store.stands s i) (sym e) stands);
  }

  after_run : (i : Institution) (run : List Line) (new : S) → AreAsReceived run → store.stands new (last run i)
      → StandsGrown store i new
  after_run i run new are stands = (last run i, lines_of_run run i, run_grows run i are, stands)

  -- lines that were run
  ran_lines : (choice : Choice) (told : Bool) (old new : S) (lines texts : List (List ℕ))
      → ListsRuns store choice told old lines texts new
      → Grows old new
  ran_lines choice told old new lines texts runs = record {
    premise = runs.premise;
    grown = λ clean i stands. let ran = (runs.ran clean i stands).ran in
        after_run i ran.run new (lines_received told ran.run lines ran.calls) ran.follows;
  }

  run_ended : (choice : Choice) (told : Bool) (old new : S) (streams : Streams) (result : Result ℕ StreamFault)
      → lines.Ends (ListsRuns store choice told) old new streams result → Grows old new
  run_ended choice told old new streams (Ok count) ends =
      ran_lines choice told old new _ ends.answered.texts ends.answered.ran
  run_ended choice told old new streams (Err fault) ends = by fault.cause ends
    where
      by : (cause : Cause) → lines.EndsBy (ListsRuns store choice told) old new streams cause fault.answered
          → Grows old new
      by Read h = ran_lines choice told old new _ h.answered.texts h.answered.ran
      by Write h = elim h.broken [
        | inl broken ↦ ran_lines choice told old new _ _ broken.ran
        | inr broken ↦ ran_lines choice told old new _ _ broken.1.ran
      ]
      by Memory h = unchanged old new h.same

  -- a message that was answered
  served : (choice : Choice) (told : Bool) (bytes text : List ℕ) (old new : S)
      → ListsAnswerMessage store choice told bytes old text new
      → Grows old new
  served choice told bytes text old new a = record {
    premise = a.answered.premise;
    grown = λ clean i stands. let answer = a.answered.answered clean i stands in
        after_run i (line_of_call (call_of_message told a.message) answer.0 ∷ []) new
        (message_received told a.message, tt) answer.1.follows;
  }

  message_ended : (choice : Choice) (told : Bool) (old new : S) (streams : Streams) (result : Result Bool StreamFault)
      → EndsMessage (ListsAnswerMessage store choice told) old new streams result → Grows old new
  message_ended choice told old new streams (Ok false) ends = unchanged old new ends.untouched.same
  message_ended choice told old new streams (Ok true) ends = served choice told _ ends.text old new ends.answered
  message_ended choice told old new streams (Err fault) ends = by fault.cause ends
    where
      by : (cause : Cause) → EndsMessageBy (ListsAnswerMessage store choice told) old new streams cause fault.answered
          → Grows old new
      by Read h = unchanged old new h.untouched.same
      by Write h = served choice told _ h.text old new h.answered
      by Memory h = unchanged old new h.untouched.same

  -- a sheet whose lines were answered
  module _ (told : List ℕ) (c : Caller) (is : IsCaller c) where
    ran_rows : (old new : S) (rows : List (List (List ℕ))) (results : List SheetResult)
        → RunsRows store told c old rows results new → Grows old new
    ran_rows old new rows results runs = record {
      premise = runs.premise;
      grown = λ clean i stands. let ran = runs.ran clean i stands in
          after_run i ran.run new (rows_received told c is ran.run rows ran.calls) ran.follows;
    }

    sheet_ended : (old new : S) (streams : SheetStreams) (result : Result (Unit {0}) StreamFault)
        → sheets.Ends (RunsRows store told c) old new streams result → Grows old new
    sheet_ended old new streams (Ok done) ends = ran_rows old new ends.done ends.results ends.ran
    sheet_ended old new streams (Err fault) ends = by fault.cause ends
      where
        by : (cause : Cause) → sheets.EndsBy (RunsRows store told c) old new streams cause fault.answered → Grows old
            new
        by Read h = absurd h
        by Write h = elim h.1 [
          | inl heading ↦ unchanged old new heading.same
          | inr cut ↦ ran_rows old new _ _ cut.ran
        ]
        by Memory h = unchanged old new h.1.same

  done_grows : (work : Work) (old new : S) → IsDone store work old new → Grows old new
  done_grows (Run choice told streams result) old new done = run_ended choice told old new streams result done
  done_grows (Message choice told streams result) old new done = message_ended choice told old new streams result done
  done_grows (Sheet told caller streams result) old new done = sheet_ended told caller done.0 old new streams result
      done.1

  all_grow : (works : List Work) (old new : S) → AreDone store works old new → Grows old new
  all_grow [] old new done = unchanged old new done
  all_grow (work ∷ works) old new done =
      let one = done_grows work old done.0 done.1 in
      let rest = all_grow works done.0 new done.2 in record {
        premise = λ clean. one.premise (rest.premise clean);
        grown = λ clean i stands.
            let first = one.grown (rest.premise clean) i stands in
            let second = rest.grown clean first.0 first.3 in
            (second.0, first.1 ++ second.1, grew_on first.1 second.1 i first.0 second.0 first.2 second.2, second.3);
      }

  pub works_grow : (works : List Work) (old new : S) (i : Institution) → AreDone store works old new
      → store.clean new → store.stands old i → StandsGrown store i new
  works_grow works old new i done clean stands = (all_grow works old new done).grown clean i stands
