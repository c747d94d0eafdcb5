-- What a run, a message and a sheet are told doesn't depend on the journal.
use Rattle.std.proofs.Common.{◌≡◌, ◌≢◌, ℕ, Bool, true, false, List, [], ◌∷◌, map, Option, None, Result}
use Rattle.std.proofs.Common.{refl, sym, ap, ap₂, ◌∙◌}
use Rattle.mf_base.specs.declared.fault.Fault.{Fault}
use Rattle.mf_base.specs.declared.fault.Fault.TheVariants.{F20}
use Rattle.mf_office.specs.declared.caller.Caller.{Caller}
use Rattle.mf_model.specs.Answering.{line_answered, all_answered}
use Rattle.mf_model.specs.Calls.{Call}
use Rattle.mf_model.specs.Desk.{reply}
use Rattle.mf_model.specs.Institution.{Institution, JournalLine}
use Rattle.mf_model.specs.Run.{Line, answers, last, NoneGivenUp}
use Rattle.mf_model.specs.declared.reply.Reply.{Reply}
use Rattle.mf_model.specs.declared.store.InstitutionStore.{Ghosts}
use Rattle.mf_journal.specs.Journal.{with_other_journal}
use Rattle.mf_journal.proofs.Noting.{unread, last_with}
use Rattle.mf_sheet.specs.Lines.{call_by, result_of}
use Rattle.mf_sheet.specs.Runs as sheets
use Rattle.mf_sheet_lines.specs.declared.results.SheetResult.{SheetResult}
use Rattle.mf_wire_messages.specs.Responses.{refusal}
use Rattle.mf_wire_replies.specs.Shown.{shown_line}
use Rattle.mf_wire.specs.OneCall.{or_given_up}
use Rattle.mf_wire.specs.Runs.{RunsOn, texts_of}
use Rattle.mf_wire.specs.Senders.{NoTextIsF20}
use Rattle.mf_wire.specs.Serving.{AnswersMessage, call_of_message, shown_response}
use Rattle.mf_wire.proofs.Alone.{as_message}

module _ {S T : Type 0} (store : Ghosts S) (other_store : Ghosts T) (i : Institution)
    (journal : Option (List JournalLine)) (told : Bool) (lines texts others : List (List ℕ)) (old new : S)
    (before after : T) (one : RunsOn store told i lines old texts new)
    (other : RunsOn other_store told (with_other_journal journal i) lines before others after) where
  pub same_texts : one.run ≡ other.run → texts ≡ others
  same_texts same = one.replied ∙ ap (λ (run : List Line). texts_of run i) same
      ∙ ap (map shown_line) (sym (unread other.run journal i)) ∙ sym other.replied

  pub same_rows : one.run ≡ other.run
      → with_other_journal None (last other.run (with_other_journal journal i))
      ≡ with_other_journal None (last one.run i)
  same_rows same = ap (with_other_journal None) (last_with other.run journal i).1
      ∙ ap (λ (run : List Line). with_other_journal None (last run i)) (sym same)

  pub same_run : NoTextIsF20 texts → NoTextIsF20 others → one.run ≡ other.run
  same_run m n = one.with_memory m ∙ sym (other.with_memory n)

-- ---- a message

first_told : (a b : Result Reply Fault) → a ∷ [] ≡ b ∷ [] → a ≡ b
first_told a b e = cc

same_reply : (call : Call) (journal : Option (List JournalLine)) (i : Institution)
    → reply call (with_other_journal journal i) ≡ reply call i
same_reply call journal i = first_told (reply call (with_other_journal journal i)) (reply call i)
    (unread (line_answered call ∷ []) journal i)

told_alike : (to_head g h : Bool) (call : Call) (journal : Option (List JournalLine)) (i : Institution)
    (text other : List ℕ) → text ≡ shown_response to_head (or_given_up g (reply call i))
    → other ≡ shown_response to_head (or_given_up h (reply call (with_other_journal journal i)))
    → text ≢ refusal F20 to_head → other ≢ refusal F20 to_head → text ≡ other
told_alike to_head true h call journal i text other one two m n = absurd (m one)
told_alike to_head false true call journal i text other one two m n = absurd (n two)
told_alike to_head false false call journal i text other one two m n =
    one ∙ ap (shown_response to_head) (sym (same_reply call journal i)) ∙ sym two

module _ {S T : Type 0} (store : Ghosts S) (other_store : Ghosts T) (i : Institution)
    (journal : Option (List JournalLine)) (told : Bool) (bytes text other : List ℕ) (old new : S) (before after : T)
    (one : AnswersMessage store told bytes old text new)
    (two : AnswersMessage other_store told bytes before other after) where
  pub same_response : store.clean new → store.stands old i → other_store.clean after
      → other_store.stands before (with_other_journal journal i)
      → text ≢ refusal F20 one.to_head → other ≢ refusal F20 one.to_head → text ≡ other
  same_response clean stands clean_too stands_too m n =
      let call = call_of_message told one.message in
      let again = as_message other_store told bytes other before after one.message one.to_head one.is two in
      let first = one.answered.answered clean i stands in
      let second = again.answered clean_too (with_other_journal journal i) stands_too in
      told_alike one.to_head first.0 second.0 call journal i text other first.1.replied second.1.replied m n

-- ---- a sheet

all_were_answered : (run : List Line) (calls : List Call) → map (λ l. l.call) run ≡ calls → NoneGivenUp run
    → run ≡ all_answered calls
all_were_answered [] [] e none = refl
all_were_answered [] (call ∷ calls) e none = absurd (cc)
all_were_answered (l ∷ run) [] e none = absurd (cc)
all_were_answered (l ∷ run) (call ∷ calls) e none =
    let first : l.call ≡ call = cc in
    let rest : map (λ (m : Line). m.call) run ≡ calls = cc in
    ap₂ (λ (k : Line) (ks : List Line). k ∷ ks) (ap₂ (λ (c : Call) (g : Bool). let m : Line = record {
      call = c;
      given_up = g;
    } in m) first none.0) (all_were_answered run calls rest none.1)

module _ {S T : Type 0} (store : Ghosts S) (other_store : Ghosts T) (told : List ℕ) (c : Caller)
    (i : Institution) (journal : Option (List JournalLine)) (rows : List (List (List ℕ))) (results others : List
    SheetResult)
    (old new : S) (before after : T) (one : sheets.RunsOn store told c i rows old results new)
    (other : sheets.RunsOn other_store told c (with_other_journal journal i) rows before others after) where
  pub same_results : sheets.NoResultIsF20 results → sheets.NoResultIsF20 others → results ≡ others
  same_results m n =
      let same : one.run ≡ other.run = all_were_answered one.run (map (call_by told c) rows) one.calls
      (one.with_memory m)
      ∙ sym (all_were_answered other.run (map (call_by told c) rows) other.calls (other.with_memory n)) in
      one.replied ∙ ap (λ (run : List Line). map result_of (answers run i)) same
      ∙ ap (map result_of) (sym (unread other.run journal i)) ∙ sym other.replied
