-- The answers about the movement of a journal's days are right.
use Rattle.std.proofs.Common.{◌≡◌, ◌≤◌, ℕ, ◌+◌, Bool, true, false, List, refl, ap, ap₂, ◌∙◌, sym, subst, arith}
use Rattle.std.specs.Prelude.{max, nat_le, Result, Ok, Err, IfOk, Vec}
use Rattle.std.specs.declared.alloc.Global.{Global}
use Rattle.std.proofs.lemmas.Bool.Decides.{nat_tests}
use Rattle.sqlite.specs.Effect.{Database}
use Rattle.sqlite.specs.Tree.{Trees}
use Rattle.mf_base.specs.declared.fault.Fault.{Fault}
use Rattle.mf_journal.specs.declared.following.Head.{Head}
use Rattle.mf_model.specs.Institution.{Institution, JournalLine}
use Rattle.mf_play.specs.declared.stop.Stop.{Stop}
use Rattle.mf_portions_play.specs.Ends.{PlayBefore, StopsBefore}
use Rattle.mf_portions_play.proofs.EndsLemmas.{stops_later}
use Rattle.mf_store_journal.specs.Rows.{head_with_all}
use Rattle.mf_store_journal.specs.Written.{KeepsJournalFrom}
use Rattle.mf_store_journal.specs.declared.journal.Journal.{Journal}
use Rattle.mf_portions.specs.Table.{table_text}
use Rattle.mf_portions.specs.declared.lines.PortionLine.{PortionLine}
use Rattle.mf_store_played.specs.Played.{IsFounding, founded}
use Rattle.mf_store_ledger.specs.Movement.{AreLinesBefore, IsMovedFrom, IsMovement, IsMovementOf}
use Rattle.mf_store_ledger.specs.Movement.{lines_before, played_until}
use Rattle.mf_store_ledger.specs.declared.answer.Books.{Books}
use Rattle.mf_store_ledger.specs.declared.answer.Books.TheVariants.{Written, NoFounding, OtherCopy, Stops}

-- lines that play before two days play before the later one
play_both : (a b : ℕ) (i : Institution) (lines : List JournalLine) → PlayBefore a i lines → PlayBefore b i lines
    → PlayBefore (max a b) i lines
play_both a b i lines one other = go (nat_le a b) refl
  where
    go : (t : Bool) → nat_le a b ≡ t → PlayBefore (max a b) i lines
    go true e =
        let low : a ≤ b = grind (arith, nat_tests, e) in
        let later : b ≡ max a b = omega (arith, low) in
        subst (λ n. PlayBefore n i lines) later other
    go false e =
        let low : b ≤ a = grind (arith, nat_tests, e) in
        let later : a ≡ max a b = omega (arith, low) in
        subst (λ n. PlayBefore n i lines) later one

module _ (first last : ℕ) where
  -- what stops before a day up to which lines are played
  pub movement_stops : (begins : Head) (lines : List JournalLine) (day until number place : ℕ) (why : Stop)
      → IsFounding begins day → until ≤ played_until first last → number ≡ place + 1
      → StopsBefore until (founded day) lines place why → IsMovement first last begins lines (Stops number why)
  movement_stops begins lines day until number place why founds low is stops =
      (day, founds, place, is, stops_later until (played_until first last) low lines (founded day) place why stops)

  -- the movement from the lines before the first day up to the end of the last
  pub moved_answer : (begins : Head) (lines : List JournalLine) (day start until : ℕ) (before : Vec PortionLine Global)
      → IsFounding begins day → start ≡ first → until ≡ last + 1 → AreLinesBefore start day lines (Ok before)
      → (books : Books) → IsMovedFrom before.items until day lines books → IsMovement first last begins lines books
  moved_answer begins lines day start until before founds starts ends are (Written text) h =
      let early = subst (λ n. PlayBefore n (founded day) lines) starts are.1 in
      let late = subst (λ n. PlayBefore n (founded day) lines) ends h.1 in (
        day,
        founds,
        play_both first (last + 1) (founded day) lines early late,
        h.0 ∙ ap₂ table_text (are.0 ∙ ap (λ n. lines_before n day lines) starts)
            (ap (λ n. lines_before n day lines) ends),
      )
  moved_answer begins lines day start until before founds starts ends are NoFounding h = absurd h
  moved_answer begins lines day start until before founds starts ends are OtherCopy h = absurd h
  moved_answer begins lines day start until before founds starts ends are (Stops number why) h =
      movement_stops begins lines day until number h.0 why founds (omega (arith, ends)) h.1 h.2

  -- the answer of a call for the journal that was read
  abbrev AreMovements : Trees → Journal → Result Books Fault → Type 0
  AreMovements trees journal result = (lines : List JournalLine) → KeepsJournalFrom journal.begins trees lines
      → IfOk result (IsMovement first last journal.begins lines)

  -- the journal that was read is the one that is kept
  pub movement_of_one : (trees : Trees) (journal : Journal) → ((begins : Head) (lines : List JournalLine)
      → KeepsJournalFrom begins trees lines → (journal.begins ≡ begins)
      × (journal.head ≡ head_with_all begins lines)) → (result : Result Books Fault)
      → AreMovements trees journal result → IfOk result (IsMovementOf first last trees)
  movement_of_one trees journal only (Err fault) told = tt
  movement_of_one trees journal only (Ok books) told = record {
    right = λ begins lines keeps.
        let one = (only begins lines keeps).0 in
        subst (λ h. IsMovement first last h lines books) one
        (told lines (subst (λ h. KeepsJournalFrom h trees lines) (sym one) keeps));
  }

  -- the answer of a call that came after another one that changed nothing
  pub movement_before : (old mid : Database) → mid ≡ old → (journal : Journal) (result : Result Books Fault)
      → AreMovements mid.trees journal result → AreMovements old.trees journal result
  movement_before old mid same journal result told =
      subst (λ (d : Database). AreMovements d.trees journal result) same told
