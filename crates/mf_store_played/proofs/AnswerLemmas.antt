-- The answers for the play of a journal are right.
use Rattle.std.proofs.Common.{◌≡◌, ◌+◌, ◌++◌, ℕ, List, [], Some, IsSome, refl, sym, ap, ◌∙◌, subst, arith}
use Rattle.std.specs.Prelude.{Result, Ok, Err, IfOk, OnOk}
use Rattle.sqlite.specs.Effect.{Database}
use Rattle.sqlite.specs.Tree.{Trees}
use Rattle.mf_base.specs.declared.fault.Fault.{Fault}
use Rattle.mf_journal.specs.declared.following.Head.{Head}
use Rattle.mf_model.specs.Institution.{Institution, JournalLine}
use Rattle.mf_journal.specs.Journal.{with_lines}
use Rattle.mf_model.specs.Sound.{IsSound}
use Rattle.mf_play.specs.Play.{PlaysTo}
use Rattle.mf_play.proofs.Lines.{one_play}
use Rattle.mf_play.proofs.Runs.{noted}
use Rattle.mf_store_schema.specs.Rows.{Lists}
use Rattle.mf_store_schema.specs.declared.versions.Version.TheVariants.{Third}
use Rattle.mf_store_sound.specs.Schemas.{tables_at}
use Rattle.mf_store_values.specs.Flat.{tables_of}
use Rattle.mf_store_noted.specs.Kept.{journaled}
use Rattle.mf_store_played.specs.Played.{DiffersIn, IsFirstDifference, IsFounding, founded}
use Rattle.mf_store_journal.specs.Rows.{head_with_all}
use Rattle.mf_store_journal.specs.Written.{KeepsJournalFrom}
use Rattle.mf_store_journal.specs.declared.journal.Journal.{Journal}
use Rattle.mf_store_sound.specs.Held.{HoldsSoundAt}
use Rattle.mf_store_played.specs.Answer.{IsCompared, IsAnswer, IsAnswerOf, IsAnswerOver, IsCopy, IsCopyAnswer}
use Rattle.mf_store_played.specs.Answer.{IsCopyAnswerOf, IsDifference, HoldsPlayable}
use Rattle.mf_store_played.specs.declared.played.Played.{Played}
use Rattle.mf_store_played.specs.declared.played.Played.TheVariants.{Leads, NoFounding, Stops, Differs, OtherCopy}
use Rattle.mf_store_played.specs.declared.played.Played.TheVariants.{Lacks}
use Rattle.mf_store_played.specs.declared.played.PlayedTable.{PlayedTable}
use Rattle.mf_store_played.specs.declared.played.PlayedTable.TheVariants.{Meta, Offices, Staff, Clients, Charges}
use Rattle.mf_store_played.specs.declared.played.PlayedTable.TheVariants.{Products, Loans, Entries, Receipts}
use Rattle.mf_store_played.specs.declared.played.PlayedTable.TheVariants.{Instalments, Shares}
use Rattle.mf_store_played.proofs.HeldLemmas.{same_today}

-- the journal of what lines lead to is that of the beginning, and then these lines
pub journal_played : (start : Institution) (before lines : List JournalLine) (j : Institution)
    → start.journal ≡ Some before → PlaysTo start lines j → j.journal ≡ Some (before ++ lines)
journal_played start before lines j is played = noted start j lines played ∙ ap (with_lines lines) is

pub keeps_one : (start : Institution) (before lines : List JournalLine) (j : Institution)
    → start.journal ≡ Some before → PlaysTo start lines j → IsSome j.journal
keeps_one start before lines j is played =
    subst IsSome (sym (journal_played start before lines j is played)) refl

-- lists don't differ from themselves
not_within : (table : PlayedTable) (row : ℕ) (a : Lists) → DiffersIn table a a row → ⊥
not_within Meta row a d = d.there refl
not_within Offices row a d = d.there refl
not_within Staff row a d = d.there refl
not_within Clients row a d = d.there refl
not_within Charges row a d = d.there refl
not_within Products row a d = d.there refl
not_within Loans row a d = d.there refl
not_within Entries row a d = d.there refl
not_within Receipts row a d = d.there refl
not_within Instalments row a d = d.there refl
not_within Shares row a d = d.there refl

module _ (start : Institution) (before lines : List JournalLine) (i j : Institution) (is : start.journal ≡ Some before)
    (played : PlaysTo start lines j) where
  -- the lines lead to the institution with the same rows
  leads_there : ((i j : Institution) → IsSound i → IsSound j → i.journal ≡ j.journal → tables_of i ≡ tables_of j
      → i ≡ j) → IsSound i → IsSound j → i.journal ≡ Some (before ++ lines) → tables_at Third i ≡ tables_at Third j
      → PlaysTo start lines i
  leads_there one sound other journal same =
      let are = one i j sound other (journal ∙ sym (journal_played start before lines j is played))
      (same_today i j same) in
      subst (PlaysTo start lines) (sym are) played

  -- and to none with others
  not_there : (table : PlayedTable) (row : ℕ)
      → IsFirstDifference table row (tables_at Third i) (tables_at Third j) → ¬ PlaysTo start lines i
  not_there table row differ other =
      let same = one_play start j i lines played other in
      not_within table row (tables_at Third i)
      (subst (λ k. DiffersIn table (tables_at Third i) (tables_at Third k) row) same differ.there)

  -- where all lines play
  pub compared_answer : (begins : Head) → ((i j : Institution) → IsSound i → IsSound j
      → i.journal ≡ j.journal → tables_of i ≡ tables_of j → i ≡ j) → IsSound i → IsSound j
      → i.journal ≡ Some (before ++ lines) → (stands : Head) → stands ≡ head_with_all begins lines → (answer : Played)
      → IsCompared stands (tables_at Third i) (tables_at Third j) answer → IsAnswerOver start begins lines i answer
  compared_answer begins one sound other journal stands at (Leads head) told =
      (leads_there one sound other journal told.1, told.0 ∙ at)
  compared_answer begins one sound other journal stands at (Differs d) told =
      (j, played, told, not_there d.table d.row told.first)
  compared_answer begins one sound other journal stands at (NoFounding head) told = absurd told
  compared_answer begins one sound other journal stands at (Stops number why) told = absurd told
  compared_answer begins one sound other journal stands at (OtherCopy head) told = absurd told
  compared_answer begins one sound other journal stands at (Lacks gap) told = absurd told

-- the answer from a founding
module _ (begins : Head) (lines : List JournalLine) (i : Institution) (day : ℕ) (founds : IsFounding begins day) where
  number_none : begins.number ≡ 0
  number_none = ap (λ (h : Head). h.number) founds.is

  pub founded_answer : (played : Played) → IsAnswerOver (founded day) begins lines i played
      → IsAnswer begins lines i played
  founded_answer (Leads head) told = (day, founds, told.0, told.1)
  founded_answer (Stops number why) told =
      let none = number_none in
      let at = told.1 in
      (day, founds, told.0, omega (arith, none, at), told.2)
  founded_answer (Differs d) told = (day, founds, told.0, told.1, told.2, told.3)
  founded_answer (NoFounding head) told = absurd told
  founded_answer (OtherCopy head) told = absurd told
  founded_answer (Lacks gap) told = absurd told

-- the answer from a copy
module _ (copied : Institution) (begins : Head) (lines : List JournalLine) (i : Institution) where
  pub copied_answer : IsCopy copied begins → (played : Played) → IsAnswerOver (journaled copied) begins lines i played
      → IsCopyAnswer copied begins lines i played
  copied_answer its (Leads head) told = (its, told)
  copied_answer its (Stops number why) told = (its, told)
  copied_answer its (Differs d) told = (its, told)
  copied_answer its (NoFounding head) told = absurd told
  copied_answer its (OtherCopy head) told = absurd told
  copied_answer its (Lacks gap) told = absurd told

-- what follows where a call succeeds
pub on_ok_then : {A E : Type 0} (r : Result A E) (Q : Type 0) (P : A → Type 0) → OnOk r Q → (Q → IfOk r P) → IfOk r P
on_ok_then (Ok x) Q P on then = then on
on_ok_then (Err e) Q P on then = tt

-- ---- of tables

module _ (trees : Trees) where
  -- the journal that was read is the one that is kept
  pub answer_of_one : (journal : Journal) → ((begins : Head) (lines : List JournalLine)
      → KeepsJournalFrom begins trees lines → (journal.begins ≡ begins)
      × (journal.head ≡ head_with_all begins lines)) → (result : Result Played Fault)
      → ((held : HoldsSoundAt Third trees) (lines : List JournalLine) → held.institution.journal ≡ Some lines
      → KeepsJournalFrom journal.begins trees lines → journal.head ≡ head_with_all journal.begins lines
      → IfOk result (IsAnswer journal.begins lines held.institution)) → IfOk result (IsAnswerOf trees)
  answer_of_one journal only (Err fault) told = tt
  answer_of_one journal only (Ok played) told = record {
    right = λ held begins lines is keeps.
        let one = only begins lines keeps in
        subst (λ h. IsAnswer h lines held.institution played) one.0
        (told held lines is (subst (λ h. KeepsJournalFrom h trees lines) (sym one.0) keeps)
        (one.1 ∙ ap (λ h. head_with_all h lines) (sym one.0)));
  }

-- the answer of a call that came after another one that changed nothing
abbrev AreAnswers : Trees → Journal → Result Played Fault → Type 0
AreAnswers trees journal result = (held : HoldsSoundAt Third trees) (lines : List JournalLine)
    → held.institution.journal ≡ Some lines → KeepsJournalFrom journal.begins trees lines
    → journal.head ≡ head_with_all journal.begins lines
    → IfOk result (IsAnswer journal.begins lines held.institution)

pub answer_before : (old mid : Database) → mid ≡ old → (journal : Journal) (result : Result Played Fault)
    → AreAnswers mid.trees journal result → AreAnswers old.trees journal result
answer_before old mid same journal result told = subst (λ (d : Database). AreAnswers d.trees journal result) same told

-- ---- of tables, from a copy

abbrev AreCopyAnswers : Institution → Trees → Journal → Result Played Fault → Type 0
AreCopyAnswers copied trees journal result = (i : Institution) (lines : List JournalLine)
    → HoldsPlayable i [] journal trees lines → IfOk result (IsCopyAnswer copied journal.begins lines i)

-- the journal that was read is the one that is kept
pub copy_answer_of_one : (copied : Institution) (trees : Trees) (journal : Journal) → ((begins : Head)
    (lines : List JournalLine) → KeepsJournalFrom begins trees lines → (journal.begins ≡ begins)
    × (journal.head ≡ head_with_all begins lines)) → (result : Result Played Fault)
    → AreCopyAnswers copied trees journal result → IfOk result (IsCopyAnswerOf copied trees)
copy_answer_of_one copied trees journal only (Err fault) told = tt
copy_answer_of_one copied trees journal only (Ok played) told = record {
  right = λ held begins lines is keeps.
      let one = only begins lines keeps in
      subst (λ h. IsCopyAnswer copied h lines held.institution played) one.0
      (told held.institution lines (record {
        sound = held.sound;
        holds = held.holds;
        journal_is = is;
        keeps = subst (λ h. KeepsJournalFrom h trees lines) (sym one.0) keeps;
        stands = one.1 ∙ ap (λ h. head_with_all h lines) (sym one.0);
      }));
}

-- the answer of a call that came after another one that changed nothing
pub copy_answer_before : (copied : Institution) (old mid : Database) → mid ≡ old → (journal : Journal)
    (result : Result Played Fault) → AreCopyAnswers copied mid.trees journal result
    → AreCopyAnswers copied old.trees journal result
copy_answer_before copied old mid same journal result told =
    subst (λ (d : Database). AreCopyAnswers copied d.trees journal result) same told
