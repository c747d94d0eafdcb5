-- The answers about the books of a journal are right.
use Rattle.std.proofs.Common.{◌≡◌, ◌++◌, ℕ, List, [], cond, refl, sym, subst, ap, ◌∙◌, append_assoc}
use Rattle.std.specs.Prelude.{◌&&◌, nat_le, Result, Ok, Err, IfOk}
use Rattle.std.specs.List.{flat_map}
use Rattle.sqlite.specs.Effect.{Database}
use Rattle.sqlite.specs.Tree.{Trees}
use Rattle.mf_base.specs.declared.fault.Fault.{Fault}
use Rattle.mf_journal.specs.declared.following.Head.{Head}
use Rattle.mf_ledger.specs.Adjusting.{openings}
use Rattle.mf_ledger.specs.Text.{opening_of}
use Rattle.mf_ledger.specs.declared.basis.Basis.{Basis}
use Rattle.mf_ledger.specs.declared.basis.Basis.TheVariants.{Cash, Accrual}
use Rattle.mf_ledger_play.specs.Opening.{opening_text}
use Rattle.mf_ledger_play.specs.Told.{form_booked}
use Rattle.mf_ledger_play.specs.declared.form.BooksAsked.{BooksAsked}
use Rattle.mf_model.specs.Institution.{Institution, JournalLine}
use Rattle.mf_store_journal.specs.Rows.{head_with_all}
use Rattle.mf_store_journal.specs.Written.{KeepsJournalFrom}
use Rattle.mf_store_journal.specs.declared.journal.Journal.{Journal}
use Rattle.mf_store_noted.specs.Kept.{journaled}
use Rattle.mf_store_ledger.specs.Answer.{IsAnswer, IsAnswerOf}
use Rattle.mf_store_ledger.specs.Copied.{IsCopyAnswer, IsCopyAnswerOf}
use Rattle.mf_store_ledger.specs.declared.answer.Books.{Books}

-- the answer of a call for the journal that was read
abbrev AreAnswers : BooksAsked → Trees → Journal → Result Books Fault → Type 0
AreAnswers asked trees journal result = (lines : List JournalLine) → KeepsJournalFrom journal.begins trees lines
    → IfOk result (IsAnswer asked journal.begins lines)

-- the journal that was read is the one that is kept
pub answer_of_one : (asked : BooksAsked) (trees : Trees) (journal : Journal) → ((begins : Head)
    (lines : List JournalLine) → KeepsJournalFrom begins trees lines → (journal.begins ≡ begins)
    × (journal.head ≡ head_with_all begins lines)) → (result : Result Books Fault)
    → AreAnswers asked trees journal result → IfOk result (IsAnswerOf asked trees)
answer_of_one asked trees journal only (Err fault) told = tt
answer_of_one asked trees journal only (Ok books) told = record {
  right = λ begins lines keeps.
      let one = (only begins lines keeps).0 in
      subst (λ h. IsAnswer asked h lines books) one
      (told lines (subst (λ h. KeepsJournalFrom h trees lines) (sym one) keeps));
}

-- the answer of a call that came after another one that changed nothing
pub answer_before : (asked : BooksAsked) (old mid : Database) → mid ≡ old → (journal : Journal)
    (result : Result Books Fault) → AreAnswers asked mid.trees journal result
    → AreAnswers asked old.trees journal result
answer_before asked old mid same journal result told =
    subst (λ (d : Database). AreAnswers asked d.trees journal result) same told

-- ---- from a copy

-- the answer of a call for the journal that was read
abbrev AreCopyAnswers : BooksAsked → Institution → Trees → Journal → Result Books Fault → Type 0
AreCopyAnswers asked copied trees journal result = (lines : List JournalLine)
    → KeepsJournalFrom journal.begins trees lines → IfOk result (IsCopyAnswer asked copied journal.begins lines)

-- the journal that was read is the one that is kept
pub copy_answer_of_one : (asked : BooksAsked) (copied : Institution) (trees : Trees) (journal : Journal)
    → ((begins : Head) (lines : List JournalLine) → KeepsJournalFrom begins trees lines → (journal.begins ≡ begins)
    × (journal.head ≡ head_with_all begins lines)) → (result : Result Books Fault)
    → AreCopyAnswers asked copied trees journal result → IfOk result (IsCopyAnswerOf asked copied trees)
copy_answer_of_one asked copied trees journal only (Err fault) told = tt
copy_answer_of_one asked copied trees journal only (Ok books) told = record {
  right = λ begins lines keeps.
      let one = (only begins lines keeps).0 in
      subst (λ h. IsCopyAnswer asked copied h lines books) one
      (told lines (subst (λ h. KeepsJournalFrom h trees lines) (sym one) keeps));
}

-- the answer of a call that came after another one that changed nothing
pub copy_answer_before : (asked : BooksAsked) (copied : Institution) (old mid : Database) → mid ≡ old
    → (journal : Journal) (result : Result Books Fault) → AreCopyAnswers asked copied mid.trees journal result
    → AreCopyAnswers asked copied old.trees journal result
copy_answer_before asked copied old mid same journal result told =
    subst (λ (d : Database). AreCopyAnswers asked copied d.trees journal result) same told

-- an institution opens with the same, whether it keeps a journal or not
pub opening_same : (asked : BooksAsked) (i : Institution) → opening_text asked (journaled i) ≡ opening_text asked i
opening_same asked i =
    ap (λ os. cond (nat_le asked.first i.catalogue.day && nat_le i.catalogue.day asked.last)
    (flat_map (form_booked asked.form asked.names (opening_of i.catalogue.day)) os) []) (same asked.basis)
  where
    same : (basis : Basis) → openings basis (journaled i) ≡ openings basis i
    same Cash = refl
    same Accrual = refl

-- the opening, and the transactions behind it
pub copied_text : (head opening span before middle after : List ℕ) → before ≡ head → middle ≡ before ++ opening
    → after ≡ middle ++ span → after ≡ head ++ (opening ++ span)
copied_text head opening span before middle after first second third =
    third ∙ ap (λ text. text ++ span) (second ∙ ap (λ text. text ++ opening) first) ∙ append_assoc head opening span
