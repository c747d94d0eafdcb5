use Rattle.std.proofs.Common.{◌≡◌, ◌∙◌, ap, Bool, Option, Some, Ok, List}
use Rattle.clap.specs.Words.{Row, Text, found_of, rows_of}
use Rattle.microloan_words.specs.Asked.{AreStaffWords}
use Rattle.microloan_words.specs.declared.asked.CollectWords.{CollectWords}
use Rattle.microloan_words.specs.declared.asked.StaffWords.{StaffWords}
use Rattle.microloan_words.proofs.reading.collect_words.Goals as goal

-- the words of `collect`: those that `report` has too, the flag of a journal, and what is told
abbrev with_journal : StaffWords → Bool → Option Text → CollectWords
with_journal asked journal told = record {
  file = asked.file;
  staff = asked.staff;
  existing = asked.existing;
  journal = journal;
  told = told;
}

pub returns-clause-every : goal.returns-clause-every
returns-clause-every c asked h =
    let without : StaffWords = record { file = asked.file; staff = asked.staff; existing = asked.existing } in
    let rows : List Row = rows_of (found_of c.args.options.now) in
    let are : AreStaffWords rows without = record { file = h.file; staff = h.staff; existing = h.existing } in
    let read : c.staff_words.result ≡ Ok without = c.staff_words.ensures.every without are in
    let was : c.staff_words.result ≡ Ok c.in-Ok.asked = c.in-Ok.is in
    let same : c.in-Ok.asked ≡ without = cc in
    let flag : c.flag_at.result ≡ Some asked.journal = c.flag_at.ensures.every asked.journal h.journal in
    let flag_was : c.flag_at.result ≡ Some c.in_ok-journal.journal = c.in_ok-journal.ensures.ok_part in
    let same_flag : c.in_ok-journal.journal ≡ asked.journal = cc in
    let text : c.told_at.result ≡ Ok asked.told = c.told_at.ensures.every asked.told h.told in
    let text_was : c.told_at.result ≡ Ok c.in-Ok-told_at.told = c.in-Ok-told_at.is in
    let same_text : c.in-Ok-told_at.told ≡ asked.told = cc in
    ap (λ a. Ok (with_journal a c.in_ok-journal.journal c.in-Ok-told_at.told)) same
    ∙ ap (λ j. Ok (with_journal without j c.in-Ok-told_at.told)) same_flag
    ∙ ap (λ t. Ok (with_journal without asked.journal t)) same_text
