-- What tables keep of an institution that keeps a journal, too.
use Rattle.std.specs.Prelude.{◌≡◌, ℕ, List, [], ◌∷◌, Option, None, Some, option_map}
use Rattle.mf_base.specs.DayText.{day_text}
use Rattle.mf_model.specs.Institution.{Institution, JournalLine, with_line}
use Rattle.mf_journal.specs.declared.following.Head.{Head}
use Rattle.mf_store_sql.specs.Numbered.{Filed}
use Rattle.mf_store_schema.specs.Rows.{Lists}
use Rattle.mf_store_schema.specs.declared.meta.MetaRow.{MetaRow}
use Rattle.mf_store_values.specs.Flat.{schema_number, tables_of}
use Rattle.mf_store_journal.specs.Rows.{journal_rows_in}
use Rattle.mf_store_journal.specs.Written.{CanBeLines, HasLines}
use Rattle.mf_store_journal.specs.declared.journal.Journal.{Journal}
use Rattle.mf_store_noted.specs.declared.journal.Place.{Place}

-- the number of the schema: that of today's tables alone, or with a journal, which begins somewhere
abbrev pub number_kept : Option Head → ℕ
number_kept None = schema_number
number_kept (Some begins) = 3

-- the row of meta on a business day
abbrev pub meta_kept : Option Head → ℕ → MetaRow
meta_kept journal day = record { one = 1; schema = number_kept journal; day = day_text day }

-- the rows of a journal that begins here
abbrev pub rows_kept : Option Head → Option (List JournalLine) → List Filed
rows_kept None lines = []
rows_kept (Some begins) lines = journal_rows_in begins lines

-- what the tables keep of an institution: its rows, and those of its journal where they keep one
abbrev pub tables_kept : Option Head → Institution → Lists
tables_kept journal i = record (tables_of i) {
  meta = meta_kept journal i.catalogue.day ∷ [];
  journal = rows_kept journal i.journal;
}

-- the institution with a line more in its journal
abbrev pub noted_with : JournalLine → Institution → Institution
noted_with line i = record i { journal = with_line line i.journal }

-- where a journal begins, if one is kept
abbrev pub begins_of : Option Journal → Option Head
begins_of journal = option_map (λ (j : Journal). j.begins) journal

-- a journal begins somewhere just where the institution keeps one, whose lines can be those of one that begins there
abbrev pub IsBegun : Option Head → Institution → Type 0
IsBegun None i = i.journal ≡ None
IsBegun (Some begins) i = (lines : List JournalLine) × (i.journal ≡ Some lines) × CanBeLines begins lines

-- the journal that is kept, if one is, is the institution's
abbrev pub IsJournalOf : Option Journal → Institution → Type 0
IsJournalOf journal i = HasLines journal i.journal

-- the journal whose next line has this place
abbrev pub journal_at : Option Place → Option Journal
journal_at place = option_map (λ (p : Place). p.journal) place

-- the next line's day is the business day
abbrev pub IsToday : Option Place → Institution → Type 0
IsToday None i = Unit {0}
IsToday (Some place) i = place.day ≡ i.catalogue.day

-- the institution with a journal that has no line yet
abbrev pub journaled : Institution → Institution
journaled i = record i { journal = Some [] }
