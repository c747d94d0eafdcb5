-- What the calls of numbered tables come to for the journal's.
use Rattle.std.proofs.Common.{◌≡◌, ◌∙◌, ℕ, suc, List, [], ◌∷◌, ◌++◌, Option, Some, None}
use Rattle.std.proofs.Common.{Result, Ok, Err, IfOk, OnOk, IsTrue, inl, inr, refl, sym, ap, subst}
use Rattle.std.specs.Prelude.{option_map}
use Rattle.std.specs.List.{last_or}
use Rattle.sqlite.specs.Effect.{Database}
use Rattle.sqlite.specs.Given.{IsPlain}
use Rattle.sqlite.specs.Listing.{understood}
use Rattle.sqlite.specs.Order.{Row}
use Rattle.sqlite.specs.Schema.{Schema}
use Rattle.sqlite.specs.State.{State}
use Rattle.sqlite.specs.Table.{Table}
use Rattle.sqlite_keyed.proofs.ListLemmas.{all_of}
use Rattle.mf_store_sql.specs.Numbered.{Filed, shown_filed, KeepsLines, create_numbered}
use Rattle.mf_store_sql.specs.Numbered.{append_text, above_text, last_text}
use Rattle.mf_store_sql.specs.NumberedMeanings.{MakesNumbered, AppendsLine, LeavesLines, ShowsAbove, ShowsLast}
use Rattle.mf_model.specs.Institution.{JournalLine}
use Rattle.mf_journal.specs.Chain.{line_of_row, link}
use Rattle.mf_journal.specs.Following.{Follows, kept_at, line_of}
use Rattle.mf_journal.specs.declared.chain.JournalRow.{JournalRow}
use Rattle.mf_journal.specs.declared.following.Head.{Head}
use Rattle.mf_journal.specs.declared.following.KeptRow.{KeptRow}
use Rattle.mf_store_schema.specs.Tables.{schema, journal, third_schema}
use Rattle.mf_store_journal.specs.Rows.{filed_kept, filed_at, head_with, head_with_all}
use Rattle.mf_store_journal.specs.Rows.{filed_beginning, journal_rows_in}
use Rattle.mf_store_journal.specs.Adding.{KeepsJournal, MakesJournal, PutsLine, LeavesJournal, AddsLine}
use Rattle.mf_store_journal.specs.Reading.{IsThird, IsKeeping, first_above}
use Rattle.mf_store_journal.proofs.RowsLemmas.{line_fits, rows_more, head_made}
use Rattle.mf_store_journal.proofs.TextsLemmas.{is_journal}

-- ---- adding

pub makes : (sql : List ℕ) (old new : State) → sql ≡ create_numbered journal → MakesNumbered sql old new
    → MakesJournal old new
makes sql old new is h = record {
  mode = h.mode;
  was_open = h.was_open;
  made = λ has. h.made schema 23 journal is is_journal.made has;
}

pub puts : (sql : List ℕ) (params : Row) (k : KeptRow) (old new : State) → sql ≡ append_text journal
    → params ≡ shown_filed (filed_kept k) → AppendsLine sql params old new → PutsLine (filed_kept k) old new
puts sql params k old new is given h = record {
  mode = h.mode;
  was_open = h.was_open;
  put = λ lines keeps. h.appended third_schema 11 23 journal (filed_kept k) lines is given is_journal.numbered
      (line_fits (line_of k) k.chain) keeps.schema_is keeps.keeps;
}

pub leaves : (sql : List ℕ) (params : Row) (old new : State) → sql ≡ append_text journal
    → LeavesLines sql params old new → LeavesJournal old new
leaves sql params old new is (inl undone) = inl undone
leaves sql params old new is (inr left) = inr (λ has. left third_schema 11 23 journal is is_journal.numbered has)

-- a line that is put after a head is added to the journal that stands there
pub adds : (head : Head) (row : JournalRow) (next : Head) (old new : State)
    → Follows head (kept_at next row) × (next.day ≡ row.day) → PutsLine (filed_kept (kept_at next row)) old new
    → AddsLine head row next old new
adds head row next old new follows h = record {
  mode = h.mode;
  was_open = h.was_open;
  next_is = next_is;
  not_earlier = follows.0.1;
  added = λ beginning lines stands keeps.
      let put = h.put (journal_rows_in beginning (Some lines)) keeps in
      let line_is : filed_kept (kept_at next row) ≡ filed_at (head_with (head_with_all beginning lines) line) line =
      ap (λ g. filed_at g line) (next_is ∙ ap (λ g. head_with g line) stands) in
      let rows_are = ap (λ rows. filed_beginning beginning ∷ rows) (rows_more beginning lines line) in
      record {
        schema_is = put.schema_is;
        keeps = subst (KeepsLines journal (new.now.trees 23))
            (ap (λ f. journal_rows_in beginning (Some lines) ++ f ∷ []) line_is ∙ sym rows_are) put.keeps;
      };
}
  where
    line : JournalLine
    line = line_of_row row

    number : next.number ≡ suc head.number
    number = follows.0.0

    chain : next.chain ≡ link head.chain line
    chain = follows.0.2

    next_is : next ≡ head_with head line
    next_is = ap (λ (m : ℕ). head_made m next.day next.chain) number
        ∙ ap (λ (d : ℕ). head_made (suc head.number) d next.chain) follows.1
        ∙ ap (λ (c : List ℕ). head_made (suc head.number) row.day c) chain

-- where nothing is done, nothing is changed
pub left_itself : (s : State) → LeavesJournal s s
left_itself s = inr (λ has. record {
  schema_is = has;
  same = all_of (λ (t : Table). s.now.trees t.tree ≡ s.now.trees t.tree) (λ t. refl) third_schema.tables;
})

-- ---- reading

-- what a text shows of lines that the connection keeps while it is open
pub shown : {V E : Type 0} (r : Result V E) (s : State) (lines : List Filed) (Shows P : V → Type 0)
    → ((v : V) → KeepsJournal s.now lines → Shows v → P v) → OnOk r (IsTrue s.is_open) → IsKeeping s lines
    → IfOk r Shows → IfOk r P
shown (Ok v) s lines Shows P law up kept h = law v (kept up) h
shown (Err e) s lines Shows P law up kept h = tt

pub above_is : (sql : List ℕ) (number most : ℕ) (db : Database) (lines : List Filed) (rows : List Row)
    → sql ≡ above_text journal → KeepsJournal db lines → ShowsAbove sql number most db rows
    → rows ≡ first_above most number lines
above_is sql number most db lines rows is k h =
    h.above third_schema 11 23 journal lines is is_journal.numbered k.schema_is k.keeps

pub last_is : (sql : List ℕ) (db : Database) (lines : List Filed) (row : Option Row) → sql ≡ last_text journal
    → KeepsJournal db lines → ShowsLast sql db row → row ≡ option_map shown_filed (last_or None lines)
last_is sql db lines row is k h =
    h.last third_schema 11 23 journal lines is is_journal.numbered k.schema_is k.keeps

-- the texts are plain under the schema
pub plain_as : (sql text : List ℕ) → sql ≡ text → IsPlain (understood third_schema text) → (k : Schema) → IsThird k
    → IsPlain (understood k sql)
plain_as sql text is plain k its =
    subst (λ s. IsPlain (understood s sql)) (sym its) (subst (λ t. IsPlain (understood third_schema t)) (sym is) plain)
