-- Which institution a stop after a run leaves.
use Rattle.std.proofs.Common.{◌≡◌, ◌⊎◌, inl, inr, Bool, true, false, cond, List, [], ◌∷◌, ◌++◌, Option, Some, None}
use Rattle.std.proofs.Common.{IsTrue, refl, sym, ap, ◌∙◌, subst}
use Rattle.std.proofs.Math.Logic.{∥∥₁_map}
use Rattle.sqlite.specs.Files.{HoldsDatabase}
use Rattle.sqlite.specs.Tree.{Trees}
use Rattle.sqlite.proofs.Theorems.{opens_again}
use Rattle.sqlite_disk.specs.declared.Disk.{Ghosts}
use Rattle.sqlite_store.specs.FileStore.{state, view, recovers}
use Rattle.sqlite_store.specs.declared.store.FileStore.{FileStore}
use Rattle.sqlite_wal.specs.Recovery.{Image}
use Rattle.mf_model.specs.Institution.{Institution, Change, JournalLine, Noted, after, after_line, after_noted}
use Rattle.mf_model.specs.Institution.{noted_line, with_line}
use Rattle.mf_model.specs.Desk.{outcome, change_in}
use Rattle.mf_model.specs.Calls.{Call}
use Rattle.mf_model.specs.Run.{Line, change_of_line, next, noted_of, last}
use Rattle.mf_model.specs.Sound.{IsSound, IsInRange, AreInRange}
use Rattle.mf_model.specs.Store.{left_by, left_after}
use Rattle.mf_journal.specs.declared.following.Head.{Head}
use Rattle.mf_store_schema.specs.Writes.{Holds, HoldsAll, HoldsAt, all_conditions}
use Rattle.mf_store_schema.specs.declared.versions.Version.{Version}
use Rattle.mf_store_schema.specs.declared.versions.Version.TheVariants.{Second, Third}
use Rattle.mf_store_journal.specs.Rows.{journal_rows_in}
use Rattle.mf_store_journal.specs.Written.{CanBeLines, KeepsJournalFrom}
use Rattle.mf_store_told.specs.Told.{TellsRequests}
use Rattle.mf_store_sound.specs.Held.{CanBeOpened, HoldsSound, HoldsSoundAt}
use Rattle.mf_store_sound.specs.Schemas.{tables_at}
use Rattle.mf_store_sound.proofs.NestedLemmas.{first_held}
use Rattle.mf_store_noted.specs.Kept.{IsBegun, tables_kept}
use Rattle.mf_store_noted.specs.Tabled.{HoldsOneOf, HoldsRowsOf}
use Rattle.mf_store_files.specs.Stops.{NoneChanges, HoldsBeginning, IsLeftBy}

unmoved : (run : List Line) (i : Institution) → NoneChanges run i → last run i ≡ i
unmoved [] i none = refl
unmoved (l ∷ ls) i none = ap (λ c. last ls (after_line (noted_of l.call i) c i)) none.0 ∙ unmoved ls i none.1

module _ (left : Trees) where
  abbrev HoldsIt : Institution → Type 0
  HoldsIt j = HoldsRowsOf left j

  abbrev IsOfRun : List Line → Institution → Type 0
  IsOfRun run i = (j : Institution) × IsLeftBy run i j × HoldsIt j

  abbrev IsOfBefore : List Line → Institution → List Institution → Type 0
  IsOfBefore run i is = NoneChanges run i × HoldsOneOf is left

  later_too : (l : Line) (ls : List Line) (i : Institution) → IsOfRun ls (next l i) → IsOfRun (l ∷ ls) i
  later_too l ls i (j, inl is_last, held) = (j, inl is_last, held)
  later_too l ls i (j, inr with_one, held) = (
    j,
    inr (record {
      before = l ∷ with_one.before;
      line = with_one.line;
      later = with_one.later;
      parts = ap (λ ks. l ∷ ks) with_one.parts;
      given_up = with_one.given_up;
      unchanged = with_one.unchanged;
      change = with_one.change;
      asked = with_one.asked;
      with_change = with_one.with_change;
    }),
    held,
  )

  unchanged_by : (l : Line) (i : Institution) (c : Option Change) (given_up : Bool) → change_in (outcome l.call i) ≡ c
      → l.given_up ≡ given_up → change_of_line l i ≡ cond given_up None c
  unchanged_by l i c given_up is gives = ap (λ b. cond b None (change_in (outcome l.call i))) gives
      ∙ ap (λ d. cond given_up None d) is

  first_step : (l : Line) (ls : List Line) (i : Institution) (is : List Institution) (c : Option Change)
      (given_up : Bool) → change_in (outcome l.call i) ≡ c → l.given_up ≡ given_up
      → NoneChanges ls (after_line (noted_of l.call i) (cond given_up None c) i)
      → HoldsOneOf (left_by (noted_of l.call i) c given_up i is) left
      → IsOfBefore (l ∷ ls) i is ⊎ IsOfRun (l ∷ ls) i
  first_step l ls i is None true e gives none one = inl ((unchanged_by l i None true e gives, none), one)
  first_step l ls i is None false e gives none one = inl ((unchanged_by l i None false e gives, none), one)
  first_step l ls i is (Some change) false e gives none (inl held) =
      inr (
        after_noted (noted_of l.call i) change i,
        inl (sym (ap (λ c. last ls (after_line (noted_of l.call i) c i)) (unchanged_by l i (Some change) false e gives)
            ∙ unmoved ls (after_noted (noted_of l.call i) change i) none)),
        held,
      )
  first_step l ls i is (Some change) false e gives none (inr nothing) = absurd nothing
  first_step l ls i is (Some change) true e gives none (inl held) =
      inr (
        after_noted (noted_of l.call i) change i,
        inr (record {
          before = [];
          line = l;
          later = ls;
          parts = refl;
          given_up = gives;
          unchanged = none;
          change = change;
          asked = e;
          with_change = refl;
        }),
        held,
      )
  first_step l ls i is (Some change) true e gives none (inr one) =
      inl ((unchanged_by l i (Some change) true e gives, none), one)

  -- one of those before, if the run changes nothing, or one that the run leaves
  left_by_run : (run : List Line) (i : Institution) (is : List Institution) → HoldsOneOf (left_after run i is) left
      → IsOfBefore run i is ⊎ IsOfRun run i
  left_by_run [] i is one = inl (tt, one)
  left_by_run (l ∷ ls) i is one =
      go (left_by_run ls (next l i) (left_by (noted_of l.call i) (change_in (outcome l.call i)) l.given_up i is) one)
    where
      go : IsOfBefore ls (next l i) (left_by (noted_of l.call i) (change_in (outcome l.call i)) l.given_up i is)
          ⊎ IsOfRun ls (next l i)
          → IsOfBefore (l ∷ ls) i is ⊎ IsOfRun (l ∷ ls) i
      go (inl (none, held)) = first_step l ls i is (change_in (outcome l.call i)) l.given_up refl refl none held
      go (inr it) = inr (later_too l ls i it)

  pub one_of_run : (run : List Line) (i : Institution) → HoldsOneOf (left_after run i (i ∷ [])) left → IsOfRun run i
  one_of_run run i one = go (left_by_run run i (i ∷ []) one)
    where
      go : IsOfBefore run i (i ∷ []) ⊎ IsOfRun run i → IsOfRun run i
      go (inl (none, inl held)) = (i, inl (sym (unmoved run i none)), held)
      go (inl (none, inr nothing)) = absurd nothing
      go (inr it) = it

-- ---- a journal doesn't begin by itself

plain_line : (noted : Noted) (c : Option Change) (i : Institution) → i.journal ≡ None
    → (after_line noted c i).journal ≡ None
plain_line noted None i none = none
plain_line noted (Some change) i none = ap (with_line (noted_line i.catalogue.day noted)) none

plain_last : (run : List Line) (i : Institution) → i.journal ≡ None → (last run i).journal ≡ None
plain_last [] i none = none
plain_last (l ∷ ls) i none = plain_last ls (next l i) (plain_line (noted_of l.call i) (change_of_line l i) i none)

plain_left : (run : List Line) (i j : Institution) → i.journal ≡ None → IsLeftBy run i j → j.journal ≡ None
plain_left run i j none (inl is_last) = ap (λ (k : Institution). k.journal) is_last ∙ plain_last run i none
plain_left run i j none (inr it) =
    let before = last it.before i in
    ap (λ (k : Institution). k.journal) it.with_change
    ∙ ap (with_line (noted_line before.catalogue.day (noted_of it.line.call before))) (plain_last it.before i none)

plain_rows : (trees : Trees) (j : Institution) → j.journal ≡ None → IsSound j → HoldsRowsOf trees j
    → (held : HoldsSound trees) × (held.institution ≡ j)
plain_rows trees j none sound held = go held.begins held.begun held.holds
  where
    go : (begins : Option Head) → IsBegun begins j → Holds trees (Some (tables_kept begins j))
        → (held : HoldsSound trees) × (held.institution ≡ j)
    go None begun holds = (
      record {
        institution = j;
        sound = sound;
        holds = record { sound = holds.sound; all = holds.all };
        keeps = none;
      },
      refl,
    )
    go (Some begins) begun holds = let both : None ≡ Some begun.0 = sym none ∙ begun.1 in absurd (cc)

pub no_journal_begins : (run : List Line) (i j : Institution) (trees : Trees) → i.journal ≡ None → IsLeftBy run i j
    → IsSound j → HoldsRowsOf trees j → (held : HoldsSound trees) × (held.institution ≡ j)
no_journal_begins run i j trees none left sound held =
    plain_rows trees j (plain_left run i j none left) sound held

-- ---- what is left can be opened

with_journal : (trees : Trees) (j : Institution) (begins : Head) (lines : List JournalLine) → CanBeLines begins lines
    → (journal : Option (List JournalLine)) → journal ≡ Some lines
    → HoldsAll trees (record (tables_at Third j) { journal = journal_rows_in begins journal })
    → HoldsAt Third trees (tables_at Third j) × KeepsJournalFrom begins trees lines
with_journal trees j begins lines can journal is holds =
    let all = subst (λ k. HoldsAll trees (record (tables_at Third j) { journal = journal_rows_in begins k })) is holds
    in (
      record {
        sound = all.sound;
        all = first_held trees 11 (all_conditions (record (tables_at Third j) {
          journal = journal_rows_in begins (Some lines);
        })) all.all;
      },
      record { lines_can_be = can; keeps = all.all.1.1.1.1.1.1.1.1.1.1.1.0 },
    )

-- trees that hold the rows of a sound institution are those of a file that can be opened, which is that institution's
pub rows_are_sound : (trees : Trees) (j : Institution) → IsSound j → HoldsRowsOf trees j
    → (v : Version) × (held : HoldsSoundAt v trees) × (held.institution ≡ j)
rows_are_sound trees j sound held = go held.begins held.begun held.holds
  where
    go : (begins : Option Head) → IsBegun begins j → Holds trees (Some (tables_kept begins j))
        → (v : Version) × (held : HoldsSoundAt v trees) × (held.institution ≡ j)
    go None begun holds = (
      Second,
      record {
        institution = j;
        sound = sound;
        holds = record { sound = holds.sound; all = holds.all };
        keeps = begun;
      },
      refl,
    )
    go (Some begins) begun holds =
        let both = with_journal trees j begins begun.0 begun.2 j.journal begun.1 holds in (
          Third,
          record {
            institution = j;
            sound = sound;
            holds = both.0;
            keeps = (begins, begun.0, begun.1, both.1);
          },
          refl,
        )

-- and where each line of its journal tells a request, a file that is opened
pub rows_are_opened : (trees : Trees) (j : Institution) → IsSound j → HoldsRowsOf trees j → TellsRequests j.journal
    → (v : Version) × (opened : CanBeOpened v trees) × (opened.held.institution ≡ j)
rows_are_opened trees j sound held told =
    let its = rows_are_sound trees j sound held in
    let its_told = subst (λ (i : Institution). TellsRequests i.journal) (sym its.2) told in
    (its.0, record { held = its.1; told = its_told }, its.2)

-- what is noted doesn't matter
noted_sound : (noted : Noted) (change : Change) (i : Institution) → IsSound (after change i)
    → IsSound (after_noted noted change i)
noted_sound noted change i s = record { catalogue = s.catalogue; tree = s.tree; each = s.each }

AreInRange-first : (before later : List Line) → AreInRange (before ++ later) → AreInRange before
AreInRange-first [] later r = tt
AreInRange-first (l ∷ ls) later r = (r.0, AreInRange-first ls later r.1)

AreInRange-rest : (before later : List Line) → AreInRange (before ++ later) → AreInRange later
AreInRange-rest [] later r = r
AreInRange-rest (l ∷ ls) later r = AreInRange-rest ls later r.1

module _
    (stays_sound : (i : Institution) (lines : List Line) → IsSound i → AreInRange lines → IsSound (last lines i))
    (change_sound : (call : Call) (i : Institution) (change : Change) → IsSound i → IsInRange call.request
    → change_in (outcome call i) ≡ Some change → IsSound (after change i)) where
  left_sound : (run : List Line) (i j : Institution) → IsSound i → AreInRange run → IsLeftBy run i j → IsSound j
  left_sound run i j sound range (inl is_last) = subst IsSound (sym is_last) (stays_sound i run sound range)
  left_sound run i j sound range (inr it) =
      let parts = subst AreInRange it.parts range in
      let before = stays_sound i it.before sound (AreInRange-first it.before (it.line ∷ it.later) parts) in
      let made = change_sound it.line.call (last it.before i) it.change before
      (AreInRange-rest it.before (it.line ∷ it.later) parts).0 it.asked in
      subst IsSound (sym it.with_change)
      (noted_sound (noted_of it.line.call (last it.before i)) it.change (last it.before i) made)

  pub left_tables : (run : List Line) (i : Institution) → IsSound i → AreInRange run → (left : Trees)
      → HoldsOneOf (left_after run i (i ∷ [])) left → HoldsBeginning run i left
  left_tables run i sound range left one =
      let it = one_of_run left run i one in
      (it.0, it.1, left_sound run i it.0 sound range it.1, it.2)

  -- and whatever a stop leaves of the files is a database with them
  pub left_files : {D : Type 0} {g : Ghosts D} (store : FileStore D g) (run : List Line) (i : Institution) → IsSound i
      → AreInRange run
      → IsTrue (view store).is_numbered → ((trees : Trees) → recovers store trees
      → HoldsOneOf (left_after run i (i ∷ [])) trees)
      → (left : Image) → (state store).may_leave left → ∥ ((trees : Trees) × HoldsDatabase left trees
      × HoldsBeginning run i trees) ∥₁
  left_files store run i sound range numbered leaves left may =
      let tables =
      λ (trees : Trees) (may : recovers store trees). left_tables run i sound range trees (leaves trees may) in
      ∥∥₁_map (opens_again store numbered (λ trees may. (_, (tables trees may).3.holds.sound)) left may) (λ found.
      (found.0, found.2, tables found.0 found.1))
