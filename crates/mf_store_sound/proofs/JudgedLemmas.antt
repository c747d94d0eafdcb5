-- The rows of a sound institution: what reading the tables asks of them, and what it shows.
use Rattle.std.proofs.Common.{◌≡◌, ◌⊎◌, inl, inr, List, Option, None, Some, refl, sym, ap, ◌∙◌, subst, arith}
use Rattle.std.specs.Option.{IfSome, IfNone}
use Rattle.sqlite.specs.Effect.{Database}
use Rattle.sqlite.specs.State.{State}
use Rattle.sqlite.specs.Tree.{Trees}
use Rattle.mf_model.specs.Institution.{Institution, JournalLine}
use Rattle.mf_model.specs.Sound.{IsSound}
use Rattle.mf_journal.specs.declared.following.Head.{Head}
use Rattle.mf_store_journal.specs.Rows.{head_with_all}
use Rattle.mf_store_journal.specs.Written.{KeepsJournalFrom, KeepsTo}
use Rattle.mf_store_journal.specs.declared.journal.Journal.{Journal}
use Rattle.mf_play.specs.Play.{AllTellRequests}
use Rattle.mf_store_told.specs.Told.{KeepsTold, TellsRequests}
use Rattle.mf_store_schema.specs.Rows.{Lists}
use Rattle.mf_store_schema.specs.Writes.{HoldsAt}
use Rattle.mf_store_schema.specs.declared.versions.Version.{Version}
use Rattle.mf_store_schema.specs.declared.versions.Version.TheVariants.{First, Second, Third}
use Rattle.mf_store_sound.specs.Schemas.{lists_at, tables_at}
use Rattle.mf_store_sound.specs.Sound.{AreOfSoundAt}
use Rattle.mf_store_sound.specs.Held.{CanBeHeld, CanBeOpened, DoRise, HoldsSoundAt, IsFoundIn, KeepsJournalAt}
use Rattle.mf_store_sound.proofs.HeldAccountLemmas.{held_instalments, held_shares}
use Rattle.mf_store_schema.proofs.ReadLemmas.{unchanged_then}
use Rattle.mf_store_schema.specs.Schemas.{IsUnchangedUnder}
use Rattle.mf_store_schema.specs.Versions.{IsOfVersion}
use Rattle.mf_store_schema.specs.Whole.{HaveRowids}
use Rattle.mf_store_sound.proofs.NestedLemmas.{◌also◌, unchanged_fewer}
use Rattle.mf_store_sound.proofs.HeldLemmas.{held_meta, held_meta_under, held_offices, held_staff, held_clients}
use Rattle.mf_store_sound.proofs.HeldLemmas.{held_charges, held_products, held_loans, held_entries, held_receipts}
use Rattle.mf_store_sound.proofs.RiseLemmas.{meta_rises, offices_rise, staff_rise, clients_rise, charges_rise}
use Rattle.mf_store_sound.proofs.RiseLemmas.{products_rise, loans_rise, entries_rise, receipts_rise, instalments_rise}
use Rattle.mf_store_sound.proofs.RiseLemmas.{shares_rise}

pub can_be_held : (v : Version) (i : Institution) → IsSound i → CanBeHeld (tables_at v i)
can_be_held First i sound = record {
  all = held_meta_under 1 (omega arith) i sound also held_offices i sound also held_staff i sound
      also held_clients i sound also held_charges i sound also held_products i sound also held_loans i sound
      also held_entries i sound also held_receipts i sound also tt also tt also tt;
}
can_be_held Second i sound = record {
  all = held_meta i sound also held_offices i sound also held_staff i sound also held_clients i sound
      also held_charges i sound also held_products i sound also held_loans i sound also held_entries i sound
      also held_receipts i sound also held_instalments i sound also held_shares i sound also tt;
}
can_be_held Third i sound = record {
  all = held_meta_under 3 (omega arith) i sound also held_offices i sound also held_staff i sound
      also held_clients i sound also held_charges i sound also held_products i sound also held_loans i sound
      also held_entries i sound also held_receipts i sound also held_instalments i sound also held_shares i sound also
      tt;
}

do_rise : (v : Version) (i : Institution) → IsSound i → DoRise (tables_at v i)
do_rise First i sound = record {
  all = meta_rises i sound also offices_rise i sound also staff_rise i sound also clients_rise i sound
      also charges_rise i sound also products_rise i sound also loans_rise i sound also entries_rise i sound
      also receipts_rise i sound also tt also tt also tt;
}
do_rise Second i sound = record {
  all = meta_rises i sound also offices_rise i sound also staff_rise i sound also clients_rise i sound
      also charges_rise i sound also products_rise i sound also loans_rise i sound also entries_rise i sound
      also receipts_rise i sound also instalments_rise i sound also shares_rise i sound also tt;
}
do_rise Third i sound = record {
  all = meta_rises i sound also offices_rise i sound also staff_rise i sound also clients_rise i sound
      also charges_rise i sound also products_rise i sound also loans_rise i sound also entries_rise i sound
      also receipts_rise i sound also instalments_rise i sound also shares_rise i sound also tt;
}

-- an institution has no rows in a table that the version lacks
none_lacking : (v : Version) (i : Institution) → lists_at v (tables_at v i) ≡ tables_at v i
none_lacking First i = refl
none_lacking Second i = refl
none_lacking Third i = refl

-- the journal doesn't show in the other tables of a version
other_tables : (v : Version) (i : Institution) (journal : Option (List JournalLine))
    → tables_at v (record i { journal = journal }) ≡ tables_at v i
other_tables First i journal = refl
other_tables Second i journal = refl
other_tables Third i journal = refl

module _ (v : Version) (trees : Trees) (lists : Lists) where
  -- trees that keep the lists read, as they rise, hold the institution whose rows these are, with its journal
  pub holds_sound : (DoRise lists → HoldsAt v trees lists) → AreOfSoundAt v lists
      → (journal : Option (List JournalLine)) → KeepsJournalAt v trees journal → HoldsSoundAt v trees
  holds_sound keeps are journal kept = record {
    institution = record are.institution { journal = journal };
    sound = record { catalogue = are.sound.catalogue; tree = are.sound.tree; each = are.sound.each };
    holds = subst (HoldsAt v trees) (sym (other_tables v are.institution journal ∙ are.rows_are))
        (keeps (subst DoRise are.rows_are (do_rise v are.institution are.sound)));
    keeps = kept;
  }

  -- and where each line of the journal tells a request, they can be opened
  pub can_be_opened : (DoRise lists → HoldsAt v trees lists) → AreOfSoundAt v lists
      → (journal : Option (List JournalLine)) → KeepsJournalAt v trees journal → TellsRequests journal
      → CanBeOpened v trees
  unfolding holds_sound
  can_be_opened keeps are journal kept told =
      record { held = holds_sound keeps are journal kept; told = told }

  module _ (only : (l : Lists) → HoldsAt v trees l → lists ≡ lists_at v l) where
    -- where trees hold a sound institution and the lists read are all that they hold, these are its rows
    pub rows_are : (i : Institution) → HoldsAt v trees (tables_at v i) → tables_at v i ≡ lists
    rows_are i holds = sym (only (tables_at v i) holds ∙ none_lacking v i)

    pub are_of_sound : HoldsSoundAt v trees → AreOfSoundAt v lists
    are_of_sound h = record {
      institution = h.institution;
      sound = h.sound;
      rows_are = rows_are h.institution h.holds;
    }

-- ---- the journal of the third version

module _ (trees : Trees) where
  pub journal_kept : (found : Journal) → KeepsTo found trees
      → (journal : Option (List JournalLine)) × KeepsJournalAt Third trees journal
  journal_kept found to = (Some to.lines, (found.begins, to.lines, refl, to.keeps))

  pub journal_found : (found : Journal) → ((begins : Head) (lines : List JournalLine)
      → KeepsJournalFrom begins trees lines → (found.begins ≡ begins) × (found.head ≡ head_with_all begins lines))
      → (journal : Option (List JournalLine)) → KeepsJournalAt Third trees journal
      → IsFoundIn trees (Some found) journal
  journal_found found only journal (begins, lines, is, from) =
      let one = only begins lines from in (
        lines,
        is,
        subst (λ b. KeepsJournalFrom b trees lines) (sym one.0) from,
        one.1 ∙ ap (λ b. head_with_all b lines) (sym one.0),
      )

  -- where each line tells a request
  pub told_kept : (found : Journal) → KeepsTold found trees
      → (journal : Option (List JournalLine)) × KeepsJournalAt Third trees journal × TellsRequests journal
  told_kept found keeps =
      (Some keeps.to.lines, (found.begins, keeps.to.lines, refl, keeps.to.keeps), keeps.told)

  pub no_told_kept : ((begins : Head) (lines : List JournalLine) → KeepsJournalFrom begins trees lines
      → ¬ AllTellRequests lines) → (journal : Option (List JournalLine)) → KeepsJournalAt Third trees journal
      → ¬ TellsRequests journal
  no_told_kept none journal (begins, lines, is, from) told = none begins lines from (subst TellsRequests is told)

  pub no_journal_kept : ((begins : Head) (lines : List JournalLine) → ¬ KeepsJournalFrom begins trees lines)
      → (journal : Option (List JournalLine)) → ¬ KeepsJournalAt Third trees journal
  no_journal_kept none journal (begins, lines, is, from) = none begins lines from

-- ---- the two versions that have none

pub none_kept : (v : Version) → (v ≡ First) ⊎ (v ≡ Second) → (trees : Trees) → KeepsJournalAt v trees None
none_kept First plain trees = refl
none_kept Second plain trees = refl
none_kept Third (inl is) trees = absurd (cc)
none_kept Third (inr is) trees = absurd (cc)

pub kept_none : (v : Version) → (v ≡ First) ⊎ (v ≡ Second) → (trees : Trees) (journal : Option (List JournalLine))
    → KeepsJournalAt v trees journal → journal ≡ None
kept_none First plain trees journal kept = kept
kept_none Second plain trees journal kept = kept
kept_none Third (inl is) trees journal kept = absurd (cc)
kept_none Third (inr is) trees journal kept = absurd (cc)

-- ---- the tables of the third version, read one after the other

pub some_weaker : {A : Type 0} (o : Option A) (P Q : A → Type 0) → ((x : A) → P x → Q x) → IfSome o P → IfSome o Q
some_weaker None P Q more is = tt
some_weaker (Some x) P Q more is = more x is

pub none_weaker : {A : Type 0} (o : Option A) (P Q : Type 0) → (P → Q) → IfNone o P → IfNone o Q
none_weaker None P Q more is = more is
none_weaker (Some x) P Q more is = tt

module _ (v : Version) (third : v ≡ Third) where
  pub unchanged_twice : (a b c : State) → IsUnchangedUnder (IsOfVersion v) a b
      → IsUnchangedUnder (IsOfVersion Third) b c → IsUnchangedUnder (IsOfVersion v) a c
  unchanged_twice a b c first second = unchanged_fewer (λ k. IsOfVersion v k × IsOfVersion Third k) (IsOfVersion v) a c
      (λ k its. (its, subst (λ w. IsOfVersion w k) third its))
      (unchanged_then (IsOfVersion v) (IsOfVersion Third) a b c first second)

  -- what is so of the database before is so between the two readings
  module _ (was now : Database) (same : now ≡ was) where
    pub ours_there : IsOfVersion v was.schema → IsOfVersion Third now.schema
    ours_there ours = subst (λ (d : Database). IsOfVersion Third d.schema) (sym same)
        (subst (λ w. IsOfVersion w was.schema) third ours)

    pub rowids_there : HaveRowids v was.trees → HaveRowids Third now.trees
    rowids_there rowids = subst (λ (d : Database). HaveRowids Third d.trees) (sym same)
        (subst (λ w. HaveRowids w was.trees) third rowids)

    pub journal_there : (journal : Option (List JournalLine)) → KeepsJournalAt v was.trees journal
        → KeepsJournalAt Third now.trees journal
    journal_there journal kept = subst (λ (d : Database). KeepsJournalAt Third d.trees journal) (sym same)
        (subst (λ w. KeepsJournalAt w was.trees journal) third kept)

    pub journal_here : (journal : Option (List JournalLine)) → KeepsJournalAt Third now.trees journal
        → KeepsJournalAt v was.trees journal
    journal_here journal kept = subst (λ w. KeepsJournalAt w was.trees journal) (sym third)
        (subst (λ (d : Database). KeepsJournalAt Third d.trees journal) same kept)

    pub found_here : (found : Option Journal) (journal : Option (List JournalLine))
        → IsFoundIn now.trees found journal → IsFoundIn was.trees found journal
    found_here found journal = subst (λ (d : Database). IsFoundIn d.trees found journal) same
