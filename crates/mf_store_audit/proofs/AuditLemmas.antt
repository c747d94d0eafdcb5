-- From what is said of the rows that were read to what is said of the tables.
use Rattle.std.proofs.Common.{◌≡◌, inl, inr, List, Option, refl, sym, ap, ◌∙◌, subst}
use Rattle.sqlite.specs.Effect.{Database}
use Rattle.mf_model.specs.Institution.{Institution, JournalLine}
use Rattle.mf_store_schema.specs.Rows.{Lists, by_staff}
use Rattle.mf_store_schema.specs.Versions.{IsOfVersion}
use Rattle.mf_store_schema.specs.Writes.{HoldsAt}
use Rattle.mf_store_schema.specs.declared.staff.StaffRow.{StaffRow}
use Rattle.mf_store_schema.specs.declared.versions.Version.{Version}
use Rattle.mf_store_schema.specs.declared.versions.Version.TheVariants.{First, Second, Third}
use Rattle.mf_store_sound.specs.Schemas.{lists_at, tables_at}
use Rattle.mf_store_audit.specs.Findings.{AllBreak, AreOfNone}
use Rattle.mf_store_told.specs.Told.{TellsRequests}
use Rattle.mf_store_sound.specs.Held.{CanBeHeld, DoRise, KeepsJournalAt, Rises}
use Rattle.mf_store_sound.specs.Sound.{AreOfSoundAt}
use Rattle.mf_store_sound.proofs.JudgedLemmas.{can_be_held, holds_sound, rows_are}
use Rattle.mf_store_sound.proofs.RiseLemmas.{staff_rise}
use Rattle.mf_store_sound.proofs.SchemaLemmas.{one_version}
use Rattle.mf_store_sound.proofs.WholeLemmas.{bare_of}
use Rattle.mf_store_audit.specs.Audits.{AreSuspectsOf, FindsSound, IsAuditOfRows, IsAuditOf, IsWithJournal}
use Rattle.mf_store_audit.specs.Audits.{HoldsInAt, HoldsNone}
use Rattle.mf_store_audit.specs.declared.audits.Audit.{Audit}
use Rattle.mf_store_audit.specs.declared.audits.Audit.TheVariants.{NoTables, OtherTables, Sound, Unsound, Unreadable}
use Rattle.mf_store_audit.specs.declared.audits.Audit.TheVariants as audit

-- the staff of sound rows rise by their keys
pub staff_rises : (v : Version) (t : Lists) → AreOfSoundAt v t → Rises by_staff t.staff
staff_rises v t one = subst (λ (l : List StaffRow). Rises by_staff l)
    (ap (λ (l : Lists). l.staff) (bare_of v t one.institution one.rows_are)) (staff_rise one.institution one.sound)

-- the journal doesn't show in the other tables
other_tables : (v : Version) (i : Institution) (journal : Option (List JournalLine))
    → tables_at v (record i { journal = journal }) ≡ tables_at v i
other_tables First i journal = refl
other_tables Second i journal = refl
other_tables Third i journal = refl

module _ (db : Database) (v : Version) (ours : IsOfVersion v db.schema) where
  -- a database has the tables of one version alone
  at_ours : (w : Version) (i : Institution) → HoldsInAt w db i → HoldsAt v db.trees (tables_at v i)
      × KeepsJournalAt v db.trees i.journal
  at_ours w i held = subst (λ (x : Version). HoldsAt x db.trees (tables_at x i) × KeepsJournalAt x db.trees i.journal)
      (one_version w v (sym held.0 ∙ ours)) (held.1, held.2)

  module _ (tables : Lists) (only : (lists : Lists) → HoldsAt v db.trees lists → tables ≡ lists_at v lists) where
    none_held : AreOfNone v tables → HoldsNone db
    none_held none w i sound held = none i sound (rows_are v db.trees tables only i (at_ours w i held).0)

    pub of_rows : (DoRise tables → HoldsAt v db.trees tables) → (a : Audit)
        → (FindsSound a → (journal : Option (List JournalLine)) × KeepsJournalAt v db.trees journal
        × TellsRequests journal)
        → IsAuditOfRows v tables a → IsAuditOf db a
    of_rows keeps NoTables kept told = absurd told
    of_rows keeps OtherTables kept told = absurd told
    of_rows keeps (Sound w rows sums suspects) kept told =
        let its = told.1 in
        let journal = kept tt in
        let found = holds_sound v db.trees tables keeps (record {
          institution = its.institution;
          sound = its.sound;
          rows_are = its.has;
        }) journal.0 journal.1 in
        let whole : Institution = record its.institution { journal = journal.0 } in
        let holds = subst (HoldsAt v db.trees) (rows_are v db.trees tables only found.institution found.holds
        ∙ sym its.has ∙ sym (other_tables v its.institution journal.0)) found.holds in
        let all : (lists : Lists) → HoldsAt v db.trees lists → rows ≡ lists_at v lists =
        λ lists held. told.2 ∙ only lists held in (
          record {
            institution = whole;
            sound = record { catalogue = its.sound.catalogue; tree = its.sound.tree; each = its.sound.each };
            has = subst (λ (x : Version). HoldsInAt x db whole) (sym told.0) (ours, holds, journal.1, journal.2);
            sums_are = its.sums_are;
          },
          subst (λ (x : Version). IsOfVersion x db.schema × ((lists : Lists) → HoldsAt x db.trees lists
              → rows ≡ lists_at x lists)) (sym told.0) (ours, all),
          subst (λ (l : Lists). AreSuspectsOf l suspects.items) (sym told.2) told.3,
        )
    of_rows keeps (Unsound w rows findings) kept told =
        let all : (lists : Lists) → HoldsAt v db.trees lists → rows ≡ lists_at v lists =
        λ lists held. told.1 ∙ only lists held in
        let breaks = subst (λ l. AllBreak v l findings.items) (sym told.1) told.3 in (
          none_held told.2,
          subst (λ (x : Version). IsOfVersion x db.schema × ((lists : Lists) → HoldsAt x db.trees lists
              → rows ≡ lists_at x lists)) (sym told.0) (ours, all),
          subst (λ (x : Version). AllBreak x rows findings.items) (sym told.0) breaks,
        )
    of_rows keeps (Unreadable w unread) kept told = absurd told
    of_rows keeps (audit.BrokenJournal broken) kept told = absurd told

    -- with the journal beside the other tables
    pub of_rows_with_journal : v ≡ Third → (DoRise tables → HoldsAt v db.trees tables) → (others whole : Audit)
        → IsAuditOfRows v tables others → IsWithJournal db.trees others whole → IsAuditOf db whole
    of_rows_with_journal third keeps others whole told (inl (same, kept)) = subst (IsAuditOf db) (sym same)
        (of_rows keeps others (λ found. let j = kept found in
        (j.0, subst (λ x. KeepsJournalAt x db.trees j.0) (sym third) j.1, j.2)) told)
    of_rows_with_journal third keeps others whole told (inr (broken, is, none, its)) = subst (IsAuditOf db) (sym is) (
      subst (λ x. IsOfVersion x db.schema) third ours,
      λ w i sound held. none (
        i.journal,
        subst (λ x. KeepsJournalAt x db.trees i.journal) third (at_ours w i held).1,
        held.3,
      ),
      its,
    )

  -- tables with a row that no record can hold
  pub unread_none : ((lists : Lists) → CanBeHeld lists → ¬ HoldsAt v db.trees lists) → HoldsNone db
  unread_none none w i sound held = none (tables_at v i) (can_be_held v i sound) (at_ours w i held).0
