-- The verdict by an audit, and by the play of the journal that it finds.
use Rattle.std.specs.Prelude.{Result, Ok, Err, IfOk}
use Rattle.std.proofs.Common.{◌≡◌, ◌↔◌, Bool, false, IsTrue, Option, Some, None, refl, sym, subst}
use Rattle.sqlite.specs.Effect.{Database}
use Rattle.sqlite.specs.Tree.{Trees}
use Rattle.sqlite.specs.State.{State}
use Rattle.mf_store_schema.specs.Schemas.{IsUnchangedUnder}
use Rattle.mf_store_schema.specs.Versions.{IsOfVersion}
use Rattle.mf_store_schema.specs.declared.versions.Version.{Version}
use Rattle.mf_store_schema.specs.declared.versions.Version.TheVariants.{Third}
use Rattle.mf_store_journal.specs.Reading.{IsThird}
use Rattle.mf_store_sound.specs.Told.{IsAny}
use Rattle.mf_store_audit.specs.Audits.{IsAuditOf}
use Rattle.mf_store_audit.specs.declared.audits.Audit.{Audit}
use Rattle.mf_store_audit.specs.declared.audits.Audit.TheVariants.{NoTables, OtherTables, Sound, Unsound, Unreadable}
use Rattle.mf_store_audit.specs.declared.audits.Audit.TheVariants as audit
use Rattle.mf_store_played.specs.declared.played.Played.{Played}
use Rattle.mf_store_verdict.specs.Verdict.{FindsJournal, IsPlayOf, IsVerdictBy}
use Rattle.mf_store_verdict.specs.declared.verdict.Verdict.{Verdict}

-- a database of which an audit finds a journal has the tables of the third version
pub third_there : (db : Database) (found : Audit) → FindsJournal found → IsAuditOf db found → IsThird db.schema
third_there db NoTables finds told = absurd finds
third_there db OtherTables finds told = absurd finds
third_there db (Sound version tables sums suspects) finds told =
    subst (λ (v : Version). IsOfVersion v db.schema) finds told.0.has.0
third_there db (Unsound version tables findings) finds told = absurd finds
third_there db (Unreadable version unread) finds told = absurd finds
third_there db (audit.BrokenJournal broken) finds told = absurd finds

-- where nothing is played
pub verdict_unplayed : (IsRight : Trees → Played → Type 0) (db : Database) (found : Audit) → ¬ FindsJournal found
    → IsAuditOf db found → IsVerdictBy IsRight db (record { audit = found; played = None })
verdict_unplayed IsRight db found none told = record { audited = told; played = none }

-- where the play of what an open connection shows has this answer
pub verdict_played : (IsRight : Trees → Played → Type 0) (db now : Database) (found : Audit) (played : Played)
    → now ≡ db → FindsJournal found → IsAuditOf db found → (IsThird now.schema → IsRight now.trees played)
    → IsVerdictBy IsRight db (record { audit = found; played = Some played })
verdict_played IsRight db now found played same finds told answer = record {
  audited = told;
  played = (
    finds,
    subst (λ (d : Database). IsRight d.trees played) same
        (answer (subst (λ (d : Database). IsThird d.schema) (sym same) (third_there db found finds told))),
  );
}

-- what holds of an answer for each thing, of the answer holds for each
pub ok_each : {A E B : Type 0} (r : Result A E) (Q : B → Type 0) (P : B → A → Type 0)
    → ((b : B) → Q b → IfOk r (P b)) → IfOk r (λ a. (b : B) → Q b → P b a)
ok_each (Ok a) Q P told = told
ok_each (Err e) Q P told = tt

-- and what holds of it once something does
pub ok_once : {A E : Type 0} (r : Result A E) (Q : Type 0) (P : A → Type 0) → (Q → IfOk r P) → IfOk r (λ a. Q → P a)
ok_once (Ok a) Q P told = told
ok_once (Err e) Q P told = tt

-- what is right in one way is right in another that follows from it
module _ (IsRight IsOther : Trees → Played → Type 0) (db : Database) where
  play_by : (found : Audit) (played : Option Played) → IsPlayOf IsRight db found played
      → ((trees : Trees) (played : Played) → IsRight trees played → IsOther trees played)
      → IsPlayOf IsOther db found played
  play_by found None none follows = none
  play_by found (Some played) (finds, told) follows = (finds, follows db.trees played told)

  pub verdict_by : (v : Verdict) → IsVerdictBy IsRight db v
      → ((trees : Trees) (played : Played) → IsRight trees played → IsOther trees played) → IsVerdictBy IsOther db v
  verdict_by v is follows =
      record { audited = is.audited; played = play_by v.audit v.played is.played follows }

-- an audit that was asked for a journal, and has none
pub not_found : (found : Audit) (has : Bool) → IsTrue has ↔ FindsJournal found → has ≡ false → ¬ FindsJournal found
not_found found has told lacks finds = absurd (cc (told.1 finds))

-- ---- what is unchanged

-- nothing was asked
pub unchanged_any : (s : State) → IsUnchangedUnder IsAny s s
unchanged_any s = record {
  premise = λ clean. clean;
  was_open = λ clean live. live;
  same = λ clean live its. refl;
  shuts = λ faults few up. up;
  stop = λ clean its trees may. may;
}

-- what is unchanged where there is a journal is so under any schema, if there is one
pub any_of_third : (a b : State) → IsThird a.now.schema → IsUnchangedUnder IsThird a b → IsUnchangedUnder IsAny a b
any_of_third a b third u = record {
  premise = u.premise;
  was_open = u.was_open;
  same = λ clean live its. u.same clean live third;
  shuts = u.shuts;
  stop = λ clean its. u.stop clean (λ live. third);
}
