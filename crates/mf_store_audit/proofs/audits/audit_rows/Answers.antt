use Rattle.std.proofs.Common.{◌≡◌, ◌∙◌, List, [], true, false, Vec, Global, refl, sym, ap, subst, rules, true≢false}
use Rattle.mf_store_schema.specs.Versions.{number_of}
use Rattle.mf_store_sound.specs.Sound.{AreOfSoundAt}
use Rattle.mf_store_sound.proofs.WholeLemmas.{bare_of}
use Rattle.mf_store_audit.specs.Suspects.{AreSuspects}
use Rattle.mf_store_audit.specs.declared.finding.Finding.{Finding}
use Rattle.mf_store_audit.proofs.AuditLemmas.{staff_rises}
use Rattle.mf_store_audit.proofs.audits.audit_rows.Goals as goal
use Rattle.mf_store_audit.proofs.audits.audit_rows.Goals.{then-not-all, else-not-all}

pub returns-clause-exact : goal.returns-clause-exact
returns-clause-exact c =
    let empty : c.in_ok-found.found.items ≡ [] = search rules in
    let one : AreOfSoundAt c.args.version c.args.tables = c.in_ok-found.ensures.none.0 empty in
    let bare = bare_of c.args.version c.args.tables one.institution one.rows_are in
    let are = c.in_ok-suspects.ensures.every (staff_rises c.args.version c.args.tables one) in (
      refl,
      record {
        institution = one.institution;
        sound = one.sound;
        has = one.rows_are;
        sums_are = sym (c.in_ok-sums.ensures.sums (number_of c.args.version) one.institution one.sound bare);
      },
      refl,
      elim c.if-not-all.branch [
        | then-not-all w ↦ (
          false,
          c.in_ok-suspects.suspects.items,
          are,
          ap (λ (v : Vec Finding Global). v.items) w.suspects-is ∙ w.truncate.ensures.items,
        )
        | else-not-all w ↦ (
          true,
          c.in_ok-suspects.suspects.items,
          are,
          ap (λ (v : Vec Finding Global). v.items) w.suspects-is,
        )
      ],
    )

pub returns-clause-every : goal.returns-clause-every
returns-clause-every c whole db =
    let empty : c.in_ok-found.found.items ≡ [] = search rules in
    let one : AreOfSoundAt c.args.version c.args.tables = c.in_ok-found.ensures.none.0 empty in
    let are = c.in_ok-suspects.ensures.every (staff_rises c.args.version c.args.tables one) in
    elim c.if-not-all.branch [
      | then-not-all w ↦ absurd (true≢false (sym whole ∙ w.if-not-all.true))
      | else-not-all w ↦ subst (λ (l : List Finding). AreSuspects c.args.tables l)
          (sym (ap (λ (v : Vec Finding Global). v.items) w.suspects-is)) are
    ]

pub returns-then-not-are_none-clause-every : goal.returns-then-not-are_none-clause-every
returns-then-not-are_none-clause-every c whole db =
    (c.in_ok-found.ensures {u = tt}).every whole (λ sound. true≢false (sym (c.are_none.ensures.1 (c.deref.ensures.value
    ∙ (c.in_ok-found.ensures {u = tt}).none.1 sound)) ∙ c.if-not-are_none.true))
