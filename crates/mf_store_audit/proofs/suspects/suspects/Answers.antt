use Rattle.std.proofs.Common.{◌≡◌, ◌∙◌, List, [], ◌++◌, refl, sym, ap, subst}
use Rattle.mf_store_schema.specs.Rows.{Lists, by_staff}
use Rattle.mf_store_schema.specs.declared.staff.StaffRow.{StaffRow}
use Rattle.mf_store_sound.specs.Held.{Rises}
use Rattle.mf_store_audit.specs.Suspects.{AreSuspects}
use Rattle.mf_store_audit.specs.declared.finding.Finding.{Finding}
use Rattle.mf_store_audit.proofs.suspects.suspects.Goals as goal

pub returns-clause-every : goal.returns-clause-every
returns-clause-every c up =
    let added = (c.in_ok-add_found.ensures {u = tt}).added in
    let lists = c.args.tables.now in
    let view = c.tables.view_is in
    let offices_are : c.as_slice.result.now ≡ lists.offices =
    c.as_slice.ensures.value ∙ ap (λ (l : Lists). l.offices) view in
    let staff_are : c.as_slice-2.result.now ≡ lists.staff =
    c.as_slice-2.ensures.value ∙ ap (λ (l : Lists). l.staff) view in
    let entries_are : c.as_slice-3.result.now ≡ lists.entries =
    c.as_slice-3.ensures.value ∙ ap (λ (l : Lists). l.entries) view in
    let given : Lists = record lists {
      offices = c.as_slice.result.now;
      staff = c.as_slice-2.result.now;
      entries = c.as_slice-3.result.now;
    } in
    let same : given ≡ lists =
    λ t. record lists { offices = offices_are t; staff = staff_are t; entries = entries_are t } in
    let found : AreSuspects given added.0 =
    added.3 refl (subst (λ (l : List StaffRow). Rises by_staff l) (sym staff_are) up) in
    let all : c.add_found.new.findings.items ≡ added.0 =
    added.1 ∙ ap (λ (l : List Finding). l ++ added.0) c.new-found.ensures.items in
    subst (λ (l : List Finding). AreSuspects lists l) (sym all)
    (subst (λ (l : Lists). AreSuspects l added.0) same found)
