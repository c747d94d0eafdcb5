use Rattle.std.proofs.Common.{◌↔◌, ◌∙◌, IsTrue, false, refl, sym, ap, true≢false}
use Rattle.std.proofs.lemmas.Result.{IfOk-weaker}
use Rattle.mf_store_schema.specs.Rows.{Lists}
use Rattle.mf_store_sound.specs.Sound.{AreUnder}
use Rattle.mf_store_sound.proofs.SoundLemmas.{day_of, charges_part, charges_are, products_part, products_are}
use Rattle.mf_store_sound.proofs.SoundLemmas.{offices_part, offices_parts, staff_are, callers_part, under_is}
use Rattle.mf_store_sound.proofs.TableLemmas.{of_parts}
use Rattle.mf_store_values.proofs.AnswerLemmas.{refuses, no_answer}
use Rattle.mf_store_sound.proofs.sound.are_under.Goals as goal

pub returns-then-not-are_numbered-clause-exact : goal.returns-then-not-are_numbered-clause-exact
returns-then-not-are_numbered-clause-exact c =
    let charges = c.as_slice-charges.ensures.value ∙ ap (λ (l : Lists). l.charges) c.tables.view_is in
    no_answer (λ h. refuses c.are_numbered.result c.if-not-are_numbered.true (c.are_numbered.ensures tt)
    (rw charges (charges_part _ _ h)))

pub returns-then-not-are_numbered-2-clause-exact : goal.returns-then-not-are_numbered-2-clause-exact
returns-then-not-are_numbered-2-clause-exact c =
    let charges = c.as_slice-charges.ensures.value ∙ ap (λ (l : Lists). l.charges) c.tables.view_is in
    let products = c.as_slice-products.ensures.value ∙ ap (λ (l : Lists). l.products) c.tables.view_is in
    no_answer (λ h. refuses c.are_numbered-2.result c.if-not-are_numbered-2.true (c.are_numbered-2.ensures
    (h.institution.catalogue, charges_are _ _ h ∙ sym charges)) (rw products (products_part _ _ h)))

pub returns-then-not-branch-clause-exact : goal.returns-then-not-branch-clause-exact
returns-then-not-branch-clause-exact c =
    let offices = c.as_slice-offices.ensures.value ∙ ap (λ (l : Lists). l.offices) c.tables.view_is in
    no_answer (λ h. refuses c.in_ok-are_offices.field-0 c.if-not-branch.true (c.in_ok-are_offices.ensures
    {u = tt}).offices (rw offices (offices_part _ _ h)))

pub returns-then-not-are_office_parts-clause-exact : goal.returns-then-not-are_office_parts-clause-exact
returns-then-not-are_office_parts-clause-exact c =
    of_parts (λ t. IsTrue false ↔ AreUnder c.args.schema t) c.args.tables.now _ c.tables.view_is _ _ _ _ _ _ _ _ _ _ _
    c.as_slice-meta.ensures.value c.as_slice-offices.ensures.value c.as_slice-staff.ensures.value
    c.as_slice-clients.ensures.value c.as_slice-charges.ensures.value c.as_slice-products.ensures.value
    c.as_slice-loans.ensures.value c.as_slice-entries.ensures.value c.as_slice-receipts.ensures.value refl refl
    (no_answer (λ h.
    refuses c.are_office_parts.result c.if-not-are_office_parts.true
    (c.are_office_parts.ensures h.institution.catalogue (day_of _ _ c.in-Some.today h (c.in-Some.ensures
    {u = tt}).every) (products_are _ _ h) (offices_part _ _ h).tree.ascending) (offices_parts _ _ h)))

pub returns-then-not-are_by_staff-clause-exact : goal.returns-then-not-are_by_staff-clause-exact
returns-then-not-are_by_staff-clause-exact c =
    let staff = c.as_slice-staff.ensures.value ∙ ap (λ (l : Lists). l.staff) c.tables.view_is in
    let entries = c.as_slice-entries.ensures.value ∙ ap (λ (l : Lists). l.entries) c.tables.view_is in
    no_answer (λ h. absurd (true≢false (sym (rw entries (callers_part _ _ h)) ∙ sym (c.are_by_staff.ensures
    h.institution.offices h.sound.tree.ascending (staff_are _ _ h ∙ sym staff)) ∙ c.if-not-are_by_staff.true)))

pub returns-clause-exact : goal.returns-clause-exact
returns-clause-exact c =
    IfOk-weaker c.are_receipts.result _ _ (λ answer told.
    of_parts (λ t. IsTrue answer ↔ AreUnder c.args.schema t) c.args.tables.now _ c.tables.view_is _ _ _ _ _ _ _ _ _ _ _
    c.as_slice-meta.ensures.value c.as_slice-offices.ensures.value c.as_slice-staff.ensures.value
    c.as_slice-clients.ensures.value c.as_slice-charges.ensures.value c.as_slice-products.ensures.value
    c.as_slice-loans.ensures.value c.as_slice-entries.ensures.value c.as_slice-receipts.ensures.value refl refl
    (
    under_is c.args.schema _
    c.in-Some.today (IsTrue answer) (c.in-Some.ensures {u = tt}).some.0 (c.in-Some.ensures {u = tt}).some.1
    ((c.are_numbered.ensures tt).0 c.if-not-are_numbered.false)
    (λ of. (c.are_numbered-2.ensures of).0 c.if-not-are_numbered-2.false)
    ((c.in_ok-are_offices.ensures {u = tt}).offices.0 c.if-not-branch.false)
    (λ k d e up. (c.are_office_parts.ensures k d e up).0 c.if-not-are_office_parts.false)
    (λ fs up e. sym (c.are_by_staff.ensures fs up e) ∙ c.if-not-are_by_staff.false) told
    )) c.are_receipts.ensures.exact
