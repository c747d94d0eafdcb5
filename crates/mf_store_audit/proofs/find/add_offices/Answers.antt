use Rattle.std.proofs.Common.{◌≡◌, ◌∙◌, true, [], ◌∷◌, ◌++◌, ap, subst}
use Rattle.std.proofs.lemmas.Result.{on_ok_weaker}
use Rattle.mf_store_schema.specs.Rows.{Lists}
use Rattle.mf_store_sound.specs.Held.{DoRise}
use Rattle.mf_store_audit.specs.Findings.{Adds, Breaks, told_of_head}
use Rattle.mf_store_audit.specs.Kinds.{client_flaws, office_flaws, staff_flaws}
use Rattle.mf_store_audit.specs.Offices.{BreaksClient, BreaksOffice, BreaksStaff}
use Rattle.mf_store_audit.specs.Places.{AreFoundIn}
use Rattle.mf_store_audit.specs.declared.finding.Finding.TheVariants as finding
use Rattle.mf_store_audit.proofs.AddLemmas.{Parts, adds_found, adds_then}
use Rattle.mf_store_audit.proofs.find.add_offices.Goals as goal

pub returns-clause-added : goal.returns-clause-added
returns-clause-added c = on_ok_weaker c.add_found-3.result (λ last v today.
    let lists = c.args.tables.now in
    let offices = c.as_slice-offices.result.now in
    let staff = c.as_slice.result.now in
    let clients = c.as_slice-2.result.now in
    let offices_are : offices ≡ lists.offices =
    c.as_slice-offices.ensures.value ∙ ap (λ (l : Lists). l.offices) c.tables.view_is in
    let staff_are : staff ≡ lists.staff = c.as_slice.ensures.value ∙ ap (λ (l : Lists). l.staff) c.tables.view_is in
    let clients_are : clients ≡ lists.clients =
    c.as_slice-2.ensures.value ∙ ap (λ (l : Lists). l.clients) c.tables.view_is in
    let given : Lists = record lists { offices = offices; staff = staff; clients = clients } in
    let same : given ≡ lists =
    λ t. record lists { offices = offices_are t; staff = staff_are t; clients = clients_are t } in
    let Is = Breaks v today given in
    let All : Type 0 = c.args.all ≡ true in
    let InOrder = DoRise given in
    let head = c.add_head.new.findings.items in
    let first = c.add_found.new.findings.items in
    let second = c.add_found-2.new.findings.items in
    let third = c.add_found-3.new.findings.items in
    let of_offices = adds_found Is All InOrder office_flaws (BreaksOffice offices) finding.Office offices (Unit {0})
    head first (c.in_ok-add_found.ensures {u = tt}).added (λ place flaw at. at) (λ up. tt) in
    let of_staff = adds_found Is All InOrder staff_flaws (BreaksStaff offices) finding.Staff staff (Unit {0}) first
    second (c.in_ok-add_found-2.ensures {u = tt}).added (λ place flaw at. at) (λ up. tt) in
    let of_clients = adds_found Is All InOrder client_flaws (BreaksClient offices) finding.Client clients (Unit {0})
    second third last (λ place flaw at. at) (λ up. tt) in
    let places : Parts = AreFoundIn office_flaws (BreaksOffice offices) finding.Office offices ∷ [] in
    let people : Parts = AreFoundIn staff_flaws (BreaksStaff offices) finding.Staff staff ∷ [] in
    let served : Parts = AreFoundIn client_flaws (BreaksClient offices) finding.Client clients ∷ [] in
    let rest = adds_then Is All InOrder places (people ++ served) head first third of_offices
    (adds_then Is All InOrder people served first second third of_staff of_clients) in
    let told_of : Parts = (λ found. found ≡ told_of_head lists.offices) ∷ [] in
    let others : Parts = AreFoundIn office_flaws (BreaksOffice lists.offices) finding.Office lists.offices
    ∷ AreFoundIn staff_flaws (BreaksStaff lists.offices) finding.Staff lists.staff
    ∷ AreFoundIn client_flaws (BreaksClient lists.offices) finding.Client lists.clients ∷ [] in
    adds_then (Breaks v today lists) All (DoRise lists) told_of others c.args.findings.now.items head third
    ((c.in_ok-add_head.ensures {u = tt}).added v today)
    (subst (λ (l : Lists). Adds v today l c.args.all (AreFoundIn office_flaws (BreaksOffice l.offices) finding.Office
    l.offices ∷ AreFoundIn staff_flaws (BreaksStaff l.offices) finding.Staff l.staff ∷ AreFoundIn client_flaws
    (BreaksClient l.offices) finding.Client l.clients ∷ []) head third) same rest))
    c.add_found-3.ensures.added
