use Rattle.std.proofs.Common.{◌≡◌, ◌∙◌, true, [], ◌∷◌, ◌++◌, ap, subst}
use Rattle.std.proofs.lemmas.Result.{on_ok_weaker}
use Rattle.mf_store_schema.specs.Rows.{Lists, by_entry, by_loan}
use Rattle.mf_store_sound.specs.Held.{DoRise, Rises}
use Rattle.mf_store_audit.specs.Entries.{BreaksEntry, BreaksReceipt}
use Rattle.mf_store_audit.specs.Findings.{Adds, Breaks, found_in_loans}
use Rattle.mf_store_audit.specs.Kinds.{entry_flaws, loan_flaws, receipt_flaws}
use Rattle.mf_store_audit.specs.Loans.{BreaksLoan}
use Rattle.mf_store_audit.specs.Places.{AreFoundIn}
use Rattle.mf_store_audit.specs.declared.finding.Finding.TheVariants as finding
use Rattle.mf_store_audit.proofs.AddLemmas.{Parts, adds_found, adds_then}
use Rattle.mf_store_audit.proofs.find.add_loans.Goals as goal

pub returns-clause-added : goal.returns-clause-added
returns-clause-added c = on_ok_weaker c.add_found-3.result (λ last v.
    let today = c.args.today in
    let lists = c.args.tables.now in
    let loans = c.as_slice-loans.result.now in
    let entries = c.as_slice-entries.result.now in
    let receipts = c.as_slice-receipts.result.now in
    let offices = c.as_slice.result.now in
    let clients = c.as_slice-2.result.now in
    let products = c.as_slice-3.result.now in
    let staff = c.as_slice-4.result.now in
    let view = c.tables.view_is in
    let loans_are : loans ≡ lists.loans = c.as_slice-loans.ensures.value ∙ ap (λ (l : Lists). l.loans) view in
    let entries_are : entries ≡ lists.entries =
    c.as_slice-entries.ensures.value ∙ ap (λ (l : Lists). l.entries) view in
    let receipts_are : receipts ≡ lists.receipts =
    c.as_slice-receipts.ensures.value ∙ ap (λ (l : Lists). l.receipts) view in
    let offices_are : offices ≡ lists.offices = c.as_slice.ensures.value ∙ ap (λ (l : Lists). l.offices) view in
    let clients_are : clients ≡ lists.clients = c.as_slice-2.ensures.value ∙ ap (λ (l : Lists). l.clients) view in
    let products_are : products ≡ lists.products = c.as_slice-3.ensures.value ∙ ap (λ (l : Lists). l.products) view in
    let staff_are : staff ≡ lists.staff = c.as_slice-4.ensures.value ∙ ap (λ (l : Lists). l.staff) view in
    let given : Lists = record lists {
      offices = offices;
      staff = staff;
      clients = clients;
      products = products;
      loans = loans;
      entries = entries;
      receipts = receipts;
    } in
    let same : given ≡ lists = λ t. record lists {
      offices = offices_are t;
      staff = staff_are t;
      clients = clients_are t;
      products = products_are t;
      loans = loans_are t;
      entries = entries_are t;
      receipts = receipts_are t;
    } in
    let Is = Breaks v today given in
    let All : Type 0 = c.args.all ≡ true in
    let InOrder = DoRise given in
    let start = c.args.findings.now.items in
    let first = c.add_found.new.findings.items in
    let second = c.add_found-2.new.findings.items in
    let third = c.add_found-3.new.findings.items in
    let of_loans = adds_found Is All InOrder loan_flaws (BreaksLoan today offices clients products) finding.Loan loans
    (Unit {0}) start first (c.in_ok-add_found.ensures {u = tt}).added (λ place flaw at. at) (λ up. tt) in
    let of_entries = adds_found Is All InOrder entry_flaws (BreaksEntry today loans staff receipts entries)
    finding.Entry entries (Rises by_loan loans × Rises by_entry entries) first second
    (c.in_ok-add_found-2.ensures {u = tt}).added (λ place flaw at. at)
    (λ up. (up.all.1.1.1.1.1.1.0, up.all.1.1.1.1.1.1.1.0)) in
    let of_receipts = adds_found Is All InOrder receipt_flaws (BreaksReceipt entries) finding.Receipt receipts
    (Unit {0}) second third last (λ place flaw at. at) (λ up. tt) in
    let lent : Parts = AreFoundIn loan_flaws (BreaksLoan today offices clients products) finding.Loan loans ∷ [] in
    let entered : Parts =
    AreFoundIn entry_flaws (BreaksEntry today loans staff receipts entries) finding.Entry entries ∷ [] in
    let received : Parts = AreFoundIn receipt_flaws (BreaksReceipt entries) finding.Receipt receipts ∷ [] in
    subst (λ (l : Lists). Adds v today l c.args.all (found_in_loans today l) start third) same
    (adds_then Is All InOrder lent (entered ++ received) start first third of_loans
    (adds_then Is All InOrder entered received first second third of_entries of_receipts)))
    c.add_found-3.ensures.added
