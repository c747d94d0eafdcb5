use Rattle.std.proofs.Common.{◌≡◌, ◌==◌, ℕ, true, List, sym, ap, subst, length, arith, take, ◌∙◌}
use Rattle.std.specs.List.{enumerate_from, flat_map}
use Rattle.std.proofs.lemmas.List.{nil_from_length}
use Rattle.mf_folding.specs.Folding.{folded}
use Rattle.mf_lists.specs.Lists.{counted_client}
use Rattle.mf_model.specs.Store.{rows_at}
use Rattle.mf_store_lists.specs.Counted.{uncounted}
use Rattle.mf_store_lists.specs.Finding.{is_sought}
use Rattle.mf_store_lists.specs.Told.{told_if}
use Rattle.mf_store_lists.proofs.CountLemmas.{as_many, slice_back}
use Rattle.mf_store_lists.proofs.FindingLemmas.{Names, found_counted, found_uncounted, none_mapped, page_found}
use Rattle.mf_store_lists.proofs.NumberedLemmas.{client_rows}
use Rattle.mf_store_lists.proofs.finding.find_clients.Goals as goal

empty : (n : ℕ) → true ≡ (n == 0) → n ≡ 0
empty n is = grind arith

pub returns-then-is_empty-clause-value : goal.returns-then-is_empty-clause-value
returns-then-is_empty-clause-value g c clean i s =
    let office = c.args.office in
    let part = c.args.part.now in
    let named = c.number_in-client.result in
    let clients = enumerate_from 1 (rows_at office i).clients in
    let read = c.in_ok-rows.ensures in
    let second = read.asks.kept.premise clean in
    let first = c.in_ok-borrower.ensures.asks.kept.same second i s in
    let names : Names office part named =
    subst (λ t. Names office t named) c.as_str.ensures c.number_in-client.ensures in
    let key = c.in_ok-key.ensures.folded ∙ ap folded c.as_str-2.ensures in
    let borrower = c.in_ok-borrower.ensures.value second i s in
    let chosen = page_found office part named i in
    let lines = c.in_ok-lines.ensures.clients office clients (c.deref.ensures.value ∙ read.rows clean i first
    ∙ client_rows office c.get.result i c.get.ensures.value s.sound)
    ∙ (λ t. take 50 (flat_map (λ (x : ℕ × List ℕ).
    told_if (is_sought (key t) named (borrower t) x) (uncounted x)) clients))
    ∙ found_uncounted office part named i in
    let told = c.in_ok-lines.lines in
    let none = nil_from_length told.items (sym (told.ok).0 ∙ empty _ c.if-is_empty.ensures) in
    c.new.ensures ∙ none
    ∙ none_mapped uncounted (counted_client i.catalogue (rows_at office i)) chosen (sym lines ∙ none)
    ∙ found_counted office part named i s.sound names

pub returns-clause-value : goal.returns-clause-value
returns-clause-value g c clean i s =
    let office = c.args.office in
    let part = c.args.part.now in
    let named = c.number_in-client.result in
    let rows = rows_at office i in
    let clients = enumerate_from 1 rows.clients in
    let third = c.in_ok-count_loans.ensures.asks.kept.premise clean in
    let read = c.in_ok-rows.ensures in
    let second = read.asks.kept.premise third in
    let first = c.in_ok-borrower.ensures.asks.kept.same second i s in
    let names : Names office part named =
    subst (λ t. Names office t named) c.as_str.ensures c.number_in-client.ensures in
    let key = c.in_ok-key.ensures.folded ∙ ap folded c.as_str-2.ensures in
    let borrower = c.in_ok-borrower.ensures.value second i s in
    let chosen = page_found office part named i in
    let lines = c.deref_mut.ensures.value
    ∙ c.in_ok-lines.ensures.clients office clients (c.deref.ensures.value ∙ read.rows third i first
    ∙ client_rows office c.get.result i c.get.ensures.value s.sound)
    ∙ (λ t. take 50 (flat_map (λ (x : ℕ × List ℕ).
    told_if (is_sought (key t) named (borrower t) x) (uncounted x)) clients))
    ∙ found_uncounted office part named i in
    let counted = c.in_ok-count_loans.ensures.counted clean i (read.asks.kept.same third i first) chosen lines in
    let long = c.deref_mut.ensures.len in
    let many = ap length counted ∙ as_many (counted_client i.catalogue rows) uncounted chosen ∙ sym (ap length lines) in
    c.new-2.ensures ∙ slice_back _ _ _ (omega (arith, long, many)) ∙ counted
    ∙ found_counted office part named i s.sound names
