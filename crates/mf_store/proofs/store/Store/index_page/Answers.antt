use Rattle.std.proofs.Common.{◌≡◌, ◌+◌, length, map, Ok, Err, ap, sym, ◌∙◌, rules}
use Rattle.mf_journal.specs.Chain.{line_of_row}
use Rattle.mf_store.proofs.SoughtLemmas.{indexed_asks}
use Rattle.mf_store.proofs.store.Store.index_page.Goals as goal

pub returns-in_err-learn_lines : goal.returns-in_err-learn_lines
returns-in_err-learn_lines g c =
    let rows = c.in_ok-rows.ensures in
    let given : c.from_residual-in_err-learn_lines.result ≡ Err c.in_err-learn_lines.field-0.0 = search rules in
    rw given (indexed_asks g.S.Store c.args.self.now _ _ c.in-Some.journal c.in_ok-number.number c.in_ok-rows.rows.items
    c.deref-2.result.now (sym c.journal.ensures ∙ c.in-Some.is) rows.known
    (c.in_ok-number.ensures.number ∙ ap (λ es. c.in-Some.journal.begins.number + length es) c.index.ensures)
    rows.rows (λ h ls are. ap (map line_of_row) c.deref-2.ensures.value
    ∙ c.in_ok-lines.ensures.told h ls (c.deref.ensures.value ∙ are)) (Err c.in_err-learn_lines.field-0.0)
    rows.asks.kept rows.asks.stays_open c.in_err-learn_lines.ensures.same c.in_err-learn_lines.ensures.tables
    c.in_err-learn_lines.ensures.journal c.in_err-learn_lines.ensures.gives_up)

pub returns : goal.returns
returns g c =
    let rows = c.in_ok-rows.ensures in
    indexed_asks g.S.Store c.args.self.now _ _ c.in-Some.journal c.in_ok-number.number c.in_ok-rows.rows.items
    c.deref-2.result.now (sym c.journal.ensures ∙ c.in-Some.is) rows.known
    (c.in_ok-number.ensures.number ∙ ap (λ es. c.in-Some.journal.begins.number + length es) c.index.ensures)
    rows.rows (λ h ls are. ap (map line_of_row) c.deref-2.ensures.value
    ∙ c.in_ok-lines.ensures.told h ls (c.deref.ensures.value ∙ are)) (Ok _)
    rows.asks.kept rows.asks.stays_open c.in_ok-learn_lines.ensures.same c.in_ok-learn_lines.ensures.tables
    c.in_ok-learn_lines.ensures.journal tt
