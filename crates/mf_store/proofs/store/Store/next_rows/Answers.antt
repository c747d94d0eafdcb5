use Rattle.std.proofs.Common.{◌≡◌, ◌+◌, length, Some, ap, sym, ◌∙◌}
use Rattle.mf_journal.specs.declared.following.Head.{Head}
use Rattle.mf_store_noted.specs.Kept.{begins_of}
use Rattle.mf_store.proofs.SoughtLemmas.{next_rows_are}
use Rattle.mf_store.proofs.store.Store.next_rows.Goals as goal

pub returns-clause-rows : goal.returns-clause-rows
returns-clause-rows g c clean i begins done rest s begun are at =
    let indexed = c.in_ok-index_journal.ensures in
    let rows = c.in_ok-rows.ensures in
    let before = rows.asks.kept.premise clean in
    let mid = indexed.kept.same before i s in
    let both : Some c.in-Some.begins ≡ Some begins = sym (sym c.journal_begins.ensures ∙ c.in-Some.is) ∙ begun in
    let one : c.in-Some.begins ≡ begins = cc in
    next_rows_are c.args.sought.now begins done rest c.args.number _ _ _ at
    (c.in_ok-stretch.ensures.next i done rest mid are (ap (λ (h : Head). h.number + length done) one ∙ at))
    c.in_ok-stretch.ensures.some
    (rows.rows clean i begins _ mid (ap begins_of indexed.kept.journal ∙ begun) are)
