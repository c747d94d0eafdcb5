use Rattle.std.proofs.Common.{◌+◌, ◌++◌, List, drop, map, subst, sym, rules}
use Rattle.std.proofs.lemmas.List.{drop_all}
use Rattle.mf_store_schema.specs.declared.offices.OfficeRow.{OfficeRow}
use Rattle.mf_store_values.proofs.MadeLemmas.{at_row}
use Rattle.mf_store_sound.proofs.OfficePartLemmas.{of_client, of_loan, of_entry}
use Rattle.mf_store_audit.specs.Sums.{sums_of_office}
use Rattle.mf_store_audit.proofs.WalkLemmas.{AreLeft, office_more, no_office_left}
use Rattle.mf_store_audit.proofs.sums_by_office.sums_of_offices.Goals as goal

pub loop-office-init : goal.loop-office-init
loop-office-init c k sound e f fs rows =
    record { fs = fs; rows = rows; whole_is = sym (λ t. c.new-found.ensures.items t ++ map (sums_of_office k) fs) }

pub loop-office-preserved : goal.loop-office-preserved
loop-office-preserved c k sound e f fs rows =
    let l = c.loop-office in
    let whole = map (sums_of_office k) fs in
    let so_far = subst (λ (os : List OfficeRow). AreLeft k whole os l.clients_left.now l.loans_left.now
    l.entries_left.now l.found.items) (at_row c.args.offices.now l.office-index c.office-item.result
    c.loop-office-test.true c.office-item.is) (l.invariant k sound e f fs rows) in
    office_more k whole (drop (l.office-index + 1) c.args.offices.now) l.clients_left.now _ _ l.loans_left.now _ _
    l.entries_left.now _ _ l.found.items _ _ c.office-item.result
    (c.split_by_owner.ensures.own of_client (λ row n called. search rules))
    (c.split_by_owner.ensures.later of_client (λ row n called. search rules))
    (c.split_by_owner-in-loop-office.ensures.own of_loan (λ row n called. search rules))
    (c.split_by_owner-in-loop-office.ensures.later of_loan (λ row n called. search rules))
    (c.split_by_owner-in-loop-office-2.ensures.own of_entry (λ row n called. search rules))
    (c.split_by_owner-in-loop-office-2.ensures.later of_entry (λ row n called. search rules))
    (c.in_ok-sums.ensures.sums k sound e f) c.in_ok-push.ensures.items so_far

pub returns-clause-sums : goal.returns-clause-sums
returns-clause-sums c k sound e f fs rows =
    let l = c.loop-office in
    let whole = map (sums_of_office k) fs in
    no_office_left k whole l.clients_left.now l.loans_left.now l.entries_left.now l.found.items
    (subst (λ (os : List OfficeRow). AreLeft k whole os l.clients_left.now l.loans_left.now l.entries_left.now
    l.found.items) (drop_all l.office-index c.args.offices.now c.loop-office-test.false)
    (l.invariant k sound e f fs rows))
