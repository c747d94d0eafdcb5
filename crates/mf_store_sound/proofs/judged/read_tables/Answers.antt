use Rattle.std.proofs.Common.{◌≡◌, [], take, drop, true≢false, sym, ◌∙◌, subst, rules}
use Rattle.sqlite.specs.Held.{state}
use Rattle.sqlite_catalog.specs.Listing.{IsSound}
use Rattle.mf_store_sql.specs.Trees.{AllHold}
use Rattle.mf_store_schema.specs.Writes.{conditions}
use Rattle.mf_store_schema.proofs.ReadLemmas.{at_none, at_some}
use Rattle.mf_store_sound.specs.Held.{AllTrue, CanHoldRows, DoRise, Rises, said_of_each}
use Rattle.mf_store_sound.specs.Schemas.{HasAccounts}
use Rattle.mf_store_sound.proofs.NestedLemmas.{common_of, accounts_of, same_lists, all_lists, first_nine, lists_bare}
use Rattle.mf_store_sound.proofs.NestedLemmas.{lists_whole}
use Rattle.mf_store_sound.proofs.NestedLemmas.{under_common, unchanged_common, common_held, common_rowids, common_hold}
use Rattle.mf_store_sound.proofs.NestedLemmas.{under_accounts, unchanged_all, accounts_held, accounts_rowids, both_hold}
use Rattle.mf_store_sound.proofs.judged.read_tables.Goals as goal

-- ---- the tables that every version has

pub returns-in_err-found-clause-kept : goal.returns-in_err-found-clause-kept
returns-in_err-found-clause-kept g c = unchanged_common c.args.version (state g.S.Store c.args.connection.now)
    (state g.S.Store c.read_group.new.connection) c.read_group.ensures.kept

pub returns-in_default-clause-kept : goal.returns-in_default-clause-kept
returns-in_default-clause-kept g c = unchanged_common c.args.version (state g.S.Store c.args.connection.now)
    (state g.S.Store c.read_group.new.connection) c.read_group.ensures.kept

pub returns-in_default-clause-none : goal.returns-in_default-clause-none
returns-in_default-clause-none g c clean ours lists held h =
    at_none c.in_ok-found.found _ c.in_default.is (c.in_ok-found.ensures.none clean (under_common _
    (c.args.version, ours))) (common_of lists)
    (first_nine (λ A columns row cmp items. CanHoldRows columns row items) lists held.all)
    (common_held c.args.version (state g.S.Store c.args.connection.now).now.trees lists h)

-- ---- no tables of accounts

pub returns-then-not-has_accounts-clause-kept : goal.returns-then-not-has_accounts-clause-kept
returns-then-not-has_accounts-clause-kept g c = unchanged_common c.args.version
    (state g.S.Store c.args.connection.now) (state g.S.Store c.read_group.new.connection) c.read_group.ensures.kept

pub returns-then-not-has_accounts-clause-only : goal.returns-then-not-has_accounts-clause-only
returns-then-not-has_accounts-clause-only g c clean ours lists h =
    let none : c.new.result.items ≡ [] = search rules in
    let empty : c.new-then-not-has_accounts.result.items ≡ [] = search rules in
    let lacks : ¬ HasAccounts c.args.version =
    λ has. true≢false (sym (c.has_accounts.ensures.1 has) ∙ c.if-not-has_accounts.true) in
    let common = at_some c.in_ok-found.found _ _ c.in-Some.is (c.in_ok-found.ensures.only clean (under_common _
    (c.args.version, ours))) (common_of lists)
    (common_held c.args.version (state g.S.Store c.args.connection.now).now.trees lists h) in
    c.all_of.ensures ∙ same_lists _ (common_of lists) _ [] _ [] common none empty
    ∙ sym (lists_bare c.args.version lacks lists)

pub returns-then-not-has_accounts-clause-keeps : goal.returns-then-not-has_accounts-clause-keeps
returns-then-not-has_accounts-clause-keeps g c clean ours rowids rise =
    let db = (state g.S.Store c.args.connection.now).now in
    let sound : IsSound db.schema db.trees = search rules in
    let lacks : ¬ HasAccounts c.args.version =
    λ has. true≢false (sym (c.has_accounts.ensures.1 has) ∙ c.if-not-has_accounts.true) in
    let nine = subst (λ l. AllTrue (take 9 (said_of_each (λ A columns row cmp items. Rises cmp items) l)))
    c.all_of.ensures (first_nine (λ A columns row cmp items. Rises cmp items) c.all_of.result rise.all) in
    let all = at_some c.in_ok-found.found _ _ c.in-Some.is (c.in_ok-found.ensures.keeps clean (under_common _
    (c.args.version, ours)) (common_rowids c.args.version db.trees rowids))
    nine in
    common_hold c.args.version lacks db c.all_of.result ours sound
    (subst (λ l. AllHold db.trees (take 9 (conditions l))) (sym c.all_of.ensures) all)

-- ---- tables of accounts

pub returns-in_err-more-clause-kept : goal.returns-in_err-more-clause-kept
returns-in_err-more-clause-kept g c = unchanged_all c.args.version
    (c.has_accounts.ensures.0 c.if-not-has_accounts.false)
    (state g.S.Store c.args.connection.now) (state g.S.Store c.read_group.new.connection)
    (state g.S.Store c.read_group-2.new.connection) c.read_group.ensures.kept c.read_group-2.ensures.kept

pub returns-in_default-more-clause-kept : goal.returns-in_default-more-clause-kept
returns-in_default-more-clause-kept g c = unchanged_all c.args.version
    (c.has_accounts.ensures.0 c.if-not-has_accounts.false)
    (state g.S.Store c.args.connection.now) (state g.S.Store c.read_group.new.connection)
    (state g.S.Store c.read_group-2.new.connection) c.read_group.ensures.kept c.read_group-2.ensures.kept

pub returns-clause-kept : goal.returns-clause-kept
returns-clause-kept g c = unchanged_all c.args.version (c.has_accounts.ensures.0 c.if-not-has_accounts.false)
    (state g.S.Store c.args.connection.now) (state g.S.Store c.read_group.new.connection)
    (state g.S.Store c.read_group-2.new.connection) c.read_group.ensures.kept c.read_group-2.ensures.kept

pub returns-in_default-more-clause-none : goal.returns-in_default-more-clause-none
returns-in_default-more-clause-none g c clean ours lists can h =
    let was = (state g.S.Store c.args.connection.now).now in
    let now = (state g.S.Store c.read_group.new.connection).now in
    let has = c.has_accounts.ensures.0 c.if-not-has_accounts.false in
    let early = c.read_group-2.ensures.kept.premise clean in
    let same = c.read_group.ensures.kept.same early (c.in_ok-found.ensures.open early) (under_common _
    (c.args.version, ours)) in
    at_none c.in_ok-more.more _ c.in_default-more.is (c.in_ok-more.ensures.none clean
    (under_accounts c.args.version has was now same ours)) (accounts_of lists) can.all.1.1.1.1.1.1.1.1.1
    (accounts_held c.args.version has was now same ours lists h)

pub returns-clause-only : goal.returns-clause-only
returns-clause-only g c clean ours lists h =
    let was = (state g.S.Store c.args.connection.now).now in
    let now = (state g.S.Store c.read_group.new.connection).now in
    let has = c.has_accounts.ensures.0 c.if-not-has_accounts.false in
    let early = c.read_group-2.ensures.kept.premise clean in
    let known = under_common _ (c.args.version, ours) in
    let same = c.read_group.ensures.kept.same early (c.in_ok-found.ensures.open early) known in
    let common = at_some c.in_ok-found.found _ _ c.in-Some.is (c.in_ok-found.ensures.only early known)
    (common_of lists) (common_held c.args.version was.trees lists h) in
    let more = at_some c.in_ok-more.more _ _ c.in-Some-more.is (c.in_ok-more.ensures.only clean
    (under_accounts c.args.version has was now same ours)) (accounts_of lists)
    (accounts_held c.args.version has was now same ours lists h) in
    c.all_of-2.ensures ∙ all_lists _ (common_of lists) _ (accounts_of lists) common more
    ∙ sym (lists_whole c.args.version has lists)

pub returns-clause-keeps : goal.returns-clause-keeps
returns-clause-keeps g c clean ours rowids rise =
    let was = (state g.S.Store c.args.connection.now).now in
    let now = (state g.S.Store c.read_group.new.connection).now in
    let has = c.has_accounts.ensures.0 c.if-not-has_accounts.false in
    let early = c.read_group-2.ensures.kept.premise clean in
    let known = under_common _ (c.args.version, ours) in
    let same = c.read_group.ensures.kept.same early (c.in_ok-found.ensures.open early) known in
    let sound : IsSound was.schema was.trees = search rules in
    let up = subst DoRise c.all_of-2.ensures rise in
    let nine = subst (λ l. AllTrue (take 9 (said_of_each (λ A columns row cmp items. Rises cmp items) l)))
    c.all_of-2.ensures (first_nine (λ A columns row cmp items. Rises cmp items) c.all_of-2.result rise.all) in
    let common = at_some c.in_ok-found.found _ _ c.in-Some.is (c.in_ok-found.ensures.keeps early known
    (common_rowids c.args.version was.trees rowids)) nine in
    let more = at_some c.in_ok-more.more _ _ c.in-Some-more.is (c.in_ok-more.ensures.keeps clean
    (under_accounts c.args.version has was now same ours)
    (accounts_rowids c.args.version has was now same ours rowids)) up.all.1.1.1.1.1.1.1.1.1 in
    both_hold c.args.version has was now same ours c.all_of-2.result sound
    (subst (λ l. AllHold was.trees (take 9 (conditions l))) (sym c.all_of-2.ensures) common)
    (subst (λ l. AllHold now.trees (drop 9 (conditions l))) (sym c.all_of-2.ensures) more)
