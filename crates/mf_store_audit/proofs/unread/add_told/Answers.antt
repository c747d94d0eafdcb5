use Rattle.std.proofs.Common.{◌∙◌, ap, sym, true≢false, Vec, Global}
use Rattle.mf_store_audit.specs.declared.unread.Unread.{Unread}
use Rattle.mf_store_audit.proofs.ToldLemmas.{added, first_told, none_added, one_more}
use Rattle.mf_store_audit.proofs.unread.add_told.Goals.{in-Some+in_ok-push+else-not-all, in_default}
use Rattle.mf_store_audit.proofs.unread.add_told.Goals as goal

pub returns-then-not-all-clause-added : goal.returns-then-not-all-clause-added
returns-then-not-all-clause-added g c =
    let items = c.loop-place.unread.items in
    let more = c.push.new.self.items in
    first_told g.T.NamedTable.name c.args.rows.now c.args.all c.args.unread.now.items items c.loop-place.place
    c.loop-place.invariant c.index-rows-place.result c.in_ok-told.field-0 more c.loop-place-test.true
    c.index-rows-place.is (c.in_ok-told.ensures {u = tt}).told
    (added items more c.in-Some.told c.in_ok-told.field-0 c.in-Some.is (c.in_ok-push.ensures {u = tt}).items)
    c.in-Some.told c.in-Some.is c.if-not-all.true

pub loop-place-preserved : goal.loop-place-preserved
loop-place-preserved g c =
    let items = c.loop-place.unread.items in
    let after = c.match-branch-2.unread.items in
    let first = c.in_ok-told.field-0 in
    let more = one_more g.T.NamedTable.name c.args.rows.now c.args.all c.args.unread.now.items items c.loop-place.place
    c.loop-place.invariant c.index-rows-place.result first after c.loop-place-test.true c.index-rows-place.is
    (c.in_ok-told.ensures {u = tt}).told in
    elim c.match-branch-2.branch [
      | in-Some+in_ok-push+else-not-all w ↦
          more (added items after w.in-Some.told first w.in-Some.is (ap (λ (v : Vec Unread Global). v.items) w.unread-is
          ∙ (w.in_ok-push.ensures {u = tt}).items)) (λ one. absurd (true≢false (sym w.if-not-all.false ∙ one)))
      | in_default w ↦
          more (none_added items after first w.in_default.is (ap (λ (v : Vec Unread Global). v.items) w.unread-is))
          (λ one. w.in_default.is)
    ]
