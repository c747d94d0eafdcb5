use Rattle.std.proofs.Common.{List, [], ◌∷◌, ◌++◌, map, length, sym, ap, ◌∙◌, append_assoc, arith}
use Rattle.std.proofs.lemmas.List.{append-nil}
use Rattle.std.specs.Vec.Iter.{into_iter_items}
use Rattle.mf_store_schema.specs.declared.instalments.InstalmentRow.{InstalmentRow}
use Rattle.mf_store_schema.specs.declared.writes.StoreWrite.TheVariants.{PutInstalment, PutMeta, PutShare}
use Rattle.mf_store_schema.specs.declared.upgrade_writes.UpgradeWrite.{UpgradeWrite}
use Rattle.mf_store_schema.specs.declared.upgrade_writes.UpgradeWrite.TheVariants.{MakeAccountTables, Put}
use Rattle.mf_store_schema.proofs.PutTurnsLemmas.{one_done, all_done, one_put}
use Rattle.mf_store_schema.proofs.upgrading.all_writes.Goals as goal

abbrev first : List UpgradeWrite
first = MakeAccountTables ∷ []

abbrev after_upgrade : List InstalmentRow → List UpgradeWrite
after_upgrade instalments = first ++ map (λ x. Put (PutInstalment x)) instalments

pub loop-instalment-init : goal.loop-instalment-init
loop-instalment-init c =
    let gives = c.into_iter-instalment-iterator.ensures.into_iter_gives in
    record {
      all = sym gives.0;
      left = omega (arith, gives.1, ap length gives.0, c.args.instalments.ok);
      put = c.in_ok-push.ensures.items ∙ ap (λ l. l ++ first) c.new-writes.ensures.items;
    }

pub loop-instalment-preserved : goal.loop-instalment-preserved
loop-instalment-preserved c =
    let before = c.loop-instalment.invariant in
    let steps = c.in-Some.ensures.steps in
    record {
      all = one_done _ _ _ _ c.in-Some.instalment before.all steps.0;
      left = omega (arith, ap length steps.0, steps.1, before.left);
      put = one_put (λ x. Put (PutInstalment x)) first c.loop-instalment.writes.items _ c.loop-instalment.yielded
          c.in-Some.instalment c.in_ok-push-2.ensures.items before.put;
    }

pub loop-share-init : goal.loop-share-init
loop-share-init c =
    let before = c.loop-instalment.invariant in
    let steps = c.in-None.ensures.steps in
    let gives = c.into_iter-share-iterator.ensures.into_iter_gives in
    record {
      all = sym gives.0;
      left = omega (arith, gives.1, ap length gives.0, c.args.shares.ok);
      put =
          before.put ∙ ap after_upgrade (all_done c.args.instalments.items c.loop-instalment.yielded
          (into_iter_items c.loop-instalment.instalment-iterator) before.all (omega (arith, steps.0, before.left)))
          ∙ sym (append-nil (after_upgrade c.args.instalments.items));
    }

pub loop-share-preserved : goal.loop-share-preserved
loop-share-preserved c =
    let before = c.loop-share.invariant in
    let steps = c.in-Some-share.ensures.steps in
    record {
      all = one_done _ _ _ _ c.in-Some-share.share before.all steps.0;
      left = omega (arith, ap length steps.0, steps.1, before.left);
      put = one_put (λ x. Put (PutShare x)) (after_upgrade c.args.instalments.items) c.loop-share.writes.items _
          c.loop-share.yielded c.in-Some-share.share c.in_ok-push-3.ensures.items before.put;
    }

pub returns-clause-writes : goal.returns-clause-writes
returns-clause-writes c =
    let before = c.loop-share.invariant in
    let steps = c.in-None-share.ensures.steps in
    let is = map (λ x. Put (PutInstalment x)) c.args.instalments.items in
    let ss = map (λ x. Put (PutShare x)) c.args.shares.items in
    let last = Put (PutMeta c.args.meta) ∷ [] in
    let put = before.put ∙ ap (λ l. after_upgrade c.args.instalments.items ++ map (λ x. Put (PutShare x)) l)
    (all_done c.args.shares.items c.loop-share.yielded (into_iter_items c.loop-share.share-iterator) before.all
    (omega (arith, steps.0, before.left))) in
    c.in_ok-push-4.ensures.items ∙ ap (λ l. l ++ last) put ∙ ap (λ l. MakeAccountTables ∷ l) (append_assoc is ss last)
