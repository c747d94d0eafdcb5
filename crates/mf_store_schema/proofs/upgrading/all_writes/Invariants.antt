use Rattle.std.proofs.Common.{◌≡◌, [], ◌∷◌, ◌++◌, map, length}
use Rattle.std.specs.Vec.Iter.{into_iter_items, into_iter_len}
use Rattle.mf_store_schema.specs.declared.writes.StoreWrite.TheVariants.{PutInstalment, PutShare}
use Rattle.mf_store_schema.specs.declared.upgrade_writes.UpgradeWrite.TheVariants.{MakeAccountTables, Put}
use Rattle.mf_store_schema.proofs.upgrading.all_writes.Given as goal

abbrev pub invariant-loop-instalment : goal.invariant-loop-instalment
invariant-loop-instalment l = record {
  all : l.fn.instalments.items ≡ l.yielded ++ into_iter_items l.instalment-iterator;
  left : into_iter_len l.instalment-iterator ≡ length (into_iter_items l.instalment-iterator);
  put : l.writes.items ≡ (MakeAccountTables ∷ []) ++ map (λ x. Put (PutInstalment x)) l.yielded;
}

abbrev pub invariant-loop-share : goal.invariant-loop-share
invariant-loop-share l = record {
  all : l.fn.shares.items ≡ l.yielded ++ into_iter_items l.share-iterator;
  left : into_iter_len l.share-iterator ≡ length (into_iter_items l.share-iterator);
  put : l.writes.items ≡ ((MakeAccountTables ∷ []) ++ map (λ x. Put (PutInstalment x)) l.fn.instalments.items)
      ++ map (λ x. Put (PutShare x)) l.yielded;
}
