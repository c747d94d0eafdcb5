use Rattle.std.proofs.Common.{◌≡◌, ℕ, ◌++◌, map, take}
use Rattle.mf_account.specs.declared.settled.SettledPart.{SettledPart}
use Rattle.mf_store_schema.specs.declared.writes.StoreWrite.TheVariants.{PutShare}
use Rattle.mf_store_values.specs.Flat.{share_in, placed_parts}
use Rattle.mf_store_commits.proofs.changes.put_parts.Given as goal

abbrev pub invariant-loop-part : goal.invariant-loop-part
invariant-loop-part l = record {
  place : l.place ≡ l.part-index;
  writes : l.writes.items ≡ l.initial.writes.items ++ map (λ (placed : ℕ × (ℕ × SettledPart)).
      PutShare (share_in l.office l.loan placed)) (placed_parts l.seq (take l.part-index l.parts));
}
