use Rattle.std.proofs.Common.{◌≡◌, ℕ, ◌<◌, length, slice_index}
use Rattle.mf_account.specs.Standing.{AreDistinct}
use Rattle.mf_account.proofs.replay.places_in.Given as goal

abbrev pub invariant-loop-k : goal.invariant-loop-k
invariant-loop-k l = record {
  size : length l.places.items ≡ l.entries;
  placed : AreDistinct l.order → (k : ℕ) → k < l.k → slice_index l.places.items (slice_index l.order k) ≡ k;
}
