use Rattle.std.proofs.Common.{◌≡◌, take}
use Rattle.mf_store_played.proofs.rows.first_difference.Given as goal

abbrev pub invariant-loop-place : goal.invariant-loop-place
invariant-loop-place g l = take l.place l.rows ≡ take l.place l.others
