use Rattle.std.proofs.Common.{◌≡◌, ◌+◌, ◌++◌, map, take, length, vec_len}
use Rattle.mf_account.specs.AtOnce.{paid_part}
use Rattle.mf_account.specs.Account.{parts_numbered}
use Rattle.mf_account.proofs.effect.add_paid.Given as goal

abbrev pub invariant-loop-share : goal.invariant-loop-share
invariant-loop-share l = record {
  parts : l.parts.items ≡ l.fn.parts.items ++ parts_numbered l.seq (1 + length l.fn.parts.items)
      (map paid_part (take l.share-index l.shares));
  size : vec_len l.parts ≡ vec_len l.fn.parts + l.share-index;
}
