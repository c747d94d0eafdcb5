use Rattle.std.proofs.Common.{◌≡◌, ◌++◌, take}
use Rattle.std.specs.Prelude.{string_bytes, decimal}
use Rattle.std.specs.List.{flat_map}
use Rattle.mf_base.specs.Texts.{right}
use Rattle.microloan_audit.proofs.sums.push_counts.Given as goal

abbrev pub invariant-loop-count : goal.invariant-loop-count
invariant-loop-count l = string_bytes l.text
    ≡ string_bytes l.fn.text ++ flat_map (λ count. right 12 (decimal count)) (take l.count-index l.counts)
