use Rattle.std.proofs.Common.{◌≡◌, ◌++◌, take}
use Rattle.std.specs.Prelude.{string_bytes, decimal}
use Rattle.std.specs.List.{flat_map}
use Rattle.mf_base.specs.Money.{money_text}
use Rattle.mf_base.specs.Texts.{right}
use Rattle.mf_arrears.proofs.report.push_columns.Given as goal

abbrev pub invariant-loop-sum : goal.invariant-loop-sum
invariant-loop-sum l = string_bytes l.out ≡ string_bytes l.fn.out ++ right 12 (decimal l.loans)
    ++ flat_map (λ s. right 24 (money_text s)) (take l.sum-index l.sums)
