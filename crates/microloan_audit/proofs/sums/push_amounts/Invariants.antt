use Rattle.std.proofs.Common.{◌≡◌, ◌++◌, take}
use Rattle.std.specs.Prelude.{string_bytes}
use Rattle.std.specs.List.{flat_map}
use Rattle.mf_base.specs.Money.{money_text}
use Rattle.mf_base.specs.Texts.{right}
use Rattle.microloan_audit.proofs.sums.push_amounts.Given as goal

abbrev pub invariant-loop-amount : goal.invariant-loop-amount
invariant-loop-amount l = string_bytes l.text
    ≡ string_bytes l.fn.text ++ flat_map (λ amount. right 24 (money_text amount)) (take l.amount-index l.amounts)
