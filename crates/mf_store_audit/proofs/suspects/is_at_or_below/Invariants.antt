use Rattle.std.proofs.Common.{◌≡◌, ◌-◌}
use Rattle.mf_office.specs.Tree.{is_within}
use Rattle.mf_store_audit.specs.Suspects.{parent_in}
use Rattle.mf_store_audit.proofs.suspects.is_at_or_below.Given as goal

-- as many steps were gone as the loop was gone through
abbrev pub invariant-loop : goal.invariant-loop
invariant-loop l =
    is_within 5 (parent_in l.offices) l.office l.above ≡ is_within (5 - l.counter) (parent_in l.offices) l.at l.above
