use Rattle.std.proofs.Common.{◌≡◌, drop}
use Rattle.mf_ledger.specs.Names as spec
use Rattle.mf_ledger.proofs.names.Names.given_for.Given as goal

abbrev pub invariant-loop-given : goal.invariant-loop-given
invariant-loop-given l = spec.given_for (drop l.given-index l.given-items) l.name ≡ spec.given_for l.self l.name
