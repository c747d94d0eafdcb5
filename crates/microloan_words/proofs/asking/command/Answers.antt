use Rattle.std.proofs.Common.{inl, sym, subst}
use Rattle.microloan_words.specs.Asked.{IsAskedIn}
use Rattle.microloan_words.proofs.asking.command.Goals as goal

pub returns-clause-every : goal.returns-clause-every
returns-clause-every c asked takes is =
    inl (c.command_asked.ensures.every asked (subst (λ found. IsAskedIn found asked) (sym c.in-Ok.ensures.ok) is))
