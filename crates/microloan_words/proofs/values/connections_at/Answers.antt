use Rattle.std.proofs.Common.{◌≡◌, Some, None}
use Rattle.microloan_words.proofs.values.connections_at.Goals as goal

pub returns-in_err-count-clause-every : goal.returns-in_err-count-clause-every
returns-in_err-count-clause-every c count h =
    let read : c.number_at.result ≡ Some h.number = c.number_at.ensures.every h.number h.given in
    let none : c.number_at.result ≡ None = c.in_err-count.was in
    cc
