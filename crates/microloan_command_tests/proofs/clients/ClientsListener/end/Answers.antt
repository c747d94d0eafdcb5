use Rattle.std.proofs.Common.{◌≡◌, ◌<◌, length, Some, ap, refl, rules}
use Rattle.microloan_command_tests.proofs.ClientsLemmas.{one_more}
use Rattle.microloan_command_tests.proofs.clients.ClientsListener.end.Goals as goal

pub returns-in-Some-clause-adds : goal.returns-in-Some-clause-adds
returns-in-Some-clause-adds c = λ bytes text heard put.
    let clients = c.args.self.now.clients.items in
    let next = c.args.self.now.next in
    let within : next < length clients = search rules in
    let written : c.args.writer.items ≡ text = cc in
    ap Some (one_more clients next c.in-Some.client.now _ bytes text within c.in-Some.ensures.value refl heard written)
