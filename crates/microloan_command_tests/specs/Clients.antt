-- What passes over the connections of clients in memory.
use Rattle.std.specs.Prelude.{ℕ, Bool, ◌&&◌, List, map, length, take, nat_lt, slice_get, Option, Some, option_map}
use Rattle.microloan_commands.specs.Traffic.{Traffic}
use Rattle.microloan_command_tests.specs.declared.clients.Client.{Client}
use Rattle.microloan_command_tests.specs.declared.clients.Clients.{Clients}

-- what passed over the connection of a client
abbrev pub traffic_of : Client → Traffic
traffic_of client = record { bytes = client.sent.now; text = client.written.items }

-- the clients, in their order
abbrev pub clients_of : Clients → List Client
clients_of clients = clients.clients.items

-- what passed over the connections that were ended: all is known
abbrev pub ended_of : Clients → Option (List Traffic)
ended_of clients = Some (map traffic_of (take clients.next clients.clients.items))

-- what the next client sends
abbrev pub heard_of : Clients → Option (List ℕ)
heard_of clients = option_map (λ client. client.sent.now) (slice_get clients.clients.items clients.next)

-- the connection of the next client is open
abbrev pub has_open : Clients → Bool
has_open clients = clients.is_open && nat_lt clients.next (length clients.clients.items)
