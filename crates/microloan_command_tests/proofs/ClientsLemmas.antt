-- The connection of one client more is ended.
use Rattle.std.proofs.Common.{◌≡◌, ℕ, ◌+◌, ◌<◌, List, [], ◌∷◌, ◌++◌, length, map, Some, ap, ◌∙◌, refl}
use Rattle.std.specs.Prelude.{take, set, get_or, slice_get, option_map}
use Rattle.std.proofs.lemmas.List.{take_more_set, map-append}
use Rattle.std.proofs.lemmas.Option.{slice_get_read}
use Rattle.microloan_commands.specs.Traffic.{Traffic}
use Rattle.microloan_command_tests.specs.declared.clients.Client.{Client}
use Rattle.microloan_command_tests.specs.Clients.{traffic_of}

-- what the client sends is what the list has of it
sent_by : (clients : List Client) (next : ℕ) (client : Client) (bytes : List ℕ) → next < length clients
    → client ≡ get_or clients next client
    → option_map (λ (c : Client). c.sent.now) (slice_get clients next) ≡ Some bytes → client.sent.now ≡ bytes
sent_by clients next client bytes within there heard =
    let read : slice_get clients next ≡ Some client =
    slice_get_read clients (length clients) next client refl within there in cc

-- what passed over its connection comes behind what passed over those before
pub one_more : (clients : List Client) (next : ℕ) (before after : Client) (bytes text : List ℕ)
    → next < length clients → before ≡ get_or clients next before → after.sent.now ≡ before.sent.now
    → option_map (λ (c : Client). c.sent.now) (slice_get clients next) ≡ Some bytes → after.written.items ≡ text
    → map traffic_of (take (next + 1) (set clients next after))
    ≡ map traffic_of (take next clients) ++ record { bytes = bytes; text = text } ∷ []
one_more clients next before after bytes text within there same heard put =
    let sent : after.sent.now ≡ bytes = same ∙ sent_by clients next before bytes within there heard in
    let one : traffic_of after ≡ record { bytes = bytes; text = text } = cc in
    ap (map traffic_of) (take_more_set clients next after within)
    ∙ map-append traffic_of (take next clients) (after ∷ [])
    ∙ ap (λ (t : Traffic). map traffic_of (take next clients) ++ t ∷ []) one
