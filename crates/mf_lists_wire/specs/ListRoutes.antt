-- Which list a path asks for, and by which method.
use Rattle.std.specs.Prelude.{ℕ, Bool, false, codes, cond, List, is_some, Option, Some, None, option_and_then}
use Rattle.std.specs.Str.{bytes_eq, is_utf8}
use Rattle.mf_base.specs.Texts.{parts_round}
use Rattle.mf_lists_wire.specs.declared.routes.ListEndpoint.{ListEndpoint}
use Rattle.mf_lists_wire.specs.declared.routes.ListEndpoint.TheVariants.{Clients, LoansOf, DueBy, AtStatus, StaffOf}
use Rattle.mf_lists_wire.specs.declared.routes.ListEndpoint.TheVariants.{Preview, ChangesOf, Changes, TakingsOn, Find}
use Rattle.mf_lists_wire.specs.Paths.{behind_lists, last_part, two_parts, three_parts, four_parts}

-- what is asked for by a word that parameters follow
abbrev pub endpoint_of_word : List ℕ → Option ListEndpoint
endpoint_of_word word =
    cond (bytes_eq word (codes "clients")) (Some Clients)
    (cond (bytes_eq word (codes "loans")) (Some LoansOf)
    (cond (bytes_eq word (codes "due")) (Some DueBy)
    (cond (bytes_eq word (codes "stages")) (Some AtStatus)
    (cond (bytes_eq word (codes "staff")) (Some StaffOf)
    (cond (bytes_eq word (codes "schedule")) (Some Preview)
    (cond (bytes_eq word (codes "history")) (Some ChangesOf)
    (cond (bytes_eq word (codes "journal")) (Some Changes)
    (cond (bytes_eq word (codes "takings")) (Some TakingsOn) None))))))))

-- a text has as many parts as what is asked for has parameters
abbrev pub has_parts : ListEndpoint → List ℕ → Bool
has_parts Clients params = is_some (two_parts params)
has_parts LoansOf params = is_some (last_part params)
has_parts DueBy params = is_some (three_parts params)
has_parts AtStatus params = is_some (three_parts params)
has_parts StaffOf params = is_some (last_part params)
has_parts Preview params = is_some (four_parts params)
has_parts ChangesOf params = is_some (last_part params)
has_parts Changes params = is_some (two_parts params)
has_parts TakingsOn params = is_some (two_parts params)
has_parts Find params = false

-- what is asked for by a word, and its parameters
abbrev pub route_of_word : List ℕ × List ℕ → Option (ListEndpoint × List ℕ)
route_of_word p =
    option_and_then (λ endpoint. cond (has_parts endpoint p.1) (Some (endpoint, p.1)) None) (endpoint_of_word p.0)

-- what is asked for by what stands behind `/lists/`, and its parameters
abbrev pub route_behind : List ℕ → Option (ListEndpoint × List ℕ)
route_behind behind =
    cond (bytes_eq behind (codes "find")) (Some (Find, behind)) (option_and_then route_of_word (parts_round 47 behind))

-- what a path asks for, and its parameters
abbrev pub list_route : List ℕ → Option (ListEndpoint × List ℕ)
list_route path = cond (is_utf8 path) (option_and_then route_behind (behind_lists path)) None

-- a route has a method
abbrev pub has_method : ListEndpoint → List ℕ → Bool
has_method Find method = bytes_eq method (codes "POST")
has_method _ method = bytes_eq method (codes "GET")
