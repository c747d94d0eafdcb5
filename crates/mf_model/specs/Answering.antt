-- Runs in which no line is given up.
use Rattle.std.specs.Prelude.{false, List, map}
use Rattle.mf_model.specs.Calls.{Call}
use Rattle.mf_model.specs.Run.{Line}

-- the call's line, which is not given up
abbrev pub line_answered : Call → Line
line_answered call = record { call = call; given_up = false }

-- the calls, none of them given up
abbrev pub all_answered : List Call → List Line
all_answered calls = map line_answered calls
