-- Whether a connection of a socket is open.
use Rattle.std.specs.Prelude.{Bool}
use Rattle.microloan_commands.specs.declared.listening.SocketListener.{SocketListener}

-- one is open
abbrev pub has_open : {P C : Type 0} → SocketListener P C → Bool
has_open listener = listener.open
