use Rattle.std.proofs.Common.{sym, ◌∙◌, ap, ◌++◌, ◌∷◌, [], take}
use Rattle.mf_wire_lines.proofs.Writes.{push_fits, push_full}
use Rattle.mf_wire_lines.proofs.line_buffer.LineBuffer.push.Goals as goal

pub returns-then-self-lt-ROOM : goal.returns-then-self-lt-ROOM
returns-then-self-lt-ROOM c = push_fits c.self.inside.bytes.items c.self.inside.len c.args.byte c.self.invariant.0
    c.if-self-lt-ROOM.true ∙ ap (λ l. take 65538 (l ++ c.args.byte ∷ [])) c.self.view_is

pub returns-else-self-lt-ROOM : goal.returns-else-self-lt-ROOM
returns-else-self-lt-ROOM c = sym c.self.view_is ∙ push_full c.self.inside.bytes.items c.self.inside.len c.args.byte
    c.self.invariant.0 c.self.invariant.1 c.if-self-lt-ROOM.false ∙ ap (λ l. take 65538 (l ++ c.args.byte ∷ []))
    c.self.view_is
