use Rattle.std.proofs.Common.{take, map}
use Rattle.httparse.specs.Spans.{header_bytes}
use Rattle.mf_wire_messages.specs.Messages.{values_of}
use Rattle.mf_wire_messages.specs.Framing.{FoundIn}
use Rattle.mf_wire_messages.proofs.fields.find_field.Given as goal

abbrev pub invariant-loop-field : goal.invariant-loop-field
invariant-loop-field l =
    FoundIn l.head l.found (values_of l.name (map (header_bytes l.head) (take l.field-index l.fields)))
