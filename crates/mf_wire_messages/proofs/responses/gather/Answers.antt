use Rattle.std.proofs.Common.{take, ◌++◌, append-nil}
use Rattle.std.proofs.KnownBytes.{Appends-trans}
use Rattle.mf_wire_lines.proofs.Writes.{part_second}
use Rattle.mf_wire_messages.proofs.responses.gather.Goals as goal

pub returns-in_default-put-clause-err : goal.returns-in_default-put-clause-err
returns-in_default-put-clause-err g c =
    part_second _ _ _ (take c.args.held c.args.room.now) c.args.text.now c.in-Ok.ensures.ok c.in_default-put.ensures.err

pub returns-clause-ok : goal.returns-clause-ok
returns-clause-ok g c = record {
  out = take c.args.held c.args.room.now ++ c.args.text.now;
  written = Appends-trans _ _ _ (take c.args.held c.args.room.now) c.args.text.now c.in-Ok.ensures.ok
      c.in-Ok-put.ensures.ok;
  together = append-nil _;
}
