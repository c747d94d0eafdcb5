use Rattle.std.proofs.Common.{◌∙◌}
use Rattle.std.specs.Io.KnownBytes.{Appends}
use Rattle.mf_sheet_lines.specs.Results.{heading}
use Rattle.mf_sheet.proofs.Ran.{sheet_ends}
use Rattle.mf_sheet.proofs.collecting.collect.Goals as goal

pub returns : goal.returns
returns g c =
    let first : Appends (g.W.Sink.written c.args.sink.now) (g.W.Sink.written c.put.new.sink) heading =
    rw c.heading.ensures at c.in-Ok-put.ensures.ok in
    record {
      ends = sheet_ends _ _ _ _ _ _ _ _ _ _ _ _ c.collect_rows.result (c.in-Ok-begin_rows.ensures.ok
          ∙ c.into_rows.ensures ∙ c.in-Ok.ensures.rows)
          c.in-Ok-put.ensures.sound
          (c.collect_rows.ensures.ends (g.W.Sink.written c.args.sink.now) first);
    }
