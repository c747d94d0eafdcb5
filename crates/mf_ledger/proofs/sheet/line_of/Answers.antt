use Rattle.std.proofs.Common.{◌≡◌, ◌≢◌, ap, ◌∙◌}
use Rattle.csv.specs.Writing.{with_terminator}
use Rattle.csv.specs.declared.parser.Terminator.TheVariants as terminator
use Rattle.csv.specs.declared.writer.QuoteStyle.TheVariants as style
use Rattle.mf_ledger.specs.Sheet.{sheet_writer}
use Rattle.mf_ledger.proofs.sheet.line_of.Goals as goal

pub returns-in-Ok : goal.returns-in-Ok
returns-in-Ok c =
    let from = c.from_writer-writer.ensures in
    let set : c.from_writer-writer.result.cfg ≡ sheet_writer =
    from.cfg ∙ c.terminator.ensures ∙ ap (λ b. with_terminator b terminator.CRLF) c.new.ensures in
    let plain : c.from_writer-writer.result.cfg.style ≢ style.NonNumeric = rw set (λ e. cc e) in
    let h = c.in_ok-write_fields.ensures.bytes from.fields from.wrote plain in
    let text = rw (set, from.wtr, c.new-2.ensures.items, from.empty) at h in
    c.in-Ok.ensures.ok ∙ text
