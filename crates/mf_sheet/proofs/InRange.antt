-- The call of a sheet's line has its members in range.
use Rattle.std.proofs.Common.{ℕ, List}
use Rattle.mf_office.specs.declared.caller.Caller.{Caller}
use Rattle.mf_model.specs.Sound.{IsInRange}
use Rattle.mf_sheet_lines.specs.declared.line.SheetLine.{SheetLine}
use Rattle.mf_sheet_lines.specs.declared.line.SheetLine.TheVariants.{Repay, Bad}
use Rattle.mf_sheet_lines.specs.Lines.{sheet_line_of, IsLineInRange}
use Rattle.mf_sheet_lines.proofs.Ranges.{line_in_range}
use Rattle.mf_sheet.specs.Lines.{request_of_line, call_by}

asked_in_range : (line : SheetLine) → IsLineInRange line → IsInRange (request_of_line line)
asked_in_range Bad h = tt
asked_in_range (Repay r) h = (h.loan, ((h.least, h.most), h.day, h.receipt))

pub row_in_range : (told : List ℕ) (caller : Caller) (fields : List (List ℕ))
    → IsInRange (call_by told caller fields).request
row_in_range told caller fields = asked_in_range (sheet_line_of fields) (line_in_range fields)
