use Rattle.std.proofs.Common.{arith}
use Rattle.csv.specs.Records.{fields_of}
use Rattle.mf_sheet_lines.proofs.FourFields.{is_there, columns_are}
use Rattle.mf_sheet_lines.proofs.line.four_fields.Goals as goal

pub returns-in_err-get : goal.returns-in_err-get
returns-in_err-get c =
    absurd (is_there (fields_of c.args.row.now) 0 c.in_err-get.ensures.value (omega (arith, c.len.ensures)))

pub returns-in_err-get-2 : goal.returns-in_err-get-2
returns-in_err-get-2 c =
    absurd (is_there (fields_of c.args.row.now) 1 c.in_err-get-2.ensures.value (omega (arith, c.len.ensures)))

pub returns-in_err-get-3 : goal.returns-in_err-get-3
returns-in_err-get-3 c =
    absurd (is_there (fields_of c.args.row.now) 2 c.in_err-get-3.ensures.value (omega (arith, c.len.ensures)))

pub returns-in_err-get-4 : goal.returns-in_err-get-4
returns-in_err-get-4 c =
    absurd (is_there (fields_of c.args.row.now) 3 c.in_err-get-4.ensures.value (omega (arith, c.len.ensures)))

pub returns : goal.returns
returns c =
    columns_are (fields_of c.args.row.now) _ _ _ _ (omega (arith, c.len.ensures)) c.in_ok-get.ensures.value
    c.in_ok-get-2.ensures.value c.in_ok-get-3.ensures.value c.in_ok-get-4.ensures.value
