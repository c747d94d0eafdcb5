use Rattle.mf_sheet_lines.proofs.Amounts.{cents_written_is}
use Rattle.mf_sheet_lines.proofs.fields.cents.Goals as goal

pub returns-clause-value : goal.returns-clause-value
returns-clause-value c =
    cents_written_is c.args.text.now c.parse_money.result c.parse_money.ensures.some c.parse_money.ensures.every
