use Rattle.std.proofs.Common.{refl}
use Rattle.csv.specs.Writing.{escaped, fields_text, is_blank}
use Rattle.mf_ledger.proofs.sheet.sheet_columns.Goals as goal

pub returns : goal.returns
unfolding escaped fields_text is_blank
returns c = refl
