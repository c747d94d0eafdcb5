use Rattle.std.proofs.Common.{◌∷◌}
use Rattle.std.specs.List.{flat_map}
use Rattle.mf_ledger.specs.Sheet.{columns, transaction_rows}
use Rattle.mf_ledger.proofs.SheetLemmas.{read-back, transaction-rows, columns-row}
use Rattle.mf_ledger.proofs.laws.sheets_are_read_back.Goals as goal

pub returns : goal.returns
returns c = λ names transactions.
    read-back (columns ∷ flat_map (transaction_rows names) transactions)
    (columns-row, transaction-rows names transactions)
