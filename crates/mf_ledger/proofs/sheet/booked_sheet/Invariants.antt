use Rattle.std.proofs.Common.{◌≡◌, ◌++◌, drop}
use Rattle.mf_ledger.specs.Sheet as spec
use Rattle.mf_ledger.proofs.sheet.booked_sheet.Given as goal

abbrev pub invariant-loop-posting : goal.invariant-loop-posting
invariant-loop-posting l =
    l.text.items ++ spec.sheet_text (spec.rows_of l.names l.occasion (drop l.posting-index l.postings))
    ≡ spec.sheet_text (spec.rows_of l.names l.occasion l.postings)
