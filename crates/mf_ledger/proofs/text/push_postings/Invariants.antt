use Rattle.std.proofs.Common.{◌≡◌, ◌++◌, string_bytes, drop}
use Rattle.mf_ledger.specs.Text.{postings_text}
use Rattle.mf_ledger.proofs.text.push_postings.Given as goal

abbrev pub invariant-loop-posting : goal.invariant-loop-posting
invariant-loop-posting l =
    string_bytes l.text ++ postings_text l.program l.names (drop l.posting-index l.postings)
    ≡ string_bytes l.initial.text ++ postings_text l.program l.names l.postings
