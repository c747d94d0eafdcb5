-- Where the journal of a new institution begins.
use Rattle.std.specs.Prelude.{ℕ, List, ◌++◌, codes}
use Rattle.sha2.specs.Sha256.{sha256}
use Rattle.mf_journal.specs.Chain.{number_text}
use Rattle.mf_journal.specs.declared.following.Head.{Head}

-- the text of a founding: what is founded, the number of the schema, and the first business day
abbrev pub founding_text : ℕ → ℕ → List ℕ
founding_text schema day = codes "microloan" ++ (number_text schema ++ number_text day)

-- before the first line, on the first business day, at the digest of the founding
abbrev pub founding : ℕ → ℕ → Head
founding schema day = record { number = 0; day = day; chain = sha256 (founding_text schema day) }
