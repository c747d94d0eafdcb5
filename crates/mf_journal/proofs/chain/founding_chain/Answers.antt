use Rattle.std.proofs.Common.{[], ap, append_assoc, codes, ◌∙◌}
use Rattle.sha2.specs.Sha256.{sha256}
use Rattle.mf_journal.specs.Chain.{number_text}
use Rattle.mf_journal.proofs.chain.founding_chain.Goals as goal

pub returns : goal.returns
returns c =
    let begun = c.update.ensures [] c.new-hasher.ensures in
    let schema = c.put_number.ensures _ begun in
    c.finalize.ensures _ (c.put_number-2.ensures _ schema)
    ∙ ap sha256 (append_assoc (codes "microloan") (number_text c.args.schema) (number_text c.args.day))
