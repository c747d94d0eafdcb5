use Rattle.std.proofs.Common.{[], ap, ◌∙◌}
use Rattle.sha2.specs.Sha256.{sha256}
use Rattle.mf_journal.specs.Chain.{bytes_text, number_text}
use Rattle.mf_journal.proofs.ChainLemmas.{pieces}
use Rattle.mf_journal.proofs.chain.link.Goals as goal

pub returns : goal.returns
returns c =
    let r = c.args.row in
    let begun = c.put_chain.ensures [] c.new-hasher.ensures in
    let day = c.put_number.ensures _ begun in
    let office = c.put_number-2.ensures _ day in
    let staff = c.put_number-3.ensures _ office in
    let told = c.put_bytes.ensures _ staff in
    let method = c.put_bytes-2.ensures _ told in
    let path = c.put_bytes-3.ensures _ method in
    let body = c.put_bytes-4.ensures _ path in
    let named = c.put_number-4.ensures _ body in
    let whole = c.put_number-5.ensures _ named in
    c.finalize.ensures _ whole ∙ ap sha256 (pieces c.args.before.now (number_text r.day) (number_text r.office)
    (number_text r.staff) (bytes_text r.told.now) (bytes_text r.method.now) (bytes_text r.path.now)
    (bytes_text r.body.now) (number_text r.named_office) (number_text r.named_loan))
