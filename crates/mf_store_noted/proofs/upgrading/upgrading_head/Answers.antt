use Rattle.std.proofs.Common.{[], ap, ap₂, append_assoc, codes, None, ◌∙◌}
use Rattle.sha2.specs.Sha256.{sha256}
use Rattle.mf_journal.specs.Chain.{number_text}
use Rattle.mf_journal.specs.declared.following.Head.{Head}
use Rattle.mf_store_values.specs.Flat.{tables_of}
use Rattle.mf_store_noted.specs.Kept.{tables_kept}
use Rattle.mf_store_noted.specs.Upgrading.{tables_text, upgrading_text}
use Rattle.mf_store_noted.proofs.upgrading.upgrading_head.Goals as goal

pub returns-clause-head : goal.returns-clause-head
returns-clause-head g c clean i kept =
    let begun = c.update.ensures [] c.new-hasher.ensures in
    let day = c.put_number.ensures _ begun in
    let whole = c.in_ok-put_all.ensures.takes_in.takes_in clean (tables_kept None i) kept.serves _ day in
    let number = c.from-number.ensures ∙ c.number.ensures in
    let chain = c.finalize.ensures _ whole ∙ ap sha256 (append_assoc (codes "microloan upgraded")
    (number_text c.from-number.result) (tables_text (tables_of i)))
    ∙ ap (λ d. sha256 (upgrading_text d (tables_of i))) number in
    ap₂ (λ d digest. (let head : Head = record { number = 0; day = d; chain = digest } in head)) number chain

pub returns-clause-fits : goal.returns-clause-fits
returns-clause-fits g c clean i kept =
    let fit = c.in_ok-put_all.ensures.takes_in.fits clean (tables_kept None i) kept.serves in
    record {
      meta = fit.meta;
      offices = fit.offices;
      staff = fit.staff;
      clients = fit.clients;
      charges = fit.charges;
      products = fit.products;
      loans = fit.loans;
      entries = fit.entries;
      receipts = fit.receipts;
      instalments = fit.instalments;
      shares = fit.shares;
    }
