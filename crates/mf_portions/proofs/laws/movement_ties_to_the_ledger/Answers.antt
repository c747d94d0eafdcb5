use Rattle.mf_ledger.specs.declared.books.Title.TheVariants as title
use Rattle.mf_portions.specs.Ties.{earned, left, lost}
use Rattle.mf_portions.specs.declared.lines.Heading.TheVariants as heading
use Rattle.mf_portions.proofs.TieLemmas.{fees_there, interest_there, kept_there, lost_there, movement_is}
use Rattle.mf_portions.proofs.TieLemmas.{outstanding_there, penalties_there}
use Rattle.mf_portions.proofs.laws.movement_ties_to_the_ledger.Goals as goal

pub returns-clause-outstanding : goal.returns-clause-outstanding
returns-clause-outstanding c = λ i lines n day last meant sound in_range low.
    movement_is title.Principal heading.Principal left meant (outstanding_there meant) i lines n day last sound in_range
    low

pub returns-clause-written_off : goal.returns-clause-written_off
returns-clause-written_off c = λ i lines n day last meant sound in_range low.
    movement_is title.WrittenOff heading.Principal lost meant (lost_there meant) i lines n day last sound in_range
    low

pub returns-clause-interest : goal.returns-clause-interest
returns-clause-interest c = λ i lines n day last meant sound in_range low.
    movement_is title.Interest heading.Interest earned meant (interest_there meant) i lines n day last sound in_range
    low

pub returns-clause-fees : goal.returns-clause-fees
returns-clause-fees c = λ i lines n day last meant sound in_range low.
    movement_is title.Fees heading.Fees earned meant (fees_there meant) i lines n day last sound in_range
    low

pub returns-clause-penalties : goal.returns-clause-penalties
returns-clause-penalties c = λ i lines n day last meant sound in_range low.
    movement_is title.Penalties heading.Penalties earned meant (penalties_there meant) i lines n day last sound in_range
    low

pub returns-clause-kept : goal.returns-clause-kept
returns-clause-kept c = λ i lines n day last meant sound in_range low.
    movement_is title.DisbursementFees heading.Kept earned meant (kept_there meant) i lines n day last sound in_range
    low
