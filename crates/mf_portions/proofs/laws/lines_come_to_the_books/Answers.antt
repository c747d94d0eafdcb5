use Rattle.mf_ledger.specs.declared.books.Title.TheVariants as title
use Rattle.mf_portions.specs.Ties.{earned, left, lost}
use Rattle.mf_portions.specs.declared.lines.Heading.TheVariants as heading
use Rattle.mf_portions.proofs.TieLemmas.{fees_there, interest_there, kept_there, lines_come_to, lost_there}
use Rattle.mf_portions.proofs.TieLemmas.{outstanding_there, penalties_there}
use Rattle.mf_portions.proofs.laws.lines_come_to_the_books.Goals as goal

pub returns-clause-outstanding : goal.returns-clause-outstanding
returns-clause-outstanding c = λ i meant sound.
    lines_come_to title.Principal heading.Principal left meant (outstanding_there meant) i sound

pub returns-clause-written_off : goal.returns-clause-written_off
returns-clause-written_off c = λ i meant sound.
    lines_come_to title.WrittenOff heading.Principal lost meant (lost_there meant) i sound

pub returns-clause-interest : goal.returns-clause-interest
returns-clause-interest c = λ i meant sound.
    lines_come_to title.Interest heading.Interest earned meant (interest_there meant) i sound

pub returns-clause-fees : goal.returns-clause-fees
returns-clause-fees c = λ i meant sound.
    lines_come_to title.Fees heading.Fees earned meant (fees_there meant) i sound

pub returns-clause-penalties : goal.returns-clause-penalties
returns-clause-penalties c = λ i meant sound.
    lines_come_to title.Penalties heading.Penalties earned meant (penalties_there meant) i sound

pub returns-clause-kept : goal.returns-clause-kept
returns-clause-kept c = λ i meant sound.
    lines_come_to title.DisbursementFees heading.Kept earned meant (kept_there meant) i sound
