use Rattle.mf_sheet.proofs.Repeats.{told_ever_after}
use Rattle.mf_sheet.proofs.laws.accepted_once.Goals as goal

pub returns : goal.returns
returns c = λ told also caller r seq i lines. told_ever_after caller r seq told also i lines
