use Rattle.microloan_audit.proofs.ReadingLemmas.{of_verdict}
use Rattle.microloan_audit.proofs.laws.sound_is_read_off_the_first_word.Goals as goal

pub returns : goal.returns
returns c verdict = of_verdict verdict.audit verdict.played
