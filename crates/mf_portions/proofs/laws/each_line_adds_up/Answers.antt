use Rattle.mf_portions.proofs.WholeLemmas.{lines_add_up}
use Rattle.mf_portions.proofs.laws.each_line_adds_up.Goals as goal

pub returns : goal.returns
returns c i sound = lines_add_up i sound
