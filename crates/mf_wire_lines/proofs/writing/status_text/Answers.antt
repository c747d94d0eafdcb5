use Rattle.std.proofs.Common.{◌++◌, ◌∷◌, [], sym, ap}
use Rattle.mf_wire_lines.proofs.Status.{three_digits}
use Rattle.mf_wire_lines.proofs.writing.status_text.Goals as goal

pub returns : goal.returns
returns c = sym (ap (λ l. l ++ (32 ∷ [])) (three_digits c.args.status c.requires.least c.requires.greatest))
