use Rattle.std.proofs.Common.{[], refl}
use Rattle.mf_journal_runs.proofs.Growing.{still_plays}
use Rattle.mf_journal_runs.proofs.Works.{works_grow}
use Rattle.mf_journal_runs.proofs.laws.every_institution_is_the_play_of_its_journal.Goals as goal

pub returns-clause-grew : goal.returns-clause-grew
returns-clause-grew g c = λ i works old new done clean stands.
    works_grow g.S.InstitutionStore works old new i done clean stands

pub returns-clause-still : goal.returns-clause-still
returns-clause-still g c = λ first i works old new done clean stands was.
    let grown = works_grow g.S.InstitutionStore works old new i done clean stands in
    (grown.0, grown.3, still_plays first i grown.0 grown.1 was grown.2)

pub returns-clause-begun : goal.returns-clause-begun
returns-clause-begun g c = λ i none. record { lines = []; journal = none; plays = refl; read = tt }

pub returns-clause-founding : goal.returns-clause-founding
returns-clause-founding g c = λ day. record { lines = []; journal = refl; plays = refl; read = tt }
