use Rattle.mf_base.proofs.CivilDateLemmas.{date_of-since}
use Rattle.mf_base.proofs.day.Day.date.Goals as goal

pub returns-clause-since : goal.returns-clause-since
returns-clause-since c = rw c.from_plain.ensures (date_of-since c.from_days_since_min.result c.self.inside.number
    c.from_days_since_min.ensures).0

pub returns-clause-value : goal.returns-clause-value
returns-clause-value c = rw (c.from_plain.ensures, ← c.self.view_is)
    (date_of-since c.from_days_since_min.result c.self.inside.number c.from_days_since_min.ensures).1
