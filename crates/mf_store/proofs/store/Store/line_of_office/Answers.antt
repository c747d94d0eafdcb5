use Rattle.std.proofs.lemmas.Result.{IfOk-weaker}
use Rattle.mf_model.specs.Store.{rows_at}
use Rattle.mf_store.proofs.KeptLemmas.{known_stays}
use Rattle.mf_store.proofs.OfficeLoansLemmas.{loans_from, above_first, whole_first, within_from, office_rows, line_told}
use Rattle.mf_store.proofs.store.Store.line_of_office.Goals as goal

pub returns-clause-kept : goal.returns-clause-kept
returns-clause-kept g c =
    rw (← c.self.view_is) (known_stays g.S.Store _ _ _ _ c.line_of_office.ensures.kept)

pub returns-clause-sums : goal.returns-clause-sums
returns-clause-sums g c =
    rw (← c.self.view_is) (λ clean i s.
    let x = c.args.office in
    c.line_of_office.ensures.sums clean _ s.serves (loans_from i.catalogue 1 (rows_at x i).loans)
    (above_first x i) (whole_first x i s.sound) (within_from x i s.sound) (office_rows x i s.sound))

pub returns-clause-line : goal.returns-clause-line
returns-clause-line g c =
    rw (← c.self.view_is) (λ clean i s day.
    let x = c.args.office in
    IfOk-weaker c.line_of_office.result _ _ (λ line. line_told x c.args.today i line s.sound day)
    (c.line_of_office.ensures.line clean _ s.serves (loans_from i.catalogue 1 (rows_at x i).loans)
    (above_first x i) (whole_first x i s.sound) (office_rows x i s.sound)))
