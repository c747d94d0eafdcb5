use Rattle.mf_journal_runs.proofs.Unread.{same_texts, same_rows, same_run, same_response, same_results}
use Rattle.mf_journal_runs.proofs.laws.no_byte_depends_on_the_journal.Goals as goal

pub returns-clause-same_run : goal.returns-clause-same_run
returns-clause-same_run g c = λ i journal told lines texts others old new before after one other same. (
  same_texts g.S.InstitutionStore g.T.InstitutionStore i journal told lines texts others old new before after one
      other same,
  same_rows g.S.InstitutionStore g.T.InstitutionStore i journal told lines texts others old new before after one other
      same,
)

pub returns-clause-with_memory : goal.returns-clause-with_memory
returns-clause-with_memory g c = λ i journal told lines texts others old new before after one other m n.
    let same = same_run g.S.InstitutionStore g.T.InstitutionStore i journal told lines texts others old new before
    after one
    other m n in (
      same_texts g.S.InstitutionStore g.T.InstitutionStore i journal told lines texts others old new before after one
          other
          same,
      same_rows g.S.InstitutionStore g.T.InstitutionStore i journal told lines texts others old new before after one
          other
          same,
    )

pub returns-clause-message : goal.returns-clause-message
returns-clause-message g c = λ i journal told bytes text other old new before after one two clean stands clean_too
    stands_too
    m n. same_response g.S.InstitutionStore g.T.InstitutionStore i journal told bytes text other old new before after
    one two
    clean stands clean_too stands_too m n

pub returns-clause-sheet : goal.returns-clause-sheet
returns-clause-sheet g c = λ told caller i journal rows results others old new before after one other m n.
    same_results g.S.InstitutionStore g.T.InstitutionStore told caller i journal rows results others old new before
    after one
    other m n
