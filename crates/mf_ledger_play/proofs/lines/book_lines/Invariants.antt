use Rattle.mf_ledger_play.proofs.LineLemmas.{HaveBooked}
use Rattle.mf_ledger_play.proofs.lines.book_lines.Given as goal

abbrev pub invariant-loop-place : goal.invariant-loop-place
invariant-loop-place g l =
    HaveBooked g.S.InstitutionStore l.asked l.before l.rows l.place l.initial.text.items l.text.items l.initial.store
    l.store
