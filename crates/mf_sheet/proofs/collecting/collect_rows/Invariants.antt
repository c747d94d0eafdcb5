use Rattle.std.proofs.Common.{◌≡◌, ◌++◌, length}
use Rattle.std.specs.Vec.Iter.{into_iter_items, into_iter_len}
use Rattle.mf_sheet.specs.Runs.{AnswersFields}
use Rattle.mf_sheet.proofs.Rows.{Going}
use Rattle.mf_sheet.proofs.collecting.collect_rows.Given as goal

abbrev pub invariant-loop-row : goal.invariant-loop-row
invariant-loop-row g l = record {
  all : l.fn.rows.items ≡ l.yielded ++ into_iter_items l.row-iterator;
  left : into_iter_len l.row-iterator ≡ length (into_iter_items l.row-iterator);
  going : Going (AnswersFields g.S.InstitutionStore l.told l.caller) l.initial.store l.store l.yielded
      (g.W.Sink.written l.initial.sink) (g.W.Sink.written l.sink) l.answered;
  sound : g.W.Sink.faults l.sink ≡ g.W.Sink.faults l.initial.sink;
}
