use Rattle.std.proofs.Common.{◌≡◌, map, take, length}
use Rattle.mf_store_lists.specs.Counted.{with_count}
use Rattle.mf_store_lists.proofs.CountLemmas.{AreKeptFrom}
use Rattle.mf_store_lists.proofs.clients.count_among.Given as goal

abbrev pub invariant-loop-line : goal.invariant-loop-line
invariant-loop-line l = record {
  long : length l.lines ≡ length l.initial.lines;
  counted : take l.line-index l.lines ≡ map (with_count l.client l.count) (take l.line-index l.initial.lines);
  kept : AreKeptFrom l.line-index l.initial.lines l.lines;
}
