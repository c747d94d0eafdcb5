use Rattle.std.proofs.Common.{arith}
use Rattle.std.proofs.lemmas.List.Sums.{fold_more}
use Rattle.microloan_words.proofs.options.with_options.Goals as goal

pub loop-option-preserved : goal.loop-option-preserved
loop-option-preserved c = record {
  so_far = search (arith, fold_more);
  local = c.in_ok-command.ensures.local;
}
