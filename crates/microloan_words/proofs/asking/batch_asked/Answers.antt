use Rattle.std.proofs.Common.{rules}
use Rattle.microloan_words.proofs.asking.batch_asked.Goals as goal

pub returns-in-Err : goal.returns-in-Err
returns-in-Err c = record {
  asked = tt;
  limits = tt;
  every = search rules;
  help = c.wrong_option.ensures.help;
  version = c.wrong_option.ensures.version;
}
