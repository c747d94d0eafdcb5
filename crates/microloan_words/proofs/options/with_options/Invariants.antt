use Rattle.std.proofs.Common.{◌≡◌, false, take}
use Rattle.std.specs.Prelude.{fold}
use Rattle.clap.specs.Words.{app_of}
use Rattle.clap.specs.declared.Command.TheViews.{out-Command as fields_of}
use Rattle.microloan_words.specs.Options.{with_declared}
use Rattle.microloan_words.proofs.options.with_options.Given as goal

abbrev pub invariant-loop-option : goal.invariant-loop-option
invariant-loop-option l = record {
  so_far : app_of l.command ≡ fold with_declared (app_of l.initial.command) (take l.option-index l.options);
  local : (fields_of l.command).has_globals ≡ false;
}
