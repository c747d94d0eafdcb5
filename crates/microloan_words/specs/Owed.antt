-- What is owed to words that `clap` refused, by the kind of its error.
use Rattle.std.specs.Prelude.{Option, Some, None}
use Rattle.clap.specs.declared.error.kind.ErrorKind.{ErrorKind}
use Rattle.clap.specs.declared.error.kind.ErrorKind.TheVariants.{InvalidValue, UnknownArgument, InvalidSubcommand}
use Rattle.clap.specs.declared.error.kind.ErrorKind.TheVariants.{NoEquals, ValueValidation, TooManyValues, TooFewValues}
use Rattle.clap.specs.declared.error.kind.ErrorKind.TheVariants.{WrongNumberOfValues, ArgumentConflict}
use Rattle.clap.specs.declared.error.kind.ErrorKind.TheVariants.{MissingRequiredArgument, MissingSubcommand}
use Rattle.clap.specs.declared.error.kind.ErrorKind.TheVariants.{DisplayHelp, DisplayHelpOnMissingArgumentOrSubcommand}
use Rattle.clap.specs.declared.error.kind.ErrorKind.TheVariants.{DisplayVersion, Io, Format, OutOfMemory}
use Rattle.microloan_words.specs.Asked.{IsHelp, IsVersion, IsBad}
use Rattle.microloan_words.specs.declared.asked.Words.{Words}
use Rattle.microloan_words.specs.declared.refusal.Owed.{Owed}
use Rattle.microloan_words.specs.declared.refusal.Owed.TheVariants.{Help, Version, NoCommand, Wrong}

-- a text of this kind; none where `clap` itself was out of memory
abbrev pub owed_of : ErrorKind → Option Owed
owed_of OutOfMemory = None
owed_of DisplayHelp = Some Help
owed_of DisplayVersion = Some Version
owed_of MissingSubcommand = Some NoCommand
owed_of InvalidValue = Some Wrong
owed_of UnknownArgument = Some Wrong
owed_of InvalidSubcommand = Some Wrong
owed_of NoEquals = Some Wrong
owed_of ValueValidation = Some Wrong
owed_of TooManyValues = Some Wrong
owed_of TooFewValues = Some Wrong
owed_of WrongNumberOfValues = Some Wrong
owed_of ArgumentConflict = Some Wrong
owed_of MissingRequiredArgument = Some Wrong
owed_of DisplayHelpOnMissingArgumentOrSubcommand = Some Wrong
owed_of Io = Some Wrong
owed_of Format = Some Wrong

-- the words are told as what is owed: help, the version, or a line on what is wrong
abbrev pub IsToldAs : Owed → Words → Type 0
IsToldAs Help words = IsHelp words
IsToldAs Version words = IsVersion words
IsToldAs NoCommand words = IsBad words
IsToldAs Wrong words = IsBad words
