-- The status that the program ends with: 0 where it did what it was asked, 1 after a fault, 2 after bad words.
use Rattle.std.specs.Prelude.{◌≡◌, ◌⊎◌, ℕ, Result, Ok, Err}
use Rattle.microloan_words.specs.declared.asked.Words.{Words}
use Rattle.microloan_words.specs.declared.asked.Words.TheVariants.{Bad, Help, Version, Memory}

-- of what was done or met a fault
abbrev pub IsStatusOf : {T E : Type 0} → Result T E → ℕ → Type 0
IsStatusOf (Ok done) status = status ≡ 0
IsStatusOf (Err fault) status = status ≡ 1

-- of a text that is to be printed: 1 where it couldn't be
abbrev pub IsPrintStatus : ℕ → Type 0
IsPrintStatus status = (status ≡ 0) ⊎ (status ≡ 1)

-- of words that ask for help or the version, or are bad, or for which there was no memory
abbrev pub IsWordsStatus : Words → ℕ → Type 0
IsWordsStatus (Help text) status = IsPrintStatus status
IsWordsStatus (Version text) status = IsPrintStatus status
IsWordsStatus (Bad line) status = status ≡ 2
IsWordsStatus Memory status = status ≡ 1
