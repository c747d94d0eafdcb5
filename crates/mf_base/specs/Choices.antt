-- Choices by their names and their numbers; weeks and months are one.
use Rattle.std.specs.Prelude.{ℕ, ◌==◌, List, [], ◌∷◌, codes, Option}
use Rattle.std.specs.List.{find}
use Rattle.std.specs.Str.{bytes_eq}
use Rattle.mf_base.specs.declared.day.Freq.{Freq}
use Rattle.mf_base.specs.declared.day.Freq.TheVariants.{Weeks, Months}

-- the choice of this name, among some
abbrev pub choice_named : {A : Type 0} → (A → List ℕ) → List A → List ℕ → Option A
choice_named name_of choices text = find (λ choice. bytes_eq (name_of choice) text) choices

-- the choice of this number, among some
abbrev pub choice_numbered : {A : Type 0} → (A → ℕ) → List A → ℕ → Option A
choice_numbered number_of choices number = find (λ choice. number_of choice == number) choices

-- whether a period goes by weeks or by months
abbrev pub frequency_name : Freq → List ℕ
frequency_name Weeks = codes "weeks"
frequency_name Months = codes "months"

-- the numbers by which tables keep them
abbrev pub frequency_number : Freq → ℕ
frequency_number Weeks = 1
frequency_number Months = 2

-- the frequencies, in the order of their numbers
abbrev pub frequencies : List Freq
frequencies = Weeks ∷ Months ∷ []
