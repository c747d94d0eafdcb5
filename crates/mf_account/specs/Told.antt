-- What holds of the rows, parts and entries of every account, so that they can be told: sums fit 64 bits, entries are
-- numbered from 1, and each part has the number of one of them.
use Rattle.std.specs.Prelude.{◌≡◌, ℕ, ◌+◌, ◌<◌, ◌≤◌, ◌^◌, List, length, sum_by, All}
use Rattle.mf_alloc.specs.Sums.{Instalment, row_outstanding}
use Rattle.mf_account.specs.declared.entry.Entry.{Entry}
use Rattle.mf_account.specs.declared.settled.SettledPart.{SettledPart}
use Rattle.mf_account.specs.Standing.{entry_at}

-- what parts come to
abbrev pub settled_amount : List SettledPart → ℕ
settled_amount settled = sum_by (λ (s : SettledPart). s.amount) settled

-- what is outstanding in each row fits 64 bits
abbrev pub IsRowSmall : Instalment → Type 0
IsRowSmall row = row_outstanding row < 2 ^ 64

-- each row's sums are small
abbrev pub AreRowsSmall : List Instalment → Type 0
AreRowsSmall rows = All IsRowSmall rows

-- entries are numbered from 1, in their order
abbrev pub AreNumbered : List Entry → Type 0
AreNumbered entries = (i : ℕ) → i < length entries → (entry_at entries i).seq ≡ i + 1

-- each part has one of the numbers from 1 to n
abbrev pub IsNumberedTo : ℕ → SettledPart → Type 0
IsNumberedTo n s = (1 ≤ s.seq) × (s.seq ≤ n)

-- each part is one of the first n entries'
abbrev pub AreNumberedTo : ℕ → List SettledPart → Type 0
AreNumberedTo n settled = All (IsNumberedTo n) settled
