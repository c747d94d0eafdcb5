-- The text of what the rows of a sound institution come to: three tables in fixed columns, and a last line.
use Rattle.std.specs.Prelude.{ℕ, List, [], ◌∷◌, ◌++◌, map, codes, decimal}
use Rattle.std.specs.List.{flat_map}
use Rattle.mf_base.specs.Money.{money_text}
use Rattle.mf_base.specs.Texts.{right}
use Rattle.mf_store_audit.specs.declared.totals.OfficeSums.{OfficeSums}
use Rattle.mf_store_audit.specs.declared.totals.Sums.{Sums}
use Rattle.mf_store_audit.specs.Sums.{sums_of_all}
use Rattle.microloan_audit.specs.declared.sums.Part.{Part}
use Rattle.microloan_audit.specs.declared.sums.Part.TheVariants.{Counts, Principal, Money}

-- a column: its title, and the number that stands in it
pub record Column : Type 0 where
  pub title : List ℕ
  pub number : Sums → ℕ

-- the columns of a table, after that of the office
abbrev pub columns : Part → List Column
columns Counts =
    record { title = codes "clients"; number = λ s. s.clients }
    ∷ record { title = codes "submitted"; number = λ s. s.loans.submitted }
    ∷ record { title = codes "approved"; number = λ s. s.loans.approved }
    ∷ record { title = codes "active"; number = λ s. s.loans.active }
    ∷ record { title = codes "withdrawn"; number = λ s. s.loans.withdrawn }
    ∷ record { title = codes "rejected"; number = λ s. s.loans.rejected }
    ∷ record { title = codes "closed"; number = λ s. s.loans.closed }
    ∷ record { title = codes "written off"; number = λ s. s.loans.written_off }
    ∷ record { title = codes "overpaid"; number = λ s. s.loans.overpaid }
    ∷ record { title = codes "standing"; number = λ s. s.entries.standing }
    ∷ record { title = codes "reversed"; number = λ s. s.entries.reversed }
    ∷ []
columns Principal =
    record { title = codes "disbursed"; number = λ s. s.principal.disbursed }
    ∷ record { title = codes "paid"; number = λ s. s.principal.paid }
    ∷ record { title = codes "written off"; number = λ s. s.principal.written_off }
    ∷ record { title = codes "outstanding"; number = λ s. s.principal.outstanding }
    ∷ []
columns Money =
    record { title = codes "standing"; number = λ s. s.money.repaid }
    ∷ record { title = codes "paid"; number = λ s. s.money.paid }
    ∷ record { title = codes "overpaid"; number = λ s. s.money.overpaid }
    ∷ record { title = codes "refunded"; number = λ s. s.money.refunded }
    ∷ []

-- how wide these columns are
abbrev pub width : Part → ℕ
width Counts = 12
width Principal = 24
width Money = 24

-- how a number is written there: counts as they are, amounts of cents as money
abbrev pub written : Part → ℕ → List ℕ
written Counts n = decimal n
written Principal n = money_text n
written Money n = money_text n

-- what stands above a table
unfoldable pub heading : ℕ → Part → List ℕ
heading schema Counts =
    codes "schema " ++ decimal schema ++ codes ": clients, loans by status, entries standing and reversed\n"
heading schema Principal = codes "principal: disbursed = paid + written off + outstanding\n"
heading schema Money = codes "repayments: standing = paid + overpaid + refunded\n"

-- a line: a word at the right of 6 columns, and a text at the right of each column
abbrev pub line : Part → List ℕ → (Column → List ℕ) → List ℕ
line part first text_in =
    right 6 first ++ flat_map (λ (c : Column). right (width part) (text_in c)) (columns part) ++ codes "\n"

-- the line of titles
unfoldable pub title_line : Part → List ℕ
title_line part = line part (codes "office") (λ c. c.title)

-- the numbers of a line
abbrev pub numbers_in : Part → Sums → List ℕ
numbers_in part s = map (λ (c : Column). c.number s) (columns part)

-- the line of these sums
unfoldable pub sums_line : Part → List ℕ → Sums → List ℕ
sums_line part first s = line part first (λ c. written part (c.number s))

-- the line of an office
abbrev pub office_line : Part → OfficeSums → List ℕ
office_line part o = sums_line part (decimal o.office) o.sums

-- a table: what stands above it, its titles, a line for each office, and one for all
unfoldable pub table_text : ℕ → Part → List OfficeSums → Sums → List ℕ
table_text schema part os all =
    heading schema part ++ title_line part ++ flat_map (office_line part) os ++ sums_line part (codes "all") all

-- the three tables, and the last line
abbrev pub text_with_all : ℕ → List OfficeSums → Sums → List ℕ → List ℕ
text_with_all schema os all last = table_text schema Counts os all ++ table_text schema Principal os all
    ++ table_text schema Money os all ++ (last ++ codes "\n")

-- the same, where all is what the offices come to
unfoldable pub sums_text : ℕ → List OfficeSums → List ℕ → List ℕ
sums_text schema os last = text_with_all schema os (sums_of_all os) last
