-- The text of the report: a line for each office, then the line of all of them.
use Rattle.std.specs.Prelude.{ℕ, ◌+◌, List, [], ◌∷◌, ◌++◌, sum_by, decimal, codes}
use Rattle.std.specs.List.{flat_map}
use Rattle.mf_base.specs.Money.{money_text}
use Rattle.mf_base.specs.Texts.{right}
use Rattle.mf_arrears.specs.Line.{OfficeLine, par30_of}

-- the columns after the first: loans in 12, each sum in 24, the portfolio at risk in 8, and the line's end
abbrev pub report_columns : ℕ → List ℕ → ℕ → List ℕ
report_columns loans sums par30 =
    right 12 (decimal loans) ++ flat_map (λ sum. right 24 (money_text sum)) sums ++ right 8 (money_text par30) ++ 10
    ∷ []

-- the sums: of all, and of each class
abbrev pub sums_of : OfficeLine → List ℕ
sums_of line = line.outstanding ∷ line.c1_30 ∷ line.c31_60 ∷ line.c61_90 ∷ line.over_90 ∷ []

-- the numbers of a line, in the order of its columns
abbrev pub columns : OfficeLine → List ℕ
columns line = report_columns line.loans (sums_of line) (par30_of line)

-- an office's line: its number in 4, then the columns
abbrev pub line_text : OfficeLine → List ℕ
line_text line = right 4 (decimal line.office) ++ columns line

-- the sums of lines
abbrev pub total_of : List OfficeLine → OfficeLine
total_of lines = record {
  office = 0;
  loans = sum_by (λ (l : OfficeLine). l.loans) lines;
  outstanding = sum_by (λ (l : OfficeLine). l.outstanding) lines;
  c1_30 = sum_by (λ (l : OfficeLine). l.c1_30) lines;
  c31_60 = sum_by (λ (l : OfficeLine). l.c31_60) lines;
  c61_90 = sum_by (λ (l : OfficeLine). l.c61_90) lines;
  over_90 = sum_by (λ (l : OfficeLine). l.over_90) lines;
}

-- a line with another's sums added
abbrev pub plus : OfficeLine → OfficeLine → OfficeLine
plus a b = record {
  office = a.office;
  loans = a.loans + b.loans;
  outstanding = a.outstanding + b.outstanding;
  c1_30 = a.c1_30 + b.c1_30;
  c31_60 = a.c31_60 + b.c31_60;
  c61_90 = a.c61_90 + b.c61_90;
  over_90 = a.over_90 + b.over_90;
}

-- the line of all: the word in 4, then the columns of the sums
abbrev pub all_text : OfficeLine → List ℕ
all_text total = right 4 (codes "all") ++ columns total

-- the report's bytes: each line, and the line of all
abbrev pub report_bytes : List OfficeLine → List ℕ
report_bytes lines = flat_map line_text lines ++ all_text (total_of lines)
