-- How the report of arrears is shown.
use Rattle.std.specs.Prelude.{ℕ, codes, List, map}
use Rattle.serde_json.specs.Data.{Data, string, array, object, Members, member, no_members}
use Rattle.serde_json.specs.View.{items_of}
use Rattle.mf_base.specs.Money.{money_text}
use Rattle.mf_arrears.specs.Line.{OfficeLine, par30_of}
use Rattle.mf_arrears.specs.Report.{total_of}
use Rattle.mf_wire_replies.specs.Json.{whole}

-- Cents as their money text, since a sum over many loans may pass 64 bits. Hundredths of a percent are written so too.
abbrev pub money : ℕ → Data
money cents = string (money_text cents)

-- a line's members from outstanding on
abbrev pub line_end : (outstanding over_90 par30 : ℕ) → Members
line_end outstanding over_90 par30 =
    member (codes "outstanding") (money outstanding)
    (member (codes "over_90") (money over_90)
    (member (codes "par30") (money par30) no_members))

-- the sums of all lines
abbrev pub all_data : OfficeLine → Data
all_data line = object
    (member (codes "c1_30") (money line.c1_30)
    (member (codes "c31_60") (money line.c31_60)
    (member (codes "c61_90") (money line.c61_90)
    (member (codes "loans") (whole line.loans) (line_end line.outstanding line.over_90 (par30_of line))))))

-- an office's line
abbrev pub arrears_line_data : OfficeLine → Data
arrears_line_data line = object
    (member (codes "c1_30") (money line.c1_30)
    (member (codes "c31_60") (money line.c31_60)
    (member (codes "c61_90") (money line.c61_90)
    (member (codes "loans") (whole line.loans)
    (member (codes "office") (whole line.office) (line_end line.outstanding line.over_90 (par30_of line)))))))

-- the report: the sums of the lines, and the lines
abbrev pub arrears_data : List OfficeLine → Data
arrears_data lines = object (member (codes "all") (all_data (total_of lines))
    (member (codes "offices") (array (items_of (map arrears_line_data lines))) no_members))
