-- The text of lines by portion: what they have, less what lines before had.
use Rattle.std.specs.Prelude.{ℕ, ◌==◌, ◌-◌, nat_le, Bool, not, ◌&&◌, ◌||◌, cond, List, [], ◌++◌, unwrap_or}
use Rattle.std.specs.Prelude.{codes, decimal}
use Rattle.std.specs.List.{find, flat_map}
use Rattle.mf_base.specs.Money.{money_text}
use Rattle.mf_portions.specs.declared.lines.Heading.{Heading}
use Rattle.mf_portions.specs.declared.lines.Heading.TheVariants.{Penalties, Fees, Interest, Principal, Kept}
use Rattle.mf_portions.specs.declared.lines.PortionLine.{PortionLine}

-- the number of a heading
abbrev pub heading_number : Heading → ℕ
heading_number Penalties = 0
heading_number Fees = 1
heading_number Interest = 2
heading_number Principal = 3
heading_number Kept = 4

-- a heading as it is written
abbrev pub heading_text : Heading → List ℕ
heading_text Penalties = codes "penalties"
heading_text Fees = codes "fees"
heading_text Interest = codes "interest"
heading_text Principal = codes "principal"
heading_text Kept = codes "fee at disbursement"

-- both are of one office, product and heading
abbrev pub is_like : PortionLine → PortionLine → Bool
is_like a b =
    (a.office == b.office) && ((a.product == b.product) && (heading_number a.heading == heading_number b.heading))

-- the line of this office, product and heading where there are no loans
abbrev pub nothing_like : PortionLine → PortionLine
nothing_like l = record {
  office = l.office;
  product = l.product;
  heading = l.heading;
  owed = 0;
  paid = 0;
  waived = 0;
  written_off = 0;
  outstanding = 0;
}

-- what lines have for a line: the first that is like it, and else nothing
abbrev pub line_before : List PortionLine → PortionLine → PortionLine
line_before before l = unwrap_or (find (λ (x : PortionLine). is_like x l) before) (nothing_like l)

-- any figure is another than it was before
abbrev pub moves : PortionLine → PortionLine → Bool
moves before now = not (now.owed == before.owed) || (not (now.paid == before.paid) || (not (now.waived == before.waived)
    || (not (now.written_off == before.written_off) || not (now.outstanding == before.outstanding))))

-- what a figure is now, less what it was before, with two decimals; a minus before it where it is less
abbrev pub amount_text : ℕ → ℕ → List ℕ
amount_text before now = cond (nat_le before now) (money_text (now - before)) (codes "-" ++ money_text (before - now))

-- the five figures of a line, less those before
abbrev pub amounts_text : PortionLine → PortionLine → List ℕ
amounts_text before now =
    amount_text before.owed now.owed ++ (codes "," ++ (amount_text before.paid now.paid ++ (codes ","
    ++ (amount_text before.waived now.waived ++ (codes "," ++ (amount_text before.written_off now.written_off
    ++ (codes "," ++ amount_text before.outstanding now.outstanding)))))))

-- the text of a line, less the line before; nothing where no figure moved
abbrev pub line_text : PortionLine → PortionLine → List ℕ
line_text before now = cond (moves before now)
    (decimal now.office ++ (codes "," ++ (decimal now.product ++ (codes "," ++ (heading_text now.heading ++ (codes ","
    ++ (amounts_text before now ++ codes "\n"))))))) []

-- the text of lines, each less what the lines before have for it
abbrev pub lines_text : List PortionLine → List PortionLine → List ℕ
lines_text before lines = flat_map (λ (l : PortionLine). line_text (line_before before l) l) lines

-- the first line of a table
abbrev pub table_head : List ℕ
table_head = codes "office,product,portion,owed,paid,waived,written off,outstanding\n"

-- the text of a table
abbrev pub table_text : List PortionLine → List PortionLine → List ℕ
table_text before lines = table_head ++ lines_text before lines
