-- How the figures of a line add up, and what lines come to, over the offices and products that are meant.
use Rattle.std.specs.Prelude.{◌≡◌, ◌+◌, ◌==◌, ◌&&◌, ℤ, pos, neg_ℤ, List}
use Rattle.mf_ledger.specs.Books.{signed_sum}
use Rattle.mf_ledger.specs.Runs.{Selection, where_meant}
use Rattle.mf_portions.specs.Table.{heading_number}
use Rattle.mf_portions.specs.declared.lines.Heading.{Heading}
use Rattle.mf_portions.specs.declared.lines.PortionLine.{PortionLine}

-- what is owed in a line is paid, waived, written off or outstanding
abbrev pub AddsUp : PortionLine → Type 0
AddsUp l = l.owed ≡ l.paid + l.waived + l.written_off + l.outstanding

-- what is outstanding in a line
abbrev pub left : PortionLine → ℤ
left l = pos l.outstanding

-- what is written off in it
abbrev pub lost : PortionLine → ℤ
lost l = pos l.written_off

-- what was paid in it, as a credit
abbrev pub earned : PortionLine → ℤ
earned l = neg_ℤ (pos l.paid)

-- what a line has, where it is of this heading, and its office and product are meant
abbrev pub line_meant : Heading → (PortionLine → ℤ) → Selection → PortionLine → ℤ
line_meant heading read meant l =
    where_meant ((heading_number l.heading == heading_number heading) && meant l.office l.product) (read l)

-- what lines have under a heading, over the offices and products that are meant
abbrev pub come_to : Heading → (PortionLine → ℤ) → Selection → List PortionLine → ℤ
come_to heading read meant lines = signed_sum (line_meant heading read meant) lines
