-- How a loan's instalments and entries are shown.
use Rattle.std.specs.Prelude.{ℕ, codes, List, map, slice_index, Option, Some, None}
use Rattle.serde_json.specs.Data.{Data, boolean, string, array, object, Members, member, no_members}
use Rattle.serde_json.specs.View.{items_of}
use Rattle.mf_base.specs.DayText.{day_text}
use Rattle.mf_office.specs.Written.{caller_text}
use Rattle.mf_alloc.specs.declared.row.Portion.{Portion}
use Rattle.mf_alloc.specs.declared.row.Portion.TheVariants.{Penalty, Fee, Interest, Principal}
use Rattle.mf_alloc.specs.declared.row.Share.{Share}
use Rattle.mf_alloc.specs.Portions.{portion_name}
use Rattle.mf_alloc.specs.Rows.{place_in_row}
use Rattle.mf_account.specs.declared.entry.Entry.{Entry}
use Rattle.mf_account.specs.declared.entry.Kind.{Kind}
use Rattle.mf_account.specs.declared.entry.Kind.TheVariants as kind
use Rattle.mf_account.specs.Names.{entry_kind_name}
use Rattle.mf_statement.specs.declared.lines.EntryLine.{EntryLine}
use Rattle.mf_statement.specs.declared.lines.InstalmentLine.{InstalmentLine}
use Rattle.mf_wire_replies.specs.Json.{whole, whole_or_null, text_or_null}

-- what stands for a portion among sums by portion
abbrev pub sum_of : Portion → List ℕ → Data
sum_of portion sums = whole (slice_index sums (place_in_row portion))

-- an instalment's members from outstanding on
abbrev pub instalment_rest : InstalmentLine → Members
instalment_rest line =
    member (codes "outstanding") (whole line.outstanding)
    (member (codes "penalties") (sum_of Penalty line.owed)
    (member (codes "principal") (sum_of Principal line.owed) no_members))

-- an instalment as GET /loans/{loan}/schedule lists it: what is owed of each portion, and what is outstanding of all of
-- them
abbrev pub instalment_data : InstalmentLine → Data
instalment_data line = object
    (member (codes "due") (string (day_text line.due))
    (member (codes "fees") (sum_of Fee line.owed)
    (member (codes "interest") (sum_of Interest line.owed)
    (member (codes "number") (whole line.number) (instalment_rest line)))))

-- the instalments of a loan
abbrev pub instalments_data : List InstalmentLine → Data
instalments_data lines = object (member (codes "instalments") (array (items_of (map instalment_data lines))) no_members)

-- the instalment that an entry is for: that of a fee, a penalty or a waiver
abbrev pub instalment_for : Kind → ℕ → Option ℕ
instalment_for kind.Repay n = None
instalment_for kind.Fee n = Some n
instalment_for kind.Penalty n = Some n
instalment_for kind.Waive n = Some n
instalment_for kind.WriteOff n = None
instalment_for kind.Refund n = None

-- the portion that an entry waives, by name
abbrev pub portion_waived : Kind → Portion → Option (List ℕ)
portion_waived kind.Repay portion = None
portion_waived kind.Fee portion = None
portion_waived kind.Penalty portion = None
portion_waived kind.Waive portion = Some (portion_name portion)
portion_waived kind.WriteOff portion = None
portion_waived kind.Refund portion = None

-- a part of what an entry settles
abbrev pub share_data : Share → Data
share_data share = object
    (member (codes "amount") (whole share.amount)
    (member (codes "instalment") (whole share.cell.instalment)
    (member (codes "portion") (string (portion_name share.cell.portion)) no_members)))

-- all that an entry settles
abbrev pub shares_data : List Share → Data
shares_data shares = array (items_of (map share_data shares))

-- an entry's members from portion on
abbrev pub entry_rest : Entry → List Share → Members
entry_rest entry shares =
    member (codes "portion") (text_or_null (portion_waived entry.kind entry.portion))
    (member (codes "receipt") (text_or_null entry.receipt)
    (member (codes "reversed") (boolean entry.reversed)
    (member (codes "shares") (shares_data shares)
    (member (codes "staff") (string (caller_text entry.staff.office entry.staff.staff)) no_members))))

-- an entry as GET /loans/{loan}/entries lists it
abbrev pub entry_data : EntryLine → Data
entry_data line = object
    (member (codes "amount") (whole line.amount)
    (member (codes "day") (string (day_text line.entry.day))
    (member (codes "entry") (whole line.entry.seq)
    (member (codes "instalment") (whole_or_null (instalment_for line.entry.kind line.entry.instalment))
    (member (codes "kind") (string (entry_kind_name line.entry.kind)) (entry_rest line.entry line.shares))))))

-- the entries of a loan
abbrev pub entries_data : List EntryLine → Data
entries_data lines = object (member (codes "entries") (array (items_of (map entry_data lines))) no_members)
