-- What is said of the play of a journal: its head, the line at which it stops, or the first row that it doesn't give.
use Rattle.std.specs.Prelude.{ℕ, List, ◌++◌, codes, decimal, slice_get, Option, Some, None, option_map, if◌then◌else◌}
use Rattle.std.specs.List.{flat_map}
use Rattle.std.specs.Str.{bytes_eq}
use Rattle.mf_journal.specs.declared.following.Head.{Head}
use Rattle.mf_office.specs.Written.{account_text, caller_text}
use Rattle.mf_play.specs.declared.stop.Stop.{Stop}
use Rattle.mf_play.specs.declared.stop.Stop.TheVariants.{NoRequest, OtherDay, Refused, ChangesNothing, NamesOther}
use Rattle.mf_store_schema.specs.Rows.{Lists}
use Rattle.mf_store_schema.specs.declared.charges.ChargeRow.{ChargeRow}
use Rattle.mf_store_schema.specs.declared.clients.ClientRow.{ClientRow}
use Rattle.mf_store_schema.specs.declared.entries.EntryRow.{EntryRow}
use Rattle.mf_store_schema.specs.declared.instalments.InstalmentRow.{InstalmentRow}
use Rattle.mf_store_schema.specs.declared.loans.LoanRow.{LoanRow}
use Rattle.mf_store_schema.specs.declared.meta.MetaRow.{MetaRow}
use Rattle.mf_store_schema.specs.declared.offices.OfficeRow.{OfficeRow}
use Rattle.mf_store_schema.specs.declared.products.ProductRow.{ProductRow}
use Rattle.mf_store_schema.specs.declared.receipts.ReceiptRow.{ReceiptRow}
use Rattle.mf_store_schema.specs.declared.shares.ShareRow.{ShareRow}
use Rattle.mf_store_schema.specs.declared.staff.StaffRow.{StaffRow}
use Rattle.mf_store_played.specs.declared.played.Difference.{Difference}
use Rattle.mf_store_played.specs.declared.played.PlayedTable.{PlayedTable}
use Rattle.mf_store_played.specs.declared.played.PlayedTable.TheVariants.{Meta, Offices, Staff, Clients, Charges}
use Rattle.mf_store_played.specs.declared.played.PlayedTable.TheVariants.{Products, Loans, Entries, Receipts}
use Rattle.mf_store_played.specs.declared.played.PlayedTable.TheVariants.{Instalments, Shares}
use Rattle.microloan_audit.specs.Lines.{entry_key, instalment_key}
use Rattle.microloan_audit.specs.Quoted.{quoted, two_hex}

-- ---- the head of a journal

-- how many changes there were, and the chain after the last of them, to the base 16
abbrev pub head_text : Head → List ℕ
head_text head = decimal head.number ++ (codes " changes, head " ++ flat_map two_hex head.chain)

-- the last line of the text of tables to which their journal leads
abbrev pub leads_line : Head → List ℕ
leads_line head = codes "sound, and the play of its journal (" ++ (head_text head ++ codes ")")

-- the last line of the text of sound tables whose journal begins at no founding
abbrev pub unplayed_line : Head → List ℕ
unplayed_line head =
    codes "sound; its journal (" ++ (head_text head ++ codes ") begins at no founding, and was not played")

-- what is said of sound tables whose journal was begun over other rows than the copy's
abbrev pub other_copy_line : Head → List ℕ
other_copy_line head =
    codes "the journal (" ++ (head_text head ++ codes ") was begun over other rows than those of the copy")

-- ---- the line at which a play stops

-- why a line doesn't play
abbrev pub stop_words : Stop → List ℕ
stop_words NoRequest = codes "it tells no caller, or its text is no request"
stop_words OtherDay = codes "its day is not the business day at which the play is there"
stop_words Refused = codes "the play refuses its request"
stop_words ChangesNothing = codes "its request changes nothing in the play"
stop_words NamesOther = codes "it names another office or loan than the play"

-- the line by its number, and why it doesn't play
abbrev pub stop_line : ℕ → Stop → List ℕ
stop_line number why = codes "journal " ++ (decimal number ++ (codes ": " ++ stop_words why))

-- ---- the first row that differs

-- a table, and the key of its row
abbrev pub row_name : List ℕ → List ℕ → List ℕ
row_name table key = table ++ (codes " " ++ key)

-- a row of each table by its table and its key, as people know it
abbrev pub meta_name : MetaRow → List ℕ
meta_name row = codes "meta"

abbrev pub office_name : OfficeRow → List ℕ
office_name row = row_name (codes "offices") (decimal row.number)

abbrev pub staff_name : StaffRow → List ℕ
staff_name row = row_name (codes "staff") (caller_text row.office row.number)

abbrev pub client_name : ClientRow → List ℕ
client_name row = row_name (codes "clients") (account_text row.office row.number)

abbrev pub charge_name : ChargeRow → List ℕ
charge_name row = row_name (codes "charges") (decimal row.number)

abbrev pub product_name : ProductRow → List ℕ
product_name row = row_name (codes "products") (decimal row.number)

abbrev pub loan_name : LoanRow → List ℕ
loan_name row = row_name (codes "loans") (account_text row.office row.number)

abbrev pub entry_name : EntryRow → List ℕ
entry_name row = row_name (codes "entries") (entry_key row.office row.loan row.seq)

abbrev pub receipt_name : ReceiptRow → List ℕ
receipt_name row = row_name (codes "receipts") (decimal row.office ++ (codes " " ++ quoted row.receipt))

abbrev pub instalment_name : InstalmentRow → List ℕ
instalment_name row = row_name (codes "instalments") (instalment_key row.office row.loan row.number)

abbrev pub share_name : ShareRow → List ℕ
share_name row = row_name (codes "shares") (entry_key row.office row.loan row.seq)

-- the name of the row at a place of a table, if there is one
unfoldable pub name_in : PlayedTable → Lists → ℕ → Option (List ℕ)
name_in Meta lists place = option_map meta_name (slice_get lists.meta place)
name_in Offices lists place = option_map office_name (slice_get lists.offices place)
name_in Staff lists place = option_map staff_name (slice_get lists.staff place)
name_in Clients lists place = option_map client_name (slice_get lists.clients place)
name_in Charges lists place = option_map charge_name (slice_get lists.charges place)
name_in Products lists place = option_map product_name (slice_get lists.products place)
name_in Loans lists place = option_map loan_name (slice_get lists.loans place)
name_in Entries lists place = option_map entry_name (slice_get lists.entries place)
name_in Receipts lists place = option_map receipt_name (slice_get lists.receipts place)
name_in Instalments lists place = option_map instalment_name (slice_get lists.instalments place)
name_in Shares lists place = option_map share_name (slice_get lists.shares place)

-- what is said of two rows at one place: of the file's, and of the one that the play gives
abbrev pub two_rows : List ℕ → List ℕ → List ℕ
two_rows here played = if bytes_eq here played then here ++ codes ": the play of the journal gives it otherwise"
    else here ++ (codes ": the play of the journal gives " ++ (played ++ codes " in its place"))

-- the same where one of them may be missing; no difference is at a place where both are
abbrev pub difference_words : Option (List ℕ) → Option (List ℕ) → List ℕ
difference_words None None = codes "no row differs"
difference_words None (Some played) = played ++ codes ": the play of the journal gives it, and it is missing"
difference_words (Some here) None = here ++ codes ": the play of the journal does not give it"
difference_words (Some here) (Some played) = two_rows here played

-- what is said of the first row that differs
abbrev pub difference_line : Difference → List ℕ
difference_line d = difference_words (name_in d.table d.here d.row) (name_in d.table d.played d.row)
