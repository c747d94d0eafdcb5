-- What is said of a row that no record can hold.
use Rattle.std.specs.Prelude.{ℕ, ℤ, List, ◌++◌, codes}
use Rattle.std.specs.Fmt.{signed_decimal}
use Rattle.std.specs.List.{flat_map}
use Rattle.mf_store_audit.specs.declared.unread.TableName.{TableName}
use Rattle.mf_store_audit.specs.declared.unread.TableName.TheVariants.{Meta, Offices, Staff, Clients, Charges, Products}
use Rattle.mf_store_audit.specs.declared.unread.TableName.TheVariants.{Loans, Entries, Receipts, Instalments, Shares}
use Rattle.mf_store_audit.specs.declared.unread.Unread.{Unread}
use Rattle.mf_store_audit.specs.declared.unread.UnreadValue.{UnreadValue}
use Rattle.mf_store_audit.specs.declared.unread.UnreadValue.TheVariants.{NotUtf8, OutOfRange}

-- the name of a table
abbrev pub table_name : TableName → List ℕ
table_name Meta = codes "meta"
table_name Offices = codes "offices"
table_name Staff = codes "staff"
table_name Clients = codes "clients"
table_name Charges = codes "charges"
table_name Products = codes "products"
table_name Loans = codes "loans"
table_name Entries = codes "entries"
table_name Receipts = codes "receipts"
table_name Instalments = codes "instalments"
table_name Shares = codes "shares"

-- what is said of the value for which no record can hold the row
abbrev pub value_words : UnreadValue → List ℕ
value_words NotUtf8 = codes "a text that is not UTF-8"
value_words OutOfRange = codes "a number that is not 0 to 4294967295"

-- the numbers of a key, a space before each
abbrev pub key_text : List ℤ → List ℕ
key_text key = flat_map (λ n. codes " " ++ signed_decimal n) key

-- its table, the numbers of its key as they stand there, and why
abbrev pub unread_line : Unread → List ℕ
unread_line u = table_name u.table ++ (key_text u.key.items ++ (codes ": " ++ value_words u.value))
