-- The rows of the tables, each table's as a list in the order of its key; and which of them the queries look for.
use Rattle.std.specs.Prelude.{◌≡◌, ℕ, pos, Bool, true, not, ◌&&◌, List, [], ◌∷◌, ◌++◌, filter, find, None}
use Rattle.std.specs.Prelude.{IsSome}
use Rattle.std.specs.declared.cmp.Ordering.{Ordering}
use Rattle.std.specs.Ordering.{nat_cmp, ordering_then, is_eq, is_lt, is_ge, is_gt}
use Rattle.std.specs.Cmp.Lexicographic.{slice_cmp}
use Rattle.sqlite.specs.declared.types.Value.TheVariants.{Int, Text}
use Rattle.sqlite.specs.Order.{Row}
use Rattle.sqlite_trees.specs.Tree.{IsAscending}
use Rattle.mf_store_sql.specs.Values.{or_null, or_text}
use Rattle.mf_store_sql.specs.Keep.{put_item}
use Rattle.mf_store_sql.specs.Numbered.{Filed}
use Rattle.mf_store_schema.specs.declared.meta.MetaRow.{MetaRow}
use Rattle.mf_store_schema.specs.declared.offices.OfficeRow.{OfficeRow}
use Rattle.mf_store_schema.specs.declared.staff.StaffRow.{StaffRow}
use Rattle.mf_store_schema.specs.declared.clients.ClientRow.{ClientRow}
use Rattle.mf_store_schema.specs.declared.charges.ChargeRow.{ChargeRow}
use Rattle.mf_store_schema.specs.declared.products.ProductRow.{ProductRow}
use Rattle.mf_store_schema.specs.declared.loans.LoanRow.{LoanRow}
use Rattle.mf_store_schema.specs.declared.entries.EntryRow.{EntryRow}
use Rattle.mf_store_schema.specs.declared.receipts.ReceiptRow.{ReceiptRow}
use Rattle.mf_store_schema.specs.declared.instalments.InstalmentRow.{InstalmentRow}
use Rattle.mf_store_schema.specs.declared.instalments.PortionSums.{PortionSums}
use Rattle.mf_store_schema.specs.declared.shares.EntryKey.{EntryKey}
use Rattle.mf_store_schema.specs.declared.shares.ShareRow.{ShareRow}

-- no row has the key of this one
abbrev pub IsNew : {X : Type 0} → (X → X → Ordering) → X → List X → Type 0
IsNew cmp x rows = find (λ y. is_eq (cmp x y)) rows ≡ None

-- a row has the key of this one
abbrev pub IsThere : {X : Type 0} → (X → X → Ordering) → X → List X → Type 0
IsThere cmp x rows = IsSome (find (λ y. is_eq (cmp x y)) rows)

-- the order of the rows of meta
abbrev pub by_meta : MetaRow → MetaRow → Ordering
by_meta a b = nat_cmp a.one b.one

-- the values of a row of meta
abbrev pub meta_row : MetaRow → Row
meta_row x = Int (pos x.one) ∷ Int (pos x.schema) ∷ Text x.day ∷ []

-- the row under a key
abbrev pub is_row_of_meta : ℕ → MetaRow → Bool
is_row_of_meta one x = is_eq (nat_cmp one x.one)

-- the order of the rows of offices
abbrev pub by_office : OfficeRow → OfficeRow → Ordering
by_office a b = nat_cmp a.number b.number

-- the values of a row of offices
abbrev pub office_row : OfficeRow → Row
office_row x = Int (pos x.number) ∷ or_null x.parent ∷ Text x.hkey ∷ Text x.name ∷ []

-- the row is that of this office
abbrev pub is_row_of_office : ℕ → OfficeRow → Bool
is_row_of_office number x = is_eq (nat_cmp number x.number)

-- the rows whose hierarchy text lies in a range, byte by byte
abbrev pub is_between_keys : List ℕ → List ℕ → OfficeRow → Bool
is_between_keys low high x = is_ge (slice_cmp nat_cmp x.hkey low) && is_lt (slice_cmp nat_cmp x.hkey high)

-- the order of the rows of staff
abbrev pub by_staff : StaffRow → StaffRow → Ordering
by_staff a b = ordering_then (nat_cmp a.office b.office) (nat_cmp a.number b.number)

-- the values of a row of staff
abbrev pub staff_row : StaffRow → Row
staff_row x = Int (pos x.office) ∷ Int (pos x.number) ∷ Text x.name ∷ Int (pos x.role) ∷ []

-- the row is that of this member of an office's staff
abbrev pub is_row_of_staff : ℕ → ℕ → StaffRow → Bool
is_row_of_staff office number x = is_eq (ordering_then (nat_cmp office x.office) (nat_cmp number x.number))

-- the rows of one office
abbrev pub is_staff_of : ℕ → StaffRow → Bool
is_staff_of office x = is_eq (nat_cmp office x.office)

-- the order of the rows of clients
abbrev pub by_client : ClientRow → ClientRow → Ordering
by_client a b = ordering_then (nat_cmp a.office b.office) (nat_cmp a.number b.number)

-- the values of a row of clients
abbrev pub client_row : ClientRow → Row
client_row x = Int (pos x.office) ∷ Int (pos x.number) ∷ Text x.name ∷ []

-- the row is that of this client of an office
abbrev pub is_row_of_client : ℕ → ℕ → ClientRow → Bool
is_row_of_client office number x = is_eq (ordering_then (nat_cmp office x.office) (nat_cmp number x.number))

-- the row is that of a client of this office
abbrev pub is_client_of : ℕ → ClientRow → Bool
is_client_of office x = is_eq (nat_cmp office x.office)

-- the order of the rows of charges
abbrev pub by_charge : ChargeRow → ChargeRow → Ordering
by_charge a b = nat_cmp a.number b.number

-- the values of a row of charges
abbrev pub charge_row : ChargeRow → Row
charge_row x = Int (pos x.number) ∷ Text x.name ∷ Int (pos x.kind) ∷ Int (pos x.calc) ∷ Int x.value ∷ []

-- the row is that of this charge
abbrev pub is_row_of_charge : ℕ → ChargeRow → Bool
is_row_of_charge number x = is_eq (nat_cmp number x.number)

-- the order of the rows of products
abbrev pub by_product : ProductRow → ProductRow → Ordering
by_product a b = nat_cmp a.number b.number

-- the values of a row of products
abbrev pub product_row : ProductRow → Row
product_row x = Int (pos x.number) ∷ Text x.name ∷ Int (pos x.method) ∷ Int (pos x.rate) ∷ Int (pos x.frequency)
    ∷ Int (pos x.every) ∷ Int (pos x.principal_grace) ∷ Int (pos x.interest_grace) ∷ Int x.min_principal
    ∷ Int x.max_principal ∷ Int (pos x.min_periods) ∷ Int (pos x.max_periods) ∷ Int (pos x.strategy)
    ∷ or_null x.disbursement_charge ∷ or_null x.instalment_charge ∷ or_null x.overdue_charge ∷ Int (pos x.retired) ∷ []

-- the row is that of this product
abbrev pub is_row_of_product : ℕ → ProductRow → Bool
is_row_of_product number x = is_eq (nat_cmp number x.number)

-- the order of the rows of loans
abbrev pub by_loan : LoanRow → LoanRow → Ordering
by_loan a b = ordering_then (nat_cmp a.office b.office) (nat_cmp a.number b.number)

-- the values of a row of loans
abbrev pub loan_row : LoanRow → Row
loan_row x = Int (pos x.office) ∷ Int (pos x.number) ∷ Int (pos x.client) ∷ Int (pos x.product) ∷ Int x.principal
    ∷ Int (pos x.periods) ∷ Int (pos x.stage) ∷ or_text x.approved ∷ or_text x.disbursed ∷ []

-- the row is that of this loan of an office
abbrev pub is_row_of_loan : ℕ → ℕ → LoanRow → Bool
is_row_of_loan office number x = is_eq (ordering_then (nat_cmp office x.office) (nat_cmp number x.number))

-- the row is that of a loan of this office
abbrev pub is_loan_of : ℕ → LoanRow → Bool
is_loan_of office x = is_eq (nat_cmp office x.office)

-- and those with a number above one
abbrev pub is_loan_above : ℕ → ℕ → LoanRow → Bool
is_loan_above office after x = is_eq (nat_cmp office x.office) && is_gt (nat_cmp x.number after)

-- the order of the rows of entries
abbrev pub by_entry : EntryRow → EntryRow → Ordering
by_entry a b = ordering_then (nat_cmp a.office b.office) (ordering_then (nat_cmp a.loan b.loan) (nat_cmp a.seq b.seq))

-- the values of a row of entries
abbrev pub entry_row : EntryRow → Row
entry_row x = Int (pos x.office) ∷ Int (pos x.loan) ∷ Int (pos x.seq) ∷ Int (pos x.kind) ∷ Text x.day ∷ Int x.amount
    ∷ Int (pos x.instalment) ∷ Int (pos x.portion) ∷ or_text x.receipt ∷ Text x.staff ∷ Int (pos x.reversed) ∷ []

-- the row is that of this entry of a loan
abbrev pub is_row_of_entry : ℕ → ℕ → ℕ → EntryRow → Bool
is_row_of_entry office loan seq x =
    is_eq (ordering_then (nat_cmp office x.office) (ordering_then (nat_cmp loan x.loan) (nat_cmp seq x.seq)))

-- the rows of one loan
abbrev pub is_entry_of : ℕ → ℕ → EntryRow → Bool
is_entry_of office loan x = is_eq (ordering_then (nat_cmp office x.office) (nat_cmp loan x.loan))

-- ---- receipts, by office and then by the bytes of the receipt
abbrev pub by_receipt : ReceiptRow → ReceiptRow → Ordering
by_receipt a b = ordering_then (nat_cmp a.office b.office) (slice_cmp nat_cmp a.receipt b.receipt)

-- the values of a row of receipts
abbrev pub receipt_row : ReceiptRow → Row
receipt_row x = Int (pos x.office) ∷ Text x.receipt ∷ Int (pos x.loan) ∷ Int (pos x.seq) ∷ []

-- the row is that of this receipt of an office
abbrev pub is_row_of_receipt : ℕ → List ℕ → ReceiptRow → Bool
is_row_of_receipt office receipt x = is_eq
    (ordering_then (nat_cmp office x.office) (slice_cmp nat_cmp receipt x.receipt))

-- a receipt comes before another: by office, and in one office by its bytes
abbrev pub is_receipt_before : ReceiptRow → ReceiptRow → Bool
is_receipt_before a b = is_lt (by_receipt a b)

-- each receipt comes before those that follow it
abbrev pub AreReceiptsInOrder : List ReceiptRow → Type 0
AreReceiptsInOrder = IsAscending (λ a b. is_receipt_before a b ≡ true)

-- the order of the rows of instalments
abbrev pub by_instalment : InstalmentRow → InstalmentRow → Ordering
by_instalment a b =
    ordering_then (nat_cmp a.office b.office) (ordering_then (nat_cmp a.loan b.loan) (nat_cmp a.number b.number))

-- the values of a portion's sums
abbrev pub sums_row : PortionSums → Row
sums_row sums = Int sums.owed ∷ Int sums.paid ∷ Int sums.waived ∷ Int sums.written_off ∷ []

-- the values of a row of instalments
abbrev pub instalment_row : InstalmentRow → Row
instalment_row x = Int (pos x.office) ∷ Int (pos x.loan) ∷ Int (pos x.number) ∷ Text x.due
    ∷ sums_row x.penalty ++ sums_row x.fee ++ sums_row x.interest ++ sums_row x.principal

-- the row under a key
abbrev pub is_row_of_instalment : ℕ → ℕ → ℕ → InstalmentRow → Bool
is_row_of_instalment office loan number x =
    is_eq (ordering_then (nat_cmp office x.office) (ordering_then (nat_cmp loan x.loan) (nat_cmp number x.number)))

-- the rows of one loan
abbrev pub is_instalment_of : ℕ → ℕ → InstalmentRow → Bool
is_instalment_of office loan x = is_eq (ordering_then (nat_cmp office x.office) (nat_cmp loan x.loan))

-- the rows of one office
abbrev pub is_instalment_in : ℕ → InstalmentRow → Bool
is_instalment_in office x = is_eq (nat_cmp office x.office)

-- the order of the rows of shares
abbrev pub by_share : ShareRow → ShareRow → Ordering
by_share a b = ordering_then (nat_cmp a.office b.office) (ordering_then (nat_cmp a.loan b.loan)
    (ordering_then (nat_cmp a.seq b.seq) (nat_cmp a.place b.place)))

-- the values of a row of shares
abbrev pub share_row : ShareRow → Row
share_row x = Int (pos x.office) ∷ Int (pos x.loan) ∷ Int (pos x.seq) ∷ Int (pos x.place) ∷ Int (pos x.instalment)
    ∷ Int (pos x.portion) ∷ Int (pos x.how) ∷ Int x.amount ∷ []

-- the row under a key
abbrev pub is_row_of_share : ℕ → ℕ → ℕ → ℕ → ShareRow → Bool
is_row_of_share office loan seq place x = is_eq
    (ordering_then (nat_cmp office x.office) (ordering_then (nat_cmp loan x.loan)
    (ordering_then (nat_cmp seq x.seq) (nat_cmp place x.place))))

-- the rows of one loan
abbrev pub is_share_of : ℕ → ℕ → ShareRow → Bool
is_share_of office loan x = is_eq (ordering_then (nat_cmp office x.office) (nat_cmp loan x.loan))

-- the rows of one entry
abbrev pub is_share_in : ℕ → ℕ → ℕ → ShareRow → Bool
is_share_in office loan seq x =
    is_eq (ordering_then (nat_cmp office x.office) (ordering_then (nat_cmp loan x.loan) (nat_cmp seq x.seq)))

-- the rows of all tables
pub record Lists : Type 0 where
  pub meta : List MetaRow
  pub offices : List OfficeRow
  pub staff : List StaffRow
  pub clients : List ClientRow
  pub charges : List ChargeRow
  pub products : List ProductRow
  pub loans : List LoanRow
  pub entries : List EntryRow
  pub receipts : List ReceiptRow
  pub instalments : List InstalmentRow
  pub shares : List ShareRow
  pub journal : List Filed

-- no row in any table
abbrev pub empty_lists : Lists
empty_lists = record {
  meta = [];
  offices = [];
  staff = [];
  clients = [];
  charges = [];
  products = [];
  loans = [];
  entries = [];
  receipts = [];
  instalments = [];
  shares = [];
  journal = [];
}

-- the lists with this row of meta in its place
abbrev pub put_meta : MetaRow → Lists → Lists
put_meta x lists = record lists { meta = put_item by_meta x lists.meta }

-- the lists with this row of offices in its place
abbrev pub put_office : OfficeRow → Lists → Lists
put_office x lists = record lists { offices = put_item by_office x lists.offices }

-- the lists with this row of staff in its place
abbrev pub put_staff : StaffRow → Lists → Lists
put_staff x lists = record lists { staff = put_item by_staff x lists.staff }

-- the lists with this row of clients in its place
abbrev pub put_client : ClientRow → Lists → Lists
put_client x lists = record lists { clients = put_item by_client x lists.clients }

-- the lists with this row of charges in its place
abbrev pub put_charge : ChargeRow → Lists → Lists
put_charge x lists = record lists { charges = put_item by_charge x lists.charges }

-- the lists with this row of products in its place
abbrev pub put_product : ProductRow → Lists → Lists
put_product x lists = record lists { products = put_item by_product x lists.products }

-- the lists with this row of loans in its place
abbrev pub put_loan : LoanRow → Lists → Lists
put_loan x lists = record lists { loans = put_item by_loan x lists.loans }

-- the lists with this row of entries in its place
abbrev pub put_entry : EntryRow → Lists → Lists
put_entry x lists = record lists { entries = put_item by_entry x lists.entries }

-- the lists with this row of receipts in its place
abbrev pub put_receipt : ReceiptRow → Lists → Lists
put_receipt x lists = record lists { receipts = put_item by_receipt x lists.receipts }

-- the lists with this row of instalments in its place
abbrev pub put_instalment : InstalmentRow → Lists → Lists
put_instalment x lists = record lists { instalments = put_item by_instalment x lists.instalments }

-- the lists with this row of shares in its place
abbrev pub put_share : ShareRow → Lists → Lists
put_share x lists = record lists { shares = put_item by_share x lists.shares }

-- the lists less the shares of an entry
abbrev pub drop_shares : EntryKey → Lists → Lists
drop_shares e lists = record lists { shares = filter (λ x. not (is_share_in e.office e.loan e.seq x)) lists.shares }
