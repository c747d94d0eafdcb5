-- The limits of rows, numbers and texts, each once as a number. Those of a product and of money are in `mf_catalog`.
use Rattle.std.specs.Prelude.{ℕ}

-- the number of an office
abbrev pub greatest_office : ℕ
greatest_office = 9999

-- the staff of an office
abbrev pub most_staff : ℕ
most_staff = 9999

-- the clients of an office, and its loans
abbrev pub most_accounts : ℕ
most_accounts = 999999

-- the charges of the catalogue, and its products
abbrev pub most_in_catalogue : ℕ
most_in_catalogue = 999

-- the entries of a loan
abbrev pub most_entries : ℕ
most_entries = 9999

-- the loans of an office that one reply lists
abbrev pub most_listed : ℕ
most_listed = 100

-- a receipt, in bytes
abbrev pub longest_receipt : ℕ
longest_receipt = 40

-- a name, in characters
abbrev pub longest_name : ℕ
longest_name = 100

-- a request line, in bytes: 2^16
abbrev pub longest_line : ℕ
longest_line = 65536

-- what is told of a request, in bytes
abbrev pub longest_told : ℕ
longest_told = 100

-- a collection sheet, in bytes: 2^20
abbrev pub longest_sheet : ℕ
longest_sheet = 1048576
