-- The worked transactions as each program reads them, worked out by hand. bench/hledger asks the programs.
use Rattle.std.specs.Prelude.{ℕ, List, [], ◌∷◌, ◌++◌, codes}
use Rattle.std.specs.List.{flat_map}
use Rattle.mf_ledger.specs.declared.names.GivenName.{GivenName}
use Rattle.mf_ledger.specs.Names.{names_in}

-- lines of a journal, each ended by a line feed
abbrev pub journal_of : List (List ℕ) → List ℕ
journal_of lines = flat_map (λ line. line ++ codes "\n") lines

-- lines of a sheet, each ended by a carriage return and a line feed
abbrev pub sheet_of : List (List ℕ) → List ℕ
sheet_of lines = flat_map (λ line. line ++ codes "\r\n") lines

-- a file of names for beancount: the cash of one office has a name of its own, and amounts are in shillings
abbrev pub till_names : List GivenName
till_names =
    names_in (codes "names for beancount\nXXX=KES\nassets:cash=Assets:Bank\nassets:cash:office-0001=Assets:Till-1\n")

-- a file of names for a chart of accounts, where names have commas, quotes and equals signs
abbrev pub chart_names : List GivenName
chart_names = names_in (codes "assets:principal:office-0001:product-001=1200 Loans \"good\"\r\n"
    ++ codes "assets:cash=1010 Cash, Kampala\nassets:cash=1011 Till\nincome:penalties=4020=4030")

-- as hledger's journal
abbrev pub hledger_lines : List (List ℕ)
hledger_lines =
    codes "2024-01-31 (6) loan 0001-000001"
    ∷ codes "    assets:cash:office-0001:product-001                          -980.00"
    ∷ codes "    assets:principal:office-0001:product-001                     1000.00"
    ∷ codes "    income:disbursement-fees:office-0001:product-001              -20.00"
    ∷ codes ""
    ∷ codes "2024-03-31 (9) loan 0001-000001"
    ∷ codes "    assets:cash:office-0001:product-001                           400.00"
    ∷ codes "    assets:principal:office-0001:product-001                     -383.33"
    ∷ codes "    income:interest:office-0001:product-001                       -16.67"
    ∷ codes ""
    ∷ codes "2024-03-31 (10) loan 0001-000001"
    ∷ codes "    assets:cash:office-0001:product-001                          -400.00"
    ∷ codes "    assets:principal:office-0001:product-001                      383.33"
    ∷ codes "    income:interest:office-0001:product-001                        16.67"
    ∷ codes ""
    ∷ codes "2024-03-31 (11) loan 0001-000001"
    ∷ codes "    assets:principal:office-0001:product-001                    -1000.00"
    ∷ codes "    expenses:written-off:office-0001:product-001                 1000.00"
    ∷ codes ""
    ∷ codes "2024-03-31 (12) loan 0001-000001"
    ∷ codes "    assets:principal:office-0001:product-001                     1000.00"
    ∷ codes "    expenses:written-off:office-0001:product-001                -1000.00"
    ∷ codes ""
    ∷ codes "2024-03-31 (13) loan 0001-000001"
    ∷ codes "    assets:cash:office-0001:product-001                          1100.00"
    ∷ codes "    assets:principal:office-0001:product-001                    -1000.00"
    ∷ codes "    income:interest:office-0001:product-001                       -13.33"
    ∷ codes "    liabilities:overpaid:office-0001:product-001                  -86.67"
    ∷ codes ""
    ∷ codes "2024-03-31 (14) loan 0001-000001"
    ∷ codes "    assets:cash:office-0001:product-001                           -86.67"
    ∷ codes "    liabilities:overpaid:office-0001:product-001                   86.67"
    ∷ codes ""
    ∷ []

-- as beancount's, by those names
abbrev pub beancount_lines : List (List ℕ)
beancount_lines =
    codes "plugin \"beancount.plugins.auto_accounts\""
    ∷ codes ""
    ∷ codes "2024-01-31 * \"(6) loan 0001-000001\""
    ∷ codes "    Assets:Till-1                                                -980.00 KES"
    ∷ codes "    Assets:Principal:Office-0001:Product-001                     1000.00 KES"
    ∷ codes "    Income:Disbursement-Fees:Office-0001:Product-001              -20.00 KES"
    ∷ codes ""
    ∷ codes "2024-03-31 * \"(9) loan 0001-000001\""
    ∷ codes "    Assets:Till-1                                                 400.00 KES"
    ∷ codes "    Assets:Principal:Office-0001:Product-001                     -383.33 KES"
    ∷ codes "    Income:Interest:Office-0001:Product-001                       -16.67 KES"
    ∷ codes ""
    ∷ codes "2024-03-31 * \"(10) loan 0001-000001\""
    ∷ codes "    Assets:Till-1                                                -400.00 KES"
    ∷ codes "    Assets:Principal:Office-0001:Product-001                      383.33 KES"
    ∷ codes "    Income:Interest:Office-0001:Product-001                        16.67 KES"
    ∷ codes ""
    ∷ codes "2024-03-31 * \"(11) loan 0001-000001\""
    ∷ codes "    Assets:Principal:Office-0001:Product-001                    -1000.00 KES"
    ∷ codes "    Expenses:Written-Off:Office-0001:Product-001                 1000.00 KES"
    ∷ codes ""
    ∷ codes "2024-03-31 * \"(12) loan 0001-000001\""
    ∷ codes "    Assets:Principal:Office-0001:Product-001                     1000.00 KES"
    ∷ codes "    Expenses:Written-Off:Office-0001:Product-001                -1000.00 KES"
    ∷ codes ""
    ∷ codes "2024-03-31 * \"(13) loan 0001-000001\""
    ∷ codes "    Assets:Till-1                                                1100.00 KES"
    ∷ codes "    Assets:Principal:Office-0001:Product-001                    -1000.00 KES"
    ∷ codes "    Income:Interest:Office-0001:Product-001                       -13.33 KES"
    ∷ codes "    Liabilities:Overpaid:Office-0001:Product-001                  -86.67 KES"
    ∷ codes ""
    ∷ codes "2024-03-31 * \"(14) loan 0001-000001\""
    ∷ codes "    Assets:Till-1                                                 -86.67 KES"
    ∷ codes "    Liabilities:Overpaid:Office-0001:Product-001                   86.67 KES"
    ∷ codes ""
    ∷ []

-- as a sheet, by the names of the chart
abbrev pub csv_lines : List (List ℕ)
csv_lines =
    codes "date,number,loan,account,debit,credit"
    ∷ codes "2024-01-31,6,0001-000001,\"1010 Cash, Kampala\",,980.00"
    ∷ codes "2024-01-31,6,0001-000001,\"1200 Loans \"\"good\"\"\",1000.00,"
    ∷ codes "2024-01-31,6,0001-000001,income:disbursement-fees:office-0001:product-001,,20.00"
    ∷ codes "2024-03-31,9,0001-000001,\"1010 Cash, Kampala\",400.00,"
    ∷ codes "2024-03-31,9,0001-000001,\"1200 Loans \"\"good\"\"\",,383.33"
    ∷ codes "2024-03-31,9,0001-000001,income:interest:office-0001:product-001,,16.67"
    ∷ codes "2024-03-31,10,0001-000001,\"1010 Cash, Kampala\",,400.00"
    ∷ codes "2024-03-31,10,0001-000001,\"1200 Loans \"\"good\"\"\",383.33,"
    ∷ codes "2024-03-31,10,0001-000001,income:interest:office-0001:product-001,16.67,"
    ∷ codes "2024-03-31,11,0001-000001,\"1200 Loans \"\"good\"\"\",,1000.00"
    ∷ codes "2024-03-31,11,0001-000001,expenses:written-off:office-0001:product-001,1000.00,"
    ∷ codes "2024-03-31,12,0001-000001,\"1200 Loans \"\"good\"\"\",1000.00,"
    ∷ codes "2024-03-31,12,0001-000001,expenses:written-off:office-0001:product-001,,1000.00"
    ∷ codes "2024-03-31,13,0001-000001,\"1010 Cash, Kampala\",1100.00,"
    ∷ codes "2024-03-31,13,0001-000001,\"1200 Loans \"\"good\"\"\",,1000.00"
    ∷ codes "2024-03-31,13,0001-000001,income:interest:office-0001:product-001,,13.33"
    ∷ codes "2024-03-31,13,0001-000001,liabilities:overpaid:office-0001:product-001,,86.67"
    ∷ codes "2024-03-31,14,0001-000001,\"1010 Cash, Kampala\",,86.67"
    ∷ codes "2024-03-31,14,0001-000001,liabilities:overpaid:office-0001:product-001,86.67,"
    ∷ []

-- the opening of books that begin after them, as hledger's journal
abbrev pub opening_lines : List (List ℕ)
opening_lines =
    codes "2024-03-31 (0) opening balances"
    ∷ codes "    assets:cash:office-0001:product-001                            33.33"
    ∷ codes "    income:interest:office-0001:product-001                       -13.33"
    ∷ codes "    income:disbursement-fees:office-0001:product-001              -20.00"
    ∷ codes ""
    ∷ []
