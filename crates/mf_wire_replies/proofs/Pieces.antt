-- Texts of JSON that are put together piece by piece.
use Rattle.std.proofs.Common.{ℕ, List, ◌++◌, codes}

-- sums by portion, by how these are written
abbrev pub sums_by : (fees interest penalties principal : List ℕ) → List ℕ
sums_by fees interest penalties principal = codes "{\"fees\":" ++ (fees ++ (codes ",\"interest\":"
    ++ (interest ++ (codes ",\"penalties\":" ++ (penalties ++ (codes ",\"principal\":" ++ (principal ++ codes "}")))))))

-- a loan's members from product on, by how these are written
abbrev pub end_of : (product refunded status waived written_off : List ℕ) → List ℕ
end_of product refunded status waived written_off = codes ",\"product\":"
    ++ (product ++ (codes ",\"refunded\":"
    ++ (refunded ++ (codes ",\"status\":" ++ (status
    ++ (codes ",\"waived\":" ++ (waived ++ (codes ",\"written_off\":" ++ (written_off ++ codes "}")))))))))

-- its members from outstanding on, by how these are written, and by the rest
abbrev pub rest_of : (outstanding overpaid paid periods principal end : List ℕ) → List ℕ
rest_of outstanding overpaid paid periods principal end = codes ",\"outstanding\":"
    ++ (outstanding ++ (codes ",\"overpaid\":" ++ (overpaid ++ (codes ",\"paid\":"
    ++ (paid ++ (codes ",\"periods\":" ++ (periods ++ (codes ",\"principal\":" ++ (principal ++ end)))))))))

-- the whole of it, by how the two accounts, the day and the fee are written, and by the rest
abbrev pub body_of : (client day fee account rest : List ℕ) → List ℕ
body_of client day fee account rest = codes "{\"client\":"
    ++ (client ++ (codes ",\"day\":"
    ++ (day ++ (codes ",\"disbursement_fee\":" ++ (fee ++ (codes ",\"loan\":" ++ (account ++ rest)))))))

-- an instalment's members from outstanding on, by how these are written
abbrev pub instalment_rest_by : (outstanding penalties principal : List ℕ) → List ℕ
instalment_rest_by outstanding penalties principal = codes ",\"outstanding\":"
    ++ (outstanding ++ (codes ",\"penalties\":" ++ (penalties ++ (codes ",\"principal\":" ++ (principal
    ++ codes "}")))))

-- the whole of it, by how its day and its numbers are written, and by the rest
abbrev pub instalment_by : (due fees interest number rest : List ℕ) → List ℕ
instalment_by due fees interest number rest = codes "{\"due\":"
    ++ (due ++ (codes ",\"fees\":" ++ (fees ++ (codes ",\"interest\":" ++ (interest ++ (codes ",\"number\":"
    ++ (number ++ rest)))))))

-- a line of a list of loans, by how its account and its status are written
abbrev pub loan_line_by : (loan status : List ℕ) → List ℕ
loan_line_by loan status = codes "{\"loan\":" ++ (loan ++ (codes ",\"status\":" ++ (status ++ codes "}")))

-- what an entry settles in a cell, by how its numbers and its portion are written
abbrev pub share_by : (amount instalment portion : List ℕ) → List ℕ
share_by amount instalment portion = codes "{\"amount\":"
    ++ (amount ++ (codes ",\"instalment\":" ++ (instalment ++ (codes ",\"portion\":" ++ (portion ++ codes "}")))))

-- an entry's members from portion on, by how these are written
abbrev pub entry_rest_by : (portion receipt reversed shares staff : List ℕ) → List ℕ
entry_rest_by portion receipt reversed shares staff = codes ",\"portion\":"
    ++ (portion ++ (codes ",\"receipt\":" ++ (receipt ++ (codes ",\"reversed\":"
    ++ (reversed ++ (codes ",\"shares\":" ++ (shares ++ (codes ",\"staff\":" ++ (staff ++ codes "}")))))))))

-- the whole of it, by how its other members are written, and by the rest
abbrev pub entry_by : (amount day entry instalment kind rest : List ℕ) → List ℕ
entry_by amount day entry instalment kind rest = codes "{\"amount\":"
    ++ (amount ++ (codes ",\"day\":" ++ (day ++ (codes ",\"entry\":" ++ (entry ++ (codes ",\"instalment\":"
    ++ (instalment ++ (codes ",\"kind\":" ++ (kind ++ rest)))))))))

-- a client, by how its account and its name are written
abbrev pub client_by : (client name : List ℕ) → List ℕ
client_by client name = codes "{\"client\":" ++ (client ++ (codes ",\"name\":" ++ (name ++ codes "}")))
