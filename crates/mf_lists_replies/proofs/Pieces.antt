-- Texts of JSON that are put together piece by piece.
use Rattle.std.proofs.Common.{ℕ, List, ◌++◌, codes}

-- a client, by how their counts, their account and their name are written
abbrev pub client_by : (active client name overdue waiting : List ℕ) → List ℕ
client_by active client name overdue waiting = codes "{\"active\":"
    ++ (active ++ (codes ",\"client\":" ++ (client ++ (codes ",\"name\":" ++ (name ++ (codes ",\"overdue\":"
    ++ (overdue ++ (codes ",\"waiting\":" ++ (waiting ++ codes "}")))))))))

-- a client's loan from overdue on, by how its numbers are written
abbrev pub client_loan_end_by : (overdue principal product status : List ℕ) → List ℕ
client_loan_end_by overdue principal product status = codes ",\"overdue\":"
    ++ (overdue ++ (codes ",\"principal\":" ++ (principal ++ (codes ",\"product\":"
    ++ (product ++ (codes ",\"status\":" ++ (status ++ codes "}")))))))

-- the whole of it, by how its days, what is left and its account are written, and by the rest
abbrev pub client_loan_by : (approved disbursed left loan end : List ℕ) → List ℕ
client_loan_by approved disbursed left loan end = codes "{\"approved\":"
    ++ (approved ++ (codes ",\"disbursed\":" ++ (disbursed ++ (codes ",\"left\":" ++ (left ++ (codes ",\"loan\":"
    ++ (loan ++ end)))))))

-- a member of staff, by how their name, their role and their number are written
abbrev pub staff_by : (name role staff : List ℕ) → List ℕ
staff_by name role staff = codes "{\"name\":"
    ++ (name ++ (codes ",\"role\":" ++ (role ++ (codes ",\"staff\":" ++ (staff ++ codes "}")))))

-- an entry, by how its day and its number are written
abbrev pub last_by : (day entry : List ℕ) → List ℕ
last_by day entry = codes "{\"day\":" ++ (day ++ (codes ",\"entry\":" ++ (entry ++ codes "}")))

-- a loan of which something is due from left on, by how its members are written
abbrev pub due_end_by : (left loan name oldest : List ℕ) → List ℕ
due_end_by left loan name oldest = codes ",\"left\":"
    ++ (left ++ (codes ",\"loan\":" ++ (loan ++ (codes ",\"name\":" ++ (name ++ (codes ",\"oldest\":"
    ++ (oldest ++ codes "}")))))))

-- the whole of it, by how its client, what is due and its last entry are written, and by the rest
abbrev pub due_by : (client due last end : List ℕ) → List ℕ
due_by client due last end = codes "{\"client\":"
    ++ (client ++ (codes ",\"due\":" ++ (due ++ (codes ",\"last\":" ++ (last ++ end)))))

-- a loan of a status from name on, by how its members are written
abbrev pub stage_end_by : (name principal product : List ℕ) → List ℕ
stage_end_by name principal product = codes ",\"name\":"
    ++ (name ++ (codes ",\"principal\":" ++ (principal ++ (codes ",\"product\":" ++ (product ++ codes "}")))))

-- the whole of it, by how its client, its day and its account are written, and by the rest
abbrev pub stage_by : (client day loan end : List ℕ) → List ℕ
stage_by client day loan end = codes "{\"client\":"
    ++ (client ++ (codes ",\"day\":" ++ (day ++ (codes ",\"loan\":" ++ (loan ++ end)))))

-- a change from number on, by how its members are written
abbrev pub change_end_by : (number path staff told : List ℕ) → List ℕ
change_end_by number path staff told = codes ",\"number\":"
    ++ (number ++ (codes ",\"path\":" ++ (path ++ (codes ",\"staff\":" ++ (staff ++ (codes ",\"told\":"
    ++ (told ++ codes "}")))))))

-- the whole of it, by how its body, its day, its loan and its method are written, and by the rest
abbrev pub change_by : (body day loan method end : List ℕ) → List ℕ
change_by body day loan method end = codes "{\"body\":"
    ++ (body ++ (codes ",\"day\":" ++ (day ++ (codes ",\"loan\":" ++ (loan ++ (codes ",\"method\":"
    ++ (method ++ end)))))))

-- movements, by how their number and their sum are written
abbrev pub counted_by : (count sum : List ℕ) → List ℕ
counted_by count sum = codes "{\"count\":" ++ (count ++ (codes ",\"sum\":" ++ (sum ++ codes "}")))

-- takings from paid_in on, by how their members are written
abbrev pub taking_end_by : (paid_in paid_out staff : List ℕ) → List ℕ
taking_end_by paid_in paid_out staff = codes ",\"paid_in\":"
    ++ (paid_in ++ (codes ",\"paid_out\":" ++ (paid_out ++ (codes ",\"staff\":" ++ (staff ++ codes "}")))))

-- the whole of them, by how what was reversed is written, and by the rest
abbrev pub taking_by : (in_reversed out_reversed end : List ℕ) → List ℕ
taking_by in_reversed out_reversed end = codes "{\"in_reversed\":"
    ++ (in_reversed ++ (codes ",\"out_reversed\":" ++ (out_reversed ++ end)))

-- an instalment, by how its day and its amounts are written
abbrev pub instalment_by : (due fees interest principal : List ℕ) → List ℕ
instalment_by due fees interest principal = codes "{\"due\":"
    ++ (due ++ (codes ",\"fees\":" ++ (fees ++ (codes ",\"interest\":" ++ (interest ++ (codes ",\"principal\":"
    ++ (principal ++ codes "}")))))))

-- a preview, by how its members are written
abbrev pub preview_by : (handed_over instalments kept owed rate : List ℕ) → List ℕ
preview_by handed_over instalments kept owed rate = codes "{\"handed_over\":"
    ++ (handed_over ++ (codes ",\"instalments\":" ++ (instalments ++ (codes ",\"kept\":" ++ (kept
    ++ (codes ",\"owed\":" ++ (owed ++ (codes ",\"rate\":" ++ (rate ++ codes "}")))))))))
