-- What answers are shown as, worked out by hand: lists of the small institution of the lists, and a preview.
use Rattle.std.specs.Prelude.{ℕ, codes, List, ◌++◌}

-- Amina and Binta, clients of office 2
abbrev pub clients_shown : List ℕ
clients_shown =
    codes "{\"clients\":[{\"active\":1,\"client\":\"0002-000001\",\"name\":\"Amina\",\"overdue\":1,\"waiting\":1},"
    ++ codes "{\"active\":1,\"client\":\"0002-000002\",\"name\":\"Binta\",\"overdue\":0,\"waiting\":0}]}"

-- Amina's loans: one waits, one is overdue
abbrev pub loans_shown : List ℕ
loans_shown =
    codes "{\"loans\":[{\"approved\":null,\"disbursed\":null,\"left\":0,\"loan\":\"0002-000001\",\"overdue\":0,"
    ++ (codes "\"principal\":100000,\"product\":1,\"status\":100},"
    ++ (codes "{\"approved\":\"2024-01-30\",\"disbursed\":\"2024-01-31\",\"left\":102510,\"loan\":\"0002-000002\","
    ++ codes "\"overdue\":15,\"principal\":100000,\"product\":1,\"status\":300}]}"))

-- what is due of a loan of hers, of which no entry counts, and of one of Binta's, whose last entry is a repayment
abbrev pub due_shown : List ℕ
due_shown =
    codes "{\"due\":[{\"client\":\"0002-000001\",\"due\":{\"fees\":172,\"interest\":1000,\"penalties\":0,"
    ++ (codes "\"principal\":33333},\"last\":null,\"left\":102510,\"loan\":\"0002-000002\",\"name\":\"Amina\","
    ++ (codes "\"oldest\":\"2024-02-29\"},{\"client\":\"0002-000002\",\"due\":{\"fees\":170,\"interest\":667,"
    ++ (codes "\"penalties\":0,\"principal\":33333},\"last\":{\"day\":\"2024-02-29\",\"entry\":1},\"left\":68005,"
    ++ codes "\"loan\":\"0002-000003\",\"name\":\"Binta\",\"oldest\":\"2024-03-31\"}]}")))

-- a loan that waits for its approval, and one that is approved
abbrev pub stages_shown : List ℕ
stages_shown =
    codes "{\"loans\":[{\"client\":\"0002-000001\",\"day\":null,\"loan\":\"0002-000001\",\"name\":\"Amina\","
    ++ (codes "\"principal\":100000,\"product\":1},{\"client\":\"0002-000003\",\"day\":\"2024-03-15\","
    ++ codes "\"loan\":\"0002-000005\",\"name\":\"Chidi\",\"principal\":100000,\"product\":1}]}")

-- the staff of office 2
abbrev pub staff_shown : List ℕ
staff_shown =
    codes "{\"staff\":[{\"name\":\"Zola\",\"role\":\"manager\",\"staff\":\"2/1\"},"
    ++ codes "{\"name\":\"Yemi\",\"role\":\"teller\",\"staff\":\"2/2\"}]}"

-- what the teller of office 2 took on a day: two repayments
abbrev pub takings_shown : List ℕ
takings_shown =
    codes "{\"takings\":[{\"in_reversed\":{\"count\":0,\"sum\":0},\"out_reversed\":{\"count\":0,\"sum\":0},"
    ++ codes "\"paid_in\":{\"count\":2,\"sum\":44505},\"paid_out\":{\"count\":0,\"sum\":0},\"staff\":\"2/2\"}]}"

-- a loan of 1,000.00 over three months, up to its rate
abbrev pub preview_up_to_rate : List ℕ
preview_up_to_rate =
    codes "{\"handed_over\":98500,\"instalments\":["
    ++ (codes "{\"due\":\"2024-02-29\",\"fees\":172,\"interest\":1000,\"principal\":33333},"
    ++ (codes "{\"due\":\"2024-03-31\",\"fees\":170,\"interest\":667,\"principal\":33333},"
    ++ (codes "{\"due\":\"2024-04-30\",\"fees\":168,\"interest\":333,\"principal\":33334}],"
    ++ codes "\"kept\":1500,\"owed\":102510,\"rate\":")))
