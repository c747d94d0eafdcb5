-- The SQL texts of a table, made of its columns.
use Rattle.std.specs.Prelude.{ℕ, zero, suc, cond, nat_lt, ◌+◌, ◌/◌, ◌%◌, List, [], ◌∷◌, ◌++◌, map, take, drop, length}
use Rattle.std.specs.Prelude.{codes}
use Rattle.mf_store_sql.specs.Columns.{Field, Number, Amount, Text, Bytes, MaybeNumber, MaybeText, Named, Columns}
use Rattle.mf_store_sql.specs.Columns.{upwards}

-- the texts with another between each two
abbrev pub joined : List ℕ → List (List ℕ) → List ℕ
joined between [] = []
joined between (t ∷ []) = t
joined between (t ∷ u ∷ us) = t ++ between ++ joined between (u ∷ us)

-- with a comma
abbrev pub listed : List (List ℕ) → List ℕ
listed = joined (codes ", ")

-- the parameter of a number below 100
abbrev pub parameter : ℕ → List ℕ
parameter n = 63 ∷ cond (nat_lt n 10) ((48 + n) ∷ []) ((48 + n / 10) ∷ (48 + n % 10) ∷ [])

-- the names of all columns
abbrev pub names_of : Columns → List (List ℕ)
names_of t = map (λ (c : Named). c.name) t.columns

-- and those of the key
abbrev pub key_names : Columns → List (List ℕ)
key_names t = take t.key (names_of t)

-- a key of one column is INT, so that it is no alias of the rowid
abbrev pub number_type : ℕ → List ℕ
number_type (suc zero) = codes " INT NOT NULL"
number_type _ = codes " INTEGER NOT NULL"

-- the type of a column, the first of which may be the whole key
abbrev pub type_text : ℕ → Field → List ℕ
type_text key Number = number_type key
type_text key Amount = codes " INTEGER NOT NULL"
type_text key Text = codes " TEXT NOT NULL"
type_text key Bytes = codes " BLOB NOT NULL"
type_text key MaybeNumber = codes " INTEGER"
type_text key MaybeText = codes " TEXT"

-- the definitions of columns
abbrev pub definitions : ℕ → List Named → List (List ℕ)
definitions key [] = []
definitions key (c ∷ cs) = (c.name ++ type_text key c.field ++ cond c.unique (codes " UNIQUE") []) ∷ definitions 0 cs

-- makes the table
abbrev pub create_text : Columns → List ℕ
create_text t = codes "CREATE TABLE " ++ t.name
    ++ codes " (" ++ listed (definitions t.key t.columns) ++ codes ", PRIMARY KEY ("
    ++ listed (key_names t) ++ codes ")) STRICT"

-- puts a new row
abbrev pub insert_text : Columns → List ℕ
insert_text t = codes "INSERT INTO " ++ t.name
    ++ codes " VALUES (" ++ listed (map parameter (upwards 1 (length t.columns)))
    ++ codes ")"

-- what an update sets of a column
abbrev pub setting : List ℕ → List ℕ
setting name = name ++ codes " = excluded." ++ name

-- puts a row, in place of the one with its key if there is one
abbrev pub upsert_text : Columns → List ℕ
upsert_text t = insert_text t ++ codes " ON CONFLICT (" ++ listed (key_names t) ++ codes ") DO UPDATE SET "
    ++ listed (map setting (drop t.key (names_of t)))

-- what a query asks of columns, the first with the parameter of this number
abbrev pub asked : ℕ → List (List ℕ) → List (List ℕ)
asked n [] = []
asked n (c ∷ cs) = (c ++ codes " = " ++ parameter n) ∷ asked (suc n) cs

-- the condition that so many first columns have these values; none asks for all rows
abbrev pub where_text : List (List ℕ) → List ℕ
where_text [] = []
where_text (c ∷ cs) = codes " WHERE " ++ joined (codes " AND ") (c ∷ cs)

-- shows the rows whose first columns, so many, have given values, in the order of the key
abbrev pub select_text : Columns → ℕ → List ℕ
select_text t n = codes "SELECT " ++ listed (names_of t) ++ codes " FROM " ++ t.name ++ where_text
    (asked 1 (take n (names_of t))) ++ codes " ORDER BY " ++ listed (key_names t)
